-- The proof that `fewest_right_stands` carries.
use Rattle.hall.proofs.Whole.{fewest_right}
use Rattle.hall.proofs.fewest_right_stands.Goals as goal

pub returns : goal.returns
returns c = fewest_right
