-- The proof that `fewest_lower_stands` carries.
use Rattle.hall.proofs.Lower.{fewest_lower}
use Rattle.hall.proofs.fewest_lower_stands.Goals as goal

pub returns : goal.returns
returns c = fewest_lower
