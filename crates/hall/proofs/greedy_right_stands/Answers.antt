-- The proof that `greedy_right_stands` carries.
use Rattle.hall.proofs.Right.{greedy_right}
use Rattle.hall.proofs.greedy_right_stands.Goals as goal

pub returns : goal.returns
returns c = greedy_right
