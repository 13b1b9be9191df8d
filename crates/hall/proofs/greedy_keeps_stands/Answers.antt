-- The proof that `greedy_keeps_stands` carries.
use Rattle.hall.proofs.Keeps.{greedy_keeps}
use Rattle.hall.proofs.greedy_keeps_stands.Goals as goal

pub returns : goal.returns
returns c = greedy_keeps
