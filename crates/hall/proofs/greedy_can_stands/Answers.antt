-- The proof that `greedy_can_stands` carries.
use Rattle.hall.proofs.Can.{greedy_can}
use Rattle.hall.proofs.greedy_can_stands.Goals as goal

pub returns : goal.returns
returns c = greedy_can
