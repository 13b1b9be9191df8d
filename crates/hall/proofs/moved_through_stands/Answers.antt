-- The proof that `moved_through_stands` carries.
use Rattle.hall.proofs.Through.{moved_through}
use Rattle.hall.proofs.moved_through_stands.Goals as goal

pub returns : goal.returns
returns c = moved_through
