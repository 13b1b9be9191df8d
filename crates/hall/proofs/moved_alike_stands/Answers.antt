-- The proof that `moved_alike_stands` carries.
use Rattle.hall.proofs.Through.{moved_alike}
use Rattle.hall.proofs.moved_alike_stands.Goals as goal

pub returns : goal.returns
returns c = moved_alike
