-- The proof that `moved_triangle_stands` carries.
use Rattle.hall.proofs.Through.{moved_triangle}
use Rattle.hall.proofs.moved_triangle_stands.Goals as goal

pub returns : goal.returns
returns c = moved_triangle
