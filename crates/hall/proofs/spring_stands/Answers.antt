-- The proof that `spring_stands` carries.
use Rattle.hall.proofs.Spring.{spring}
use Rattle.hall.proofs.spring_stands.Goals as goal

pub returns : goal.returns
returns c = spring
