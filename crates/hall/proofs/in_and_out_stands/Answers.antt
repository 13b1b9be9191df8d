-- The proof that `in_and_out_stands` carries.
use Rattle.hall.proofs.Whole.{in_and_out}
use Rattle.hall.proofs.in_and_out_stands.Goals as goal

pub returns : goal.returns
returns c = in_and_out
