-- The theorem of this function.
use Rattle.index_model.proofs.Bounds.{bound_law}
use Rattle.index_model.proofs.bound_law_stands.Goals as goal

pub returns : goal.returns
returns c = bound_law
