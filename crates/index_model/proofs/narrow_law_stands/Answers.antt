-- The theorem of this function.
use Rattle.index_model.proofs.Bounds.{narrow_law}
use Rattle.index_model.proofs.narrow_law_stands.Goals as goal

pub returns : goal.returns
returns c = narrow_law
