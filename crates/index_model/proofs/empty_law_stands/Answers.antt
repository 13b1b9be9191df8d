-- The theorem of this function.
use Rattle.index_model.proofs.Finds.{empty_law}
use Rattle.index_model.proofs.empty_law_stands.Goals as goal

pub returns : goal.returns
returns c = empty_law
