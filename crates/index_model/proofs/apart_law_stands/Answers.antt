-- The theorem of this function.
use Rattle.index_model.proofs.Finds.{apart_law}
use Rattle.index_model.proofs.apart_law_stands.Goals as goal

pub returns : goal.returns
returns c = apart_law
