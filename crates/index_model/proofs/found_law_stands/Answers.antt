-- The theorem of this function.
use Rattle.index_model.proofs.Finds.{found_law}
use Rattle.index_model.proofs.found_law_stands.Goals as goal

pub returns : goal.returns
returns c = found_law
