-- The theorem of this function.
use Rattle.index_model.proofs.Finds.{count_law}
use Rattle.index_model.proofs.count_law_stands.Goals as goal

pub returns : goal.returns
returns c = count_law
