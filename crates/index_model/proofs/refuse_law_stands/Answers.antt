-- The theorem of this function.
use Rattle.index_model.proofs.Finds.{refuse_law}
use Rattle.index_model.proofs.refuse_law_stands.Goals as goal

pub returns : goal.returns
returns c = refuse_law
