-- The theorem of this function.
use Rattle.index_model.proofs.Removes.{remove_law}
use Rattle.index_model.proofs.remove_law_stands.Goals as goal

pub returns : goal.returns
returns c = remove_law
