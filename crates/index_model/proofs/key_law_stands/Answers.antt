-- The theorem of this function.
use Rattle.index_model.proofs.Keys.{key_law}
use Rattle.index_model.proofs.key_law_stands.Goals as goal

pub returns : goal.returns
returns c = key_law
