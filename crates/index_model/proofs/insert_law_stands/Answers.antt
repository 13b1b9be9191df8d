-- The theorem of this function.
use Rattle.index_model.proofs.Inserts.{insert_law}
use Rattle.index_model.proofs.insert_law_stands.Goals as goal

pub returns : goal.returns
returns c = insert_law
