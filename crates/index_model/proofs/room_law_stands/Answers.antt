-- The theorem of this function.
use Rattle.index_model.proofs.Bounds.{room_law}
use Rattle.index_model.proofs.room_law_stands.Goals as goal

pub returns : goal.returns
returns c = room_law
