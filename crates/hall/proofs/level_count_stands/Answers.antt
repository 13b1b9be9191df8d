-- The proof that `level_count_stands` carries.
use Rattle.hall.proofs.Loads.{level_count}
use Rattle.hall.proofs.level_count_stands.Goals as goal

pub returns : goal.returns
returns c = level_count
