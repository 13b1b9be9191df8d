-- The proof that `level_loads_stands` carries.
use Rattle.hall.proofs.Loads.{level_loads}
use Rattle.hall.proofs.level_loads_stands.Goals as goal

pub returns : goal.returns
returns c = level_loads
