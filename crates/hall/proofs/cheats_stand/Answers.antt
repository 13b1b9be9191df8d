-- The proof that `cheats_stand` carries.
use Rattle.hall.proofs.Cheats.{cheats}
use Rattle.hall.proofs.cheats_stand.Goals as goal

pub returns : goal.returns
returns c = cheats
