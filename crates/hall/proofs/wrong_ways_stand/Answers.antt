-- The proof that `wrong_ways_stand` carries.
use Rattle.hall.proofs.Wrong.{wrong}
use Rattle.hall.proofs.wrong_ways_stand.Goals as goal

pub returns : goal.returns
returns c = wrong
