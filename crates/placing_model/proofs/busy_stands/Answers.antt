-- The theorem, as proved.
use Rattle.placing_model.proofs.Own.{own_busy}
use Rattle.placing_model.proofs.busy_stands.Goals as goal

pub returns : goal.returns
returns c = own_busy
