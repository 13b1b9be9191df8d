-- The theorem, as proved.
use Rattle.placing_model.proofs.Own.{own_exactly}
use Rattle.placing_model.proofs.exactly_stands.Goals as goal

pub returns : goal.returns
returns c = own_exactly
