-- The theorem, as proved.
use Rattle.placing_model.proofs.Own.{own_whole}
use Rattle.placing_model.proofs.whole_stands.Goals as goal

pub returns : goal.returns
returns c = own_whole
