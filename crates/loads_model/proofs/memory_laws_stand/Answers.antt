-- What holds for any memory: the proofs of these laws.
use Rattle.loads_model.proofs.Laws.{kept_law, small_law}
use Rattle.loads_model.proofs.memory_laws_stand.Goals as goal

pub returns : goal.returns
returns c = record { kept = kept_law; small = small_law }
