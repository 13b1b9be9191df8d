-- The trees over any order: the proofs of these laws.
use Rattle.loads_model.proofs.Tournament.{root_law}
use Rattle.loads_model.proofs.Climb.{replay_law}
use Rattle.loads_model.proofs.Laws.{order_law}
use Rattle.loads_model.proofs.tree_laws_stand.Goals as goal

pub returns : goal.returns
returns c = record { order = order_law; root = root_law; replay = replay_law }
