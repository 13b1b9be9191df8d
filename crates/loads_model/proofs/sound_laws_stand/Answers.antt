-- What is sound: the proofs of these laws.
use Rattle.loads_model.proofs.Laws.{zeros_law, empty_law, sound_law, elsewhere_law}
use Rattle.loads_model.proofs.sound_laws_stand.Goals as goal

pub returns : goal.returns
returns c = record { zeros = zeros_law; empty = empty_law; sound = sound_law; elsewhere = elsewhere_law }
