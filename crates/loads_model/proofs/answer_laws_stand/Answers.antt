-- What the answers mean: the proofs of these laws.
use Rattle.loads_model.proofs.Laws.{emptiest_law, fullest_law, there_law}
use Rattle.loads_model.proofs.answer_laws_stand.Goals as goal

pub returns : goal.returns
returns c = record { emptiest = emptiest_law; fullest = fullest_law; there = there_law }
