-- What each change does: the proofs of these laws.
use Rattle.loads_model.proofs.Laws.{enter_law, leave_law, add_one_law, take_one_law}
use Rattle.loads_model.proofs.change_laws_stand.Goals as goal

pub returns : goal.returns
returns c = record { enter = enter_law; leave = leave_law; more = add_one_law; less = take_one_law }
