-- One command more of a list is told.
use Rattle.owner.proofs.Telling.{goes_on}
use Rattle.owner.proofs.halls.telling.tell_next.Goals as goal

pub returns : goal.returns
returns c = λ ok. goes_on _ _ _ _ _ c.tell.result _ c.tell.ensures.right c.in_ok-outcome.ensures c.in_ok-push.ensures.items
