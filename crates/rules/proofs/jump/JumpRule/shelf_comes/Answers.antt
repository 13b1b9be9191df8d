-- The shelf is put behind all others.
use Rattle.std.proofs.lemmas.List.Sorted.{IsPermutation-to_front, IsPermutation-sym}
use Rattle.rules.proofs.jump.JumpRule.shelf_comes.Goals as goal

pub returns : goal.returns
returns c = rw (c.in_ok-push.ensures.items, c.self.view_is) (IsPermutation-sym _ _ (IsPermutation-to_front _ c.args.shelf))
