-- The shelf is put at a place of the list.
use Rattle.std.proofs.lemmas.List.Sorted.{IsPermutation-insert}
use Rattle.rules.proofs.rule.insert.Goals as goal

pub returns : goal.returns
returns c = rw c.in_ok-insert.ensures.items (IsPermutation-insert _ _ _)
