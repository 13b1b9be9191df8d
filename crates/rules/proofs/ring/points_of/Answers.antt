-- The points of a shelf are its own, and a sort only moves them.
use Rattle.std.proofs.Common.{arith}
use Rattle.std.proofs.lemmas.List.{get_or_default}
use Rattle.rules.proofs.Lists.{has_item}
use Rattle.rules.proofs.ring.points_of.Goals as goal

pub loop-turn-init : goal.loop-turn-init
loop-turn-init c =
    (omega arith, c.loop-shelf.invariant.1, has_item c.args.shelves.now c.loop-shelf.shelf-index _ c.loop-shelf-test.true (get_or_default _ _ _ _ c.loop-shelf-test.true))
