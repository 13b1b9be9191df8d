-- The closure tests for a smaller good, and the goods ascend.
use Rattle.std.proofs.Common.{rules, arith}
use Rattle.std.proofs.lemmas.Bool.Decides.{nat_tests}
use Rattle.assignments.proofs.Places.{placed_by, here_at, gap_at, gap_past}
use Rattle.assignments.proofs.assignment.Assignment.find.Goals as goal

pub returns-in-Some : goal.returns-in-Some
returns-in-Some c =
    let place = placed_by _ _ c.deref.ensures.value c.self.invariant c.args.good _ c.partition_point-place.ensures.bound c.partition_point-place.ensures.partitioned (λ a r f' called. search rules) in
    rw (← c.self.view_is) (here_at _ _ _ c.in-Some.spot.now place (grind (arith, nat_tests, rw c.deref-2.ensures.value at c.in-Some.ensures.lookup.0)) (rw c.deref-2.ensures.value at c.in-Some.ensures.lookup.1) c.if-spot-good.true)

pub returns-in_default : goal.returns-in_default
returns-in_default c =
    let place = placed_by _ _ c.deref.ensures.value c.self.invariant c.args.good _ c.partition_point-place.ensures.bound c.partition_point-place.ensures.partitioned (λ a r f' called. search rules) in
    rw (← c.self.view_is) (gap_at _ _ _ c.in-Some.spot.now place (rw c.deref-2.ensures.value at c.in-Some.ensures.lookup.1) c.if-spot-good.false)

pub returns-in_default-2 : goal.returns-in_default-2
returns-in_default-2 c =
    let place = placed_by _ _ c.deref.ensures.value c.self.invariant c.args.good _ c.partition_point-place.ensures.bound c.partition_point-place.ensures.partitioned (λ a r f' called. search rules) in
    rw (← c.self.view_is) (gap_past _ _ _ place (grind (arith, nat_tests, rw c.deref-2.ensures.value at (rw c.in_default.is at c.get.ensures.lookup.0))))
