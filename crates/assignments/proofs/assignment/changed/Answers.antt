-- Each turn counts what the walk's laws say.
use Rattle.std.proofs.Common.{arith}
use Rattle.std.proofs.lemmas.Bool.Decides.{nat_tests}
use Rattle.assignments.proofs.Walk.{rest_ascends, turn_left, turn_right, turn_both, ended_left, ended_right}
use Rattle.assignments.proofs.assignment.changed.Goals as goal

pub loop-first-preserved-then-first-second : goal.loop-first-preserved-then-first-second
loop-first-preserved-then-first-second c =
    let kept = c.loop-first.invariant in
    let left = c.in-Some-Some.ensures.cases in
    let right = c.in-Some-Some.ensures'.cases in
    let turn = turn_left _ _ _ _ _ _ left.0 right.0 kept.before_ascends kept.after_ascends (omega arith) in
    record {
      counted = omega (arith, kept.counted, turn);
      fits = omega arith;
      before_ascends = rest_ascends _ _ _ left.0 kept.before_ascends;
      after_ascends = kept.after_ascends;
    }

pub loop-first-preserved-then-second-first : goal.loop-first-preserved-then-second-first
loop-first-preserved-then-second-first c =
    let kept = c.loop-first.invariant in
    let left = c.in-Some-Some.ensures.cases in
    let right = c.in-Some-Some.ensures'.cases in
    let turn = turn_right _ _ _ _ _ _ left.0 right.0 kept.before_ascends (omega arith) in
    record {
      counted = omega (arith, kept.counted, turn);
      fits = kept.fits;
      before_ascends = kept.before_ascends;
      after_ascends = rest_ascends _ _ _ right.0 kept.after_ascends;
    }

pub loop-first-preserved-then-first-second-2 : goal.loop-first-preserved-then-first-second-2
loop-first-preserved-then-first-second-2 c =
    let kept = c.loop-first.invariant in
    let left = c.in-Some-Some.ensures.cases in
    let right = c.in-Some-Some.ensures'.cases in
    let turn = turn_both _ _ _ _ _ _ left.0 right.0 kept.before_ascends (omega arith) in
    record {
      counted = grind (arith, nat_tests, kept.counted, turn);
      fits = omega arith;
      before_ascends = rest_ascends _ _ _ left.0 kept.before_ascends;
      after_ascends = rest_ascends _ _ _ right.0 kept.after_ascends;
    }

pub loop-first-preserved : goal.loop-first-preserved
loop-first-preserved c =
    let kept = c.loop-first.invariant in
    let left = c.in-Some-Some.ensures.cases in
    let right = c.in-Some-Some.ensures'.cases in
    let turn = turn_both _ _ _ _ _ _ left.0 right.0 kept.before_ascends (omega arith) in
    record {
      counted = grind (arith, nat_tests, kept.counted, turn);
      fits = omega arith;
      before_ascends = rest_ascends _ _ _ left.0 kept.before_ascends;
      after_ascends = rest_ascends _ _ _ right.0 kept.after_ascends;
    }

-- at the end of one of the lists nothing is left to count
pub returns-in_default : goal.returns-in_default
returns-in_default c ks ls = omega (arith, c.loop-first.invariant.counted, ended_right c.loop-first.before.now c.loop-first.after.now c.in_default.ensures'.cases)

pub returns-in_default-2 : goal.returns-in_default-2
returns-in_default-2 c ks ls = omega (arith, c.loop-first.invariant.counted, ended_left c.loop-first.before.now c.loop-first.after.now c.in_default.ensures.cases)
