-- What is counted and what is left to count give the whole count.
use Rattle.std.proofs.Common.{◌≡◌, ◌+◌, ◌≤◌, true, length}
use Rattle.assignments.specs.Spots.{ascends}
use Rattle.assignments.proofs.Walk.{crossed}
use Rattle.assignments.proofs.assignment.changed.Given as goal

abbrev pub invariant-loop-first : goal.invariant-loop-first
invariant-loop-first l = record {
  counted : l.count + crossed l.before l.after ≡ crossed l.fn.before l.fn.after;
  fits : l.count + length l.before ≤ length l.fn.before;
  before_ascends : ascends l.before ≡ true;
  after_ascends : ascends l.after ≡ true;
}

abbrev pub decreases-loop-first : goal.decreases-loop-first
decreases-loop-first l = length l.before + length l.after
