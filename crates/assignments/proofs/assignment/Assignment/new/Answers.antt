-- A list of no spots ascends.
use Rattle.std.proofs.Common.{ap}
use Rattle.assignments.specs.Spots.{ascends}
use Rattle.assignments.proofs.assignment.Assignment.new.Goals as goal

pub invariant_of-result : goal.invariant_of-result
unfolding ascends
invariant_of-result c = ap ascends c.new.ensures.items
