-- The list after a good is put at its place.
use Rattle.assignments.proofs.Places.{ascends_set, ascends_inserted, shelf_set, shelf_inserted}
use Rattle.assignments.proofs.assignment.Assignment.put.Goals as goal

pub invariant_of-self : goal.invariant_of-self
invariant_of-self c = ascends_set _ _ _ c.self.invariant (rw c.self.view_is c.in-Ok.ensures.same)

pub invariant_of-self-in-Err : goal.invariant_of-self-in-Err
invariant_of-self-in-Err c =
    rw c.in_ok-insert-in-Err.ensures.items (ascends_inserted _ _ _ c.self.invariant (rw c.self.view_is c.in-Err.ensures.place) (rw c.self.view_is c.in-Err.ensures.other))

pub returns-in-Ok : goal.returns-in-Ok
returns-in-Ok c = let at = c.in-Ok.ensures in rw c.self.view_is (shelf_set _ _ _ at.place at.inside at.same)

pub returns-in_ok-insert-in-Err : goal.returns-in_ok-insert-in-Err
returns-in_ok-insert-in-Err c = rw (c.in_ok-insert-in-Err.ensures.items, c.self.view_is) (shelf_inserted _ _ _ c.in-Err.ensures.place)
