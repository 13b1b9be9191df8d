-- The list after a good has left its place.
use Rattle.std.proofs.Common.{◌≡◌, true, subst}
use Rattle.assignments.specs.Spots.{ascends}
use Rattle.assignments.proofs.Places.{ascends_removed, shelf_removed, missing, without}
use Rattle.assignments.proofs.assignment.Assignment.remove.Goals as goal

pub invariant_of-self : goal.invariant_of-self
invariant_of-self c = rw c.remove.ensures.items (ascends_removed _ _ c.self.invariant)

pub returns-in-Ok : goal.returns-in-Ok
returns-in-Ok c =
    let at = c.in-Ok.ensures
    in rw (c.remove.ensures.items, c.self.view_is) (shelf_removed _ _ _ (subst (λ ps. ascends ps ≡ true) c.self.view_is c.self.invariant) at.place at.inside at.same)

pub returns-in_default : goal.returns-in_default
returns-in_default c =
    let at = c.in_default.ensures
    in without _ _ (missing _ _ _ (subst (λ ps. ascends ps ≡ true) c.self.view_is c.self.invariant) at.place at.other)
