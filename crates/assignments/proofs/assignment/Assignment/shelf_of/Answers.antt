-- What stands at a good's place.
use Rattle.std.proofs.Common.{◌≡◌, true, sym, subst, arith}
use Rattle.std.proofs.lemmas.List.{get_or_default}
use Rattle.assignments.specs.Spots.{ascends, zeros}
use Rattle.assignments.proofs.Places.{found, missing}
use Rattle.assignments.proofs.assignment.Assignment.shelf_of.Goals as goal

pub returns-in-Ok : goal.returns-in-Ok
returns-in-Ok c =
    let at = c.in-Ok.ensures in
    let shelf = found _ _ _ at.place at.inside at.same in
    let read = get_or_default _ _ c.index.result.now zeros at.inside in
    grind (arith, c.self.view_is)

pub returns-in-Err : goal.returns-in-Err
returns-in-Err c =
    let at = c.in-Err.ensures
    in sym (missing _ _ _ (subst (λ ps. ascends ps ≡ true) c.self.view_is c.self.invariant) at.place at.other)
