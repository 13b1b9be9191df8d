-- The same goods, one of them on another shelf.
use Rattle.std.proofs.Common.{◌<◌, length, sym, ap, ◌∙◌, arith}
use Rattle.std.proofs.lemmas.List.{get_or_default}
use Rattle.assignments.proofs.Places.{ascends_set}
use Rattle.assignments.proofs.assignment.Assignment.reassign.Goals as goal

pub invariant_of-self : goal.invariant_of-self
invariant_of-self c =
    let inside : c.args.place < length c.self.inside.spots.items = omega arith in
    ascends_set _ _ (record { good = c.index_mut.result.now.good; shelf = c.args.shelf }) c.self.invariant
    (ap (λ p. p.good) (get_or_default _ _ _ _ inside ∙ sym c.index_mut.ensures.value))
