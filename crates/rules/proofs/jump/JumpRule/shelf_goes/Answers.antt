-- The last shelf is put in place of the one that goes.
use Rattle.std.proofs.Common.{◌≡◌, ◌≢◌, rules, of_calls}
use borrow.Author.Tests.{tests}
use Rattle.std.proofs.lemmas.Iterator.{IsFirst-from_position, YieldsList-from_slice}
use Rattle.std.proofs.lemmas.List.Sorted.{IsPermutation-swap_remove}
use Rattle.rules.proofs.Lists.{Found, goes, stays}
use Rattle.rules.proofs.jump.JumpRule.shelf_goes.Goals as goal
use Rattle.rules.proofs.jump.JumpRule.shelf_goes.Goals.{After-position}

found : (c : After-position) → Found c.args.self.now c.args.shelf c.position.result
found c =
    IsFirst-from_position _ _ _ (λ j. j ≡ c.args.shelf) (λ j. j ≢ c.args.shelf) c.position.ensures.ran (YieldsList-from_slice c.args.self.now cc) (λ x q h. search (rules, of_calls, tests)) (λ x q h. search (rules, of_calls, tests))

pub returns-in-Some : goal.returns-in-Some
returns-in-Some c =
    rw (c.swap_remove.ensures.items, c.self.view_is)
    (goes _ _ _ c.in-Some.place c.swap_remove.result _ (found c.before.before.before) c.in-Some.is (rw c.self.view_is at c.swap_remove.ensures.value) (IsPermutation-swap_remove c.args.self.now c.in-Some.place c.swap_remove.result))

pub returns-in_default : goal.returns-in_default
returns-in_default c = stays _ _ _ (found c.before) c.in_default.is
