-- The shelf is taken from its place in the list.
use Rattle.std.proofs.Common.{◌≡◌, ◌≢◌, rules, of_calls}
use borrow.Author.Tests.{tests}
use Rattle.std.proofs.lemmas.Iterator.{IsFirst-from_position, YieldsList-from_slice}
use Rattle.std.proofs.lemmas.List.Sorted.{IsPermutation-remove}
use Rattle.rules.proofs.Lists.{Found, goes, stays}
use Rattle.rules.proofs.rule.remove.Goals as goal
use Rattle.rules.proofs.rule.remove.Goals.{After-position}

found : (c : After-position) → Found c.args.list.now.items c.args.shelf c.position.result
found c =
    IsFirst-from_position _ _ _ (λ j. j ≡ c.args.shelf) (λ j. j ≢ c.args.shelf) c.position.ensures.ran (YieldsList-from_slice c.args.list.now.items cc) (λ x q h. search (rules, of_calls, tests)) (λ x q h. search (rules, of_calls, tests))

pub returns-in-Some : goal.returns-in-Some
returns-in-Some c =
    rw c.remove.ensures.items
    (goes _ _ _ c.in-Some.place c.remove.result _ (found c.before.before.before.before) c.in-Some.is c.remove.ensures.value (IsPermutation-remove c.args.list.now.items c.in-Some.place c.remove.result))

pub returns-in_default : goal.returns-in_default
returns-in_default c = stays _ _ _ (found c.before.before) c.in_default.is
