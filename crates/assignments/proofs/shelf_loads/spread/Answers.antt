-- The greatest load and the least say by how much the loads differ.
use Rattle.std.proofs.Common.{◌≡◌, [], ◌∷◌, map, fold, rules, of_calls}
use Rattle.std.proofs.lemmas.Iterator.{YieldsList-from_slice, YieldsList-from_map}
use Rattle.std.proofs.lemmas.Iterator.Consumers.{fold_from_yields_List}
use Rattle.hall.specs.House as house
use Rattle.assignments.specs.Spots.{store}
use Rattle.assignments.proofs.Bounds.{Differ, differ, differ_none, widened}
use Rattle.assignments.proofs.shelf_loads.spread.Goals as goal

no_shelf : (c : goal.In_default) → Differ (house.load (store [] c.args.assignment.now)) c.args.shelves.now 0 0
no_shelf c = differ_none _ c.args.shelves.now (search (rules, c.in_default.ensures))

loads_differ : (c : goal.After-fold-least) → Differ (house.load (store [] c.args.assignment.now)) c.args.shelves.now c.fold-least.result.0 c.fold-least.result.1
loads_differ c =
    let load = house.load (store [] c.args.assignment.now) in
    let shelves : c.args.shelves.now ≡ c.in-Some.first.now ∷ c.in-Some.others.now = c.in-Some.ensures.cases.0 in
    let ends : c.fold-least.result ≡ fold widened (c.load-start.result, c.load-start.result) (map load c.in-Some.others.now) =
    fold_from_yields_List _ widened _ _ c.fold-least.ensures.ran
    (YieldsList-from_map _ load (YieldsList-from_slice c.in-Some.others.now cc) c.map.ensures.closure (λ x r q k. search (rules, of_calls)))
    (λ a x b q k. search (rules, of_calls)) in
    let start : c.load-start.result ≡ load c.in-Some.first.now = search (rules, of_calls) in
    rw shelves (differ load c.in-Some.first.now c.in-Some.others.now _ _ start ends)

pub returns-in_default-clause-bound : goal.returns-in_default-clause-bound
returns-in_default-clause-bound c = (no_shelf c).bound

pub returns-in_default-clause-tight : goal.returns-in_default-clause-tight
returns-in_default-clause-tight c = (no_shelf c).tight

pub overflow_sub-result : goal.overflow_sub-result
overflow_sub-result c = (loads_differ c).order

pub returns-clause-bound : goal.returns-clause-bound
returns-clause-bound c = (loads_differ c).bound

pub returns-clause-tight : goal.returns-clause-tight
returns-clause-tight c = (loads_differ c).tight
