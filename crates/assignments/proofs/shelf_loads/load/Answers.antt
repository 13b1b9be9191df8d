-- The chain counts the goods that are on the shelf.
use Rattle.std.proofs.Common.{ℕ, ◌<◌, ◌^◌, eqb, cond, map, sym, ◌∙◌, rules, of_calls, arith}
use Rattle.std.specs.List.{sum_by}
use Rattle.std.proofs.lemmas.List.Sums.{length-filter, count_by-le-length}
use Rattle.std.proofs.lemmas.Iterator.{YieldsList-from_slice, YieldsList-from_map}
use Rattle.std.proofs.lemmas.Iterator.Consumers.{sum_by_from_yields_List, fits_by_from_yields_list}
use Rattle.placing.specs.declared.acts.Spot.{Spot}
use Rattle.assignments.proofs.Counts.{load_filter}
use Rattle.assignments.proofs.shelf_loads.load.Goals as goal

-- what a good adds to the load of a shelf
abbrev on : ℕ → Spot → ℕ
on k p = cond (eqb p.shelf k) 1 0

pub sum-requires : goal.sum-requires
sum-requires c =
    let few : sum_by (on c.args.shelf) c.args.spots.now < 2 ^ 64 = omega (arith, count_by-le-length (λ p. eqb p.shelf c.args.shelf) c.args.spots.now) in
    record {
      can = search of_calls;
      finite = search of_calls;
      fits = fits_by_from_yields_list (on c.args.shelf) c.args.spots.now _ _ (YieldsList-from_map _ (on c.args.shelf) (YieldsList-from_slice c.args.spots.now cc) c.map.ensures.closure (λ x r q k. search (rules, of_calls))) few;
    }

pub returns : goal.returns
returns c =
    sum_by_from_yields_List (on c.args.shelf) c.args.spots.now _ _ c.sum.ensures.ran (YieldsList-from_map _ (on c.args.shelf) (YieldsList-from_slice c.args.spots.now cc) c.map.ensures.closure (λ x r q k. search (rules, of_calls)))
    ∙ sym (length-filter (λ p. eqb p.shelf c.args.shelf) c.args.spots.now) ∙ load_filter c.args.spots.now c.args.shelf
