-- The load of a shelf, good by good.
use Rattle.std.proofs.Common.{◌≡◌, ℕ, eqb, List, [], ◌∷◌, length, filter, refl, arith}
use Rattle.placing.specs.declared.acts.Spot.{Spot}
use Rattle.hall.specs.House.{each, those, load}
use Rattle.assignments.specs.Spots.{store}

-- a count of a filter is the load
pub load_filter : (ps : List Spot) (k : ℕ) → length (filter (λ p. eqb p.shelf k) ps) ≡ load (store [] ps) k
unfolding each those
load_filter [] k = refl
load_filter (p ∷ ps) k = let ih : length (filter (λ p. eqb p.shelf k) ps) ≡ load (store [] ps) k = load_filter ps k in grind arith
