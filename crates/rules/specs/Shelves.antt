-- The lists of shelves, and what a rule may say of a good.
use Rattle.std.specs.Prelude.{◌≡◌, ℕ, ◌%◌, true, false, List, [], ◌∷◌, length, ◌==◌, Option, Some, None, MatchOption, slice_index}
use Rattle.std.specs.List.Sorted.{IsPermutation}
use Rattle.placing.specs.declared.acts.Spot.{Spot}
use Rattle.hall.specs.House.{has, pick}
use Rattle.assignments.specs.Spots.{shelf_in}

-- one of the shelves, or none where there is none
abbrev pub OneOf : List ℕ → Option ℕ → Type 0
OneOf ks s = MatchOption s (length ks ≡ 0) (λ k. has ks k ≡ true)

-- the shelf at the place that is the remainder of the number
abbrev pub AtRemainder : List ℕ → ℕ → Option ℕ → Type 0
AtRemainder ks g s = MatchOption s (length ks ≡ 0) (λ k. k ≡ slice_index ks (g % length ks))

-- the second list has all that the first has, and the shelf
abbrev pub Comes : ℕ → List ℕ → List ℕ → Type 0
Comes k ks ls = IsPermutation (k ∷ ks) ls

-- a shelf that was there is there once less, and the others stay; else nothing changes
abbrev pub Goes : ℕ → List ℕ → List ℕ → Type 0
Goes k ks ls = (has ks k ≡ true → IsPermutation ks (k ∷ ls)) × (has ks k ≡ false → ls ≡ ks)

-- the good is on the shelf that it is given, where it is given one, and every other good stays
abbrev pub Placed : List Spot → List Spot → ℕ → Option ℕ → Type 0
Placed ps qs good None = qs ≡ ps
Placed ps qs good (Some k) = (g : ℕ) → shelf_in qs g ≡ pick (g == good) (k ∷ []) (shelf_in ps g)
