-- How many goods are carried from where one list has them to where another does.
use Rattle.std.specs.Prelude.{◌≡◌, ℕ, List, length}
use Rattle.placing.specs.declared.acts.Spot.{Spot}
use Rattle.hall.specs.House.{moved}
use Rattle.assignments.specs.Spots.{store}

-- as many goods are in both lists, on another shelf in the second, whatever shelves there are
abbrev pub Carried : List Spot → List Spot → ℕ → Type 0
Carried ps qs n = (ks ls : List ℕ) → n ≡ length (moved (store ks ps) (store ls qs))
