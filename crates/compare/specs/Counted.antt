-- What is counted of a command that the machine was told.
use Rattle.std.specs.Prelude.{◌≡◌, ℕ, List, Option, Some, None}
use Rattle.placing.specs.declared.acts.Spot.{Spot}
use Rattle.assignments.specs.Carried.{Carried}

-- a refused command changes nothing; else the goods that were there before and are there after, on another shelf, are counted
abbrev pub Counted : List Spot → List Spot → Option ℕ → Type 0
Counted ps qs None = qs ≡ ps
Counted ps qs (Some n) = Carried ps qs n
