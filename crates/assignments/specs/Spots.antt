-- What a list of spots means in the theory of stores, and the order that an assignment keeps.
use Rattle.std.specs.Prelude.{◌≡◌, ℕ, ◌<◌, ◌≤◌, Bool, true, ◌&&◌, ◌≢◌, List, [], ◌∷◌, length, nat_lt, slice_index_or, slice_set}
use Rattle.placing.specs.declared.acts.Spot.{Spot}
use Rattle.hall.specs.House as house
use Rattle.hall.specs.House.{Store, each, every, shelf_of}

abbrev pub placed : Spot → house.Spot
placed p = record { good = p.good; shelf = p.shelf }

-- the store with these shelves, and each good where the list has it
abbrev pub store : List ℕ → List Spot → Store
store ks ps = record { shelves = ks; spots = each placed ps }

-- the shelf of a good, as a list: of one, or of none where the good isn't there
abbrev pub shelf_in : List Spot → ℕ → List ℕ
shelf_in ps g = shelf_of (each placed ps) g

-- all goods of the list are greater
abbrev pub above : ℕ → List Spot → Bool
above g ps = every (λ p. nat_lt g p.good) ps

-- each good is smaller than all that follow it
unfoldable pub ascends : List Spot → Bool
ascends [] = true
ascends (p ∷ ps) = above p.good ps && ascends ps

-- what stands where a list has ended
abbrev pub zeros : Spot
zeros = record { good = 0; shelf = 0 }

-- the good at a place is on this shelf; past the end nothing changes
abbrev pub moved_at : List Spot → ℕ → ℕ → List Spot
moved_at ps i k = slice_set ps i (record { good = (slice_index_or ps i zeros).good; shelf = k })

-- the place of a good in an ascending list: smaller ones before it, and no smaller one from it on
pub record Place (g : ℕ) (ps : List Spot) (i : ℕ) : Type 0 where
  pub within : i ≤ length ps
  pub low : (k : ℕ) → k < i → (slice_index_or ps k zeros).good < g
  pub high : (k : ℕ) → i ≤ k → k < length ps → g ≤ (slice_index_or ps k zeros).good

-- the good stands at the place
pub record Here (g : ℕ) (ps : List Spot) (i : ℕ) : Type 0 where
  pub place : Place g ps i
  pub inside : i < length ps
  pub same : (slice_index_or ps i zeros).good ≡ g

-- the good is not there, and the place is where it would stand
pub record Gap (g : ℕ) (ps : List Spot) (i : ℕ) : Type 0 where
  pub place : Place g ps i
  pub other : i < length ps → (slice_index_or ps i zeros).good ≢ g
