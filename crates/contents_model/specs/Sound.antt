-- What keeps the lists of goods right, link by link. The ranks, which no memory holds, say that the links lead nowhere in a circle.
use Rattle.std.specs.Prelude.{◌≡◌, ℕ, ◌<◌, ◌≤◌, ◌≢◌, List}
use Rattle.contents_model.specs.Model.{shelf_at, first_at, next_at, previous_at}

pub record Linked (shelf first next previous rank : ℕ → ℕ) (top : ℕ) : Type 0 where
  pub bounded : (g : ℕ) → rank g ≤ top
  -- the next good of a good on a shelf is on that shelf, further down, and knows its previous; and the other way
  pub falls : (g : ℕ) → shelf g ≢ 0 → next g ≢ 0 → rank (next g) < rank g
  pub after : (g : ℕ) → shelf g ≢ 0 → next g ≢ 0 → (shelf (next g) ≡ shelf g) × (previous (next g) ≡ g)
  pub before : (g : ℕ) → shelf g ≢ 0 → previous g ≢ 0 → (shelf (previous g) ≡ shelf g) × (next (previous g) ≡ g)
  -- a good on no shelf has no links
  pub loose : (g : ℕ) → shelf g ≡ 0 → (next g ≡ 0) × (previous g ≡ 0)
  -- what has no previous is the first of its shelf; and the other way
  pub begins : (g : ℕ) → shelf g ≢ 0 → previous g ≡ 0 → first (shelf g) ≡ g
  pub leads : (s : ℕ) → first s ≢ 0 → (shelf (first s) ≡ s) × (previous (first s) ≡ 0)

pub record Sound (m : List ℕ) : Type 0 where
  pub rank : ℕ → ℕ
  pub top : ℕ
  pub linked : Linked (shelf_at m) (first_at m) (next_at m) (previous_at m) rank top
