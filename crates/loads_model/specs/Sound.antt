-- What a sound region is, and which shelves are there in it.
use Rattle.std.specs.Prelude.{◌≡◌, ℕ, ◌<◌, ◌≤◌, Bool, true, false, ◌⊎◌, List, length}
use Rattle.loads_model.specs.Model.{load_at, emptier, fuller, tree, leaf, winner}

-- a tree: each inner place holds the winner of its two children, each leaf its slot or none
pub record Ranked (before : ℕ → ℕ → Bool) (at : ℕ → ℕ) : Type 0 where
  pub inner : (i : ℕ) → 0 < i → i < 1024 → at i ≡ winner before at i
  pub leaves : (s : ℕ) → 0 < s → s ≤ 1024 → (at (leaf s) ≡ s) ⊎ (at (leaf s) ≡ 0)

-- a slot's leaf holds it
pub record Held (at : ℕ → ℕ) (s : ℕ) : Type 0 where
  pub some : 0 < s
  pub near : s ≤ 1024
  pub marked : at (leaf s) ≡ s

pub record Sound (m : List ℕ) : Type 0 where
  pub long : 5120 < length m
  pub low : Ranked (emptier m) (tree 1025 m)
  pub high : Ranked (fuller m) (tree 3073 m)
  pub agree : (s : ℕ) → 0 < s → s ≤ 1024 → tree 3073 m (leaf s) ≡ tree 1025 m (leaf s)

-- the shelf is there
unfoldable pub There : List ℕ → ℕ → Type 0
There m s = Held (tree 1025 m) s

-- a strict weak order: of two at most one goes before the other, and not going before passes on
pub record Weak (before : ℕ → ℕ → Bool) : Type 0 where
  pub asym : (x y : ℕ) → before x y ≡ true → before y x ≡ false
  pub through : (x y z : ℕ) → before x y ≡ false → before y z ≡ false → before x z ≡ false

-- ALL that is asked of a comparison: in each memory it is a strict weak order, and it looks at the loads of its two slots only
pub record Order (before : List ℕ → ℕ → ℕ → Bool) : Type 0 where
  pub weak : (m : List ℕ) → Weak (before m)
  pub local : (m n : List ℕ) (x y : ℕ) → load_at n x ≡ load_at m x → load_at n y ≡ load_at m y → before n x y ≡ before m x y
