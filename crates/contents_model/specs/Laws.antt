-- The laws of the contents, in the words of their users.
use Rattle.std.specs.Prelude.{◌≡◌, ℕ, ◌+◌, ◌-◌, ◌<◌, ◌≤◌, cond, ◌≢◌, ◌⊎◌, List, [], ◌∷◌, length, replicate, ◌==◌}
use Rattle.words.specs.Small.{Small, Kept}
use Rattle.contents_model.specs.Model.{rows, shelf_at, first_at, next_at, previous_at, add_at, remove_at, walk}
use Rattle.contents_model.specs.Sound.{Sound}

-- a memory of zeros is sound, and holds no good
abbrev pub EmptyLaw : Type 0
EmptyLaw = (n : ℕ) → Sound (replicate n 0) × ((g : ℕ) → shelf_at (replicate n 0) g ≡ 0)

-- m became n: the good g is on the shelf s (on none, where that is 0) and the others are where they were;
-- so s has one good more than it had, and the shelf that g was on one less
pub record Placed (m n : List ℕ) (g s : ℕ) : Type 0 where
  pub sound : Sound n
  pub here : shelf_at n g ≡ s
  pub others : (x : ℕ) → x ≢ g → shelf_at n x ≡ shelf_at m x
  pub count : (t : ℕ) → 0 < t → length (walk n t) + cond (shelf_at m g == t) 1 0 ≡ length (walk m t) + cond (s == t) 1 0

-- there are such a shelf and such a good, and the good is on no shelf
pub record Fits (m : List ℕ) (s g : ℕ) : Type 0 where
  pub some_shelf : 0 < s
  pub shelf_below : s < 1025
  pub some_good : 0 < g
  pub good_below : g < rows m
  pub free : shelf_at m g ≡ 0

abbrev pub AddLaw : Type 0
AddLaw = (m : List ℕ) (s g : ℕ) → Sound m → Fits m s g → Placed m (add_at m s g) g s

-- for every shelf and good, also those that are refused
abbrev pub AddKeeps : Type 0
AddKeeps = (m : List ℕ) (s g : ℕ) → Sound m → Sound (add_at m s g)

abbrev pub RemoveLaw : Type 0
RemoveLaw = (m : List ℕ) (g : ℕ) → Sound m → Placed m (remove_at m g) g 0

-- the first of a shelf is one of its goods, and a shelf that has a good has a first
pub record First (m : List ℕ) : Type 0 where
  pub on : (s : ℕ) → 0 < first_at m s → shelf_at m (first_at m s) ≡ s
  pub some : (g : ℕ) → 0 < shelf_at m g → 0 < first_at m (shelf_at m g)

abbrev pub FirstLaw : Type 0
FirstLaw = (m : List ℕ) → Sound m → First m

-- the next of a good is on the same shelf, and there is none where the good is on no shelf
pub record Next (m : List ℕ) (g : ℕ) : Type 0 where
  pub on : 0 < next_at m g → shelf_at m (next_at m g) ≡ shelf_at m g
  pub none : shelf_at m g ≡ 0 → next_at m g ≡ 0

abbrev pub NextLaw : Type 0
NextLaw = (m : List ℕ) (g : ℕ) → Sound m → Next m g

-- a list that is linked from f on to the end, the one before f being p
unfoldable pub Chain : (next previous : ℕ → ℕ) → ℕ → ℕ → List ℕ → Type 0
Chain next previous p f [] = f ≡ 0
Chain next previous p f (g ∷ gs) = (f ≡ g) × ((previous g ≡ p) × Chain next previous g (next g) gs)

-- the walk over a shelf goes from its first good to the end of the links, and the links go back the same way
abbrev pub ChainLaw : Type 0
ChainLaw = (m : List ℕ) (s : ℕ) → Sound m → 0 < s → Chain (next_at m) (previous_at m) 0 (first_at m s) (walk m s)

-- how often a good stands in a list
unfoldable pub times : List ℕ → ℕ → ℕ
times [] g = 0
times (x ∷ xs) g = cond (x == g) 1 0 + times xs g

-- the list has each good of the shelf once, and no other
abbrev pub Exactly : List ℕ → ℕ → List ℕ → Type 0
Exactly m s xs = (g : ℕ) → times xs g ≡ cond (shelf_at m g == s) 1 0

abbrev pub WalkLaw : Type 0
WalkLaw = (m : List ℕ) (s : ℕ) → Sound m → 0 < s → Exactly m s (walk m s)

-- lengths and words of 64 bits are kept, in any memory
pub record Keeps (m : List ℕ) : Type 0 where
  pub add_long : (s g : ℕ) → length (add_at m s g) ≡ length m
  pub add : (s g : ℕ) → g < 18446744073709551616 → Kept m (add_at m s g)
  pub remove : (g : ℕ) → Kept m (remove_at m g)

abbrev pub KeptLaw : Type 0
KeptLaw = (m : List ℕ) → Keeps m

-- what is read is below its limit, in any memory; and fits 64 bits where the memory's words do
pub record Bounded (m : List ℕ) (k : ℕ) : Type 0 where
  pub shelf : shelf_at m k < 1025
  pub first : first_at m k ≤ rows m - 1
  pub next : next_at m k ≤ rows m - 1
  pub first_fits : Small m → first_at m k < 18446744073709551616
  pub next_fits : Small m → next_at m k < 18446744073709551616
  pub walk : length (walk m k) ≤ length m
  -- a good on a shelf has a row
  pub good : 0 < shelf_at m k → (0 < k) × (k < rows m)

abbrev pub BoundsLaw : Type 0
BoundsLaw = (m : List ℕ) (k : ℕ) → Bounded m k

-- a region of 99,332 words has the rows of 32,768 goods
abbrev pub RowsLaw : Type 0
RowsLaw = (m : List ℕ) → length m ≡ 99332 → rows m ≡ 32769

-- where nothing is to be done, nothing is changed, in any memory
pub record Still (m : List ℕ) (s g : ℕ) : Type 0 where
  pub no_shelf : (s ≡ 0) ⊎ (1025 ≤ s) → add_at m s g ≡ m
  pub no_good : (g ≡ 0) ⊎ (rows m ≤ g) → add_at m s g ≡ m
  pub elsewhere : 0 < shelf_at m g → add_at m s g ≡ m
  pub nowhere : shelf_at m g ≡ 0 → remove_at m g ≡ m

abbrev pub StillLaw : Type 0
StillLaw = (m : List ℕ) (s g : ℕ) → Still m s g
