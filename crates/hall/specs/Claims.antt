-- What is claimed of stores, each claim a statement that a public function's contract carries.
use Rattle.std.specs.Prelude.{◌≡◌, ℕ, suc, ◌+◌, ◌/◌, ◌%◌, ◌≤◌, Bool, true, false, not, List, [], ◌∷◌, length, nat_eq}
use Rattle.hall.specs.House.{Store, goods, load, fine, level, moved, Command, comes, goes, shelf_comes, shelf_goes, where_is, refusal, may_be, fewest, has, asks, each, every, those, distinct, Spot, Move, shelf_of, same_one, left_spots, after}
use Rattle.hall.specs.Greedy.{Greedy}

-- a level store's shelves have the goods divided by the shelves, rounded down, or one more
abbrev pub LevelLoads : Type 0
LevelLoads =
    (s : Store) (k : ℕ) → fine s ≡ true → level s ≡ true → has s.shelves k ≡ true →
    (length s.spots / length s.shelves ≤ load s k) × (load s k ≤ suc (length s.spots / length s.shelves))

-- and as many shelves have one more as the remainder says
abbrev pub LevelCount : Type 0
LevelCount =
    (s : Store) → fine s ≡ true → level s ≡ true →
    length (those (λ k. nat_eq (load s k) (suc (length s.spots / length s.shelves))) s.shelves) ≡ length s.spots % length s.shelves

-- moved is counted alike from either side
abbrev pub MovedAlike : Type 0
MovedAlike = (s t : Store) → fine s ≡ true → fine t ≡ true → length (moved s t) ≡ length (moved t s)

-- and never more than through a third store that has each good that the two share
abbrev pub MovedTriangle : Type 0
MovedTriangle =
    (s t u : Store) → fine s ≡ true → ((g : ℕ) → has (goods s) g ≡ true → has (goods u) g ≡ true → has (goods t) g ≡ true) →
    length (moved s u) ≤ length (moved s t) + length (moved t u)

-- both, of stores with the same goods
abbrev pub MovedThrough : Type 0
MovedThrough =
    (s t u : Store) → fine s ≡ true → fine t ≡ true → fine u ≡ true → (goods s ≡ goods t) → (goods t ≡ goods u) →
    (length (moved s t) ≡ length (moved t s)) × (length (moved s u) ≤ length (moved s t) + length (moved t u))

-- no store that may be there after a command has fewer moved than `fewest` says, also where the store before was not level
abbrev pub FewestLower : Type 0
FewestLower = (s : Store) (c : Command) → fine s ≡ true → refusal s c ≡ 0 → (t : Store) → may_be s c t ≡ true → fewest s c ≤ length (moved s t)

-- no good is put twice
abbrev pub once : List Move → Bool
once ms = distinct (each (λ m. m.good) ms)

-- a good is not put where it stands
abbrev pub changes : List Spot → Move → Bool
changes ps m = not (same_one (shelf_of ps m.good) (m.to ∷ []))

-- a change: the store afterwards may be there, no good is put twice, none where it stands, and no store that may be there has fewer goods moved
unfoldable pub Changed : Store → Command → List Move → Type 0
Changed s c ms =
    (may_be s c (after s c ms) ≡ true) × (once ms ≡ true) × (every (changes (left_spots s c)) ms ≡ true)
    × ((t : Store) → may_be s c t ≡ true → length (moved s (after s c ms)) ≤ length (moved s t))

-- `fewest` is the least there is: no store that may be there has fewer moved, and some has no more
abbrev pub FewestRight : Type 0
FewestRight =
    (s : Store) (c : Command) → fine s ≡ true → level s ≡ true → refusal s c ≡ 0 → asks c ≡ false →
    ((t : Store) → may_be s c t ≡ true → fewest s c ≤ length (moved s t))
    × ((t : Store) × (may_be s c t ≡ true) × (length (moved s t) ≡ fewest s c))

-- how many goods come by a command
unfoldable pub arrivals : Command → ℕ
arrivals (comes g) = 1
arrivals (goes g) = 0
arrivals (shelf_comes k) = 0
arrivals (shelf_goes k) = 0
arrivals (where_is g) = 0

-- every change moves `fewest` goods, and puts these and the one that comes, and no other
abbrev pub PutsCount : Type 0
PutsCount =
    (s : Store) (c : Command) (ms : List Move) → fine s ≡ true → level s ≡ true → refusal s c ≡ 0 → asks c ≡ false → Changed s c ms →
    (length (moved s (after s c ms)) ≡ fewest s c) × (length ms ≡ arrivals c + fewest s c)

-- a new shelf that goes again at once sends away just as many as it got
abbrev pub InAndOut : Type 0
InAndOut =
    (s : Store) (k : ℕ) (ms : List Move) → fine s ≡ true → level s ≡ true → refusal s (shelf_comes k) ≡ 0 → Changed s (shelf_comes k) ms →
    fewest (after s (shelf_comes k) ms) (shelf_goes k) ≡ length (moved s (after s (shelf_comes k) ms))

-- moves that are greedy are a change, with as few moved as can be
abbrev pub GreedyRight : Type 0
GreedyRight =
    (s : Store) (c : Command) (ms : List Move) → fine s ≡ true → level s ≡ true → refusal s c ≡ 0 → asks c ≡ false → Greedy s c ms →
    Changed s c ms × (length (moved s (after s c ms)) ≡ fewest s c)

-- there are always greedy moves
abbrev pub GreedyCan : Type 0
GreedyCan =
    (s : Store) (c : Command) → fine s ≡ true → level s ≡ true → refusal s c ≡ 0 → asks c ≡ false → (ms : List Move) × Greedy s c ms
