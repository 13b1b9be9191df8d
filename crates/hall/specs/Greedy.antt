-- Moves made one at a time, each the best there is just then; which of several that are as good is left open.
use Rattle.std.specs.Prelude.{◌≡◌, ℕ, suc, ◌<◌, ◌≤◌, true, not, List, [], ◌∷◌, length, ◌==◌, nat_eq}
use Rattle.hall.specs.House.{each, those, has, Spot, Store, shelf_of, one, Command, comes, goes, shelf_comes, shelf_goes, where_is, Move, put_spot, left_spots, divided}

-- how many of these goods are on a shelf
abbrev pub on : List Spot → ℕ → ℕ
on ps k = length (those (λ p. nat_eq p.shelf k) ps)

-- the shelf of a good, 0 where it isn't there
abbrev pub at : List Spot → ℕ → ℕ
at ps g = one (shelf_of ps g)

-- the goods
abbrev pub goods_of : List Spot → List ℕ
goods_of ps = each (λ p. p.good) ps

-- one of the shelves, and none of them has more
abbrev pub Fullest : List ℕ → List Spot → ℕ → Type 0
Fullest ks ps k = (has ks k ≡ true) × ((j : ℕ) → has ks j ≡ true → on ps j ≤ on ps k)

-- one of the shelves, and none of them has less
abbrev pub Emptiest : List ℕ → List Spot → ℕ → Type 0
Emptiest ks ps k = (has ks k ≡ true) × ((j : ℕ) → has ks j ≡ true → on ps k ≤ on ps j)

-- the shelf k gets goods one by one, each from a fullest shelf of ks, until it has q
abbrev pub Filling : List ℕ → ℕ → ℕ → List Spot → List Move → Type 0
Filling ks k q ps [] = on ps k ≡ q
Filling ks k q ps (m ∷ ms) =
    (on ps k < q) × (m.to ≡ k) × (has (goods_of ps) m.good ≡ true) × Fullest ks ps (at ps m.good)
    × Filling ks k q (put_spot ps m.good m.to) ms

-- the goods of the shelf k are put one by one, each on an emptiest shelf of ks, until k has none
abbrev pub Emptying : List ℕ → ℕ → List Spot → List Move → Type 0
Emptying ks k ps [] = on ps k ≡ 0
Emptying ks k ps (m ∷ ms) =
    (has (goods_of ps) m.good ≡ true) × (at ps m.good ≡ k) × Emptiest ks ps m.to
    × Emptying ks k (put_spot ps m.good m.to) ms

-- the shelf k gets one good, from a shelf that has two more; nothing where no shelf has two more
abbrev pub Mending : List ℕ → ℕ → List Spot → List Move → Type 0
Mending ks k ps [] = (j : ℕ) → has ks j ≡ true → on ps j ≤ suc (on ps k)
Mending ks k ps (m ∷ ms) =
    (m.to ≡ k) × (has (goods_of ps) m.good ≡ true) × (suc (suc (on ps k)) ≤ on ps (at ps m.good)) × (ms ≡ [])

-- greedy moves for a command: a good that comes is put on an emptiest shelf, the shelf of a good that goes gets one where it has to, a shelf that comes gets
-- its share, and one that goes is emptied
abbrev pub Greedy : Store → Command → List Move → Type 0
Greedy s (comes g) ms = (k : ℕ) × Emptiest s.shelves s.spots k × (ms ≡ record { good = g; to = k } ∷ [])
Greedy s (goes g) ms = Mending s.shelves (at s.spots g) (left_spots s (goes g)) ms
Greedy s (shelf_comes k) ms = Filling s.shelves k (divided (length s.spots) (suc (length s.shelves))) s.spots ms
Greedy s (shelf_goes k) ms = Emptying (those (λ j. not (j == k)) s.shelves) k s.spots ms
Greedy s (where_is g) ms = ms ≡ []
