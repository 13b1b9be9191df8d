-- The contents of shelves over the region's list, for any words. 0 is none.
use Rattle.std.specs.Prelude.{ℕ, zero, suc, ◌+◌, ◌-◌, ◌*◌, ◌/◌, Bool, true, false, cond, ◌||◌, List, [], ◌∷◌, length, ◌==◌, nat_le, nat_lt, slice_index, slice_set}

-- how many rows of three words stand after the 1,025 words of the shelves
unfoldable pub rows : List ℕ → ℕ
rows m = (length m - 1025) / 3

-- a word that is a slot below the limit, or 0
abbrev pub slot : ℕ → ℕ → ℕ
slot word limit = cond (nat_lt word limit) word 0

-- no slot below the limit
abbrev pub outside : ℕ → ℕ → Bool
outside n limit = n == 0 || nat_le limit n

-- the words of the row of a good, and of a shelf
unfoldable pub field : List ℕ → ℕ → ℕ → ℕ
field m g k = cond (outside g (rows m)) 0 (slice_index m (1025 + 3 * g + k))

unfoldable pub put_field : List ℕ → ℕ → ℕ → ℕ → List ℕ
put_field m g k v = cond (outside g (rows m)) m (slice_set m (1025 + 3 * g + k) v)

unfoldable pub head : List ℕ → ℕ → ℕ
head m s = cond (outside s 1025) 0 (slice_index m s)

-- the shelf of a good, the first good of a shelf, the next and the previous of a good
unfoldable pub shelf_at : List ℕ → ℕ → ℕ
shelf_at m g = slot (field m g 0) 1025

unfoldable pub first_at : List ℕ → ℕ → ℕ
first_at m s = slot (head m s) (rows m)

unfoldable pub next_at : List ℕ → ℕ → ℕ
next_at m g = slot (field m g 1) (rows m)

unfoldable pub previous_at : List ℕ → ℕ → ℕ
previous_at m g = slot (field m g 2) (rows m)

-- a good, g, in front of the first, f, of the shelf s
abbrev pub pushed : List ℕ → ℕ → ℕ → ℕ → List ℕ
pushed m s g f = slice_set (put_field (put_field (put_field (put_field m f 2 g) g 0 s) g 1 f) g 2 0) s g

-- which goods can't be added
abbrev pub refuses : List ℕ → ℕ → ℕ → Bool
refuses m s g = outside s 1025 || (outside g (rows m) || (cond (shelf_at m g == 0) false true))

abbrev pub added : List ℕ → ℕ → ℕ → List ℕ
added m s g = cond (refuses m s g) m (pushed m s g (first_at m s))

unfoldable pub add_at : List ℕ → ℕ → ℕ → List ℕ
add_at m s g = added m s g

-- a good, g, between p and n, taken from the shelf s
abbrev pub unlinked : List ℕ → ℕ → ℕ → ℕ → ℕ → List ℕ
unlinked m s g p n =
    put_field (put_field (put_field (put_field (put_field (cond (p == 0) (slice_set m s n) m) p 1 n) n 2 p) g 0 0) g 1 0) g 2 0

abbrev pub removed : List ℕ → ℕ → List ℕ
removed m g = cond (shelf_at m g == 0) m (unlinked m (shelf_at m g) g (previous_at m g) (next_at m g))

unfoldable pub remove_at : List ℕ → ℕ → List ℕ
remove_at m g = removed m g

-- the goods from one on, by their links, so many at most
unfoldable pub walk_from : (next : ℕ → ℕ) → ℕ → ℕ → List ℕ
walk_from next zero g = []
walk_from next (suc n) g = cond (g == 0) [] (g ∷ walk_from next n (next g))

-- the goods of a shelf, as many as there are rows at most
unfoldable pub walk : List ℕ → ℕ → List ℕ
walk m s = walk_from (next_at m) (rows m) (first_at m s)
