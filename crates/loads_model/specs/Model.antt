-- Shelves by load over one region of words: what each call answers and makes of the region, over plain lists.
-- Words 0 to 1,024 hold the load of each slot. Then come two winner trees of 2,048 words, of the emptiest and of the fullest:
-- place 1 is the root, places 2 i and 2 i + 1 are the children of place i, and place 1,023 + s is the leaf of slot s:
-- it holds s while the shelf is there, else 0.
use Rattle.std.specs.Prelude.{ℕ, zero, suc, ◌+◌, ◌-◌, ◌*◌, ◌/◌, ◌^◌, min, Bool, cond, not, ◌&&◌, List, ◌==◌, nat_le, nat_lt, slice_index, slice_set}

abbrev pub a_slot : ℕ → Bool
a_slot s = nat_lt 0 s && nat_le s 1024

-- the load of a slot, 0 where it is none
unfoldable pub load_at : List ℕ → ℕ → ℕ
load_at m s = cond (a_slot s) (slice_index m s) 0

-- THE comparisons: shelf x is emptier, or fuller, than shelf y
abbrev pub emptier : List ℕ → ℕ → ℕ → Bool
emptier m x y = nat_lt (load_at m x) (load_at m y)

abbrev pub fuller : List ℕ → ℕ → ℕ → Bool
fuller m x y = nat_lt (load_at m y) (load_at m x)

-- the tree that begins at a word: what each place holds
abbrev pub tree : ℕ → List ℕ → ℕ → ℕ
tree base m place = slice_index m (base + place)

abbrev pub leaf : ℕ → ℕ
leaf s = 1023 + s

-- who wins a match of two slots, of which 0 is none: the left one unless the right one goes before it
abbrev pub pick : (ℕ → ℕ → Bool) → ℕ → ℕ → ℕ
pick before a b = cond (b == 0) a (cond (a == 0) b (cond (before b a) b a))

-- what an inner place should hold
abbrev pub winner : (ℕ → ℕ → Bool) → (ℕ → ℕ) → ℕ → ℕ
winner before at place = pick before (at (2 * place)) (at (2 * place + 1))

-- the winner at a place, by the loads of a memory
abbrev pub winner_at : (List ℕ → ℕ → ℕ → Bool) → ℕ → List ℕ → ℕ → ℕ
winner_at before base m place = winner (before m) (tree base m) place

-- a place that keeps its winner, other than the changed slot s: then no match above changes
abbrev pub settled : (List ℕ → ℕ → ℕ → Bool) → ℕ → ℕ → List ℕ → ℕ → Bool
settled before base s m place = winner_at before base m place == tree base m place && not (winner_at before base m place == s)

-- plays again the n matches above a place, from the lowest up, until one is settled
unfoldable pub climb : (List ℕ → ℕ → ℕ → Bool) → ℕ → ℕ → ℕ → List ℕ → ℕ → List ℕ
climb before base s zero m place = m
climb before base s (suc n) m place =
    cond (settled before base s m (place / 2)) m (climb before base s n (slice_set m (base + place / 2) (winner_at before base m (place / 2))) (place / 2))

-- one tree after the leaf of a slot is written: mark is the slot, or 0 for none
abbrev pub replay : (List ℕ → ℕ → ℕ → Bool) → ℕ → List ℕ → ℕ → ℕ → List ℕ
replay before base m s mark = climb before base s 10 (slice_set m (base + leaf s) mark) (leaf s)

-- a slot's load and its two leaves are written; where it is no slot, nothing
unfoldable pub put_at : List ℕ → ℕ → ℕ → ℕ → List ℕ
put_at m s mark load = cond (a_slot s) (replay fuller 3073 (replay emptier 1025 (slice_set m s load) s mark) s mark) m

-- what the leaves of a slot hold
unfoldable pub mark_at : List ℕ → ℕ → ℕ
mark_at m s = tree 1025 m (leaf s)

unfoldable pub emptiest_at : List ℕ → ℕ
emptiest_at m = tree 1025 m 1

unfoldable pub fullest_at : List ℕ → ℕ
fullest_at m = tree 3073 m 1

-- the changes; a load does not wrap
abbrev pub enter_at : List ℕ → ℕ → List ℕ
enter_at m s = put_at m s s 0

abbrev pub leave_at : List ℕ → ℕ → List ℕ
leave_at m s = put_at m s 0 0

abbrev pub add_one_at : List ℕ → ℕ → List ℕ
add_one_at m s = put_at m s (mark_at m s) (min (load_at m s + 1) (2 ^ 64 - 1))

abbrev pub take_one_at : List ℕ → ℕ → List ℕ
take_one_at m s = put_at m s (mark_at m s) (load_at m s - 1)
