-- The index as one list of words: what find, insert and remove mean. A number's key leads to its row, by the key's bits from the highest down.
-- Three registers (how many slots were ever taken; the first free slot; how many are in use), the heads, then rows of three words: number, left link, right link.
use Rattle.std.specs.Prelude.{ℕ, zero, suc, ◌+◌, ◌-◌, ◌*◌, ◌/◌, ◌%◌, ◌^◌, min, max, Bool, cond, ◌||◌, List, length, ◌==◌, nat_le, nat_lt, slice_index, slice_set}

-- the bits of a key that choose its head: 1 to 32, whatever is asked for
abbrev pub width : ℕ → ℕ
width bits = max 1 (min bits 32)

-- how many heads there are, how many keys share one, and how many levels a search has at most
unfoldable pub heads : ℕ → ℕ
heads bits = 2 ^ width bits

unfoldable pub span : ℕ → ℕ
span bits = 2 ^ (64 - width bits)

unfoldable pub levels : ℕ → ℕ
levels bits = 65 - width bits

-- a number's key: numbers that follow each other, or have equal low bits, have keys far apart
unfoldable pub key : ℕ → ℕ
key n = (n * 0x9e3779b97f4a7c15) % 2 ^ 64

-- the head of a number
unfoldable pub head : ℕ → ℕ → ℕ
head bits n = key n / span bits

-- the highest bit of what is left of a key, and what is then left
abbrev pub bit : ℕ → ℕ → ℕ
bit half rest = cond (nat_le half rest) 1 0

abbrev pub left : ℕ → ℕ → ℕ
left half rest = cond (nat_le half rest) (rest - half) rest

-- how many slots there are: 1 to the capacity
abbrev pub capacity : ℕ → List ℕ → ℕ
capacity bits m = (length m - (heads bits + 6)) / 3

-- the word of a link: links below the heads' number are heads, and heads + 2 * s + b is link b of slot s
abbrev pub word : ℕ → ℕ → ℕ
word bits link = 3 + link + (link + 2 - heads bits) / 2

-- the word of a slot's number
abbrev pub row : ℕ → ℕ → ℕ
row bits slot = heads bits + 3 + 3 * slot

-- a slot, 0 for none: what is no slot counts as none
unfoldable pub slot_of : ℕ → List ℕ → ℕ → ℕ
slot_of bits m v = cond (nat_le v (capacity bits m)) v 0

-- the slot that hangs at a link, 0 for none
unfoldable pub slot_at : ℕ → List ℕ → ℕ → ℕ
slot_at bits m link = slot_of bits m (slice_index m (word bits link))

-- the number of a slot; 0 where it is no slot
unfoldable pub number_at : ℕ → List ℕ → ℕ → ℕ
number_at bits m slot = cond (nat_le slot (capacity bits m)) (slice_index m (row bits slot)) 0

-- the registers
unfoldable pub fresh_at : List ℕ → ℕ
fresh_at m = slice_index m 0

unfoldable pub free_at : ℕ → List ℕ → ℕ
free_at bits m = slot_of bits m (slice_index m 1)

unfoldable pub count_at : List ℕ → ℕ
count_at m = slice_index m 2

-- a slot's two links
abbrev pub child : ℕ → ℕ → ℕ → ℕ
child bits slot b = heads bits + 2 * slot + b

-- a search for n ends at a link that is free or holds n
unfoldable pub rests : (at num : ℕ → ℕ) → ℕ → ℕ → Bool
rests at num n place = at place == 0 || num (at place) == n

-- the search from a link on, for so many levels; a link of no slot where none ends it
unfoldable pub descend : ℕ → (at num : ℕ → ℕ) → ℕ → ℕ → ℕ → ℕ → ℕ → ℕ
descend bits at num n zero half place rest = child bits 0 0
descend bits at num n (suc f) half place rest =
    cond (rests at num n place) place
    (descend bits at num n f (half / 2) (child bits (at place) (bit half rest)) (left half rest))

abbrev pub locate : ℕ → (at num : ℕ → ℕ) → ℕ → ℕ
locate bits at num n = descend bits at num n (levels bits) (span bits / 2) (head bits n) (key n % span bits)

abbrev pub locate_in : ℕ → List ℕ → ℕ → ℕ
locate_in bits m n = locate bits (slot_at bits m) (number_at bits m) n

-- the slot of a number, 0 for none
abbrev pub slot_for : ℕ → List ℕ → ℕ → ℕ
slot_for bits m n = slot_at bits m (locate_in bits m n)

unfoldable pub find_at : ℕ → List ℕ → ℕ → ℕ
find_at bits m n = slot_for bits m n

-- hangs a slot at a link; gives a slot its number; sets a register
unfoldable pub put : ℕ → List ℕ → ℕ → ℕ → List ℕ
put bits m link slot = slice_set m (word bits link) slot

unfoldable pub name_slot : ℕ → List ℕ → ℕ → ℕ → List ℕ
name_slot bits m slot n = slice_set m (row bits slot) n

abbrev pub register : List ℕ → ℕ → ℕ → List ℕ
register m k v = slice_set m k v

-- a number and its slot into the tree
abbrev pub hang : ℕ → List ℕ → ℕ → ℕ → List ℕ
hang bits m n slot = name_slot bits (put bits m (locate_in bits m n) slot) slot n

-- the slot that is taken next, 0 for none: the first free one, else a fresh one
abbrev pub next_slot : ℕ → List ℕ → ℕ
next_slot bits m =
    cond (free_at bits m == 0) (cond (nat_lt (fresh_at m) (capacity bits m)) (fresh_at m + 1) 0) (free_at bits m)

-- a slot that is free, or fresh, is taken
abbrev pub take_slot : ℕ → List ℕ → ℕ → List ℕ
take_slot bits m slot =
    register (cond (free_at bits m == 0) (register m 0 slot) (register m 1 (number_at bits m slot))) 2 (count_at m + 1)

-- the slot that a number gets, 0 for none
abbrev pub slot_to : ℕ → List ℕ → ℕ → ℕ
slot_to bits m n =
    cond (slot_for bits m n == 0) (cond (nat_lt (count_at m) (capacity bits m)) (next_slot bits m) 0) 0

unfoldable pub insert_slot : ℕ → List ℕ → ℕ → ℕ
insert_slot bits m n = slot_to bits m n

abbrev pub insert_row : ℕ → List ℕ → ℕ → List ℕ
insert_row bits m n =
    cond (slot_to bits m n == 0) m (hang bits (take_slot bits m (slot_to bits m n)) n (slot_to bits m n))

unfoldable pub insert_in : ℕ → List ℕ → ℕ → List ℕ
insert_in bits m n = insert_row bits m n

-- a link below a link that a slot hangs at: the left one, else the right one, else 0, which is a head
abbrev pub lower : ℕ → (at : ℕ → ℕ) → ℕ → ℕ
lower bits at place =
    cond (at (child bits (at place) 0) == 0)
    (cond (at (child bits (at place) 1) == 0) 0 (child bits (at place) 1)) (child bits (at place) 0)

-- some leaf below a link
unfoldable pub leaf : ℕ → (at : ℕ → ℕ) → ℕ → ℕ → ℕ
leaf bits at zero place = place
leaf bits at (suc f) place = cond (lower bits at place == 0) place (leaf bits at f (lower bits at place))

-- the slot y, which hangs nowhere, takes the place of x, and its children
unfoldable pub replace : ℕ → List ℕ → ℕ → ℕ → ℕ → List ℕ
replace bits m place x y =
    put bits (put bits (put bits (put bits (put bits m (child bits y 0) (slot_at bits m (child bits x 0))) (child bits y 1) (slot_at bits m (child bits x 1))) (child bits x 0) 0) (child bits x 1) 0) place y

abbrev pub cut_at : ℕ → List ℕ → ℕ → ℕ → List ℕ
cut_at bits m place end =
    cond (end == place) (put bits m end 0)
    (replace bits (put bits m end 0) place (slot_at bits m place) (slot_at bits m end))

-- a number that is there, out of the tree
abbrev pub unhang : ℕ → List ℕ → ℕ → List ℕ
unhang bits m n = cut_at bits m (locate_in bits m n) (leaf bits (slot_at bits m) (levels bits) (locate_in bits m n))

-- a slot that hangs nowhere becomes the first free one
abbrev pub give_slot : ℕ → List ℕ → ℕ → List ℕ
give_slot bits m slot = register (register (name_slot bits m slot (free_at bits m)) 1 slot) 2 (count_at m - 1)

abbrev pub remove_row : ℕ → List ℕ → ℕ → List ℕ
remove_row bits m n = cond (slot_for bits m n == 0) m (give_slot bits (unhang bits m n) (slot_for bits m n))

unfoldable pub remove_in : ℕ → List ℕ → ℕ → List ℕ
remove_in bits m n = remove_row bits m n
