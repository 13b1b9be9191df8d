-- Goods on shelves: when a store is fine and level, which commands are refused, and how few goods each command has to move.
use Rattle.std.specs.Prelude.{ℕ, suc, ◌/◌, Bool, true, false, not, ◌&&◌, leb, List, [], ◌∷◌, ◌++◌, length, ◌==◌, nat_eq, nat_le}

-- the first where the test holds, the second where it doesn't
abbrev pub pick : {A : Type 0} → Bool → A → A → A
pick true a b = a
pick false a b = b

-- at least one of the two
abbrev pub or : Bool → Bool → Bool
or true b = true
or false b = b

-- all of the list pass the test
unfoldable pub every : {A : Type 0} → (A → Bool) → List A → Bool
every f [] = true
every f (x ∷ xs) = f x && every f xs

-- one of the list, or more, passes it
unfoldable pub any : {A : Type 0} → (A → Bool) → List A → Bool
any f [] = false
any f (x ∷ xs) = or (f x) (any f xs)

-- those of the list that pass it, in their order
unfoldable pub those : {A : Type 0} → (A → Bool) → List A → List A
those f [] = []
those f (x ∷ xs) = pick (f x) (x ∷ those f xs) (those f xs)

-- what the function makes of each
unfoldable pub each : {A B : Type 0} → (A → B) → List A → List B
each f [] = []
each f (x ∷ xs) = f x ∷ each f xs

-- the list is empty
unfoldable pub none_of : {A : Type 0} → List A → Bool
none_of [] = true
none_of (x ∷ xs) = false

-- a good and the shelf that it is on
pub record Spot : Type 0 where
  pub good : ℕ
  pub shelf : ℕ

-- the shelves that there are, and where each good is
pub record Store : Type 0 where
  pub shelves : List ℕ
  pub spots : List Spot

-- the number is in the list
abbrev pub has : List ℕ → ℕ → Bool
has ks k = any (nat_eq k) ks

-- the goods that there are
abbrev pub goods : Store → List ℕ
goods s = each (λ p. p.good) s.spots

-- how many goods are on a shelf
abbrev pub load : Store → ℕ → ℕ
load s k = length (those (λ p. nat_eq p.shelf k) s.spots)

-- no number is in the list twice
unfoldable pub distinct : List ℕ → Bool
distinct [] = true
distinct (k ∷ ks) = not (has ks k) && distinct ks

-- each shelf is there once, and each good once, on a shelf that is there
abbrev pub fine : Store → Bool
fine s = (distinct s.shelves && distinct (goods s)) && every (λ p. has s.shelves p.shelf) s.spots

-- no shelf has two more than another
abbrev pub level : Store → Bool
level s = every (λ k. every (λ j. leb (load s k) (suc (load s j))) s.shelves) s.shelves

-- the shelf of a good, as a list: of one, or of none where the good isn't there
unfoldable pub shelf_of : List Spot → ℕ → List ℕ
shelf_of [] g = []
shelf_of (p ∷ ps) g = pick (p.good == g) (p.shelf ∷ []) (shelf_of ps g)

-- both lists are empty, or they begin with the same number
unfoldable pub same_one : List ℕ → List ℕ → Bool
same_one [] bs = none_of bs
same_one (a ∷ as₁) [] = false
same_one (a ∷ as₁) (b ∷ bs) = a == b

-- the goods of the first store that are in the second too, on another shelf
abbrev pub moved : Store → Store → List ℕ
moved s t = those (λ g. not (same_one (shelf_of s.spots g) (shelf_of t.spots g)) && not (none_of (shelf_of t.spots g))) (goods s)

-- what can be told: a good comes or goes, a shelf comes or goes, where is a good?
pub data Command : Type 0 where
  comes : ℕ → Command
  goes : ℕ → Command
  shelf_comes : ℕ → Command
  shelf_goes : ℕ → Command
  where_is : ℕ → Command

-- which refusal, 0 for none: 3, it isn't there; 4, it is already; 5, no shelf; 6, the last shelf, and there are goods; 7, too many
unfoldable pub refusal : Store → Command → ℕ
refusal s (comes g) = pick (has (goods s) g) 4 (pick (none_of s.shelves) 5 (pick (nat_le 32768 (length s.spots)) 7 0))
refusal s (goes g) = pick (has (goods s) g) 0 3
refusal s (shelf_comes k) = pick (has s.shelves k) 4 (pick (nat_le 1024 (length s.shelves)) 7 0)
refusal s (shelf_goes k) = pick (has s.shelves k) (pick (length s.shelves == 1 && not (none_of s.spots)) 6 0) 3
refusal s (where_is g) = pick (has (goods s) g) 0 3

-- the goods that there have to be after the command
unfoldable pub goods_after : Store → Command → List ℕ
goods_after s (comes g) = goods s ++ g ∷ []
goods_after s (goes g) = those (λ j. not (j == g)) (goods s)
goods_after s (shelf_comes k) = goods s
goods_after s (shelf_goes k) = goods s
goods_after s (where_is g) = goods s

-- the shelves that there have to be after it
unfoldable pub shelves_after : Store → Command → List ℕ
shelves_after s (comes g) = s.shelves
shelves_after s (goes g) = s.shelves
shelves_after s (shelf_comes k) = s.shelves ++ k ∷ []
shelves_after s (shelf_goes k) = those (λ j. not (j == k)) s.shelves
shelves_after s (where_is g) = s.shelves

-- the same numbers are in both lists
abbrev pub same_set : List ℕ → List ℕ → Bool
same_set as₁ bs = every (has bs) as₁ && every (has as₁) bs

-- a store that may be there after the command
abbrev pub may_be : Store → Command → Store → Bool
may_be s c t = (fine t && level t) && (same_set (goods t) (goods_after s c) && same_set t.shelves (shelves_after s c))

-- what is told of a put: a good, and the shelf that it is put on; a good that comes is put too
pub record Move : Type 0 where
  pub good : ℕ
  pub to : ℕ

-- a put, from its two parts
abbrev pub put : ℕ → ℕ → Move
put g k = record { good = g; to = k }

-- one good put on a shelf, taken from where it was
unfoldable pub put_spot : List Spot → ℕ → ℕ → List Spot
put_spot [] g k = record { good = g; shelf = k } ∷ []
put_spot (p ∷ ps) g k = pick (p.good == g) (record { good = g; shelf = k } ∷ ps) (p ∷ put_spot ps g k)

-- several, one after the other
unfoldable pub put_all : List Spot → List Move → List Spot
put_all ps [] = ps
put_all ps (m ∷ ms) = put_all (put_spot ps m.good m.to) ms

-- where the goods are before anything is put: a good that goes has left
unfoldable pub left_spots : Store → Command → List Spot
left_spots s (comes g) = s.spots
left_spots s (goes g) = those (λ p. not (p.good == g)) s.spots
left_spots s (shelf_comes k) = s.spots
left_spots s (shelf_goes k) = s.spots
left_spots s (where_is g) = s.spots

-- the store after the command, as what was put makes it
abbrev pub after : Store → Command → List Move → Store
after s c ms = record { shelves = shelves_after s c; spots = put_all (left_spots s c) ms }

-- the quotient, 0 where there is nothing to divide by
abbrev pub divided : ℕ → ℕ → ℕ
divided n m = pick (m == 0) 0 (n / m)

-- some shelf has just so many goods
abbrev pub is_full : Store → ℕ → Bool
is_full s n = any (λ k. nat_eq (load s k) n) s.shelves

-- the first of a list, 0 where it is empty
unfoldable pub one : List ℕ → ℕ
one [] = 0
one (k ∷ ks) = k

-- how few of the goods that were there have to be moved
unfoldable pub fewest : Store → Command → ℕ
fewest s (comes g) = 0
fewest s (goes g) = pick (is_full s (suc (load s (one (shelf_of s.spots g))))) 1 0
fewest s (shelf_comes k) = divided (length s.spots) (suc (length s.shelves))
fewest s (shelf_goes k) = load s k
fewest s (where_is g) = 0

-- the answer to a question: the good, on the shelf where it is
unfoldable pub told : Store → Command → List Move
told s (comes g) = []
told s (goes g) = []
told s (shelf_comes k) = []
told s (shelf_goes k) = []
told s (where_is g) = each (λ k. record { good = g; to = k }) (shelf_of s.spots g)

-- the command is a question, and changes nothing
unfoldable pub asks : Command → Bool
asks (comes g) = false
asks (goes g) = false
asks (shelf_comes k) = false
asks (shelf_goes k) = false
asks (where_is g) = true
