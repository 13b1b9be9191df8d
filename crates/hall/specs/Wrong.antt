-- Rules that fail, each shown on a small store not to make a change.
use Rattle.std.specs.Prelude.{◌≡◌, ℕ, ◌%◌, true, false, List, [], ◌∷◌, length, slice_index}
use Rattle.hall.specs.House.{every, each, Spot, Store, fine, level, moved, Command, shelf_comes, shelf_goes, refusal, may_be, Move, put, left_spots, after, fewest}
use Rattle.hall.specs.Claims.{once, changes, Changed}

-- a good on a shelf
abbrev pub spot : ℕ → ℕ → Spot
spot g k = record { good = g; shelf = k }

-- shelves 10 and 20, with goods 1 and 2 on the one, and 3 and 4 on the other
abbrev pub two_each : Store
two_each = record { shelves = 10 ∷ 20 ∷ []; spots = spot 1 10 ∷ spot 2 10 ∷ spot 3 20 ∷ spot 4 20 ∷ [] }

-- goods 1 to 3 on the one, and 4 to 6 on the other
abbrev pub three_each : Store
three_each = record { shelves = 10 ∷ 20 ∷ []; spots = spot 1 10 ∷ spot 2 10 ∷ spot 3 10 ∷ spot 4 20 ∷ spot 5 20 ∷ spot 6 20 ∷ [] }

-- shelves 10, 20 and 30 with one good, one, and two
abbrev pub one_one_two : Store
one_one_two = record { shelves = 10 ∷ 20 ∷ 30 ∷ []; spots = spot 1 10 ∷ spot 2 20 ∷ spot 3 30 ∷ spot 4 30 ∷ [] }

-- each good on the shelf whose place is the remainder of the good's number divided by how many shelves there are
abbrev pub by_remainders : List ℕ → List ℕ → Store
by_remainders ks gs = record { shelves = ks; spots = each (λ g. spot g (slice_index ks (g % length ks))) gs }

-- goods 0 to 5, so, on two shelves and on three
abbrev pub six_on_two : Store
six_on_two = by_remainders (10 ∷ 20 ∷ []) (0 ∷ 1 ∷ 2 ∷ 3 ∷ 4 ∷ 5 ∷ [])

abbrev pub six_on_three : Store
six_on_three = by_remainders (10 ∷ 20 ∷ 30 ∷ []) (0 ∷ 1 ∷ 2 ∷ 3 ∷ 4 ∷ 5 ∷ [])

-- the command isn't refused, in a store that is fine and level, and what is put is no change
abbrev pub Fails : Store → Command → List Move → Type 0
Fails s c ms = (fine s ≡ true) × (level s ≡ true) × (refusal s c ≡ 0) × (Changed s c ms → ⊥)

-- the store afterwards may be there, with as few moved as can be
abbrev pub EndsWell : Store → Command → List Move → Type 0
EndsWell s c ms = (may_be s c (after s c ms) ≡ true) × (length (moved s (after s c ms)) ≡ fewest s c)

-- the table of rules that fail
pub record Wrong : Type 0 where
  -- working out anew, by remainders, where everything belongs: whatever is put to get there, four are moved where two would do
  pub anew_by_remainders :
      (after six_on_two (shelf_comes 30) (put 2 30 ∷ put 3 10 ∷ put 4 20 ∷ put 5 30 ∷ []) ≡ six_on_three)
      × ((ms : List Move) → after six_on_two (shelf_comes 30) ms ≡ six_on_three → Fails six_on_two (shelf_comes 30) ms)
      × (fewest six_on_two (shelf_comes 30) ≡ 2) × (length (moved six_on_two six_on_three) ≡ 4)
  -- a new shelf that gets its share from one neighbour: that one has two fewer than the other then
  pub share_of_one :
      Fails three_each (shelf_comes 30) (put 1 30 ∷ put 2 30 ∷ []) × (level (after three_each (shelf_comes 30) (put 1 30 ∷ put 2 30 ∷ [])) ≡ false)
  -- a shelf's goods sent all to the emptiest, which is then the fullest, with two more
  pub all_to_emptiest :
      Fails one_one_two (shelf_goes 30) (put 3 10 ∷ put 4 10 ∷ []) × (level (after one_one_two (shelf_goes 30) (put 3 10 ∷ put 4 10 ∷ [])) ≡ false)
  -- evening out one more than has to be: the store afterwards may be there, with two moved where one would do
  pub one_too_many :
      Fails two_each (shelf_comes 30) (put 1 30 ∷ put 3 30 ∷ [])
      × (may_be two_each (shelf_comes 30) (after two_each (shelf_comes 30) (put 1 30 ∷ put 3 30 ∷ [])) ≡ true)
      × (fewest two_each (shelf_comes 30) ≡ 1) × (length (moved two_each (after two_each (shelf_comes 30) (put 1 30 ∷ put 3 30 ∷ []))) ≡ 2)
  -- a good that is put twice, though it ends well
  pub put_twice :
      Fails two_each (shelf_comes 30) (put 1 20 ∷ put 1 30 ∷ [])
      × EndsWell two_each (shelf_comes 30) (put 1 20 ∷ put 1 30 ∷ []) × (once (put 1 20 ∷ put 1 30 ∷ []) ≡ false)
  -- a good that is put where it stands, though it ends well
  pub put_where_it_stands :
      Fails two_each (shelf_comes 30) (put 1 30 ∷ put 3 20 ∷ [])
      × EndsWell two_each (shelf_comes 30) (put 1 30 ∷ put 3 20 ∷ [])
      × (every (changes (left_spots two_each (shelf_comes 30))) (put 1 30 ∷ put 3 20 ∷ []) ≡ false)
