-- The laws of the index, in the words of its users: what find says after each change.
use Rattle.std.specs.Prelude.{◌≡◌, ℕ, ◌+◌, ◌*◌, ◌%◌, ◌^◌, ◌<◌, ◌≤◌, ◌≢◌, ◌⊎◌, List, length, Some, None, Option, slice_index}
use Rattle.words.specs.Small.{Small, Kept}
use Rattle.index_model.specs.Model.{width, capacity, key, number_at, count_at, find_at, insert_slot, insert_in, remove_in}
use Rattle.index_model.specs.Sound.{SoundIn, Inside, Distinct}

-- the number of a key
abbrev pub number_of_key : ℕ → ℕ
number_of_key k = (k * 0xf1de83e19937733d) % 2 ^ 64

-- each key is that of one number
abbrev pub KeyLaw : Type 0
KeyLaw = (n : ℕ) → n < 2 ^ 64 → (number_of_key (key n) ≡ n) × (key (number_of_key n) ≡ n)

-- zeros are sound, and hold no number
pub record Empty (bits : ℕ) (m : List ℕ) : Type 0 where
  pub sound : SoundIn bits m
  pub bare : (n : ℕ) → find_at bits m n ≡ 0
  pub none : count_at m ≡ 0

abbrev pub EmptyLaw : Type 0
EmptyLaw = (bits : ℕ) (m : List ℕ) → ((p : ℕ) → slice_index m p ≡ 0) → Empty bits m

-- what is found is a slot that has the number, which fits 64 bits
pub record Held (bits : ℕ) (m : List ℕ) (n : ℕ) : Type 0 where
  pub number : number_at bits m (find_at bits m n) ≡ n
  pub fits : n < 2 ^ 64

abbrev pub FoundLaw : Type 0
FoundLaw = (bits : ℕ) (m : List ℕ) (n : ℕ) → SoundIn bits m → 0 < find_at bits m n → Held bits m n

-- two numbers are never at one slot
abbrev pub ApartLaw : Type 0
ApartLaw =
    (bits : ℕ) (m : List ℕ) (n k : ℕ) → SoundIn bits m → 0 < find_at bits m n → find_at bits m n ≡ find_at bits m k → n ≡ k

-- the count is how many numbers are found
pub record Counted (bits : ℕ) (m : List ℕ) : Type 0 where
  pub numbers : List ℕ
  pub once : Distinct numbers
  pub found : (n : ℕ) → Inside n numbers → 0 < find_at bits m n
  pub all : (n : ℕ) → 0 < find_at bits m n → Inside n numbers
  pub count : count_at m ≡ length numbers
  pub room : count_at m ≤ capacity bits m

abbrev pub CountLaw : Type 0
CountLaw = (bits : ℕ) (m : List ℕ) → SoundIn bits m → Counted bits m

-- a number has come in, at a slot that no number had
pub record Inserted (bits : ℕ) (m l : List ℕ) (n s : ℕ) : Type 0 where
  pub sound : SoundIn bits l
  pub some : 0 < s
  pub found : find_at bits l n ≡ s
  pub unused : (k : ℕ) → find_at bits m k ≢ s
  pub others : (k : ℕ) → k ≢ n → find_at bits l k ≡ find_at bits m k
  pub counted : count_at l ≡ count_at m + 1

-- a new number comes in as long as there is room
abbrev pub InsertLaw : Type 0
InsertLaw =
    (bits : ℕ) (m : List ℕ) (n : ℕ) → SoundIn bits m → n < 2 ^ 64 → find_at bits m n ≡ 0 → count_at m < capacity bits m
    → Inserted bits m (insert_in bits m n) n (insert_slot bits m n)

-- a number has gone
pub record Removed (bits : ℕ) (m l : List ℕ) (n : ℕ) : Type 0 where
  pub sound : SoundIn bits l
  pub gone : find_at bits l n ≡ 0
  pub others : (k : ℕ) → k ≢ n → find_at bits l k ≡ find_at bits m k
  pub counted : count_at m ≡ count_at l + 1

abbrev pub RemoveLaw : Type 0
RemoveLaw =
    (bits : ℕ) (m : List ℕ) (n : ℕ) → SoundIn bits m → 0 < find_at bits m n → Removed bits m (remove_in bits m n) n

-- what a call of insert told, and left: a number that was not there is in; or nothing changed, since it is there or there is no room
abbrev pub InsertTells : ℕ → List ℕ → ℕ → Option ℕ → List ℕ → Type 0
InsertTells bits m n (Some s) l = (find_at bits m n ≡ 0) × Inserted bits m l n s
InsertTells bits m n None l = (l ≡ m) × ((0 < find_at bits m n) ⊎ (capacity bits m ≤ count_at m))

-- what a call of remove told, and left: a number that was there has gone; or nothing changed, since it is not there
abbrev pub RemoveTells : ℕ → List ℕ → ℕ → Option ℕ → List ℕ → Type 0
RemoveTells bits m n (Some s) l = (find_at bits m n ≡ s) × Removed bits m l n
RemoveTells bits m n None l = (l ≡ m) × (find_at bits m n ≡ 0)

-- whatever the memory holds: where the number is there, or there is no room, no slot is told; where none is told, nothing changes
pub record Refused (bits : ℕ) (m : List ℕ) (n : ℕ) : Type 0 where
  pub there : 0 < find_at bits m n → insert_slot bits m n ≡ 0
  pub full : capacity bits m ≤ count_at m → insert_slot bits m n ≡ 0
  pub same : insert_slot bits m n ≡ 0 → insert_in bits m n ≡ m
  pub absent : find_at bits m n ≡ 0 → remove_in bits m n ≡ m

abbrev pub RefuseLaw : Type 0
RefuseLaw = (bits : ℕ) (m : List ℕ) (n : ℕ) → Refused bits m n

-- the words that so many rows take
abbrev pub RoomLaw : Type 0
RoomLaw =
    (bits : ℕ) (m : List ℕ) (rows : ℕ) → length m ≡ 2 ^ width bits + 3 * (rows + 1) + 3 → capacity bits m ≡ rows

-- whatever the memory holds: slots are within the capacity, and the memory stays as long as it was
pub record Bounded (bits : ℕ) (m : List ℕ) (n : ℕ) : Type 0 where
  pub found : find_at bits m n ≤ capacity bits m
  pub told : insert_slot bits m n ≤ capacity bits m
  pub insert : length (insert_in bits m n) ≡ length m
  pub remove : length (remove_in bits m n) ≡ length m

abbrev pub BoundLaw : Type 0
BoundLaw = (bits : ℕ) (m : List ℕ) (n : ℕ) → Bounded bits m n

-- whatever the memory holds: words of 64 bits give and stay words of 64 bits
pub record Narrow (bits : ℕ) (m : List ℕ) (n : ℕ) : Type 0 where
  pub found : Small m → find_at bits m n < 2 ^ 64
  pub number : Small m → number_at bits m n < 2 ^ 64
  pub insert : length m < 2 ^ 64 → n < 2 ^ 64 → Kept m (insert_in bits m n)
  pub remove : Kept m (remove_in bits m n)

abbrev pub NarrowLaw : Type 0
NarrowLaw = (bits : ℕ) (m : List ℕ) (n : ℕ) → Narrow bits m n
