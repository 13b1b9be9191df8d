-- What holds of a sound region, and what each change makes of it.
use Rattle.std.specs.Prelude.{◌≡◌, ℕ, suc, ◌+◌, ◌-◌, ◌<◌, ◌≤◌, Bool, false, ◌≢◌, ◌⊎◌, List, length, replicate, slice_index}
use Rattle.words.specs.Small.{Small, Kept}
use Rattle.loads_model.specs.Model.{load_at, emptier, fuller, tree, replay, emptiest_at, fullest_at, enter_at, leave_at, add_one_at, take_one_at}
use Rattle.loads_model.specs.Sound.{Ranked, Held, Sound, There, Weak, Order}

-- no shelf is there and the answer is 0, or the answer is there and no shelf that is there has less; of equal loads, the lower slot
abbrev pub EmptiestLaw : Type 0
EmptiestLaw = (m : List ℕ) → Sound m →
    ((emptiest_at m ≡ 0) × ((x : ℕ) → There m x → ⊥))
    ⊎ (There m (emptiest_at m) × ((x : ℕ) → There m x →
    (load_at m (emptiest_at m) ≤ load_at m x) × (load_at m x ≡ load_at m (emptiest_at m) → emptiest_at m ≤ x)))

-- no shelf is there and the answer is 0, or the answer is there and no shelf that is there has more; of equal loads, the lower slot
abbrev pub FullestLaw : Type 0
FullestLaw = (m : List ℕ) → Sound m →
    ((fullest_at m ≡ 0) × ((x : ℕ) → There m x → ⊥))
    ⊎ (There m (fullest_at m) × ((x : ℕ) → There m x →
    (load_at m x ≤ load_at m (fullest_at m)) × (load_at m x ≡ load_at m (fullest_at m) → fullest_at m ≤ x)))

abbrev pub Both : Type 0 → Type 0 → Type 0
Both P Q = (P → Q) × (Q → P)

-- n is m but for the slot x, which has this load now; n is sound
pub record SetAt (m n : List ℕ) (x load : ℕ) : Type 0 where
  pub sound : Sound n
  pub here : load_at n x ≡ load
  pub others : (y : ℕ) → y ≢ x → load_at n y ≡ load_at m y
  pub stay : (y : ℕ) → y ≢ x → Both (There m y) (There n y)

abbrev pub EnterLaw : Type 0
EnterLaw = (m : List ℕ) (x : ℕ) → Sound m → 0 < x → x ≤ 1024 → SetAt m (enter_at m x) x 0 × There (enter_at m x) x

abbrev pub LeaveLaw : Type 0
LeaveLaw = (m : List ℕ) (x : ℕ) → Sound m → 0 < x → x ≤ 1024 → SetAt m (leave_at m x) x 0 × (There (leave_at m x) x → ⊥)

abbrev pub AddOneLaw : Type 0
AddOneLaw = (m : List ℕ) (x : ℕ) → Sound m → 0 < x → x ≤ 1024 → load_at m x < 18446744073709551615 →
    SetAt m (add_one_at m x) x (suc (load_at m x)) × Both (There m x) (There (add_one_at m x) x)

abbrev pub TakeOneLaw : Type 0
TakeOneLaw = (m : List ℕ) (x : ℕ) → Sound m → 0 < x → x ≤ 1024 →
    SetAt m (take_one_at m x) x (load_at m x - 1) × Both (There m x) (There (take_one_at m x) x)

-- for every change: it keeps a region sound
abbrev pub SoundLaw : (List ℕ → ℕ → List ℕ) → Type 0
SoundLaw change = (m : List ℕ) (x : ℕ) → Sound m → Sound (change m x)

-- at what is no slot it changes nothing
abbrev pub ElsewhereLaw : (List ℕ → ℕ → List ℕ) → Type 0
ElsewhereLaw change = (m : List ℕ) (x : ℕ) → (x ≡ 0) ⊎ (1024 < x) → change m x ≡ m

-- any memory stays as long as it was, and one of 64-bit words
abbrev pub KeptLaw : (List ℕ → ℕ → List ℕ) → Type 0
KeptLaw change = (m : List ℕ) (x : ℕ) → Kept m (change m x)

-- so for each of the four
abbrev pub EachChange : ((List ℕ → ℕ → List ℕ) → Type 0) → Type 0
EachChange Law = Law enter_at × Law leave_at × Law add_one_at × Law take_one_at

-- answers fit 64 bits
abbrev pub SmallLaw : Type 0
SmallLaw = (m : List ℕ) → Small m → (emptiest_at m < 18446744073709551616) × (fullest_at m < 18446744073709551616) × ((x : ℕ) → load_at m x < 18446744073709551616)

-- a shelf that is there has a slot
abbrev pub ThereLaw : Type 0
ThereLaw = (m : List ℕ) (x : ℕ) → There m x → (0 < x) × (x ≤ 1024)

-- zeros are sound: no shelf is there
abbrev pub ZerosLaw : Type 0
ZerosLaw = (m : List ℕ) → 5120 < length m → ((i : ℕ) → slice_index m i ≡ 0) → Sound m × ((x : ℕ) → There m x → ⊥)

abbrev pub EmptyLaw : Type 0
EmptyLaw = Sound (replicate 5121 0) × ((x : ℕ) → There (replicate 5121 0) x → ⊥)

-- both comparisons are orders
abbrev pub OrderLaw : Type 0
OrderLaw = Order emptier × Order fuller

-- a tree that is ranked by any strict weak order: no slot is held and the root is 0, or the root is held, no held slot goes before it, and of equals it is the lowest
abbrev pub RootLaw : Type 0
RootLaw = (before : ℕ → ℕ → Bool) (at : ℕ → ℕ) → Weak before → Ranked before at →
    ((at 1 ≡ 0) × ((s : ℕ) → Held at s → ⊥))
    ⊎ (Held at (at 1) × ((s : ℕ) → Held at s → (before s (at 1) ≡ false) × (before (at 1) s ≡ false → at 1 ≤ s)))

-- a tree anywhere past the loads, by any order: where it was ranked in m and only the load of s changed since, a replay, which stops early, ranks it again
abbrev pub ReplayLaw : Type 0
ReplayLaw = (before : List ℕ → ℕ → ℕ → Bool) (base : ℕ) (m n : List ℕ) (s mark : ℕ) → Order before → 1024 < base → base + 2047 < length n →
    0 < s → s ≤ 1024 → (mark ≡ s) ⊎ (mark ≡ 0) →
    Ranked (before m) (tree base m) → ((q : ℕ) → tree base n q ≡ tree base m q) → ((x : ℕ) → x ≢ s → load_at n x ≡ load_at m x) →
    Ranked (before (replay before base n s mark)) (tree base (replay before base n s mark))
