-- What the machine asks of an index, of loads and of contents: the operations, and the laws they are to obey.
use Rattle.std.specs.Prelude.{◌≡◌, ℕ, suc, ◌-◌, ◌<◌, ◌≤◌, ◌≢◌}

-- rows found by their numbers: slots count from 1, and 0 is none
pub record Index : Type 1 where
  pub Rows : Type 0
  pub empty : Rows
  pub find : Rows → ℕ → ℕ
  pub num : Rows → ℕ → ℕ
  pub count : Rows → ℕ
  pub takes : Rows → ℕ → ℕ  -- the slot that insert gives a number
  pub insert : Rows → ℕ → Rows
  pub remove : Rows → ℕ → Rows

-- shelves by their loads: slots count from 1, and 0 is none
pub record Loads : Type 1 where
  pub Tree : Type 0
  pub empty : Tree
  pub load : Tree → ℕ → ℕ
  pub emptiest : Tree → ℕ
  pub fullest : Tree → ℕ
  pub enter : Tree → ℕ → Tree
  pub leave : Tree → ℕ → Tree
  pub add_one : Tree → ℕ → Tree
  pub take_one : Tree → ℕ → Tree

-- what is on each shelf: a good's shelf, the first good of a shelf
pub record Contents : Type 1 where
  pub Lists : Type 0
  pub empty : Lists
  pub shelf : Lists → ℕ → ℕ
  pub first : Lists → ℕ → ℕ
  pub add : Lists → ℕ → ℕ → Lists
  pub remove : Lists → ℕ → Lists

-- an index with slots up to room
pub record IndexLaws (room : ℕ) (I : Index) : Type 1 where
  pub Sound : I.Rows → Type 0
  pub bounded : (i : I.Rows) (n : ℕ) → Sound i → I.find i n ≤ room
  pub named : (i : I.Rows) (n : ℕ) → Sound i → 0 < I.find i n → I.num i (I.find i n) ≡ n
  pub empty_sound : Sound I.empty
  pub empty_find : (n : ℕ) → I.find I.empty n ≡ 0
  pub empty_count : I.count I.empty ≡ 0
  pub insert_sound : (i : I.Rows) (n : ℕ) → Sound i → n < 18446744073709551616 → I.find i n ≡ 0 → I.count i < room → Sound (I.insert i n)
  pub insert_takes : (i : I.Rows) (n : ℕ) → Sound i → n < 18446744073709551616 → I.find i n ≡ 0 → I.count i < room →
      (0 < I.takes i n) × (I.find (I.insert i n) n ≡ I.takes i n)
  pub insert_full : (i : I.Rows) (n : ℕ) → Sound i → room ≤ I.count i → I.takes i n ≡ 0
  pub insert_others : (i : I.Rows) (n m : ℕ) → Sound i → n < 18446744073709551616 → I.find i n ≡ 0 → I.count i < room → m ≢ n → I.find (I.insert i n) m ≡ I.find i m
  pub insert_count : (i : I.Rows) (n : ℕ) → Sound i → n < 18446744073709551616 → I.find i n ≡ 0 → I.count i < room → I.count (I.insert i n) ≡ suc (I.count i)
  pub remove_sound : (i : I.Rows) (n : ℕ) → Sound i → 0 < I.find i n → Sound (I.remove i n)
  pub remove_gone : (i : I.Rows) (n : ℕ) → Sound i → 0 < I.find i n → I.find (I.remove i n) n ≡ 0
  pub remove_others : (i : I.Rows) (n m : ℕ) → Sound i → 0 < I.find i n → m ≢ n → I.find (I.remove i n) m ≡ I.find i m
  pub remove_count : (i : I.Rows) (n : ℕ) → Sound i → 0 < I.find i n → suc (I.count (I.remove i n)) ≡ I.count i

-- u is t but for the slot x, which has the load n now; u is sound
pub record SetAt (L : Loads) (Sound : L.Tree → Type 0) (There : L.Tree → ℕ → Type 0) (t u : L.Tree) (x n : ℕ) : Type 0 where
  pub sound : Sound u
  pub here : L.load u x ≡ n
  pub others : (y : ℕ) → y ≢ x → L.load u y ≡ L.load t y
  pub stay : (y : ℕ) → y ≢ x → (There t y → There u y) × (There u y → There t y)

-- loads of shelves with slots up to room
pub record LoadsLaws (room : ℕ) (L : Loads) : Type 1 where
  pub Sound : L.Tree → Type 0
  pub There : L.Tree → ℕ → Type 0
  pub empty_sound : Sound L.empty
  pub empty_none : (x : ℕ) → There L.empty x → ⊥
  pub emptiest_there : (t : L.Tree) → Sound t → 0 < L.emptiest t → There t (L.emptiest t)
  pub emptiest_least : (t : L.Tree) (x : ℕ) → Sound t → There t x → There t (L.emptiest t) × (L.load t (L.emptiest t) ≤ L.load t x)
  pub fullest_most : (t : L.Tree) (x : ℕ) → Sound t → There t x → There t (L.fullest t) × (L.load t x ≤ L.load t (L.fullest t))
  pub enters : (t : L.Tree) (x : ℕ) → Sound t → 0 < x → x ≤ room → SetAt L Sound There t (L.enter t x) x 0 × There (L.enter t x) x
  pub leaves : (t : L.Tree) (x : ℕ) → Sound t → 0 < x → x ≤ room → SetAt L Sound There t (L.leave t x) x 0 × (There (L.leave t x) x → ⊥)
  pub adds : (t : L.Tree) (x : ℕ) → Sound t → 0 < x → x ≤ room → L.load t x < 18446744073709551615 →
      SetAt L Sound There t (L.add_one t x) x (suc (L.load t x)) × (There t x → There (L.add_one t x) x)
  pub takes : (t : L.Tree) (x : ℕ) → Sound t → 0 < x → x ≤ room → SetAt L Sound There t (L.take_one t x) x (L.load t x - 1) × (There t x → There (L.take_one t x) x)

-- contents with slots of goods up to room and of shelves up to wide
pub record ContentsLaws (room wide : ℕ) (C : Contents) : Type 1 where
  pub Sound : C.Lists → Type 0
  pub empty_sound : Sound C.empty
  pub empty_shelf : (y : ℕ) → C.shelf C.empty y ≡ 0
  pub first_some : (c : C.Lists) (y : ℕ) → Sound c → 0 < C.shelf c y → 0 < C.first c (C.shelf c y)
  pub first_on : (c : C.Lists) (x : ℕ) → Sound c → 0 < x → x ≤ wide → 0 < C.first c x → C.shelf c (C.first c x) ≡ x
  pub add_sound : (c : C.Lists) (x y : ℕ) → Sound c → 0 < x → x ≤ wide → 0 < y → y ≤ room → C.shelf c y ≡ 0 → Sound (C.add c x y)
  pub add_here : (c : C.Lists) (x y : ℕ) → Sound c → 0 < x → x ≤ wide → 0 < y → y ≤ room → C.shelf c y ≡ 0 → C.shelf (C.add c x y) y ≡ x
  pub add_others : (c : C.Lists) (x y z : ℕ) → Sound c → 0 < x → x ≤ wide → 0 < y → y ≤ room → C.shelf c y ≡ 0 → z ≢ y → C.shelf (C.add c x y) z ≡ C.shelf c z
  pub remove_sound : (c : C.Lists) (y : ℕ) → Sound c → 0 < C.shelf c y → Sound (C.remove c y)
  pub remove_here : (c : C.Lists) (y : ℕ) → Sound c → 0 < C.shelf c y → C.shelf (C.remove c y) y ≡ 0
  pub remove_others : (c : C.Lists) (y z : ℕ) → Sound c → 0 < C.shelf c y → z ≢ y → C.shelf (C.remove c y) z ≡ C.shelf c z

-- the machine's four parts
pub record Parts : Type 1 where
  pub goods : Index
  pub shelves : Index
  pub loads : Loads
  pub contents : Contents

-- for 32,768 goods and 1,024 shelves
pub record Laws (P : Parts) : Type 1 where
  pub goods : IndexLaws 32768 P.goods
  pub shelves : IndexLaws 1024 P.shelves
  pub loads : LoadsLaws 1024 P.loads
  pub contents : ContentsLaws 32768 1024 P.contents
