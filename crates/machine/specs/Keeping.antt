-- Properties of the parts that every operation keeps.
use Rattle.std.specs.Prelude.{ℕ}
use Rattle.machine.specs.Interfaces.{Index, Loads, Contents, Parts}
use Rattle.machine.specs.Machine.{State}

-- R holds of the rows and N of the numbers, whatever is done
pub record IndexKeeps (I : Index) (R : I.Rows → Type 0) (N : ℕ → Type 0) : Type 0 where
  pub empty : R I.empty
  pub insert : (i : I.Rows) (n : ℕ) → R i → N n → R (I.insert i n)
  pub remove : (i : I.Rows) (n : ℕ) → R i → N n → R (I.remove i n)
  pub find : (i : I.Rows) (n : ℕ) → R i → N (I.find i n)
  pub takes : (i : I.Rows) (n : ℕ) → R i → N (I.takes i n)
  pub num : (i : I.Rows) (x : ℕ) → R i → N (I.num i x)

pub record LoadsKeep (L : Loads) (R : L.Tree → Type 0) (N : ℕ → Type 0) : Type 0 where
  pub empty : R L.empty
  pub enter : (t : L.Tree) (x : ℕ) → R t → N x → R (L.enter t x)
  pub leave : (t : L.Tree) (x : ℕ) → R t → N x → R (L.leave t x)
  pub add_one : (t : L.Tree) (x : ℕ) → R t → N x → R (L.add_one t x)
  pub take_one : (t : L.Tree) (x : ℕ) → R t → N x → R (L.take_one t x)
  pub emptiest : (t : L.Tree) → R t → N (L.emptiest t)
  pub fullest : (t : L.Tree) → R t → N (L.fullest t)

pub record ContentsKeep (C : Contents) (R : C.Lists → Type 0) (N : ℕ → Type 0) : Type 0 where
  pub empty : R C.empty
  pub add : (c : C.Lists) (x y : ℕ) → R c → N x → N y → R (C.add c x y)
  pub remove : (c : C.Lists) (y : ℕ) → R c → N y → R (C.remove c y)
  pub shelf : (c : C.Lists) (y : ℕ) → R c → N (C.shelf c y)
  pub first : (c : C.Lists) (x : ℕ) → R c → N (C.first c x)

-- a property of each part, and of the numbers
pub record Property (P : Parts) : Type 1 where
  pub goods : P.goods.Rows → Type 0
  pub shelves : P.shelves.Rows → Type 0
  pub loads : P.loads.Tree → Type 0
  pub contents : P.contents.Lists → Type 0
  pub number : ℕ → Type 0

pub record Keep (P : Parts) (R : Property P) : Type 0 where
  pub goods : IndexKeeps P.goods R.goods R.number
  pub shelves : IndexKeeps P.shelves R.shelves R.number
  pub loads : LoadsKeep P.loads R.loads R.number
  pub contents : ContentsKeep P.contents R.contents R.number
  pub zero : R.number 0
  pub one : R.number 1
  pub two : R.number 2
  pub three : R.number 3

-- it holds of a state
pub record Kept (P : Parts) (R : Property P) (m : State P) : Type 0 where
  pub phase : R.number m.phase
  pub subject : R.number m.subject
  pub goods : R.goods m.goods
  pub shelves : R.shelves m.shelves
  pub loads : R.loads m.loads
  pub contents : R.contents m.contents
