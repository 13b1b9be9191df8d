-- When a state of the machine holds a store: pointwise, up to the order of the lists.
use Rattle.std.specs.Prelude.{◌≡◌, ℕ, ◌<◌, ◌≤◌, true, List, [], ◌∷◌, length, nat_lt}
use Rattle.hall.specs.House.{has, Spot, Store, Command, Move, refusal, asks}
use Rattle.hall.specs.Promise.{Event, said, next, puts, done, refused, EitherGreedy, then_store}
use Rattle.hall.specs.Greedy.{on, at, goods_of}
use Rattle.machine.specs.Interfaces.{Parts, Laws}
use Rattle.machine.specs.Machine.{State, turn, turn_of}

module _ (P : Parts) where
  -- told ev, and then next until it is done, the machine m makes these puts, and is n at the end
  abbrev pub Tells : State P → Event → List Move → State P → Type 0
  Tells m ev [] n = turn_of P m ev ≡ turn P n done
  Tells m ev (v ∷ ms) n = (m₁ : State P) × (turn_of P m ev ≡ turn P m₁ (puts v.good v.to)) × Tells m₁ next ms n

module _ (P : Parts) (Q : Laws P) where
  -- the rows of goods and shelves and the contents: the goods of ps, each on its shelf, and the shelves ks
  pub record Stands (i : P.goods.Rows) (r : P.shelves.Rows) (c : P.contents.Lists) (ks : List ℕ) (ps : List Spot) : Type 0 where
    pub goods_sound : Q.goods.Sound i
    pub shelves_sound : Q.shelves.Sound r
    pub contents_sound : Q.contents.Sound c
    pub goods_there : (g : ℕ) → has (goods_of ps) g ≡ nat_lt 0 (P.goods.find i g)
    pub shelves_there : (k : ℕ) → has ks k ≡ nat_lt 0 (P.shelves.find r k)
    pub placed : (g : ℕ) → has (goods_of ps) g ≡ true → has ks (at ps g) ≡ true
    pub on_shelf : (g : ℕ) → has (goods_of ps) g ≡ true → P.contents.shelf c (P.goods.find i g) ≡ P.shelves.find r (at ps g)
    pub no_other : (y : ℕ) → 0 < P.contents.shelf c y → (g : ℕ) × (has (goods_of ps) g ≡ true) × (P.goods.find i g ≡ y)
    pub goods_count : P.goods.count i ≡ length ps
    pub shelves_count : P.shelves.count r ≡ length ks
    pub goods_room : length ps ≤ 32768

  -- the loads: the shelves os are there and no other, each with its load
  pub record Weighs (r : P.shelves.Rows) (t : P.loads.Tree) (os : List ℕ) (f : ℕ → ℕ) : Type 0 where
    pub sound : Q.loads.Sound t
    pub slot : (k : ℕ) → has os k ≡ true → 0 < P.shelves.find r k
    pub there : (k : ℕ) → has os k ≡ true → Q.loads.There t (P.shelves.find r k)
    pub load : (k : ℕ) → has os k ≡ true → P.loads.load t (P.shelves.find r k) ≡ f k
    pub no_other : (x : ℕ) → Q.loads.There t x → (k : ℕ) × (has os k ≡ true) × (P.shelves.find r k ≡ x)

  -- shelves ks, of which os may get goods, and goods ps
  pub record Shows (m : State P) (ks os : List ℕ) (ps : List Spot) : Type 0 where
    pub stands : Stands m.goods m.shelves m.contents ks ps
    pub weighs : Weighs m.shelves m.loads os (on ps)

  pub record Holds (m : State P) (s : Store) : Type 0 where
    pub idle : m.phase ≡ 0
    pub shows : Shows m s.shelves s.shelves s.spots

  -- a command carried out: greedy moves, or the answer, and the store after them
  pub record Served (m : State P) (s : Store) (c : Command) : Type 0 where
    pub moves : List Move
    pub state : State P
    pub tells : Tells P m (said c) moves state
    pub greedy : EitherGreedy (asks c) s c moves
    pub holds : Holds state (then_store s c moves)

  -- a command is refused as it should be, and nothing is changed; or it is carried out
  pub record Does (m : State P) (s : Store) (c : Command) : Type 0 where
    pub refuses : 0 < refusal s c → turn_of P m (said c) ≡ turn P m (refused (refusal s c))
    pub serves : refusal s c ≡ 0 → Served m s c
