-- The machine over an index of goods, one of shelves, loads and contents: what it does at each event.
use Rattle.std.specs.Prelude.{ℕ, suc, not, ◌&&◌, ◌==◌, nat_le, nat_lt}
use Rattle.hall.specs.House.{pick, Command, comes, goes, shelf_comes, shelf_goes, where_is}
use Rattle.hall.specs.Promise.{Event, said, next, Act, puts, done, refused}
use Rattle.machine.specs.Interfaces.{Parts}

module _ (P : Parts) where
  -- phase 0: idle; 1: the last put was told; 2: the subject, a shelf's slot, gets its share; 3: the subject is emptied
  pub record State : Type 0 where
    pub phase : ℕ
    pub subject : ℕ
    pub goods : P.goods.Rows
    pub shelves : P.shelves.Rows
    pub loads : P.loads.Tree
    pub contents : P.contents.Lists

  pub record Turn : Type 0 where
    pub state : State
    pub act : Act

  abbrev pub turn : State → Act → Turn
  turn m a = record { state = m; act = a }

  abbrev pub start : State
  start = record { phase = 0; subject = 0; goods = P.goods.empty; shelves = P.shelves.empty; loads = P.loads.empty; contents = P.contents.empty }

  -- one register or part replaced
  abbrev pub at_phase : State → ℕ → ℕ → State
  at_phase m p x = record { phase = p; subject = x; goods = m.goods; shelves = m.shelves; loads = m.loads; contents = m.contents }

  abbrev pub with_goods : State → P.goods.Rows → State
  with_goods m r = record { phase = m.phase; subject = m.subject; goods = r; shelves = m.shelves; loads = m.loads; contents = m.contents }

  abbrev pub with_shelves : State → P.shelves.Rows → State
  with_shelves m r = record { phase = m.phase; subject = m.subject; goods = m.goods; shelves = r; loads = m.loads; contents = m.contents }

  abbrev pub with_loads : State → P.loads.Tree → State
  with_loads m t = record { phase = m.phase; subject = m.subject; goods = m.goods; shelves = m.shelves; loads = t; contents = m.contents }

  abbrev pub with_contents : State → P.contents.Lists → State
  with_contents m c = record { phase = m.phase; subject = m.subject; goods = m.goods; shelves = m.shelves; loads = m.loads; contents = c }

  -- the good at slot y is put on the shelf at slot x
  abbrev pub put : State → ℕ → ℕ → State
  put m y x = with_contents (with_loads m (P.loads.add_one m.loads x)) (P.contents.add m.contents x y)

  -- it is taken from its shelf at slot x, whose load is one less; or from one that has left the loads
  abbrev pub take : State → ℕ → ℕ → State
  take m y x = with_contents (with_loads m (P.loads.take_one m.loads x)) (P.contents.remove m.contents y)

  abbrev pub lift : State → ℕ → State
  lift m y = with_contents m (P.contents.remove m.contents y)

  -- the put of a good's slot on a shelf's, told
  abbrev pub tells_put : State → ℕ → ℕ → Act
  tells_put m y x = puts (P.goods.num m.goods y) (P.shelves.num m.shelves x)

  -- the step is over
  abbrev pub ends : State → Turn
  ends m = turn (at_phase m 0 0) done

  -- the good at y goes from the shelf at z to the one at x, and the phase is p
  abbrev pub gives : State → ℕ → ℕ → ℕ → ℕ → Turn
  gives m p x z y = turn (at_phase (put (take m y z) y x) p x) (tells_put m y x)

  abbrev pub gives_first : State → ℕ → ℕ → ℕ → Turn
  gives_first m p x z = pick (P.contents.first m.contents z == 0) (ends m) (gives m p x z (P.contents.first m.contents z))

  -- a shelf at z with two more than the one at x gives it a good; else the step is over
  abbrev pub evens_from : State → ℕ → ℕ → ℕ → Turn
  evens_from m p x z = pick (nat_le (suc (suc (P.loads.load m.loads x))) (P.loads.load m.loads z)) (gives_first m p x z) (ends m)

  -- evens out towards the shelf at x: from a fullest
  abbrev pub evened : State → ℕ → ℕ → Turn
  evened m p x = pick (P.loads.fullest m.loads == 0) (ends m) (evens_from m p x (P.loads.fullest m.loads))

  unfoldable pub evens : State → ℕ → ℕ → Turn
  evens m p x = evened m p x

  -- the good at y goes from the shelf at x, which is no longer in the loads, to the one at z
  abbrev pub sends : State → ℕ → ℕ → ℕ → Turn
  sends m x y z = turn (at_phase (put (lift m y) y z) 3 x) (tells_put m y z)

  abbrev pub sends_out : State → ℕ → ℕ → Turn
  sends_out m x y = pick (P.loads.emptiest m.loads == 0) (ends m) (sends m x y (P.loads.emptiest m.loads))

  abbrev pub drop_shelf : State → ℕ → State
  drop_shelf m x = at_phase (with_shelves m (P.shelves.remove m.shelves (P.shelves.num m.shelves x))) 0 0

  -- the first good of the shelf at x is put on an emptiest one; there is none: the shelf's row goes
  abbrev pub emptied : State → ℕ → Turn
  emptied m x =
      pick (P.contents.first m.contents x == 0) (turn (drop_shelf m x) done) (sends_out m x (P.contents.first m.contents x))

  unfoldable pub empties : State → ℕ → Turn
  empties m x = emptied m x

  -- a good comes: it gets the slot y, and goes to the shelf at x
  abbrev pub places : State → ℕ → ℕ → ℕ → Turn
  places m g y x = turn (at_phase (put (with_goods m (P.goods.insert m.goods g)) y x) 1 0) (puts g (P.shelves.num m.shelves x))

  abbrev pub comes_in : State → ℕ → Turn
  comes_in m g =
      pick (nat_lt 0 (P.goods.find m.goods g)) (turn m (refused 4))
      (pick (P.loads.emptiest m.loads == 0) (turn m (refused 5))
      (pick (P.goods.takes m.goods g == 0) (turn m (refused 7)) (places m g (P.goods.takes m.goods g) (P.loads.emptiest m.loads))))

  -- a good goes: the good at y leaves the shelf at x, which may then get another
  abbrev pub leaves : State → ℕ → ℕ → ℕ → Turn
  leaves m g y x = evens (with_goods (take m y x) (P.goods.remove m.goods g)) 1 x

  abbrev pub goes_out : State → ℕ → Turn
  goes_out m g =
      pick (nat_lt 0 (P.goods.find m.goods g))
      (pick (nat_lt 0 (P.contents.shelf m.contents (P.goods.find m.goods g)))
      (leaves m g (P.goods.find m.goods g) (P.contents.shelf m.contents (P.goods.find m.goods g)))
      (turn m (refused 3)))
      (turn m (refused 3))

  -- a shelf comes: it gets the slot x, and then its share
  abbrev pub opens_at : State → ℕ → ℕ → Turn
  opens_at m k x = evens (with_loads (with_shelves m (P.shelves.insert m.shelves k)) (P.loads.enter m.loads x)) 2 x

  abbrev pub opens : State → ℕ → Turn
  opens m k =
      pick (nat_lt 0 (P.shelves.find m.shelves k)) (turn m (refused 4))
      (pick (P.shelves.takes m.shelves k == 0) (turn m (refused 7)) (opens_at m k (P.shelves.takes m.shelves k)))

  -- a shelf goes: it leaves the loads at once, and then each of its goods goes
  abbrev pub closes_at : State → ℕ → Turn
  closes_at m x = empties (with_loads m (P.loads.leave m.loads x)) x

  abbrev pub closes : State → ℕ → Turn
  closes m k =
      pick (nat_lt 0 (P.shelves.find m.shelves k))
      (pick (P.shelves.count m.shelves == 1 && not (P.goods.count m.goods == 0)) (turn m (refused 6)) (closes_at m (P.shelves.find m.shelves k)))
      (turn m (refused 3))

  -- where a good is: told as if it were put there
  abbrev pub looks_up : State → ℕ → Turn
  looks_up m g =
      pick (nat_lt 0 (P.goods.find m.goods g))
      (pick (nat_lt 0 (P.contents.shelf m.contents (P.goods.find m.goods g)))
      (turn (at_phase m 1 0) (puts g (P.shelves.num m.shelves (P.contents.shelf m.contents (P.goods.find m.goods g)))))
      (turn m (refused 3)))
      (turn m (refused 3))

  unfoldable pub command_turn : State → Command → Turn
  command_turn m (comes g) = comes_in m g
  command_turn m (goes g) = goes_out m g
  command_turn m (shelf_comes k) = opens m k
  command_turn m (shelf_goes k) = closes m k
  command_turn m (where_is g) = looks_up m g

  -- go on with what is under way: idle, it is done, and nothing changes
  abbrev pub goes_on : State → Turn
  goes_on m =
      pick (m.phase == 0) (turn m done)
      (pick (m.phase == 2) (evens m 2 m.subject) (pick (m.phase == 3) (empties m m.subject) (ends m)))

  -- a command is taken when nothing is under way
  unfoldable pub turn_of : State → Event → Turn
  turn_of m (said c) = pick (m.phase == 0) (command_turn m c) (turn m (refused 2))
  turn_of m next = goes_on m
