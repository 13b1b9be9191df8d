-- What every operation keeps, every turn keeps.
use Rattle.std.proofs.Common.{ℕ, suc, not, ◌&&◌, eqb, ltb, leb}
use Rattle.words.proofs.Cases.{by_test}
use Rattle.hall.specs.House.{Command, comes, goes, shelf_comes, shelf_goes, where_is}
use Rattle.hall.specs.Promise.{Event, said, next, number_of}
use Rattle.machine.specs.Interfaces.{Parts}
use Rattle.machine.specs.Machine.{State, turn_of, command_turn, at_phase, with_goods, with_shelves, with_loads, put, take, lift, start, evens, empties}
use Rattle.machine.specs.Lifting.{event_number}
use Rattle.machine.specs.Keeping.{Property, Keep, Kept}

module _ (P : Parts) (R : Property P) (k : Keep P R) where
  abbrev Ok : State P → Type 0
  Ok m = Kept P R m

  pub keep_start : Ok (start P)
  keep_start = record { phase = k.zero; subject = k.zero; goods = k.goods.empty; shelves = k.shelves.empty; loads = k.loads.empty; contents = k.contents.empty }

  keep_phase : (m : State P) (p x : ℕ) → Ok m → R.number p → R.number x → Ok (at_phase P m p x)
  keep_phase m p x o a b = record { phase = a; subject = b; goods = o.goods; shelves = o.shelves; loads = o.loads; contents = o.contents }

  keep_ends : (m : State P) → Ok m → Ok (at_phase P m 0 0)
  keep_ends m o = keep_phase m 0 0 o k.zero k.zero

  keep_goods : (m : State P) (r : P.goods.Rows) → Ok m → R.goods r → Ok (with_goods P m r)
  keep_goods m r o h = record { phase = o.phase; subject = o.subject; goods = h; shelves = o.shelves; loads = o.loads; contents = o.contents }

  keep_shelves : (m : State P) (r : P.shelves.Rows) → Ok m → R.shelves r → Ok (with_shelves P m r)
  keep_shelves m r o h = record { phase = o.phase; subject = o.subject; goods = o.goods; shelves = h; loads = o.loads; contents = o.contents }

  keep_loads : (m : State P) (t : P.loads.Tree) → Ok m → R.loads t → Ok (with_loads P m t)
  keep_loads m t o h = record { phase = o.phase; subject = o.subject; goods = o.goods; shelves = o.shelves; loads = h; contents = o.contents }

  keep_put : (m : State P) (y x : ℕ) → Ok m → R.number y → R.number x → Ok (put P m y x)
  keep_put m y x o a b = record {
    phase = o.phase;
    subject = o.subject;
    goods = o.goods;
    shelves = o.shelves;
    loads = k.loads.add_one _ x o.loads b;
    contents = k.contents.add _ x y o.contents b a;
  }

  keep_take : (m : State P) (y x : ℕ) → Ok m → R.number y → R.number x → Ok (take P m y x)
  keep_take m y x o a b = record {
    phase = o.phase;
    subject = o.subject;
    goods = o.goods;
    shelves = o.shelves;
    loads = k.loads.take_one _ x o.loads b;
    contents = k.contents.remove _ y o.contents a;
  }

  keep_lift : (m : State P) (y : ℕ) → Ok m → R.number y → Ok (lift P m y)
  keep_lift m y o a = record { phase = o.phase; subject = o.subject; goods = o.goods; shelves = o.shelves; loads = o.loads; contents = k.contents.remove _ y o.contents a }

  keep_evens : (m : State P) (p x : ℕ) → Ok m → R.number p → R.number x → Ok (evens P m p x).state
  unfolding evens
  keep_evens m p x o a b =
      let z = k.loads.fullest _ o.loads in
      let y : R.number (P.contents.first m.contents (P.loads.fullest m.loads)) = k.contents.first _ _ o.contents in
      by_test (eqb (P.loads.fullest m.loads) 0) (λ q. rw q (keep_ends m o))
      (λ q. by_test (leb (suc (suc (P.loads.load m.loads x))) (P.loads.load m.loads (P.loads.fullest m.loads)))
      (λ r. by_test (eqb (P.contents.first m.contents (P.loads.fullest m.loads)) 0) (λ u. rw (q, r, u) (keep_ends m o))
      (λ u. rw (q, r, u) (keep_phase _ p x (keep_put _ _ x (keep_take m _ _ o y z) y b) a b)))
      (λ r. rw (q, r) (keep_ends m o)))

  keep_empties : (m : State P) (x : ℕ) → Ok m → R.number x → Ok (empties P m x).state
  unfolding empties
  keep_empties m x o b =
      let y : R.number (P.contents.first m.contents x) = k.contents.first _ _ o.contents in
      let z = k.loads.emptiest _ o.loads in
      by_test (eqb (P.contents.first m.contents x) 0)
      (λ q. rw q (keep_ends _ (keep_shelves m _ o (k.shelves.remove _ _ o.shelves (k.shelves.num _ x o.shelves)))))
      (λ q. by_test (eqb (P.loads.emptiest m.loads) 0) (λ r. rw (q, r) (keep_ends m o))
      (λ r. rw (q, r) (keep_phase _ 3 x (keep_put _ _ _ (keep_lift m _ o y) y z) k.three b)))

  keep_command : (m : State P) (c : Command) → Ok m → R.number (number_of c) → Ok (command_turn P m c).state
  unfolding command_turn number_of
  keep_command m (comes g) o n =
      let y : R.number (P.goods.takes m.goods g) = k.goods.takes _ g o.goods in
      let z = k.loads.emptiest _ o.loads in
      by_test (ltb 0 (P.goods.find m.goods g)) (λ q. rw q o)
      (λ q. by_test (eqb (P.loads.emptiest m.loads) 0) (λ r. rw (q, r) o)
      (λ r. by_test (eqb (P.goods.takes m.goods g) 0) (λ u. rw (q, r, u) o)
      (λ u. rw (q, r, u) (keep_phase _ 1 0 (keep_put _ _ _ (keep_goods m _ o (k.goods.insert _ g o.goods n)) y z) k.one k.zero))))
  keep_command m (goes g) o n =
      let y : R.number (P.goods.find m.goods g) = k.goods.find _ g o.goods in
      let x : R.number (P.contents.shelf m.contents (P.goods.find m.goods g)) = k.contents.shelf _ _ o.contents in
      by_test (ltb 0 (P.goods.find m.goods g))
      (λ q. by_test (ltb 0 (P.contents.shelf m.contents (P.goods.find m.goods g)))
      (λ r. rw (q, r) (keep_evens _ 1 _ (keep_goods _ _ (keep_take m _ _ o y x) (k.goods.remove _ g o.goods n)) k.one x)) (λ r. rw (q, r) o))
      (λ q. rw q o)
  keep_command m (shelf_comes j) o n =
      let x : R.number (P.shelves.takes m.shelves j) = k.shelves.takes _ j o.shelves in
      by_test (ltb 0 (P.shelves.find m.shelves j)) (λ q. rw q o)
      (λ q. by_test (eqb (P.shelves.takes m.shelves j) 0) (λ r. rw (q, r) o)
      (λ r. rw (q, r) (keep_evens _ 2 _ (keep_loads _ _ (keep_shelves m _ o (k.shelves.insert _ j o.shelves n)) (k.loads.enter _ _ o.loads x)) k.two x)))
  keep_command m (shelf_goes j) o n =
      let x : R.number (P.shelves.find m.shelves j) = k.shelves.find _ j o.shelves in
      by_test (ltb 0 (P.shelves.find m.shelves j))
      (λ q. by_test (eqb (P.shelves.count m.shelves) 1 && not (eqb (P.goods.count m.goods) 0)) (λ r. rw (q, r) o)
      (λ r. rw (q, r) (keep_empties _ _ (keep_loads m _ o (k.loads.leave _ _ o.loads x)) x)))
      (λ q. rw q o)
  keep_command m (where_is g) o n =
      by_test (ltb 0 (P.goods.find m.goods g))
      (λ q. by_test (ltb 0 (P.contents.shelf m.contents (P.goods.find m.goods g))) (λ r. rw (q, r) (keep_phase m 1 0 o k.one k.zero)) (λ r. rw (q, r) o))
      (λ q. rw q o)

  pub keep_turn : (m : State P) (ev : Event) → Ok m → R.number (event_number ev) → Ok (turn_of P m ev).state
  unfolding turn_of
  keep_turn m (said c) o n = by_test (eqb m.phase 0) (λ q. rw q (keep_command m c o n)) (λ q. rw q o)
  keep_turn m next o n =
      by_test (eqb m.phase 0) (λ q. rw q o)
      (λ q. by_test (eqb m.phase 2) (λ r. rw (q, r) (keep_evens m 2 _ o k.two o.subject))
      (λ r. by_test (eqb m.phase 3) (λ u. rw (q, r, u) (keep_empties m _ o o.subject)) (λ u. rw (q, r, u) (keep_ends m o))))
