-- While a step is under way no command is taken, and after each put one is: for every state.
use Rattle.std.proofs.Common.{◌≡◌, ℕ, suc, ◌<◌, true, false, not, ◌&&◌, eqb, ltb, leb, refl, arith}
use Rattle.std.proofs.lemmas.Bool.{ne_eqb}
use Rattle.words.proofs.Cases.{by_test}
use Rattle.hall.specs.House.{Command, comes, goes, shelf_comes, shelf_goes, where_is}
use Rattle.hall.specs.Promise.{Event, said, next, refused, done}
use Rattle.machine.specs.Interfaces.{Parts}
use Rattle.machine.specs.Machine.{State, Turn, turn, turn_of, command_turn, evens, empties}
use Rattle.machine.specs.Lifting.{says_puts}
use Rattle.machine.specs.Claims.{BusyRight}

not_true : {T : Type 0} → false ≡ true → T
not_true e = grind arith

module _ (P : Parts) where
  busy_refuses : (m : State P) (c : Command) → 0 < m.phase → turn_of P m (said c) ≡ turn P m (refused 2)
  unfolding turn_of
  busy_refuses m c h = let e : eqb m.phase 0 ≡ false = ne_eqb _ _ (omega arith) in rw e refl

  idle_next : (m : State P) → m.phase ≡ 0 → turn_of P m next ≡ turn P m done
  unfolding turn_of
  idle_next m h = let e : eqb m.phase 0 ≡ true = rw h refl in rw e refl

  abbrev Busy : Turn P → Type 0
  Busy t = says_puts t.act ≡ true → 0 < t.state.phase

  evens_busy : (m : State P) (p x : ℕ) → 0 < p → Busy (evens P m p x)
  unfolding evens
  evens_busy m p x h =
      by_test (eqb (P.loads.fullest m.loads) 0) (λ q. rw q not_true)
      (λ q. by_test (leb (suc (suc (P.loads.load m.loads x))) (P.loads.load m.loads (P.loads.fullest m.loads)))
      (λ r. by_test (eqb (P.contents.first m.contents (P.loads.fullest m.loads)) 0) (λ u. rw (q, r, u) not_true) (λ u. rw (q, r, u) (λ e. h)))
      (λ r. rw (q, r) not_true))

  empties_busy : (m : State P) (x : ℕ) → Busy (empties P m x)
  unfolding empties
  empties_busy m x =
      by_test (eqb (P.contents.first m.contents x) 0) (λ q. rw q not_true)
      (λ q. by_test (eqb (P.loads.emptiest m.loads) 0) (λ r. rw (q, r) not_true) (λ r. rw (q, r) (λ e. omega arith)))

  command_busy : (m : State P) (c : Command) → Busy (command_turn P m c)
  unfolding command_turn
  command_busy m (comes g) =
      by_test (ltb 0 (P.goods.find m.goods g)) (λ q. rw q not_true)
      (λ q. by_test (eqb (P.loads.emptiest m.loads) 0) (λ r. rw (q, r) not_true)
      (λ r. by_test (eqb (P.goods.takes m.goods g) 0) (λ u. rw (q, r, u) not_true) (λ u. rw (q, r, u) (λ e. omega arith))))
  command_busy m (goes g) =
      by_test (ltb 0 (P.goods.find m.goods g))
      (λ q. by_test (ltb 0 (P.contents.shelf m.contents (P.goods.find m.goods g))) (λ r. rw (q, r) (evens_busy _ 1 _ (omega arith))) (λ r. rw (q, r) not_true))
      (λ q. rw q not_true)
  command_busy m (shelf_comes k) =
      by_test (ltb 0 (P.shelves.find m.shelves k)) (λ q. rw q not_true)
      (λ q. by_test (eqb (P.shelves.takes m.shelves k) 0) (λ r. rw (q, r) not_true) (λ r. rw (q, r) (evens_busy _ 2 _ (omega arith))))
  command_busy m (shelf_goes k) =
      by_test (ltb 0 (P.shelves.find m.shelves k))
      (λ q. by_test (eqb (P.shelves.count m.shelves) 1 && not (eqb (P.goods.count m.goods) 0)) (λ r. rw (q, r) not_true) (λ r. rw (q, r) (empties_busy _ _)))
      (λ q. rw q not_true)
  command_busy m (where_is g) =
      by_test (ltb 0 (P.goods.find m.goods g))
      (λ q. by_test (ltb 0 (P.contents.shelf m.contents (P.goods.find m.goods g))) (λ r. rw (q, r) (λ e. omega arith)) (λ r. rw (q, r) not_true))
      (λ q. rw q not_true)

  -- after each put a step is under way
  puts_busy : (m : State P) (ev : Event) → Busy (turn_of P m ev)
  unfolding turn_of
  puts_busy m (said c) = by_test (eqb m.phase 0) (λ q. rw q (command_busy m c)) (λ q. rw q not_true)
  puts_busy m next =
      by_test (eqb m.phase 0) (λ q. rw q not_true)
      (λ q. by_test (eqb m.phase 2) (λ r. rw (q, r) (evens_busy m 2 _ (omega arith)))
      (λ r. by_test (eqb m.phase 3) (λ u. rw (q, r, u) (empties_busy m _)) (λ u. rw (q, r, u) not_true)))

  pub busy_right : (m : State P) → BusyRight P m
  busy_right m = record { refuses = busy_refuses m; rests = idle_next m; goes_on = puts_busy m }
