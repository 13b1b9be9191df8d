-- A shelf comes: refused as it should be, or it gets its share, each time from a fullest.
use Rattle.std.proofs.Common.{◌≡◌, ℕ, zero, suc, ◌+◌, ◌*◌, ◌/◌, ◌<◌, ◌≤◌, true, false, eqb, leb, List, [], ◌∷◌, ◌++◌, length, refl, ap, ◌∙◌, inl, inr, le-div_iff_mul-le, arith}
use Rattle.std.proofs.lemmas.Bool.Decides.{nat_tests}
use Rattle.std.proofs.lemmas.Bool.{ne_eqb, leb-false, le-leb}
use Rattle.hall.specs.House.{pick, has, Spot, Store, level, put_spot, put_all, left_spots, shelves_after, shelf_comes, Move, refusal, asks, divided}
use Rattle.hall.specs.Greedy.{on, at, Filling}
use Rattle.hall.specs.Promise.{Event, said, next, refused}
use Rattle.words.proofs.Cases.{by_test, by_order}
use Rattle.hall.proofs.Lists.{all_from_has}
use Rattle.hall.proofs.Sums.{sum_of, sum_le, sum_const, sum_above}
use Rattle.hall.proofs.Loads.{Fine}
use Rattle.hall.proofs.Puts.{put_on}
use Rattle.hall.proofs.Fill.{Filled, filled_start, filled_step, filled_sum, filled_goods_once}
use Rattle.hall.proofs.Can.{none_on}
use Rattle.machine.specs.Interfaces.{Parts, Laws}
use Rattle.machine.specs.Machine.{State, turn, turn_of, command_turn, at_phase, evens, with_loads, with_shelves}
use Rattle.machine.specs.Relation.{Shows, Holds, Tells, Served, Does}
use Rattle.machine.proofs.Weighing.{push_old, push_new, push_parts, weigh_enter}
use Rattle.machine.proofs.Standing.{shelf_none, stand_open, takes_none}
use Rattle.machine.proofs.Steps.{Even, Given, evens_step}
use Rattle.machine.proofs.Commands.{mv}

module _ (s : Store) (k : ℕ) (F : Fine s) (out : has s.shelves k ≡ false) (ps : List Spot) (f : Filled s k ps) where
  -- a shelf has two more than the new one: the new one has less than its share
  pub share_open : (j : ℕ) → has s.shelves j ≡ true → suc (suc (on ps k)) ≤ on ps j → on ps k < length s.spots / suc (length s.shelves)
  share_open j h two =
      let a = filled_sum s k F out ps f in
      let b = sum_above (on ps) (suc (on ps k)) s.shelves j (all_from_has _ s.shelves (λ i q. let x = f.lev j i h q in omega arith)) h (omega arith) in
      (le-div_iff_mul-le (omega arith)).1 (omega arith)

  -- none has: it has its share
  pub share_full : ((j : ℕ) → has s.shelves j ≡ true → on ps j ≤ suc (on ps k)) → length s.spots / suc (length s.shelves) ≤ on ps k
  share_full most =
      by_order (on ps k) (length s.spots / suc (length s.shelves))
      (λ l. let a = filled_sum s k F out ps f in
      let b : sum_of (on ps) s.shelves ≤ sum_of (λ i. suc (on ps k)) s.shelves = sum_le _ _ s.shelves (all_from_has _ s.shelves most) in
      let c : suc (on ps k) * suc (length s.shelves) ≤ length s.spots = (le-div_iff_mul-le (omega arith)).0 l in
      absurd (omega (arith, sum_const {A = ℕ} (suc (on ps k)) s.shelves)))
      (λ l. l)

module _ (P : Parts) (Q : Laws P) where
  -- a run that fills
  record Fills (s : Store) (k q : ℕ) (ps : List Spot) (M : State P) (ev : Event) : Type 0 where
    moves : List Move
    state : State P
    tells : Tells P M ev moves state
    filling : Filling s.shelves k q ps moves
    idle : state.phase ≡ 0
    shows : Shows P Q state (s.shelves ++ k ∷ []) (s.shelves ++ k ∷ []) (put_all ps moves)

  next_fill : (m : State P) (x : ℕ) → m.phase ≡ 2 → m.subject ≡ x → turn_of P m next ≡ evens P m 2 x
  unfolding turn_of
  next_fill m x p e = rw (p, e) refl

  module _ (s : Store) (k : ℕ) (F : Fine s) (out : has s.shelves k ≡ false) (q : ℕ) (share : q ≡ length s.spots / suc (length s.shelves)) where
    fills_end : (ps : List Spot) (m M : State P) (ev : Event) → Filled s k ps → on ps k ≤ q → Shows P Q m (s.shelves ++ k ∷ []) (s.shelves ++ k ∷ []) ps →
        turn_of P M ev ≡ evens P m 2 (P.shelves.find m.shelves k) → Even P Q m 2 k (s.shelves ++ k ∷ []) ps → Fills s k q ps M ev
    unfolding put_all
    fills_end ps m M ev f l w t v = record {
      moves = [];
      state = at_phase P m 0 0;
      tells = t ∙ v.says;
      filling = let x = share_full s k F out ps f (λ j h. v.most j (push_old s.shelves k j h)) in omega arith;
      idle = refl;
      shows = record { stands = w.stands; weighs = w.weighs };
    }

    -- the good comes from a fullest shelf of those that were there
    given_old : (ps : List Spot) (m : State P) (v : Given P Q m 2 k (s.shelves ++ k ∷ []) ps) → has s.shelves (at ps v.good) ≡ true
    given_old ps m v = push_parts s.shelves k (at ps v.good) v.from_one (λ e. let x : on ps (at ps v.good) ≡ on ps k = ap (on ps) e in let y = v.two in omega arith)

    given_less : (ps : List Spot) (m : State P) (v : Given P Q m 2 k (s.shelves ++ k ∷ []) ps) → Filled s k ps → on ps k < q
    given_less ps m v f = rw share (share_open s k F out ps f (at ps v.good) (given_old ps m v) v.two)

    given_gain : (ps : List Spot) (m : State P) (v : Given P Q m 2 k (s.shelves ++ k ∷ []) ps) → on (put_spot ps v.good k) k ≡ suc (on ps k)
    given_gain ps m v =
        let p = put_on ps v.good k k v.in_hall in
        let n : eqb (at ps v.good) k ≡ false = ne_eqb _ _ (λ e. let x : on ps (at ps v.good) ≡ on ps k = ap (on ps) e in let y = v.two in omega arith) in
        grind (arith, nat_tests)

    fills_more : (ps : List Spot) (m M : State P) (ev : Event) → Filled s k ps → turn_of P M ev ≡ evens P m 2 (P.shelves.find m.shelves k) →
        (v : Given P Q m 2 k (s.shelves ++ k ∷ []) ps) → Fills s k q (put_spot ps v.good k) v.state next → Fills s k q ps M ev
    unfolding put_all
    fills_more ps m M ev f t v r = record {
      moves = mv v.good k ∷ r.moves;
      state = r.state;
      tells = (v.state, t ∙ v.says, r.tells);
      filling = (given_less ps m v f, refl, v.in_hall, (given_old ps m v, λ j h. v.most j (push_old s.shelves k j h)), r.filling);
      idle = r.idle;
      shows = r.shows;
    }

    fills : (n : ℕ) (ps : List Spot) (m M : State P) (ev : Event) → Filled s k ps → on ps k ≤ q → q ≤ on ps k + n →
        Shows P Q m (s.shelves ++ k ∷ []) (s.shelves ++ k ∷ []) ps → turn_of P M ev ≡ evens P m 2 (P.shelves.find m.shelves k) → Fills s k q ps M ev
    fills zero ps m M ev f l b w t =
        elim (evens_step P Q m k (s.shelves ++ k ∷ []) ps w (filled_goods_once s k F out ps f) (push_new s.shelves k) 2)
        [ inl v ↦ fills_end ps m M ev f l w t v | inr v ↦ (let x = given_less ps m v f in absurd (omega arith)) ]
    fills (suc n) ps m M ev f l b w t =
        elim (evens_step P Q m k (s.shelves ++ k ∷ []) ps w (filled_goods_once s k F out ps f) (push_new s.shelves k) 2) [
          | inl v ↦ fills_end ps m M ev f l w t v
          | inr v ↦ (let x = given_less ps m v f in let y = given_gain ps m v in
              fills_more ps m M ev f t v
              (fills n (put_spot ps v.good k) v.state v.state next (filled_step s k F out ps v.good f v.in_hall (given_old ps m v, λ j h. v.most j (push_old s.shelves k j h)))
              (omega arith) (omega arith) v.shows (next_fill v.state _ v.phase v.subject)))
        ]

  module _ (m : State P) (s : Store) (H : Holds P Q m s) (F : Fine s) (lv : level s ≡ true) (k : ℕ) where
    abbrev opened : State P
    opened = with_loads P (with_shelves P m (P.shelves.insert m.shelves k)) (P.loads.enter m.loads (P.shelves.find (P.shelves.insert m.shelves k) k))

    module _ (small : k < 18446744073709551616) where
      open_yes : has s.shelves k ≡ true → turn_of P m (said (shelf_comes k)) ≡ turn P m (refused 4)
      unfolding turn_of command_turn
      open_yes h = rw (H.idle, ← H.shows.stands.shelves_there k, h) refl

      open_new : has s.shelves k ≡ false → turn_of P m (said (shelf_comes k)) ≡
          pick (leb 1024 (length s.shelves)) (turn P m (refused 7)) (evens P opened 2 (P.shelves.find (P.shelves.insert m.shelves k) k))
      unfolding turn_of command_turn
      open_new h =
          let none = shelf_none P Q m.goods m.shelves m.contents s.shelves s.spots H.shows.stands k h in
          let c = H.shows.stands.shelves_count in
          let full = takes_none 1024 P.shelves Q.shelves m.shelves k H.shows.stands.shelves_sound small none in
          by_order (length s.shelves) 1024
          (λ l. let t = Q.shelves.insert_takes m.shelves k H.shows.stands.shelves_sound small none (rw c l) in
          rw (H.idle, ← H.shows.stands.shelves_there k, h, full, c, ← t.1) refl)
          (λ l. let f = le-leb 1024 (length s.shelves) l in rw (H.idle, ← H.shows.stands.shelves_there k, h, full, c, f) refl)

    opened_shows : has s.shelves k ≡ false → k < 18446744073709551616 → length s.shelves < 1024 → Shows P Q opened (s.shelves ++ k ∷ []) (s.shelves ++ k ∷ []) s.spots
    opened_shows out small few = record {
      stands = stand_open P Q m.goods m.shelves m.contents s.shelves s.spots H.shows.stands k out small few;
      weighs = weigh_enter P Q m.shelves m.loads s.shelves (on s.spots) k H.shows.stands.shelves_sound H.shows.weighs small
          (shelf_none P Q m.goods m.shelves m.contents s.shelves s.spots H.shows.stands k out) (rw H.shows.stands.shelves_count few) (none_on s k F out);
    }

    open_from : (out : has s.shelves k ≡ false) → Fills s k (divided (length s.spots) (suc (length s.shelves))) s.spots m (said (shelf_comes k)) → Served P Q m s (shelf_comes k)
    unfolding asks left_spots shelves_after
    open_from out r = record { moves = r.moves; state = r.state; tells = r.tells; greedy = r.filling; holds = record { idle = r.idle; shows = r.shows } }

    open_served : has s.shelves k ≡ false → k < 18446744073709551616 → leb 1024 (length s.shelves) ≡ false →
        turn_of P m (said (shelf_comes k)) ≡ evens P opened 2 (P.shelves.find (P.shelves.insert m.shelves k) k) → Served P Q m s (shelf_comes k)
    open_served out small few t =
        let z = none_on s k F out in
        let e : divided (length s.spots) (suc (length s.shelves)) ≡ length s.spots / suc (length s.shelves) = grind (arith, nat_tests) in
        open_from out (fills s k F out (divided (length s.spots) (suc (length s.shelves))) e (divided (length s.spots) (suc (length s.shelves))) s.spots opened m (said (shelf_comes k))
        (filled_start s k F out lv) (omega arith) (omega arith) (opened_shows out small (let x = leb-false _ _ few in omega arith)) t)

    pub does_open : k < 18446744073709551616 → Does P Q m s (shelf_comes k)
    unfolding refusal
    does_open small =
        by_test (has s.shelves k)
        (λ h. record { refuses = λ r. open_yes small h ∙ rw h refl; serves = λ r. absurd (let z : ◌≡◌ {A = ℕ} 4 0 = rw h at r in omega arith) })
        (λ h. by_test (leb 1024 (length s.shelves))
        (λ q. record { refuses = λ r. open_new small h ∙ rw (h, q) refl; serves = λ r. absurd (let z : ◌≡◌ {A = ℕ} 7 0 = rw (h, q) at r in omega arith) })
        (λ q. record { refuses = λ r. absurd (let z : ◌<◌ 0 0 = rw (h, q) at r in omega arith); serves = λ r. open_served h small q (open_new small h ∙ rw q refl) }))
