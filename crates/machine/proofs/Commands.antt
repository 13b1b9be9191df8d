-- Where a good is, a good that comes, a good that goes: refused as it should be, or greedy.
use Rattle.std.proofs.Common.{◌≡◌, ℕ, ◌<◌, ◌≤◌, true, false, eqb, leb, List, [], ◌∷◌, length, sym, refl, ap, ◌∙◌, inl, inr, arith}
use Rattle.std.proofs.lemmas.Bool.Decides.{nat_tests}
use Rattle.std.proofs.lemmas.Bool.{eqb-false, lt-ltb, ne_eqb, leb-false}
use Rattle.hall.specs.House.{pick, any, has, each, none_of, distinct, Store, goods, put_spot, put_all, left_spots, shelves_after, comes, goes, where_is, Move, refusal, asks, told, shelf_of, one}
use Rattle.hall.specs.Greedy.{on, at}
use Rattle.hall.specs.Promise.{said, puts, refused}
use Rattle.words.proofs.Cases.{by_test}
use Rattle.hall.proofs.Sets.{distinct_those}
use Rattle.hall.proofs.Loads.{Fine}
use Rattle.hall.proofs.Moving.{shelf_of_there}
use Rattle.hall.proofs.Puts.{put_on_new, without, without_on, without_goods}
use Rattle.machine.specs.Interfaces.{Parts, Laws}
use Rattle.machine.specs.Machine.{State, turn, turn_of, command_turn, at_phase, with_goods, put, places, evens}
use Rattle.machine.specs.Relation.{Shows, Holds, Served, Does}
use Rattle.machine.proofs.Weighing.{weigh_add, weigh_take, emptiest_is}
use Rattle.machine.proofs.Standing.{good_none, shelf_slot, shelf_num, shelf_held, stand_come, stand_go, takes_none}
use Rattle.machine.proofs.Steps.{on_room, Even, Given, evens_step}

abbrev pub mv : ℕ → ℕ → Move
mv g k = record { good = g; to = k }

pub none_has : (ks : List ℕ) (k : ℕ) → none_of ks ≡ true → has ks k ≡ false
unfolding none_of any
none_has [] k h = refl
none_has (j ∷ ks) k h = grind arith

pub some_has : (ks : List ℕ) → none_of ks ≡ false → (k : ℕ) × (has ks k ≡ true)
unfolding none_of any
some_has [] h = grind arith
some_has (j ∷ ks) h = (j, grind (arith, nat_tests))

module _ (P : Parts) (Q : Laws P) where
  module _ (m : State P) (s : Store) (H : Holds P Q m s) (F : Fine s) where
    -- where a good is
    ask_yes : (g : ℕ) → has (goods s) g ≡ true →
        turn_of P m (said (where_is g)) ≡ turn P (at_phase P m 1 0) (puts g (P.shelves.num m.shelves (P.contents.shelf m.contents (P.goods.find m.goods g))))
    unfolding turn_of command_turn
    ask_yes g h =
        let x = lt-ltb 0 _ (shelf_held P Q m.goods m.shelves m.contents s.shelves s.spots H.shows.stands g h) in
        rw (H.idle, ← H.shows.stands.goods_there g, h, x) refl

    ask_no : (g : ℕ) → has (goods s) g ≡ false → turn_of P m (said (where_is g)) ≡ turn P m (refused 3)
    unfolding turn_of command_turn
    ask_no g h = rw (H.idle, ← H.shows.stands.goods_there g, h) refl

    ask_served : (g : ℕ) → has (goods s) g ≡ true →
        turn_of P m (said (where_is g)) ≡ turn P (at_phase P m 1 0) (puts g (P.shelves.num m.shelves (P.contents.shelf m.contents (P.goods.find m.goods g)))) → Served P Q m s (where_is g)
    unfolding asks told each turn_of shelf_of one
    ask_served g h t = record {
      moves = mv g (at s.spots g) ∷ [];
      state = at_phase P m 0 0;
      tells = (at_phase P m 1 0, t ∙ rw (H.shows.stands.on_shelf g h, shelf_num P Q m.goods m.shelves m.contents s.shelves s.spots H.shows.stands (at s.spots g) (H.shows.stands.placed g h)) refl, refl);
      greedy = rw (shelf_of_there s.spots g h) refl;
      holds = record { idle = refl; shows = record { stands = H.shows.stands; weighs = H.shows.weighs } };
    }

    pub does_ask : (g : ℕ) → Does P Q m s (where_is g)
    unfolding refusal
    does_ask g = by_test (has (goods s) g)
        (λ h. record { refuses = λ r. absurd (let z : ◌<◌ 0 0 = rw h at r in omega arith); serves = λ r. ask_served g h (ask_yes g h) })
        (λ h. record { refuses = λ r. ask_no g h ∙ rw h refl; serves = λ r. absurd (let z : ◌≡◌ {A = ℕ} 3 0 = rw h at r in omega arith) })

    -- a good comes
    emptiest_none : eqb (P.loads.emptiest m.loads) 0 ≡ none_of s.shelves
    emptiest_none =
        by_test (none_of s.shelves)
        (λ n. by_test (eqb (P.loads.emptiest m.loads) 0) (λ q. q ∙ sym n)
        (λ q. let x = eqb-false _ _ q in
        let o = H.shows.weighs.no_other _ (Q.loads.emptiest_there m.loads H.shows.weighs.sound (omega arith)) in
        let a = none_has s.shelves o.0 n in let b = o.1 in absurd (grind arith)))
        (λ n. let j = some_has s.shelves n in
        let o = emptiest_is P Q m.shelves m.loads s.shelves (on s.spots) j.0 H.shows.weighs j.1 in
        let p = H.shows.weighs.slot o.0 o.2 in
        ne_eqb _ _ (λ e. let x = o.1 in absurd (omega arith)) ∙ sym n)

    come_yes : (g : ℕ) → has (goods s) g ≡ true → turn_of P m (said (comes g)) ≡ turn P m (refused 4)
    unfolding turn_of command_turn
    come_yes g h = rw (H.idle, ← H.shows.stands.goods_there g, h) refl

    come_new : (g : ℕ) → g < 18446744073709551616 → has (goods s) g ≡ false → turn_of P m (said (comes g)) ≡
        pick (none_of s.shelves) (turn P m (refused 5)) (pick (leb 32768 (length s.spots)) (turn P m (refused 7)) (places P m g (P.goods.takes m.goods g) (P.loads.emptiest m.loads)))
    unfolding turn_of command_turn
    come_new g small h =
        let none = good_none P Q m.goods m.shelves m.contents s.shelves s.spots H.shows.stands g h in
        rw (H.idle, ← H.shows.stands.goods_there g, h, emptiest_none, takes_none 32768 P.goods Q.goods m.goods g H.shows.stands.goods_sound small none, H.shows.stands.goods_count) refl

    taken : (g : ℕ) → has (goods s) g ≡ false → leb 32768 (length s.spots) ≡ false → g < 18446744073709551616 → P.goods.find (P.goods.insert m.goods g) g ≡ P.goods.takes m.goods g
    taken g out few small =
        let none = good_none P Q m.goods m.shelves m.contents s.shelves s.spots H.shows.stands g out in
        let c = H.shows.stands.goods_count in
        let x = leb-false _ _ few in
        (Q.goods.insert_takes m.goods g H.shows.stands.goods_sound small none (omega arith)).1

    come_with : (g k : ℕ) → has (goods s) g ≡ false → leb 32768 (length s.spots) ≡ false → g < 18446744073709551616 →
        turn_of P m (said (comes g)) ≡ places P m g (P.goods.takes m.goods g) (P.loads.emptiest m.loads) →
        P.shelves.find m.shelves k ≡ P.loads.emptiest m.loads → has s.shelves k ≡ true → ((j : ℕ) → has s.shelves j ≡ true → on s.spots k ≤ on s.spots j) → Served P Q m s (comes g)
    unfolding asks turn_of left_spots shelves_after put_all
    come_with g k out few small t e h least = record {
      moves = mv g k ∷ [];
      state = at_phase P (put P (with_goods P m (P.goods.insert m.goods g)) (P.goods.find (P.goods.insert m.goods g) g) (P.shelves.find m.shelves k)) 0 0;
      tells = (
        at_phase P (put P (with_goods P m (P.goods.insert m.goods g)) (P.goods.find (P.goods.insert m.goods g) g) (P.shelves.find m.shelves k)) 1 0,
        t ∙ rw (← e, ← taken g out few small, shelf_num P Q m.goods m.shelves m.contents s.shelves s.spots H.shows.stands k h) refl,
        refl,
      );
      greedy = (k, (h, least), refl);
      holds = record {
        idle = refl;
        shows = record {
          stands = stand_come P Q m.goods m.shelves m.contents s.shelves s.spots H.shows.stands g k out h small (let x = leb-false _ _ few in omega arith);
          weighs = weigh_add P Q m.shelves m.loads s.shelves (on s.spots) (on (put_spot s.spots g k)) k H.shows.stands.shelves_sound H.shows.weighs h
              (let x = leb-false _ _ few in let y = on_room s.spots k 32767 (omega arith) in omega arith) (λ j. put_on_new s.spots g k j out);
        };
      };
    }

    come_served : (g : ℕ) → has (goods s) g ≡ false → none_of s.shelves ≡ false → leb 32768 (length s.spots) ≡ false → g < 18446744073709551616 →
        turn_of P m (said (comes g)) ≡ places P m g (P.goods.takes m.goods g) (P.loads.emptiest m.loads) → Served P Q m s (comes g)
    come_served g out some few small t =
        let j = some_has s.shelves some in
        let o = emptiest_is P Q m.shelves m.loads s.shelves (on s.spots) j.0 H.shows.weighs j.1 in
        come_with g o.0 out few small t o.1 o.2 o.3

    pub does_come : (g : ℕ) → g < 18446744073709551616 → Does P Q m s (comes g)
    unfolding refusal
    does_come g small =
        by_test (has (goods s) g)
        (λ h. record { refuses = λ r. come_yes g h ∙ rw h refl; serves = λ r. absurd (let z : ◌≡◌ {A = ℕ} 4 0 = rw h at r in omega arith) })
        (λ h. by_test (none_of s.shelves)
        (λ n. record { refuses = λ r. come_new g small h ∙ rw (h, n) refl; serves = λ r. absurd (let z : ◌≡◌ {A = ℕ} 5 0 = rw (h, n) at r in omega arith) })
        (λ n. by_test (leb 32768 (length s.spots))
        (λ q. record { refuses = λ r. come_new g small h ∙ rw (h, n, q) refl; serves = λ r. absurd (let z : ◌≡◌ {A = ℕ} 7 0 = rw (h, n, q) at r in omega arith) })
        (λ q. record { refuses = λ r. absurd (let z : ◌<◌ 0 0 = rw (h, n, q) at r in omega arith); serves = λ r. come_served g h n q small (come_new g small h ∙ rw (n, q) refl) })))

    -- a good goes
    module _ (g : ℕ) where
      -- the state when it has left
      abbrev gone : State P
      gone = record { phase = m.phase; subject = m.subject; goods = P.goods.remove m.goods g; shelves = m.shelves; loads = P.loads.take_one m.loads (P.shelves.find m.shelves (at s.spots g)); contents = P.contents.remove m.contents (P.goods.find m.goods g) }

      go_turn : has (goods s) g ≡ true → turn_of P m (said (goes g)) ≡ evens P gone 1 (P.shelves.find m.shelves (at s.spots g))
      unfolding turn_of command_turn
      go_turn h =
          let x = lt-ltb 0 _ (shelf_slot P Q m.goods m.shelves m.contents s.shelves s.spots H.shows.stands (at s.spots g) (H.shows.stands.placed g h)) in
          rw (H.idle, ← H.shows.stands.goods_there g, h, H.shows.stands.on_shelf g h, x) refl

      go_none : has (goods s) g ≡ false → turn_of P m (said (goes g)) ≡ turn P m (refused 3)
      unfolding turn_of command_turn
      go_none h = rw (H.idle, ← H.shows.stands.goods_there g, h) refl

      gone_shows : has (goods s) g ≡ true → Shows P Q gone s.shelves s.shelves (without g s.spots)
      gone_shows h = record {
        stands = stand_go P Q m.goods m.shelves m.contents s.shelves s.spots H.shows.stands g F.goods_once h;
        weighs = weigh_take P Q m.shelves m.loads s.shelves (on s.spots) (on (without g s.spots)) (at s.spots g) H.shows.stands.shelves_sound H.shows.weighs
            (H.shows.stands.placed g h) (λ j. let x = without_on g j s.spots F.goods_once h in omega arith);
      }

      go_even : has (goods s) g ≡ true → Even P Q gone 1 (at s.spots g) s.shelves (without g s.spots) → Served P Q m s (goes g)
      unfolding asks left_spots shelves_after put_all
      go_even h v = let w = gone_shows h in record {
        moves = [];
        state = at_phase P gone 0 0;
        tells = go_turn h ∙ v.says;
        greedy = v.most;
        holds = record { idle = refl; shows = record { stands = w.stands; weighs = w.weighs } };
      }

      go_mend : has (goods s) g ≡ true → Given P Q gone 1 (at s.spots g) s.shelves (without g s.spots) → Served P Q m s (goes g)
      unfolding asks left_spots shelves_after put_all turn_of
      go_mend h v = record {
        moves = mv v.good (at s.spots g) ∷ [];
        state = at_phase P v.state 0 0;
        tells = (v.state, go_turn h ∙ v.says, rw v.phase refl);
        greedy = (refl, v.in_hall, v.two, refl);
        holds = record { idle = refl; shows = record { stands = v.shows.stands; weighs = v.shows.weighs } };
      }

      go_served : has (goods s) g ≡ true → Served P Q m s (goes g)
      go_served h =
          elim (evens_step P Q gone (at s.spots g) s.shelves (without g s.spots) (gone_shows h)
          (ap distinct (without_goods g s.spots) ∙ distinct_those _ (goods s) F.goods_once) (H.shows.stands.placed g h) 1)
          [ inl v ↦ go_even h v | inr v ↦ go_mend h v ]

      pub does_go : Does P Q m s (goes g)
      unfolding refusal
      does_go = record {
        refuses = λ r. let n : has (goods s) g ≡ false = grind arith in go_none n ∙ rw n refl;
        serves = λ r. go_served (grind arith);
      }
