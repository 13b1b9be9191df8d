-- One act: a good of a fullest shelf goes to a shelf, or one of a shelf to an emptiest.
use Rattle.std.proofs.Common.{◌≡◌, ℕ, suc, ◌+◌, ◌-◌, ◌<◌, ◌≤◌, true, false, eqb, leb, ◌≢◌, ◌⊎◌, List, length, sym, refl, ap, ◌∙◌, inl, inr, arith}
use Rattle.std.proofs.lemmas.Bool.Decides.{nat_tests}
use Rattle.std.proofs.lemmas.Bool.{eqb-true, eqb-false, ne_eqb, eq-eqb, leb-true, leb-false}
use Rattle.hall.specs.House.{has, distinct, Spot, put_spot}
use Rattle.hall.specs.Greedy.{on, at, goods_of}
use Rattle.hall.specs.Promise.{puts, done}
use Rattle.words.proofs.Cases.{by_test, by_same}
use Rattle.hall.proofs.Lists.{bit}
use Rattle.hall.proofs.Can.{count_length}
use Rattle.hall.proofs.Puts.{put_on}
use Rattle.machine.specs.Interfaces.{Parts, Laws}
use Rattle.machine.specs.Machine.{State, turn, at_phase, put, take, lift, evens, empties, drop_shelf}
use Rattle.machine.specs.Relation.{Weighs, Shows}
use Rattle.machine.proofs.Weighing.{weigh_add, weigh_take, weigh_same, emptiest_is, fullest_is}
use Rattle.machine.proofs.Standing.{put_length, good_slot, good_num, shelf_num, first_of, first_good, first_there, stand_carry}

pub on_room : (ps : List Spot) (k room : ℕ) → length ps ≤ room → on ps k ≤ room
on_room ps k room h = omega (arith, count_length (λ p. eqb p.shelf k) ps)

-- a shelf that a good is not on has room for it
other_room : (ps : List Spot) (g j room : ℕ) → has (goods_of ps) g ≡ true → at ps g ≢ j → length ps ≤ room → on ps j < room
other_room ps g j room i ne h =
    let a = put_on ps g j j i in
    let b = on_room (put_spot ps g j) j room (omega (arith, put_length ps g j i)) in
    grind (arith, nat_tests)

some_slot_no : (x y : ℕ) → x ≡ y → 0 < x → eqb y 0 ≡ false
some_slot_no x y e h = ne_eqb y 0 (omega arith)

module _ (P : Parts) (Q : Laws P) where
  -- no shelf has two more: the end
  pub record Even (m : State P) (p k : ℕ) (ks : List ℕ) (ps : List Spot) : Type 0 where
    pub says : evens P m p (P.shelves.find m.shelves k) ≡ turn P (at_phase P m 0 0) done
    pub most : (j : ℕ) → has ks j ≡ true → on ps j ≤ suc (on ps k)

  -- a shelf has two more: a good of a fullest goes
  pub record Given (m : State P) (p k : ℕ) (ks : List ℕ) (ps : List Spot) : Type 0 where
    pub good : ℕ
    pub state : State P
    pub says : evens P m p (P.shelves.find m.shelves k) ≡ turn P state (puts good k)
    pub in_hall : has (goods_of ps) good ≡ true
    pub from_one : has ks (at ps good) ≡ true
    pub most : (j : ℕ) → has ks j ≡ true → on ps j ≤ on ps (at ps good)
    pub two : suc (suc (on ps k)) ≤ on ps (at ps good)
    pub shows : Shows P Q state ks ks (put_spot ps good k)
    pub phase : state.phase ≡ p
    pub subject : state.subject ≡ P.shelves.find state.shelves k

  module _ (m : State P) (k : ℕ) (ks : List ℕ) (ps : List Spot) (w : Shows P Q m ks ks ps) (d : distinct (goods_of ps) ≡ true) (h : has ks k ≡ true) where
    -- the loads, after a good went from its shelf to k
    carry_weighs : (g : ℕ) → has (goods_of ps) g ≡ true → has ks (at ps g) ≡ true → 1 ≤ on ps (at ps g) → on ps k < 32768 →
        Weighs P Q m.shelves (P.loads.add_one (P.loads.take_one m.loads (P.shelves.find m.shelves (at ps g))) (P.shelves.find m.shelves k)) ks (on (put_spot ps g k))
    carry_weighs g i a l few =
        weigh_add P Q m.shelves _ ks f (on (put_spot ps g k)) k w.stands.shelves_sound
        (weigh_take P Q m.shelves m.loads ks (on ps) f (at ps g) w.stands.shelves_sound w.weighs a less)
        h (omega arith) (λ j. let x = put_on ps g k j i in let y = less j in omega arith)
      where
        f : ℕ → ℕ
        f j = on ps j - bit (eqb (at ps g) j)

        less : (j : ℕ) → (on ps j - bit (eqb (at ps g) j)) + bit (eqb (at ps g) j) ≡ on ps j
        less j = by_same (at ps g) j (λ q. let b : on ps (at ps g) ≡ on ps j = ap (on ps) q in let b₁ : eqb (at ps g) j ≡ true = eq-eqb _ _ q in rw b₁ (omega arith)) (λ q. rw (ne_eqb _ _ q) (omega arith))

    give : (p j g : ℕ) → leb (suc (suc (P.loads.load m.loads (P.shelves.find m.shelves k)))) (P.loads.load m.loads (P.loads.fullest m.loads)) ≡ true →
        P.shelves.find m.shelves j ≡ P.loads.fullest m.loads → ((i : ℕ) → has ks i ≡ true → on ps i ≤ on ps j) → has ks j ≡ true →
        has (goods_of ps) g ≡ true → at ps g ≡ j → P.goods.find m.goods g ≡ P.contents.first m.contents (P.shelves.find m.shelves j) → suc (suc (on ps k)) ≤ on ps j → Given m p k ks ps
    unfolding evens
    give p j g q e most in_ks i a first two =
        let e₁ : P.goods.find m.goods g ≡ P.contents.first m.contents (P.loads.fullest m.loads) = first ∙ ap (P.contents.first m.contents) e in
        let b : on ps (at ps g) ≡ on ps j = ap (on ps) a in
        let in_ks₁ : has ks (at ps g) ≡ true = rw a in_ks in
        let full : eqb (P.loads.fullest m.loads) 0 ≡ false = some_slot_no _ _ e (w.weighs.slot j in_ks) in
        let some : eqb (P.contents.first m.contents (P.loads.fullest m.loads)) 0 ≡ false = some_slot_no _ _ e₁ (good_slot P Q m.goods m.shelves m.contents ks ps w.stands g i) in
        let z : P.loads.fullest m.loads ≡ P.shelves.find m.shelves (at ps g) = sym e ∙ ap (P.shelves.find m.shelves) (sym a) in
        record {
          good = g;
          state = at_phase P (put P (take P m (P.goods.find m.goods g) (P.shelves.find m.shelves (at ps g))) (P.goods.find m.goods g) (P.shelves.find m.shelves k)) p (P.shelves.find m.shelves k);
          says = rw (full, q, some, ← e₁, z, good_num P Q m.goods m.shelves m.contents ks ps w.stands g i, shelf_num P Q m.goods m.shelves m.contents ks ps w.stands k h) refl;
          in_hall = i;
          from_one = in_ks₁;
          most = λ j a. let y = most j a in omega arith;
          two = omega arith;
          shows = record {
            stands = stand_carry P Q m.goods m.shelves m.contents ks ps w.stands g k i h;
            weighs = carry_weighs g i in_ks₁ (omega arith) (omega (arith, on_room ps j 32768 w.stands.goods_room));
          };
          phase = refl;
          subject = refl;
        }

    evens_from : (p j : ℕ) → P.shelves.find m.shelves j ≡ P.loads.fullest m.loads → has ks j ≡ true → ((i : ℕ) → has ks i ≡ true → on ps i ≤ on ps j) → Even m p k ks ps ⊎ Given m p k ks ps
    unfolding evens
    evens_from p j e a most =
        let l₁ : P.loads.load m.loads (P.shelves.find m.shelves k) ≡ on ps k = w.weighs.load k h in
        let l₂ : P.loads.load m.loads (P.loads.fullest m.loads) ≡ on ps j = ap (P.loads.load m.loads) (sym e) ∙ w.weighs.load j a in
        by_test (leb (suc (suc (P.loads.load m.loads (P.shelves.find m.shelves k)))) (P.loads.load m.loads (P.loads.fullest m.loads)))
        (λ q. let x = leb-true _ _ q in
        let o = first_of P Q m.goods m.shelves m.contents ks ps w.stands j d a (omega arith) in
        inr (give p j o.0 q e most a o.1 o.2 o.3 (omega arith)))
        (λ q. inl (record { says = rw (some_slot_no _ _ e (w.weighs.slot j a), q) refl; most = λ i b. let x = leb-false _ _ q in let y = most i b in omega arith }))

    pub evens_step : (p : ℕ) → Even m p k ks ps ⊎ Given m p k ks ps
    evens_step p = let f = fullest_is P Q m.shelves m.loads ks (on ps) k w.weighs h in evens_from p f.0 f.1 f.2 f.3

  -- the shelf has nothing: the end
  pub record Bare (m : State P) (k : ℕ) (ps : List Spot) : Type 0 where
    pub says : empties P m (P.shelves.find m.shelves k) ≡ turn P (drop_shelf P m (P.shelves.find m.shelves k)) done
    pub nothing : (g : ℕ) → has (goods_of ps) g ≡ true → at ps g ≢ k

  pub record Sent (m : State P) (k : ℕ) (ks os : List ℕ) (ps : List Spot) : Type 0 where
    pub good : ℕ
    pub to : ℕ
    pub state : State P
    pub says : empties P m (P.shelves.find m.shelves k) ≡ turn P state (puts good to)
    pub in_hall : has (goods_of ps) good ≡ true
    pub on_it : at ps good ≡ k
    pub to_one : has os to ≡ true
    pub least : (j : ℕ) → has os j ≡ true → on ps to ≤ on ps j
    pub shows : Shows P Q state ks os (put_spot ps good to)
    pub phase : state.phase ≡ 3
    pub subject : state.subject ≡ P.shelves.find state.shelves k

  module _ (m : State P) (k : ℕ) (ks os : List ℕ) (ps : List Spot) (w : Shows P Q m ks os ps) (h : has ks k ≡ true) (out : has os k ≡ false)
      (sub : (j : ℕ) → has os j ≡ true → has ks j ≡ true) (some : (g : ℕ) → has (goods_of ps) g ≡ true → (j : ℕ) × (has os j ≡ true)) where
    send : (g j : ℕ) → eqb (P.contents.first m.contents (P.shelves.find m.shelves k)) 0 ≡ false → has (goods_of ps) g ≡ true → at ps g ≡ k →
        P.goods.find m.goods g ≡ P.contents.first m.contents (P.shelves.find m.shelves k) → P.shelves.find m.shelves j ≡ P.loads.emptiest m.loads → has os j ≡ true →
        ((i : ℕ) → has os i ≡ true → on ps j ≤ on ps i) → Sent m k ks os ps
    unfolding empties
    send g j q i a first e in_os least = record {
      good = g;
      to = j;
      state = at_phase P (put P (lift P m (P.goods.find m.goods g)) (P.goods.find m.goods g) (P.shelves.find m.shelves j)) 3 (P.shelves.find m.shelves k);
      says = rw (q, some_slot_no _ _ e (w.weighs.slot j in_os), ← first, ← e, good_num P Q m.goods m.shelves m.contents ks ps w.stands g i, shelf_num P Q m.goods m.shelves m.contents ks ps w.stands j (sub _ in_os)) refl;
      in_hall = i;
      on_it = a;
      to_one = in_os;
      least = least;
      shows = record {
        stands = stand_carry P Q m.goods m.shelves m.contents ks ps w.stands g j i (sub _ in_os);
        weighs = weigh_same P Q m.shelves _ os _ (on (put_spot ps g j))
            (weigh_add P Q m.shelves m.loads os (on ps) (λ i. on ps i + bit (eqb j i)) j w.stands.shelves_sound w.weighs in_os (let few = other_room ps g j 32768 i (λ same. apart (sym same ∙ a)) w.stands.goods_room in omega arith) (λ i. refl))
            (λ i₁ b. let p = put_on ps g j i₁ i in grind (arith, nat_tests));
      };
      phase = refl;
      subject = refl;
    }
      where
        apart : j ≢ k
        apart e = let x : has os k ≡ true = rw e at in_os in grind arith

    pub empties_step : Bare m k ps ⊎ Sent m k ks os ps
    unfolding empties
    empties_step =
        by_test (eqb (P.contents.first m.contents (P.shelves.find m.shelves k)) 0)
        (λ q. inl (record { says = rw q refl; nothing = λ g i e. let x = eqb-true _ _ q in let y = first_there P Q m.goods m.shelves m.contents ks ps w.stands g k i e in absurd (omega arith) }))
        (λ q. let x = eqb-false _ _ q in
        let o = first_good P Q m.goods m.shelves m.contents ks ps w.stands k h (omega arith) in
        let j = some o.0 o.1 in
        let f = emptiest_is P Q m.shelves m.loads os (on ps) j.0 w.weighs j.1 in
        inr (send o.0 f.0 q o.1 o.2 o.3 f.1 f.2 f.3))
