-- A shelf that goes has each of its goods put on another.
use Rattle.std.proofs.Common.{◌≡◌, ℕ, true, false, not, eqb, ◌⊎◌, List, [], ◌∷◌, length, sym, refl, ap, ◌∙◌, inl, inr, arith}
use Rattle.std.proofs.lemmas.Bool.Decides.{nat_tests}
use Rattle.std.proofs.lemmas.Bool.{eqb-true}
use Rattle.words.proofs.Cases.{by_test}
use Rattle.hall.specs.House.{every, any, those, each, has, distinct, Spot, Store, goods, load, moved, level, shelf_goes, may_be, goods_after, shelves_after, Move, put_spot, put_all}
use Rattle.hall.specs.Greedy.{at, goods_of, on, Emptiest, Emptying}
use Rattle.hall.specs.Claims.{once, changes}
use Rattle.hall.proofs.Lists.{all_has, all_from_has}
use Rattle.hall.proofs.Sets.{count_same_on, has_those, distinct_those, count_zero}
use Rattle.hall.proofs.Loads.{Fine}
use Rattle.hall.proofs.Moving.{load_count, at_placed, count_goods}
use Rattle.hall.proofs.Puts.{put_goods, put_on, put_at}
use Rattle.hall.proofs.Ends.{Lev, lev_from, level_from, fine_from, may_from, moved_same, changes_at, lev_get}

abbrev pub rest_of : Store → ℕ → List ℕ
rest_of s k = those (λ j. not (eqb j k)) s.shelves

pub record Emptied (s : Store) (k : ℕ) (ps : List Spot) : Type 0 where
  pub same_goods : goods_of ps ≡ goods s
  pub stay : (g : ℕ) → has (goods s) g ≡ true → (at ps g ≡ at s.spots g) ⊎ ((at s.spots g ≡ k) × (has (rest_of s k) (at ps g) ≡ true))
  pub lev : Lev (on ps) (rest_of s k)

module _ (s : Store) (k : ℕ) (F : Fine s) where
  pub rest_out : has (rest_of s k) k ≡ false
  rest_out = has_those (λ j. not (eqb j k)) s.shelves k ∙ grind (arith, nat_tests)

  rest_in : (j : ℕ) → has (rest_of s k) j ≡ true → has s.shelves j ≡ true
  rest_in j h = grind (arith, has_those (λ j. not (eqb j k)) s.shelves j)

  pub emptied_start : level s ≡ true → Emptied s k s.spots
  emptied_start l = record { same_goods = refl; stay = λ g h. inl refl; lev = λ i j a b. lev_from s l i j (rest_in i a) (rest_in j b) }

  pub emptied_step : (ps : List Spot) (g j : ℕ) → Emptied s k ps → has (goods_of ps) g ≡ true → at ps g ≡ k → Emptiest (rest_of s k) ps j → Emptied s k (put_spot ps g j)
  emptied_step ps g j f h a empty = record {
    same_goods = put_goods ps g j h ∙ f.same_goods;
    stay = λ i b. let p = put_at ps g j i in
        by_test (eqb g i)
        (λ q. let e = eqb-true g i q in let c = empty.0 in
        let d : at s.spots i ≡ k = elim (f.stay i b) [ inl x ↦ cc | inr x ↦ x.0 ] in
        inr (d, grind arith))
        (λ q. let e : at (put_spot ps g j) i ≡ at ps i = p ∙ rw q refl in rw e (f.stay i b));
    lev = lev_get (on ps) (on (put_spot ps g j)) (rest_of s k) (at ps g) j f.lev (λ i. put_on ps g j i h) (ap (has (rest_of s k)) a ∙ rest_out) empty.1;
  }

  pub emptied_end : (ms : List Move) (ps : List Spot) → Emptied s k ps → Emptying (rest_of s k) k ps ms →
      Emptied s k (put_all ps ms) × (on (put_all ps ms) k ≡ 0)
  unfolding put_all
  emptied_end [] ps f r = (f, r)
  emptied_end (m ∷ ms) ps f r =
      emptied_end ms (put_spot ps m.good m.to) (emptied_step ps m.good m.to f r.0 r.1 r.2) r.3

  pub emptied_goods_once : (ps : List Spot) → Emptied s k ps → distinct (goods_of ps) ≡ true
  emptied_goods_once ps f = ap distinct f.same_goods ∙ F.goods_once

  -- nothing is left on the shelf
  emptied_off : (ps : List Spot) → Emptied s k ps → on ps k ≡ 0 → (g : ℕ) → has (goods s) g ≡ true → eqb (at ps g) k ≡ false
  emptied_off ps f z g h =
      let a = count_goods (λ g j. eqb j k) ps (emptied_goods_once ps f) in
      let b = count_zero (λ g. eqb (at ps g) k) (goods_of ps) (sym a ∙ z) in
      all_has (λ g. eqb (at ps g) k ≡ false) (goods_of ps) g b (rw f.same_goods h)

  emptied_placed : (ps : List Spot) → Emptied s k ps → on ps k ≡ 0 → (g : ℕ) → has (goods_of ps) g ≡ true → has (rest_of s k) (at ps g) ≡ true
  emptied_placed ps f z g h =
      let i : has (goods s) g ≡ true = rw f.same_goods at h in
      let a = emptied_off ps f z g i in
      let b = at_placed s g F i in
      let c = has_those (λ j. not (eqb j k)) s.shelves (at ps g) in
      elim (f.stay g i) [ inl e ↦ grind (arith, nat_tests) | inr e ↦ e.1 ]

  pub emptied_moved : (ps : List Spot) → Emptied s k ps → on ps k ≡ 0 → length (moved s (record { shelves = rest_of s k; spots = ps })) ≡ load s k
  emptied_moved ps f z =
      moved_same s (record { shelves = rest_of s k; spots = ps }) f.same_goods
      ∙ count_same_on _ _ (goods s) (all_from_has _ (goods s) (λ g i.
      let c = emptied_off ps f z g i in
      elim (f.stay g i) [ inl e ↦ grind (arith, nat_tests) | inr e ↦ let d = e.0 in grind (arith, nat_tests) ]))
      ∙ sym (load_count s k F.goods_once)

  pub emptied_may : (ps : List Spot) → Emptied s k ps → on ps k ≡ 0 →
      may_be s (shelf_goes k) (record { shelves = rest_of s k; spots = ps }) ≡ true
  unfolding goods_after shelves_after
  emptied_may ps f z =
      may_from s (shelf_goes k) t
      (fine_from t (distinct_those _ s.shelves F.shelves_once) (emptied_goods_once ps f) (emptied_placed ps f z))
      (level_from t f.lev) f.same_goods refl
    where
      t : Store
      t = record { shelves = rest_of s k; spots = ps }

  -- no good is put twice, and none where it is
  emptying_on : (ms : List Move) (ps : List Spot) → Emptying (rest_of s k) k ps ms → (g : ℕ) → has (each (λ m. m.good) ms) g ≡ true → at ps g ≡ k
  unfolding each any
  emptying_on [] ps r g h = grind arith
  emptying_on (m ∷ ms) ps r g h =
      let a = r.1 in
      let b = put_at ps m.good m.to g in
      by_test (eqb g m.good) (λ e. grind (arith, nat_tests))
      (λ e. let ih : at (put_spot ps m.good m.to) g ≡ k = emptying_on ms (put_spot ps m.good m.to) r.3 g (grind arith) in grind (arith, nat_tests))

  pub emptying_once : (ms : List Move) (ps : List Spot) → Emptying (rest_of s k) k ps ms → once ms ≡ true
  unfolding each any distinct
  emptying_once [] ps r = refl
  emptying_once (m ∷ ms) ps r =
      let ih : once ms ≡ true = emptying_once ms (put_spot ps m.good m.to) r.3 in
      let b = put_at ps m.good m.to m.good in
      let a : has (each (λ m. m.good) ms) m.good ≡ true → at (put_spot ps m.good m.to) m.good ≡ k =
      emptying_on ms (put_spot ps m.good m.to) r.3 m.good in
      let d = r.2.0 in
      let c = rest_out in
      grind (arith, nat_tests)

  pub emptying_changes : (ms : List Move) (ps : List Spot) → Emptied s k ps → Emptying (rest_of s k) k ps ms → every (changes s.spots) ms ≡ true
  unfolding every
  emptying_changes [] ps f r = refl
  emptying_changes (m ∷ ms) ps f r =
      let ih : every (changes s.spots) ms ≡ true = emptying_changes ms (put_spot ps m.good m.to) (emptied_step ps m.good m.to f r.0 r.1 r.2) r.3 in
      let h : has (goods s) m.good ≡ true = rw f.same_goods at r.0 in
      let a = changes_at s.spots m h in
      let b : at s.spots m.good ≡ k = elim (f.stay m.good h) [ inl x ↦ sym x ∙ r.1 | inr x ↦ x.0 ] in
      let d = r.2.0 in
      let c = rest_out in
      grind (arith, nat_tests)
