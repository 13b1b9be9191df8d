-- A shelf that comes gets its share.
use Rattle.std.proofs.Common.{◌≡◌, ℕ, suc, ◌+◌, ◌*◌, ◌/◌, ◌<◌, ◌≤◌, true, false, eqb, ◌⊎◌, List, [], ◌∷◌, ◌++◌, length, sym, refl, ap, ◌∙◌, inl, inr, arith}
use native.Mathlib.Nat.{lt-mul-div-succ, mul-div-le}
use Rattle.std.proofs.lemmas.Bool.Decides.{nat_tests}
use Rattle.std.proofs.lemmas.Bool.{eqb-true}
use Rattle.words.proofs.Cases.{by_test, by_order}
use Rattle.hall.specs.House.{every, any, each, has, distinct, Spot, Store, goods, moved, level, shelf_comes, may_be, goods_after, shelves_after, Move, put_spot, put_all}
use Rattle.hall.specs.Greedy.{at, goods_of, on, Fullest, Filling}
use Rattle.hall.specs.Claims.{once, changes}
use Rattle.hall.proofs.Lists.{count, all_from_has}
use Rattle.hall.proofs.Sums.{sum_of, sum_below, sum_above, sum_append}
use Rattle.hall.proofs.Sets.{count_same_on, has_append, has_one, distinct_push}
use Rattle.hall.proofs.Loads.{Fine, loads_sum}
use Rattle.hall.proofs.Moving.{at_placed, length_each, count_goods}
use Rattle.hall.proofs.Puts.{put_goods, put_on, put_at}
use Rattle.hall.proofs.Ends.{Lev, lev_from, level_from, fine_from, may_from, moved_same, changes_at, lev_give, every_at}

pub record Filled (s : Store) (k : ℕ) (ps : List Spot) : Type 0 where
  pub same_goods : goods_of ps ≡ goods s
  pub stay : (g : ℕ) → has (goods s) g ≡ true → (at ps g ≡ k) ⊎ (at ps g ≡ at s.spots g)
  pub lev : Lev (on ps) s.shelves

module _ (s : Store) (k : ℕ) (F : Fine s) (no : has s.shelves k ≡ false) where
  pub filled_start : level s ≡ true → Filled s k s.spots
  filled_start l = record { same_goods = refl; stay = λ g h. inr refl; lev = lev_from s l }

  pub filled_step : (ps : List Spot) (g : ℕ) → Filled s k ps → has (goods_of ps) g ≡ true → Fullest s.shelves ps (at ps g) → Filled s k (put_spot ps g k)
  filled_step ps g f h full = record {
    same_goods = put_goods ps g k h ∙ f.same_goods;
    stay = λ j i. by_test (eqb g j) (λ q. inl (put_at ps g k j ∙ rw q refl)) (λ q. let e : at (put_spot ps g k) j ≡ at ps j = put_at ps g k j ∙ rw q refl in rw e (f.stay j i));
    lev = lev_give (on ps) (on (put_spot ps g k)) s.shelves (at ps g) k f.lev (λ j. put_on ps g k j h) no full.1;
  }

  pub filled_end : (q : ℕ) (ms : List Move) (ps : List Spot) → Filled s k ps → Filling s.shelves k q ps ms →
      Filled s k (put_all ps ms) × (on (put_all ps ms) k ≡ q)
  unfolding put_all
  filled_end q [] ps f r = (f, r)
  filled_end q (m ∷ ms) ps f r =
      filled_end q ms (put_spot ps m.good m.to) (rw r.1 (filled_step ps m.good f r.2 r.3)) r.4

-- when a new shelf has its share of n, the others, level among themselves, have that or one more
pub shares : (f : ℕ → ℕ) (ks : List ℕ) (n q : ℕ) → Lev f ks → sum_of f ks + q ≡ n → q ≡ n / suc (length ks) → (i : ℕ) → has ks i ≡ true →
    (q ≤ f i) × (f i ≤ suc q)
shares f ks n q v e d i h =
    let low : suc (length ks) * q ≤ n = rw d (mul-div-le n (suc (length ks))) in
    let high : n < suc (length ks) * (q + 1) = rw d (lt-mul-div-succ n (omega arith)) in (
      by_order (f i) q
          (λ l. let x = sum_below f q ks i (all_from_has _ ks (λ j a. let y = v j i a h in omega arith)) h l in omega arith)
          (λ l. l),
      by_order (suc q) (f i)
          (λ l. let x = sum_above f (suc q) ks i (all_from_has _ ks (λ j a. let y = v i j h a in omega arith)) h l in omega arith)
          (λ l. l),
    )

module _ (s : Store) (k : ℕ) (F : Fine s) (out : has s.shelves k ≡ false) where
  pub filled_goods_once : (ps : List Spot) → Filled s k ps → distinct (goods_of ps) ≡ true
  filled_goods_once ps f = ap distinct f.same_goods ∙ F.goods_once

  filled_placed : (ps : List Spot) → Filled s k ps → (g : ℕ) → has (goods_of ps) g ≡ true → has (s.shelves ++ k ∷ []) (at ps g) ≡ true
  filled_placed ps f g h =
      let i : has (goods s) g ≡ true = rw f.same_goods at h in
      let a = has_append s.shelves (k ∷ []) (at ps g) in
      let b = has_one k (at ps g) in
      let c = at_placed s g F i in
      elim (f.stay g i) [ inl e ↦ grind (arith, nat_tests) | inr e ↦ grind (arith, nat_tests) ]

  pub filled_moved : (ps : List Spot) → Filled s k ps → length (moved s (record { shelves = s.shelves ++ k ∷ []; spots = ps })) ≡ on ps k
  filled_moved ps f =
      moved_same s (record { shelves = s.shelves ++ k ∷ []; spots = ps }) f.same_goods
      ∙ count_same_on _ _ (goods s) (all_from_has _ (goods s) (λ g i.
      let c = at_placed s g F i in
      elim (f.stay g i) [ inl e ↦ grind (arith, nat_tests) | inr e ↦ grind (arith, nat_tests) ]))
      ∙ ap (λ gs. count (λ g. eqb (at ps g) k) gs) (sym f.same_goods)
      ∙ sym (count_goods (λ g j. eqb j k) ps (filled_goods_once ps f))

  pub filled_sum : (ps : List Spot) → Filled s k ps → sum_of (on ps) s.shelves + on ps k ≡ length s.spots
  filled_sum ps f =
      let once_all = distinct_push s.shelves k F.shelves_once out in
      let p = every_at (λ g j. has (s.shelves ++ k ∷ []) j) ps (filled_goods_once ps f) (filled_placed ps f) in
      let a = loads_sum (s.shelves ++ k ∷ []) ps once_all p in
      let b = sum_append (on ps) s.shelves (k ∷ []) in
      let c : length (goods_of ps) ≡ length (goods s) = ap length f.same_goods in
      omega (arith, length_each (λ p. p.good) ps, length_each (λ p. p.good) s.spots)

  filled_bounds : (ps : List Spot) → Filled s k ps → on ps k ≡ length s.spots / suc (length s.shelves) → (i : ℕ) → has (s.shelves ++ k ∷ []) i ≡ true →
      (on ps k ≤ on ps i) × (on ps i ≤ suc (on ps k))
  filled_bounds ps f e i h =
      by_test (has s.shelves i)
      (λ a. shares (on ps) s.shelves (length s.spots) (on ps k) f.lev (filled_sum ps f) e i a)
      (λ a. let b : eqb i k ≡ true = grind (arith, has_append s.shelves (k ∷ []) i, has_one k i) in
      let c : on ps i ≡ on ps k = ap (on ps) (eqb-true i k b) in omega arith)

  pub filled_may : (ps : List Spot) → Filled s k ps → on ps k ≡ length s.spots / suc (length s.shelves) →
      may_be s (shelf_comes k) (record { shelves = s.shelves ++ k ∷ []; spots = ps }) ≡ true
  unfolding goods_after shelves_after
  filled_may ps f e =
      may_from s (shelf_comes k) t
      (fine_from t (distinct_push s.shelves k F.shelves_once out) (filled_goods_once ps f) (filled_placed ps f))
      (level_from t lv) f.same_goods refl
    where
      t : Store
      t = record { shelves = s.shelves ++ k ∷ []; spots = ps }

      lv : Lev (on ps) (s.shelves ++ k ∷ [])
      lv i j a b = let x = filled_bounds ps f e i a in let y = filled_bounds ps f e j b in omega arith

  -- no good is put twice, and none where it is
  filling_apart : (q : ℕ) (ms : List Move) (ps : List Spot) → Filling s.shelves k q ps ms → (g : ℕ) → has (each (λ m. m.good) ms) g ≡ true → eqb (at ps g) k ≡ false
  unfolding each any
  filling_apart q [] ps r g h = grind arith
  filling_apart q (m ∷ ms) ps r g h =
      let a = r.3.0 in
      let b = put_at ps m.good m.to g in
      by_test (eqb g m.good) (λ e. grind (arith, nat_tests))
      (λ e. let ih : eqb (at (put_spot ps m.good m.to) g) k ≡ false = filling_apart q ms (put_spot ps m.good m.to) r.4 g (grind arith) in grind (arith, nat_tests))

  pub filling_once : (q : ℕ) (ms : List Move) (ps : List Spot) → Filling s.shelves k q ps ms → once ms ≡ true
  unfolding each any distinct
  filling_once q [] ps r = refl
  filling_once q (m ∷ ms) ps r =
      let ih : once ms ≡ true = filling_once q ms (put_spot ps m.good m.to) r.4 in
      let b = put_at ps m.good m.to m.good in
      let a : has (each (λ m. m.good) ms) m.good ≡ true → eqb (at (put_spot ps m.good m.to) m.good) k ≡ false =
      filling_apart q ms (put_spot ps m.good m.to) r.4 m.good in
      let d = r.1 in
      grind (arith, nat_tests)

  pub filling_changes : (q : ℕ) (ms : List Move) (ps : List Spot) → goods_of ps ≡ goods s → Filling s.shelves k q ps ms → every (changes s.spots) ms ≡ true
  unfolding every
  filling_changes q [] ps e r = refl
  filling_changes q (m ∷ ms) ps e r =
      let ih : every (changes s.spots) ms ≡ true = filling_changes q ms (put_spot ps m.good m.to) (put_goods ps m.good m.to r.2 ∙ e) r.4 in
      let h : has (goods s) m.good ≡ true = rw e at r.2 in
      let a = changes_at s.spots m h in
      let b = at_placed s m.good F h in
      let d = r.1 in
      grind (arith, nat_tests)
