-- The search for the least of a row, place by place.
use Rattle.std.proofs.Common.{◌≡◌, ℕ, suc, ◌+◌, ◌<◌, ◌≤◌, min, cond, eqb, ltb, List, [], ◌∷◌, length, get_or, drop, fold, Some, sym, refl, ap, ◌∙◌, arith}
use Rattle.std.specs.Prelude.{nat_lt}
use Rattle.std.specs.List.{position_from}
use Rattle.std.proofs.lemmas.List.{at_drop_more, at_drop_all}
use Rattle.std.proofs.lemmas.Iterator.Adapters.{position_from-zero}
use Rattle.std.proofs.lemmas.Bool.{cond-true, cond-false, lt-ltb, le-ltb}
use Rattle.std.proofs.lemmas.Bool.Decides.{nat_tests}
use Rattle.words.proofs.Cases.{by_order}
use Rattle.loads.specs.Entry.{emptiest_of, smaller}

-- the first place of the least number, where m at the place p is the least so far and the row goes on at the place i
unfoldable pub least_at : ℕ → ℕ → ℕ → List ℕ → ℕ
least_at p m i [] = p
least_at p m i (k ∷ ks) = cond (nat_lt k m) (least_at i k (suc i) ks) (least_at p m (suc i) ks)

fold_min : (m : ℕ) (ks : List ℕ) → fold min m ks ≤ m
fold_min m [] = omega arith
fold_min m (k ∷ ks) = let ih = fold_min (min m k) ks in omega arith

-- a search for the least number finds that place, or none before the row goes on
least_found : (p m i : ℕ) (ks : List ℕ) (l : ℕ) → l ≡ fold min m ks → Some (least_at p m i ks) ≡ cond (nat_lt l m) (position_from (λ k. eqb k l) i ks) (Some p)
unfolding least_at
least_found p m i [] l e = grind (arith, nat_tests)
least_found p m i (k ∷ ks) l e =
    let next : suc i ≡ i + 1 = omega arith in
    by_order k m
    (λ lt.
    let same : l ≡ fold min k ks = e ∙ ap (λ n. fold min n ks) (omega arith) in
    let le : fold min k ks ≤ k = fold_min k ks in
    let ih : Some (least_at i k (i + 1) ks) ≡ cond (nat_lt l k) (position_from (λ j. eqb j l) (i + 1) ks) (Some i) = least_found i k (i + 1) ks l same in
    rw next (grind (arith, nat_tests, ih, same, le)))
    (λ le.
    let same : l ≡ fold min m ks = e ∙ ap (λ n. fold min n ks) (omega arith) in
    let most : fold min m ks ≤ m = fold_min m ks in
    let ih : Some (least_at p m (i + 1) ks) ≡ cond (nat_lt l m) (position_from (λ j. eqb j l) (i + 1) ks) (Some p) = least_found p m (i + 1) ks l same in
    rw next (grind (arith, nat_tests, ih, same, most)))

pub row_some : (ks : List ℕ) → 0 < length ks → emptiest_of ks ≡ Some (least_at 0 (get_or ks 0 0) 1 (drop 1 ks))
row_some [] l = absurd (omega arith)
row_some (k ∷ ks) l =
    let le : fold min k ks ≤ k = fold_min k ks in
    let found = least_found 0 k 1 ks (fold min k ks) refl in
    position_from-zero (λ j. eqb j (fold min k ks)) (k ∷ ks) ∙ grind (arith, nat_tests, found)

pub row_end : (ks : List ℕ) (p m i : ℕ) → length ks ≤ i → least_at p m i (drop i ks) ≡ p
unfolding least_at
row_end ks p m i l = at_drop_all (least_at p m i) ks i l

module _ (ks : List ℕ) (p m i : ℕ) (in_row : i < length ks) where
  row_step : least_at p m i (drop i ks) ≡ cond (ltb (get_or ks i 0) m) (least_at i (get_or ks i 0) (i + 1) (drop (i + 1) ks)) (least_at p m (i + 1) (drop (i + 1) ks))
  unfolding least_at
  row_step = let e : suc i ≡ i + 1 = omega arith in at_drop_more (least_at p m i) ks i 0 in_row ∙ rw e refl

  -- q and n are the place and the least number afterwards
  pub row_lower : (q n : ℕ) → get_or ks i 0 < m → q ≡ i → n ≡ smaller (get_or ks i 0) m → least_at q n (i + 1) (drop (i + 1) ks) ≡ least_at p m i (drop i ks)
  row_lower q n lt is least =
      let e : n ≡ get_or ks i 0 = least ∙ cond-true (ltb (get_or ks i 0) m) (get_or ks i 0) m (lt-ltb (get_or ks i 0) m lt) in
      rw (is, e) (sym (row_step ∙ cond-true (ltb (get_or ks i 0) m) (least_at i (get_or ks i 0) (i + 1) (drop (i + 1) ks)) (least_at p m (i + 1) (drop (i + 1) ks)) (lt-ltb (get_or ks i 0) m lt)))

  pub row_not : (q n : ℕ) → m ≤ get_or ks i 0 → q ≡ p → n ≡ smaller (get_or ks i 0) m → least_at q n (i + 1) (drop (i + 1) ks) ≡ least_at p m i (drop i ks)
  row_not q n le is least =
      let e : n ≡ m = least ∙ cond-false (ltb (get_or ks i 0) m) (get_or ks i 0) m (le-ltb (get_or ks i 0) m le) in
      rw (is, e) (sym (row_step ∙ cond-false (ltb (get_or ks i 0) m) (least_at i (get_or ks i 0) (i + 1) (drop (i + 1) ks)) (least_at p m (i + 1) (drop (i + 1) ks)) (le-ltb (get_or ks i 0) m le)))
