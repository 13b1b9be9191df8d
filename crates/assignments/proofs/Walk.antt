-- The walk of two ascending lists side by side: what each turn of it counts.
use Rattle.std.proofs.Common.{◌≡◌, ℕ, ◌+◌, ◌<◌, Bool, true, false, not, ◌&&◌, eqb, List, [], ◌∷◌, length, sym, refl, ap, ◌∙◌, arith}
use Rattle.std.specs.List.{AllByRecursion as All}
use Rattle.std.proofs.lemmas.Bool.Decides.{nat_tests}
use Rattle.placing.specs.declared.acts.Spot.{Spot}
use Rattle.hall.specs.House.{each, every, those, moved, shelf_of, same_one, none_of}
use Rattle.hall.proofs.Lists.{bit, count, count_cons, all_of, all_weak}
use Rattle.hall.proofs.Sets.{count_same_on, count_none_of}
use Rattle.assignments.specs.Spots.{placed, store, shelf_in, above, ascends}

-- how many goods of the first list the second has on another shelf
abbrev pub crossed : List Spot → List Spot → ℕ
crossed xs ys = length (moved (store [] xs) (store [] ys))

abbrev goods_of : List Spot → List ℕ
goods_of ps = each (λ p. p.good) (each placed ps)

-- a good is on these shelves before and on those after: it is in both, on another
abbrev unlike : List ℕ → List ℕ → Bool
unlike as₁ bs = not (same_one as₁ bs) && not (none_of bs)

abbrev differs : List Spot → List Spot → ℕ → Bool
differs xs ys g = unlike (shelf_in xs g) (shelf_in ys g)

unlike_none : (as₁ : List ℕ) → unlike as₁ [] ≡ false
unfolding same_one none_of
unlike_none [] = refl
unlike_none (a ∷ as₁) = refl

unlike_one : (a b : ℕ) → unlike (a ∷ []) (b ∷ []) ≡ not (eqb a b)
unfolding same_one none_of
unlike_one a b = grind arith

pub past : (p : Spot) (ps : List Spot) (g : ℕ) → p.good < g → shelf_in (p ∷ ps) g ≡ shelf_in ps g
unfolding shelf_of each
past p ps g h = grind (arith, nat_tests)

pub here : (p : Spot) (ps : List Spot) → shelf_in (p ∷ ps) p.good ≡ p.shelf ∷ []
unfolding shelf_of each
here p ps = grind (arith, nat_tests)

pub nowhere : (g : ℕ) (ps : List Spot) → above g ps ≡ true → shelf_in ps g ≡ []
unfolding shelf_of each every
nowhere g [] h = refl
nowhere g (p ∷ ps) h = let ih : shelf_in ps g ≡ [] = nowhere g ps (grind arith) in grind (arith, nat_tests)

all_above : (g : ℕ) (ps : List Spot) → above g ps ≡ true → All (λ k. g < k) (goods_of ps)
unfolding each every
all_above g [] h = tt
all_above g (p ∷ ps) h = (grind (arith, nat_tests), all_above g ps (grind arith))

pub head_above : (p : Spot) (ps : List Spot) → ascends (p ∷ ps) ≡ true → above p.good ps ≡ true
unfolding ascends
head_above p ps h = grind arith

pub above_past : (g : ℕ) (q : Spot) (qs : List Spot) → ascends (q ∷ qs) ≡ true → g < q.good → above g (q ∷ qs) ≡ true
unfolding ascends every
above_past g q qs h lt = let up : above g qs ≡ true = above_more g q.good qs (head_above q qs h) lt in grind (arith, nat_tests)
  where
    above_more : (g k : ℕ) (qs : List Spot) → above k qs ≡ true → g < k → above g qs ≡ true
    above_more g k [] h lt = refl
    above_more g k (q ∷ qs) h lt = let ih : above g qs ≡ true = above_more g k qs (grind arith) lt in grind (arith, nat_tests)

-- the first good by itself, and the others by a test that agrees on them
apart : (f h : ℕ → Bool) (p : Spot) (ps : List Spot) → All (λ k. f k ≡ h k) (goods_of ps) →
    count f (goods_of (p ∷ ps)) ≡ bit (f p.good) + count h (goods_of ps)
unfolding each
apart f h p ps a = count_cons f p.good (goods_of ps) ∙ ap (λ n. bit (f p.good) + n) (count_same_on f h (goods_of ps) a)

-- the test of two lists is the test of two others at a good whose shelves are the same in both
alike : (xs ys xs' ys' : List Spot) (g : ℕ) → shelf_in xs g ≡ shelf_in xs' g → shelf_in ys g ≡ shelf_in ys' g →
    differs xs ys g ≡ differs xs' ys' g
alike xs ys xs' ys' g ex ey = rw (ex, ey) refl

-- a good of the first list that is below all of the second is not in the second
pub step_left : (p q : Spot) (ps qs : List Spot) → ascends (p ∷ ps) ≡ true → ascends (q ∷ qs) ≡ true → p.good < q.good →
    crossed (p ∷ ps) (q ∷ qs) ≡ crossed ps (q ∷ qs)
step_left p q ps qs hp hq lt =
    apart (differs (p ∷ ps) (q ∷ qs)) (differs ps (q ∷ qs)) p ps
    (all_weak (λ k. p.good < k) (λ k. differs (p ∷ ps) (q ∷ qs) k ≡ differs ps (q ∷ qs) k) (goods_of ps)
    (λ k h. alike (p ∷ ps) (q ∷ qs) ps (q ∷ qs) k (past p ps k h) refl) (all_above p.good ps (head_above p ps hp)))
    ∙ rw (nowhere p.good (q ∷ qs) (above_past p.good q qs hq lt), unlike_none (shelf_in (p ∷ ps) p.good)) (omega arith)

-- a good of the second list that is below all of the first counts for none of them
pub step_right : (p q : Spot) (ps qs : List Spot) → ascends (p ∷ ps) ≡ true → q.good < p.good →
    crossed (p ∷ ps) (q ∷ qs) ≡ crossed (p ∷ ps) qs
step_right p q ps qs hp lt =
    count_same_on (differs (p ∷ ps) (q ∷ qs)) (differs (p ∷ ps) qs) (goods_of (p ∷ ps))
    (all_weak (λ k. q.good < k) (λ k. differs (p ∷ ps) (q ∷ qs) k ≡ differs (p ∷ ps) qs k) (goods_of (p ∷ ps))
    (λ k h. alike (p ∷ ps) (q ∷ qs) (p ∷ ps) qs k refl (past q qs k h)) (all_above q.good (p ∷ ps) (above_past q.good p ps hp lt)))

-- a good that is first in both counts where its shelves differ
pub step_both : (p q : Spot) (ps qs : List Spot) → ascends (p ∷ ps) ≡ true → q.good ≡ p.good →
    crossed (p ∷ ps) (q ∷ qs) ≡ bit (not (eqb p.shelf q.shelf)) + crossed ps qs
step_both p q ps qs hp e =
    apart (differs (p ∷ ps) (q ∷ qs)) (differs ps qs) p ps
    (all_weak (λ k. p.good < k) (λ k. differs (p ∷ ps) (q ∷ qs) k ≡ differs ps qs k) (goods_of ps)
    (λ k h. alike (p ∷ ps) (q ∷ qs) ps qs k (past p ps k h) (past q qs k (omega arith))) (all_above p.good ps (head_above p ps hp)))
    ∙ ap (λ b. bit b + crossed ps qs) (ap (λ as₁. unlike as₁ (shelf_in (q ∷ qs) p.good)) (here p ps)
    ∙ ap (unlike (p.shelf ∷ [])) (ap (shelf_in (q ∷ qs)) (sym e) ∙ here q qs) ∙ unlike_one p.shelf q.shelf)

pub step_none : (ys : List Spot) → crossed [] ys ≡ 0
unfolding each those
step_none ys = refl

pub step_over : (xs : List Spot) → crossed xs [] ≡ 0
unfolding every
step_over xs = count_none_of (differs xs []) (goods_of xs) (all_of (λ k. differs xs [] k ≡ false) (goods_of xs) (λ k. absent xs k))
  where
    absent : (xs : List Spot) (k : ℕ) → differs xs [] k ≡ false
    absent xs k = rw (nowhere k [] refl) (unlike_none (shelf_in xs k))

pub tail_ascends : (p : Spot) (ps : List Spot) → ascends (p ∷ ps) ≡ true → ascends ps ≡ true
unfolding ascends
tail_ascends p ps h = grind arith

-- what a turn of the walk passes, by the first goods of both lists
module _ (xs ys : List Spot) (p q : Spot) (ps qs : List Spot) (ex : xs ≡ p ∷ ps) (ey : ys ≡ q ∷ qs) (hx : ascends xs ≡ true) where
  pub turn_left : ascends ys ≡ true → p.good < q.good → crossed xs ys ≡ crossed ps ys
  turn_left hy lt = rw (ex, ey) (step_left p q ps qs (rw ex at hx) (rw ey at hy) lt)

  pub turn_right : q.good < p.good → crossed xs ys ≡ crossed xs qs
  turn_right lt = rw (ex, ey) (step_right p q ps qs (rw ex at hx) lt)

  pub turn_both : p.good ≡ q.good → crossed xs ys ≡ bit (not (eqb p.shelf q.shelf)) + crossed ps qs
  turn_both e = rw (ex, ey) (step_both p q ps qs (rw ex at hx) (sym e))

pub rest_ascends : (xs : List Spot) (p : Spot) (ps : List Spot) → xs ≡ p ∷ ps → ascends xs ≡ true → ascends ps ≡ true
rest_ascends xs p ps ex hx = tail_ascends p ps (rw ex at hx)

-- where one of the lists has ended, nothing is left to count
pub ended_left : (xs ys : List Spot) → length xs ≡ 0 → crossed xs ys ≡ 0
ended_left [] ys h = step_none ys
ended_left (x ∷ xs) ys h = absurd (omega arith)

pub ended_right : (xs ys : List Spot) → length ys ≡ 0 → crossed xs ys ≡ 0
ended_right xs [] h = step_over xs
ended_right xs (y ∷ ys) h = absurd (omega arith)
