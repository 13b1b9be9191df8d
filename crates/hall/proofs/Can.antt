-- There are always greedy moves.
use Rattle.std.proofs.Common.{◌≡◌, ℕ, zero, suc, ◌+◌, ◌<◌, ◌≤◌, Bool, true, false, eqb, ◌≢◌, ◌⊎◌, List, [], ◌∷◌, length, sym, refl, ap, subst, inl, inr, div-le_self, arith}
use Rattle.std.proofs.lemmas.Bool.Decides.{nat_tests}
use Rattle.std.proofs.lemmas.Bool.{both_ways, eqb-true, eqb-false}
use Rattle.words.proofs.Cases.{by_test, by_order}
use Rattle.hall.specs.House.{put, any, those, none_of, has, distinct, Spot, Store, goods, load, fine, level, Command, comes, goes, shelf_comes, shelf_goes, where_is, asks, refusal, divided, is_full, Move, put_spot, left_spots}
use Rattle.hall.specs.Greedy.{at, goods_of, on, Fullest, Emptiest, Filling, Emptying, Mending, Greedy}
use Rattle.hall.specs.Claims.{GreedyCan}
use Rattle.hall.proofs.Lists.{bit, count, all_of, all_weak, every_all, all_from_has, count_le}
use Rattle.hall.proofs.Sums.{sum_of, sum_le, sum_const}
use Rattle.hall.proofs.Sets.{count_all, count_at, count_split, any_has, any_from, count_none_of}
use Rattle.hall.proofs.Loads.{Fine, fine_parts}
use Rattle.hall.proofs.Moving.{at_placed, length_each, count_goods}
use Rattle.hall.proofs.Puts.{put_on, without}
use Rattle.hall.proofs.Ends.{Lev, lev_from}
use Rattle.hall.proofs.Fill.{Filled, filled_start, filled_step, filled_sum, filled_goods_once}
use Rattle.hall.proofs.Empty.{Emptied, rest_of, rest_out, emptied_start, emptied_step, emptied_goods_once}
use Rattle.hall.proofs.Single.{go_on, go_goods_once}

-- the first by an order
best_of : (R : ℕ → ℕ → Type 0) → ((i : ℕ) → R i i) → ((i j k : ℕ) → R i j → R j k → R i k) → ((i j : ℕ) → R i j ⊎ R j i) → (k : ℕ) (ks : List ℕ) →
    (j : ℕ) × (has (k ∷ ks) j ≡ true) × ((i : ℕ) → has (k ∷ ks) i ≡ true → R j i)
unfolding any
best_of R same chain total k [] = (k, grind (arith, nat_tests), λ i h. subst (λ x. R k x) (sym (eqb-true i k (grind arith))) (same k))
best_of R same chain total k (x ∷ ks) =
    let r = best_of R same chain total x ks in
    let r₁ = r.1 in
    elim (total k r.0) [
      | inl l ↦ (k, grind (arith, nat_tests), λ i h. by_test (eqb i k) (λ q. subst (λ x. R k x) (sym (eqb-true i k q)) (same k)) (λ q. chain _ _ _ l (r.2 i (grind arith))))
      | inr l ↦ (r.0, grind (arith, nat_tests), λ i h. by_test (eqb i k) (λ q. subst (λ x. R r.0 x) (sym (eqb-true i k q)) l) (λ q. r.2 i (grind arith)))
    ]

emptiest_of : (ks : List ℕ) (ps : List Spot) → 0 < length ks → (k : ℕ) × Emptiest ks ps k
emptiest_of [] ps h = absurd (omega arith)
emptiest_of (k ∷ ks) ps h =
    let r = best_of (λ i j. on ps i ≤ on ps j) (λ i. omega arith) (λ i j k a b. omega arith) (λ i j. by_order (on ps i) (on ps j) (λ l. inl (omega arith)) (λ l. inr l)) k ks in
    (r.0, (r.1, r.2))

-- a fullest shelf of shelves that are not all empty has something
fullest_of : (ks : List ℕ) (ps : List Spot) → 0 < sum_of (on ps) ks → (k : ℕ) × Fullest ks ps k × (0 < on ps k)
fullest_of [] ps h = absurd (omega arith)
fullest_of (k ∷ ks) ps h =
    let r = best_of (λ i j. on ps j ≤ on ps i) (λ i. omega arith) (λ i j k a b. omega arith) (λ i j. by_order (on ps i) (on ps j) (λ l. inr (omega arith)) (λ l. inl l)) k ks in (
      r.0,
      (r.1, r.2),
      by_order 0 (on ps r.0) (λ l. l)
          (λ l. let a = sum_le (on ps) (λ j. 0) (k ∷ ks) (all_from_has _ (k ∷ ks) (λ j i. let z = r.2 j i in omega arith)) in
          absurd (omega (arith, sum_const {A = ℕ} 0 (k ∷ ks)))),
    )

pub count_some : (f : ℕ → Bool) (xs : List ℕ) → 0 < count f xs → (k : ℕ) × (has xs k ≡ true) × (f k ≡ true)
unfolding those any
count_some f [] h = absurd (omega arith)
count_some f (x ∷ xs) h =
    by_test (f x) (λ e. (x, grind (arith, nat_tests), e))
    (λ e. let r = count_some f xs (grind arith) in let r₁ = r.1 in (r.0, grind arith, r.2))

-- a shelf with something has a good
pub good_on : (ps : List Spot) (k : ℕ) → distinct (goods_of ps) ≡ true → 0 < on ps k → (g : ℕ) × (has (goods_of ps) g ≡ true) × (at ps g ≡ k)
good_on ps k d h =
    let r = count_some (λ g. eqb (at ps g) k) (goods_of ps) (omega (arith, count_goods (λ g j. eqb j k) ps d)) in
    (r.0, r.1, eqb-true _ _ r.2)

any_false : (f : ℕ → Bool) (xs : List ℕ) (k : ℕ) → any f xs ≡ false → has xs k ≡ true → f k ≡ false
any_false f xs k h e = by_test (f k) (λ q. absurd (both_ways (any f xs) h (any_from f xs k e q))) (λ q. q)

pub some_length : {A : Type 0} (xs : List A) → none_of xs ≡ false → 0 < length xs
unfolding none_of
some_length [] h = grind arith
some_length (x ∷ xs) h = omega arith

pub count_length : {A : Type 0} (f : A → Bool) (xs : List A) → count f xs ≤ length xs
count_length f xs = omega (arith, count_le f (λ x. true) xs (all_of _ xs (λ x e. refl)), count_all xs)

mend_two : (f f₁ : ℕ → ℕ) (a k : ℕ) → ((j : ℕ) → f j ≡ bit (eqb k j) + f₁ j) → f a ≡ suc (f k) → suc (suc (f₁ k)) ≤ f₁ a
mend_two f f₁ a k p e = let x = p a in let y = p k in grind (arith, nat_tests)

go_most : (f f₁ : ℕ → ℕ) (ks : List ℕ) (j k : ℕ) → Lev f ks → ((j : ℕ) → f j ≡ bit (eqb k j) + f₁ j) → has ks j ≡ true → has ks k ≡ true → (f j ≡ suc (f k) → ⊥) → f₁ j ≤ suc (f₁ k)
go_most f f₁ ks j k v p h e n = let x = p j in let y = p k in let z = v j k h e in grind (arith, nat_tests)

module _ (s : Store) (k : ℕ) (F : Fine s) (out : has s.shelves k ≡ false) (q : ℕ) (small : q ≤ length s.spots) where
  fill_gain : (ps : List Spot) (g : ℕ) → has (goods_of ps) g ≡ true → has s.shelves (at ps g) ≡ true → on (put_spot ps g k) k ≡ suc (on ps k)
  fill_gain ps g h e = let p = put_on ps g k k h in grind (arith, nat_tests)

  fill_choice : (ps : List Spot) → Filled s k ps → on ps k < q → (g : ℕ) × (has (goods_of ps) g ≡ true) × Fullest s.shelves ps (at ps g)
  fill_choice ps f l =
      let t = fullest_of s.shelves ps (omega (arith, filled_sum s k F out ps f)) in
      let g = good_on ps t.0 (filled_goods_once s k F out ps f) t.2 in
      (g.0, g.1, rw g.2 t.1)

  fill_can : (n : ℕ) (ps : List Spot) → Filled s k ps → on ps k ≤ q → q ≤ on ps k + n → (ms : List Move) × Filling s.shelves k q ps ms
  fill_can zero ps f a b = ([], omega arith)
  fill_can (suc n) ps f a b =
      by_order (on ps k) q
      (λ l.
      let g = fill_choice ps f l in
      let x = fill_gain ps g.0 g.1 g.2.0 in
      let r = fill_can n (put_spot ps g.0 k) (filled_step s k F out ps g.0 f g.1 g.2) (omega arith) (omega arith) in
      (put g.0 k ∷ r.0, (l, refl, g.1, g.2, r.1)))
      (λ l. ([], omega arith))

module _ (s : Store) (k : ℕ) (F : Fine s) (some : 0 < length s.spots → 0 < length (rest_of s k)) where
  empty_loss : (ps : List Spot) (g j : ℕ) → has (goods_of ps) g ≡ true → at ps g ≡ k → has (rest_of s k) j ≡ true → suc (on (put_spot ps g j) k) ≡ on ps k
  empty_loss ps g j h e i = let p = put_on ps g j k h in let o = rest_out s k F in grind (arith, nat_tests)

  empty_choice : (ps : List Spot) → Emptied s k ps → 0 < on ps k → (j : ℕ) × Emptiest (rest_of s k) ps j
  empty_choice ps f l =
      let a : length (goods_of ps) ≡ length (goods s) = ap length f.same_goods in
      emptiest_of (rest_of s k) ps (some (omega (arith, count_length (λ p. eqb p.shelf k) ps, length_each (λ p. p.good) ps, length_each (λ p. p.good) s.spots)))

  empty_can : (n : ℕ) (ps : List Spot) → Emptied s k ps → on ps k ≤ n → (ms : List Move) × Emptying (rest_of s k) k ps ms
  empty_can zero ps f a = ([], omega arith)
  empty_can (suc n) ps f a =
      by_order 0 (on ps k)
      (λ l.
      let g = good_on ps k (emptied_goods_once s k F ps f) l in
      let t = empty_choice ps f l in
      let x = empty_loss ps g.0 t.0 g.1 g.2 t.1.0 in
      let r = empty_can n (put_spot ps g.0 t.0) (emptied_step s k F ps g.0 t.0 f g.1 g.2 t.1) (omega arith) in
      (put g.0 t.0 ∷ r.0, (g.1, g.2, t.1, r.1)))
      (λ l. ([], omega arith))

pub rest_some : (s : Store) (k : ℕ) → Fine s → has s.shelves k ≡ true → length s.shelves ≢ 1 → 0 < length (rest_of s k)
rest_some s k F h e =
    let a = count_split (λ j. true) (λ j. eqb j k) s.shelves in
    let b = count_at (λ j. true) k s.shelves F.shelves_once h in
    omega (arith, count_all s.shelves)

module _ (s : Store) (g : ℕ) (F : Fine s) (v : Lev (on s.spots) s.shelves) (there : has (goods s) g ≡ true) where
  mend_can : is_full s (suc (load s (at s.spots g))) ≡ true → (ms : List Move) × Mending s.shelves (at s.spots g) (without g s.spots) ms
  mend_can e =
      let k = any_has _ s.shelves e in
      let x = eqb-true _ _ k.2 in
      let two = mend_two (on s.spots) (on (without g s.spots)) k.0 (at s.spots g) (go_on s g F v there) x in
      let h = good_on (without g s.spots) k.0 (go_goods_once s g F v there) (omega arith) in
      (put h.0 (at s.spots g) ∷ [], (refl, h.1, rw h.2 two, refl))

  go_can : is_full s (suc (load s (at s.spots g))) ≡ false → (ms : List Move) × Mending s.shelves (at s.spots g) (without g s.spots) ms
  go_can e = (
    [],
    λ j h. go_most (on s.spots) (on (without g s.spots)) s.shelves j (at s.spots g) v (go_on s g F v there) h (at_placed s g F there)
        (eqb-false _ _ (any_false _ s.shelves j e h)),
  )

pub none_on : (s : Store) (k : ℕ) → Fine s → has s.shelves k ≡ false → on s.spots k ≡ 0
none_on s k F out =
    count_none_of _ s.spots (all_weak (λ p. has s.shelves p.shelf ≡ true) _ s.spots (λ p e. grind (arith, nat_tests)) (every_all _ s.spots F.placed))

pub some_none : {A : Type 0} (xs : List A) → 0 < length xs → none_of xs ≡ false
unfolding none_of
some_none [] h = absurd (omega arith)
some_none (x ∷ xs) h = refl

can : (s : Store) (c : Command) → fine s ≡ true → level s ≡ true → refusal s c ≡ 0 → asks c ≡ false → (ms : List Move) × Greedy s c ms
unfolding refusal asks left_spots
can s (comes g) f l r a = let k = emptiest_of s.shelves s.spots (some_length s.shelves (grind arith)) in (put g k.0 ∷ [], (k.0, k.1, refl))
can s (goes g) f l r a =
    by_test (is_full s (suc (load s (at s.spots g))))
    (λ e. mend_can s g (fine_parts s f) (lev_from s l) (grind arith) e)
    (λ e. go_can s g (fine_parts s f) (lev_from s l) (grind arith) e)
can s (shelf_comes k) f l r a =
    let F = fine_parts s f in
    let out : has s.shelves k ≡ false = grind arith in
    let z = none_on s k F out in
    fill_can s k F out _ (grind (arith, nat_tests, div-le_self (length s.spots) (suc (length s.shelves)))) (divided (length s.spots) (suc (length s.shelves)))
    s.spots (filled_start s k F out l) (omega arith) (omega arith)
can s (shelf_goes k) f l r a =
    let F = fine_parts s f in
    empty_can s k F (λ z. let x = some_none s.spots z in rest_some s k F (grind arith) (grind (arith, nat_tests))) (on s.spots k) s.spots (emptied_start s k F l) (omega arith)
can s (where_is g) f l r a = absurd (grind arith)

pub greedy_can : GreedyCan
greedy_can = can
