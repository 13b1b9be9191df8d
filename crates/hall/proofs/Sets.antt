-- Lists as sets: what is in a part of a list, and counts over lists with the same members.
use Rattle.std.proofs.Common.{◌≡◌, ℕ, suc, ◌+◌, ◌≤◌, Bool, true, false, not, ◌&&◌, eqb, List, [], ◌∷◌, ◌++◌, length, refl, ap, ◌∙◌, arith}
use Rattle.std.specs.List.{AllByRecursion as All}
use Rattle.std.proofs.lemmas.Bool.Decides.{nat_tests}
use Rattle.std.proofs.lemmas.Bool.{eqb-true}
use Rattle.words.proofs.Cases.{by_test}
use Rattle.hall.specs.House.{or, every, any, those, has, distinct, same_set}
use Rattle.hall.proofs.Lists.{all_every, bit, count, all_of, all_from_has, every_has, count_once}
use Rattle.hall.proofs.Sums.{sum_of, sum_le, sum_bits, both_sides}

pub count_same_on : {A : Type 0} (f g : A → Bool) (xs : List A) → All (λ x. f x ≡ g x) xs → count f xs ≡ count g xs
unfolding those
count_same_on f g [] h = refl
count_same_on f g (x ∷ xs) h = let ih = count_same_on f g xs h.1 in grind arith

pub count_all : {A : Type 0} (xs : List A) → count (λ x. true) xs ≡ length xs
unfolding those
count_all [] = refl
count_all (x ∷ xs) = ap suc (count_all xs)

pub count_those : {A : Type 0} (f g : A → Bool) (xs : List A) → count f (those g xs) ≡ count (λ x. g x && f x) xs
unfolding those
count_those f g [] = refl
count_those f g (x ∷ xs) = let ih = count_those f g xs in grind arith

pub count_or : {A : Type 0} (f g h : A → Bool) (xs : List A) → All (λ x. f x ≡ true → or (g x) (h x) ≡ true) xs → count f xs ≤ count g xs + count h xs
unfolding those
count_or f g h [] a = omega arith
count_or f g h (x ∷ xs) a = let ih = count_or f g h xs a.1 in grind arith

pub has_append : (xs ys : List ℕ) (k : ℕ) → has (xs ++ ys) k ≡ or (has xs k) (has ys k)
unfolding any
has_append [] ys k = refl
has_append (x ∷ xs) ys k = let ih = has_append xs ys k in grind arith

pub has_one : (x k : ℕ) → has (x ∷ []) k ≡ eqb k x
unfolding any
has_one x k = grind arith

pub has_those : (f : ℕ → Bool) (xs : List ℕ) (k : ℕ) → has (those f xs) k ≡ (has xs k && f k)
unfolding any those
has_those f [] k = refl
has_those f (x ∷ xs) k = let ih = has_those f xs k in
    by_test (eqb k x) (λ q. let e : f k ≡ f x = ap f (eqb-true k x q) in grind (arith, nat_tests)) (λ q. grind (arith, nat_tests))

pub distinct_those : (f : ℕ → Bool) (xs : List ℕ) → distinct xs ≡ true → distinct (those f xs) ≡ true
unfolding distinct those
distinct_those f [] d = refl
distinct_those f (x ∷ xs) d = let ih : distinct (those f xs) ≡ true = distinct_those f xs (grind arith) in grind (arith, has_those f xs x)

pub distinct_push : (xs : List ℕ) (k : ℕ) → distinct xs ≡ true → has xs k ≡ false → distinct (xs ++ k ∷ []) ≡ true
unfolding distinct any
distinct_push [] k d h = refl
distinct_push (x ∷ xs) k d h = let ih : distinct (xs ++ k ∷ []) ≡ true = distinct_push xs k (grind arith) (grind arith) in grind (arith, nat_tests, has_append xs (k ∷ []) x)

pub count_nothing : {A : Type 0} (xs : List A) → count (λ x. false) xs ≡ 0
unfolding those
count_nothing [] = refl
count_nothing (x ∷ xs) = count_nothing xs

pub count_there : (k : ℕ) (xs : List ℕ) → has xs k ≡ true → 1 ≤ count (eqb k) xs
unfolding any those
count_there k [] h = grind arith
count_there k (x ∷ xs) h = let ih = count_there k xs in grind arith

bit_below : (b : Bool) (k : ℕ) (xs : List ℕ) → has xs k ≡ true → bit b ≤ count (λ y. b && eqb k y) xs
bit_below true k xs h = count_there k xs h
bit_below false k xs h = omega arith

bit_above : (b : Bool) (k : ℕ) (xs : List ℕ) → distinct xs ≡ true → count (λ y. b && eqb k y) xs ≤ bit b
bit_above true k xs d = let e = count_once k xs d in grind arith
bit_above false k xs d = omega (arith, count_nothing xs)

pub turned : (f : ℕ → Bool) (y : ℕ) (xs : List ℕ) → count (λ x. f x && eqb x y) xs ≡ count (λ x. f y && eqb y x) xs
turned f y xs = count_same_on _ _ xs (all_of _ xs (λ x. by_test (eqb x y) (λ q. let e : f x ≡ f y = ap f (eqb-true x y q) in grind (arith, nat_tests)) (λ q. grind (arith, nat_tests))))

-- one is counted once
pub count_at : (f : ℕ → Bool) (y : ℕ) (xs : List ℕ) → distinct xs ≡ true → has xs y ≡ true → count (λ x. f x && eqb x y) xs ≡ bit (f y)
count_at f y xs d h = omega (arith, turned f y xs, bit_below (f y) y xs h, bit_above (f y) y xs d)

pub count_split : {A : Type 0} (f g : A → Bool) (xs : List A) → count f xs ≡ count (λ x. f x && g x) xs + count (λ x. f x && not (g x)) xs
unfolding those
count_split f g [] = refl
count_split f g (x ∷ xs) = let ih = count_split f g xs in grind arith

pub count_zero : {A : Type 0} (f : A → Bool) (xs : List A) → count f xs ≡ 0 → All (λ x. f x ≡ false) xs
unfolding those
count_zero f [] h = tt
count_zero f (x ∷ xs) h = (grind arith, count_zero f xs (grind arith))

pub any_has : (f : ℕ → Bool) (xs : List ℕ) → any f xs ≡ true → (k : ℕ) × (has xs k ≡ true) × (f k ≡ true)
unfolding any
any_has f [] h = absurd (grind arith)
any_has f (x ∷ xs) h =
    by_test (f x) (λ e. (x, grind (arith, nat_tests), e)) (λ e. let r = any_has f xs (grind arith) in (r.0, grind (arith, nat_tests), r.2))

-- what is once in one list and in another too is no more often there
pub count_sub : (f : ℕ → Bool) (xs ys : List ℕ) → distinct xs ≡ true → every (has ys) xs ≡ true → count f xs ≤ count f ys
count_sub f xs ys d h =
    let a = both_sides (λ x y. f x && eqb x y) xs ys in
    let b : sum_of (λ x. bit (f x)) xs ≤ sum_of (λ x. count (λ y. f x && eqb x y) ys) xs = sum_le _ _ xs (all_from_has _ xs (λ x i. bit_below (f x) x ys (every_has (has ys) xs x h i))) in
    let c : sum_of (λ y. count (λ x. f x && eqb x y) xs) ys ≤ sum_of (λ y. bit (f y)) ys = sum_le _ _ ys (all_of _ ys (λ y. grind (arith, bit_above (f y) y xs d, turned f y xs))) in
    omega (arith, sum_bits f xs, sum_bits f ys)

-- what two lists share is counted alike in either
pub count_within : (f : ℕ → Bool) (xs ys : List ℕ) → distinct xs ≡ true → count (λ x. has ys x && f x) xs ≤ count f ys
count_within f xs ys d =
    let a : every (has ys) (those (has ys) xs) ≡ true = all_every _ _ (all_from_has _ (those (has ys) xs) (λ k e. grind (arith, has_those (has ys) xs k))) in
    omega (arith, count_those f (has ys) xs, count_sub f (those (has ys) xs) ys (distinct_those (has ys) xs d) a)

meet_le : (f : ℕ → Bool) (xs ys : List ℕ) → distinct xs ≡ true → count (λ x. has ys x && f x) xs ≤ count (λ y. has xs y && f y) ys
meet_le f xs ys d =
    let a : count (λ x. has ys x && f x) xs ≡ count (λ x. has ys x && (has xs x && f x)) xs = count_same_on _ _ xs (all_from_has _ xs (λ k e. grind arith)) in
    omega (arith, count_within (λ x. has xs x && f x) xs ys d)

pub count_meet : (f : ℕ → Bool) (xs ys : List ℕ) → distinct xs ≡ true → distinct ys ≡ true → count (λ x. has ys x && f x) xs ≡ count (λ y. has xs y && f y) ys
count_meet f xs ys d e = omega (arith, meet_le f xs ys d, meet_le f ys xs e)

pub count_sets : (f : ℕ → Bool) (xs ys : List ℕ) → distinct xs ≡ true → distinct ys ≡ true → same_set xs ys ≡ true → count f xs ≡ count f ys
count_sets f xs ys d e h = omega (arith, count_sub f xs ys d (grind arith), count_sub f ys xs e (grind arith))

pub sets_length : (xs ys : List ℕ) → distinct xs ≡ true → distinct ys ≡ true → same_set xs ys ≡ true → length xs ≡ length ys
sets_length xs ys d e h = omega (arith, count_sets (λ x. true) xs ys d e h, count_all xs, count_all ys)

pub sets_has : (xs ys : List ℕ) → same_set xs ys ≡ true → (k : ℕ) → has xs k ≡ has ys k
sets_has xs ys h k =
    by_test (has xs k) (λ e. let a : has ys k ≡ true = every_has (has ys) xs k (grind arith) e in cc)
    (λ e. by_test (has ys k) (λ e₁. let a : has xs k ≡ true = every_has (has xs) ys k (grind arith) e₁ in cc) (λ e₁. cc))

pub count_none_of : {A : Type 0} (f : A → Bool) (xs : List A) → All (λ x. f x ≡ false) xs → count f xs ≡ 0
count_none_of f xs h = count_same_on f (λ x. false) xs h ∙ count_nothing xs

pub any_from : (f : ℕ → Bool) (xs : List ℕ) (k : ℕ) → has xs k ≡ true → f k ≡ true → any f xs ≡ true
unfolding any
any_from f [] k h e = h
any_from f (x ∷ xs) k h e =
    by_test (eqb k x) (λ q. let a : f k ≡ f x = ap f (eqb-true k x q) in grind arith) (λ q. let ih : any f xs ≡ true = any_from f xs k (grind arith) e in grind arith)
