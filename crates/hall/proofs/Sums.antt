-- Sums over lists.
use Rattle.std.proofs.Common.{◌≡◌, ℕ, ◌+◌, ◌*◌, ◌<◌, ◌≤◌, Bool, true, eqb, List, [], ◌∷◌, ◌++◌, length, sym, refl, ap, arith}
use Rattle.std.specs.List.{AllByRecursion as All}
use Rattle.std.proofs.lemmas.Bool.{eqb-true}
use Rattle.words.proofs.Cases.{by_test}
use Rattle.hall.specs.House.{any, those, has}
use Rattle.hall.proofs.Lists.{bit, count, count_cons, all_of}

abbrev pub sum_of : {A : Type 0} → (A → ℕ) → List A → ℕ
sum_of f [] = 0
sum_of f (x ∷ xs) = f x + sum_of f xs

pub sum_add : {A : Type 0} (f g : A → ℕ) (xs : List A) → sum_of (λ x. f x + g x) xs ≡ sum_of f xs + sum_of g xs
sum_add f g [] = refl
sum_add f g (x ∷ xs) = omega (arith, sum_add f g xs)

pub sum_same : {A : Type 0} (f g : A → ℕ) (xs : List A) → All (λ x. f x ≡ g x) xs → sum_of f xs ≡ sum_of g xs
sum_same f g [] h = refl
sum_same f g (x ∷ xs) h = omega (arith, sum_same f g xs h.1)

pub sum_le : {A : Type 0} (f g : A → ℕ) (xs : List A) → All (λ x. f x ≤ g x) xs → sum_of f xs ≤ sum_of g xs
sum_le f g [] h = omega arith
sum_le f g (x ∷ xs) h = omega (arith, sum_le f g xs h.1)

pub sum_zero : {A : Type 0} (xs : List A) → sum_of (λ x. 0) xs ≡ 0
sum_zero [] = refl
sum_zero (x ∷ xs) = omega (arith, sum_zero xs)

pub sum_const : {A : Type 0} (c : ℕ) (xs : List A) → sum_of (λ x. c) xs ≡ length xs * c
sum_const c [] = omega arith
sum_const c (x ∷ xs) = omega (arith, sum_const c xs)

pub sum_bits : {A : Type 0} (f : A → Bool) (xs : List A) → sum_of (λ x. bit (f x)) xs ≡ count f xs
unfolding those
sum_bits f [] = refl
sum_bits f (x ∷ xs) = let ih = sum_bits f xs in grind arith

-- pairs counted from either side
pub both_sides : {A B : Type 0} (r : A → B → Bool) (xs : List A) (ys : List B) →
    sum_of (λ x. count (λ y. r x y) ys) xs ≡ sum_of (λ y. count (λ x. r x y) xs) ys
unfolding those
both_sides r [] ys = sym (sum_zero ys)
both_sides r (x ∷ xs) ys =
    let ih = both_sides r xs ys in
    let a = sum_bits (r x) ys in
    let b = sum_add (λ y. bit (r x y)) (λ y. count (λ z. r z y) xs) ys in
    let c : sum_of (λ y. count (λ z. r z y) (x ∷ xs)) ys ≡ sum_of (λ y. bit (r x y) + count (λ z. r z y) xs) ys =
    sum_same (λ y. count (λ z. r z y) (x ∷ xs)) (λ y. bit (r x y) + count (λ z. r z y) xs) ys (all_of _ ys (λ y. count_cons (λ z. r z y) x xs)) in
    omega arith

-- none is more, and one is less
sum_lt : (f g : ℕ → ℕ) (xs : List ℕ) (k : ℕ) → All (λ x. f x ≤ g x) xs → has xs k ≡ true → f k < g k → sum_of f xs < sum_of g xs
unfolding any
sum_lt f g [] k h e l = grind arith
sum_lt f g (x ∷ xs) k h e l =
    by_test (eqb k x)
    (λ q. let r : f k ≡ f x = ap f (eqb-true k x q) in let t : g k ≡ g x = ap g (eqb-true k x q) in omega (arith, sum_le f g xs h.1))
    (λ q. let ih = sum_lt f g xs k h.1 (grind arith) l in omega (arith, h.0))

-- some number is below, or above, the bound that all have
pub sum_below : (f : ℕ → ℕ) (c : ℕ) (xs : List ℕ) (k : ℕ) → All (λ x. f x ≤ c) xs → has xs k ≡ true → f k < c → sum_of f xs < length xs * c
sum_below f c xs k h e l = omega (arith, sum_lt f (λ x. c) xs k h e l, sum_const {A = ℕ} c xs)

pub sum_above : (f : ℕ → ℕ) (c : ℕ) (xs : List ℕ) (k : ℕ) → All (λ x. c ≤ f x) xs → has xs k ≡ true → c < f k → length xs * c < sum_of f xs
sum_above f c xs k h e l = omega (arith, sum_lt (λ x. c) f xs k h e l, sum_const {A = ℕ} c xs)

pub sum_append : {A : Type 0} (f : A → ℕ) (xs ys : List A) → sum_of f (xs ++ ys) ≡ sum_of f xs + sum_of f ys
sum_append f [] ys = omega arith
sum_append f (x ∷ xs) ys = omega (arith, sum_append f xs ys)
