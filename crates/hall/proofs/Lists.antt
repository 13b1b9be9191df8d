-- Lists, tests over them, and counts.
use Rattle.std.proofs.Common.{◌≡◌, ℕ, ◌+◌, ◌≤◌, Bool, true, eqb, List, [], ◌∷◌, length, sym, refl, subst, arith}
use Rattle.std.specs.List.{AllByRecursion as All}
use Rattle.std.proofs.lemmas.Bool.{eqb-true}
use Rattle.std.proofs.lemmas.Bool.Decides.{nat_tests}
use Rattle.words.proofs.Cases.{by_test}
use Rattle.hall.specs.House.{pick, every, any, those, has, distinct}

abbrev pub bit : Bool → ℕ
bit b = pick b 1 0

pub all_of : {A : Type 0} (P : A → Type 0) (xs : List A) → ((x : A) → P x) → All P xs
all_of P [] h = tt
all_of P (x ∷ xs) h = (h x, all_of P xs h)

pub all_weak : {A : Type 0} (P Q : A → Type 0) (xs : List A) → ((x : A) → P x → Q x) → All P xs → All Q xs
all_weak P Q [] h a = tt
all_weak P Q (x ∷ xs) h a = (h x a.0, all_weak P Q xs h a.1)

-- how many pass
abbrev pub count : {A : Type 0} → (A → Bool) → List A → ℕ
count f xs = length (those f xs)

pub count_cons : {A : Type 0} (f : A → Bool) (x : A) (xs : List A) → count f (x ∷ xs) ≡ bit (f x) + count f xs
unfolding those
count_cons f x xs = grind arith

pub every_all : {A : Type 0} (f : A → Bool) (xs : List A) → every f xs ≡ true → All (λ x. f x ≡ true) xs
unfolding every
every_all f [] h = tt
every_all f (x ∷ xs) h = (grind arith, every_all f xs (grind arith))

pub count_le : {A : Type 0} (f g : A → Bool) (xs : List A) → All (λ x. f x ≡ true → g x ≡ true) xs → count f xs ≤ count g xs
unfolding those
count_le f g [] h = omega arith
count_le f g (x ∷ xs) h = let ih = count_le f g xs h.1 in grind arith

pub all_every : {A : Type 0} (f : A → Bool) (xs : List A) → All (λ x. f x ≡ true) xs → every f xs ≡ true
unfolding every
all_every f [] h = refl
all_every f (x ∷ xs) h = let ih = all_every f xs h.1 in grind arith

-- of each that is there
pub all_from_has : (P : ℕ → Type 0) (xs : List ℕ) → ((k : ℕ) → has xs k ≡ true → P k) → All P xs
unfolding any
all_from_has P [] h = tt
all_from_has P (x ∷ xs) h = (h x (grind (arith, nat_tests)), all_from_has P xs (λ k e. h k (grind arith)))

pub all_has : (P : ℕ → Type 0) (xs : List ℕ) (k : ℕ) → All P xs → has xs k ≡ true → P k
unfolding any
all_has P [] k h e = grind arith
all_has P (x ∷ xs) k h e =
    by_test (eqb k x) (λ q. subst P (sym (eqb-true k x q)) h.0) (λ q. all_has P xs k h.1 (grind arith))

pub every_has : (f : ℕ → Bool) (xs : List ℕ) (k : ℕ) → every f xs ≡ true → has xs k ≡ true → f k ≡ true
every_has f xs k h e = all_has (λ x. f x ≡ true) xs k (every_all f xs h) e

-- in a list with no two alike each is once
pub count_once : (k : ℕ) (xs : List ℕ) → distinct xs ≡ true → count (eqb k) xs ≡ bit (has xs k)
unfolding any those distinct
count_once k [] h = refl
count_once k (x ∷ xs) h = let ih : count (eqb k) xs ≡ bit (has xs k) = count_once k xs (grind arith) in grind (arith, nat_tests)
