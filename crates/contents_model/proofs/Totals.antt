-- The length of a list, as the sum of how often each number stands in it.
use Rattle.std.proofs.Common.{◌≡◌, ℕ, zero, suc, ◌+◌, ◌<◌, ◌≤◌, ◌≢◌, List, [], ◌∷◌, length, sym, refl, arith}
use Rattle.std.proofs.lemmas.Bool.Decides.{nat_tests}
use Rattle.words.proofs.Cases.{by_order, by_same}
use Rattle.contents_model.specs.Laws.{times}

times_own : (x : ℕ) (xs : List ℕ) → times (x ∷ xs) x ≡ suc (times xs x)
unfolding times
times_own x xs = grind (arith, nat_tests)

times_other : (x : ℕ) (xs : List ℕ) (g : ℕ) → g ≢ x → times (x ∷ xs) g ≡ times xs g
unfolding times
times_other x xs g ne = grind (arith, nat_tests)

times_more : (x : ℕ) (xs : List ℕ) (g : ℕ) → times xs g ≤ times (x ∷ xs) g
unfolding times
times_more x xs g = grind (arith, nat_tests)

-- the sum of f over the numbers below n
unfoldable pub total : ℕ → (ℕ → ℕ) → ℕ
total zero f = 0
total (suc n) f = f n + total n f

pub total_same : (n : ℕ) (f h : ℕ → ℕ) → ((g : ℕ) → g < n → h g ≡ f g) → total n h ≡ total n f
unfolding total
total_same zero f h e = refl
total_same (suc n) f h e = omega (arith, e n (omega arith), total_same n f h (λ g b. e g (omega arith)))

-- one number's share changed
pub total_move : (n x : ℕ) (f h : ℕ → ℕ) → x < n → ((g : ℕ) → g ≢ x → h g ≡ f g) → total n h + f x ≡ total n f + h x
unfolding total
total_move zero x f h b e = absurd (omega arith)
total_move (suc n) x f h b e =
    by_same x n (λ same. (let t = total_same n f h (λ g c. e g (λ w. omega arith)) in rw same (omega arith)))
    (λ ne. omega (arith, e n (λ w. ne (sym w)), total_move n x f h (omega arith) e))

total_none : (n : ℕ) → total n (times []) ≡ 0
unfolding total times
total_none zero = refl
total_none (suc n) = omega (arith, total_none n)

pub total_ones : (n : ℕ) (f : ℕ → ℕ) → ((g : ℕ) → f g ≤ 1) → total n f ≤ n
unfolding total
total_ones zero f h = omega arith
total_ones (suc n) f h = omega (arith, h n, total_ones n f h)

-- a list of numbers below n is as long as the sum of how often each stands in it
pub length_total : (n : ℕ) (xs : List ℕ) → ((g : ℕ) → n ≤ g → times xs g ≡ 0) → length xs ≡ total n (times xs)
length_total n [] past = sym (total_none n)
length_total n (x ∷ xs) past =
    let below : x < n = by_order x n (λ b. b) (λ b. absurd (omega (arith, past x b, times_own x xs))) in
    let rest = length_total n xs (λ g b. omega (arith, past g b, times_more x xs g)) in
    omega (arith, rest, times_own x xs, total_move n x (times xs) (times (x ∷ xs)) below (times_other x xs))
