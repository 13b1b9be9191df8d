-- Keys, and how their bits from the highest down lead to one number.
use Rattle.std.proofs.Common.{◌≡◌, ℕ, zero, suc, ◌+◌, ◌-◌, ◌*◌, ◌/◌, ◌%◌, ◌^◌, ◌<◌, sym, ap, ◌∙◌, subst, ap₂, mod-lt, mod-eq_of_lt, div-lt_iff_lt-mul, arith}
use native.Mathlib.Nat.{add-mul-mod_self_right, mod-add-div, two-pow-succ}
use Rattle.std.proofs.lemmas.Nat.{pow_pos, pow-add}
use Rattle.std.proofs.lemmas.Bool.Decides.{nat_tests}
use Rattle.index_model.specs.Model.{width, heads, span, levels, key, head, bit, left}
use Rattle.index_model.specs.Sound.{half, rest, turn}
use Rattle.index_model.specs.Laws.{number_of_key, KeyLaw}

-- multiplication by a constant that has an inverse modulo 2 ^ 64
undo : (n p y z : ℕ) → p + y * 2 ^ 64 ≡ n + z * 2 ^ 64 → n < 2 ^ 64 → p % 2 ^ 64 ≡ n
undo n p y z e h =
    sym (add-mul-mod_self_right p y (2 ^ 64)) ∙ ap (λ (x : ℕ). x % 2 ^ 64) e ∙ add-mul-mod_self_right n z (2 ^ 64) ∙ mod-eq_of_lt h

pub key_law : KeyLaw
unfolding key
key_law n h = (
  undo n (key n * 0xf1de83e19937733d) (n * 0x9e3779b97f4a7c15 / 2 ^ 64 * 0xf1de83e19937733d) (n * 10771413168148108919) (omega arith) h,
  undo n (number_of_key n * 0x9e3779b97f4a7c15) (n * 0xf1de83e19937733d / 2 ^ 64 * 0x9e3779b97f4a7c15) (n * 10771413168148108919) (omega arith) h,
)

pub same_key : (n m : ℕ) → n < 2 ^ 64 → m < 2 ^ 64 → key n ≡ key m → n ≡ m
same_key n m h k e = sym (key_law n h).0 ∙ ap number_of_key e ∙ (key_law m k).0

-- the head and what is left make up the key
pub head_low : (bits n : ℕ) → head bits n < heads bits
unfolding head heads span key
head_low bits n =
    let all : width bits + (64 - width bits) ≡ 64 = omega arith in
    let whole : 2 ^ width bits * 2 ^ (64 - width bits) ≡ 2 ^ 64 = sym (pow-add 2 (width bits) (64 - width bits)) ∙ ap (λ (x : ℕ). 2 ^ x) all in
    (div-lt_iff_lt-mul (pow_pos (64 - width bits))).1 (omega arith)

pub key_parts : (bits n m : ℕ) → head bits n ≡ head bits m → rest bits n 0 ≡ rest bits m 0 → key n ≡ key m
unfolding head
key_parts bits n m e f =
    sym (mod-add-div (key n) (span bits)) ∙ ap₂ (λ (x y : ℕ). x + span bits * y) f e ∙ mod-add-div (key m) (span bits)

pub turn_low : (bits n d : ℕ) → turn bits n d < 2
unfolding turn
turn_low bits n d = grind (arith, nat_tests)

undivided : (h r q : ℕ) → bit h r ≡ bit h q → left h r ≡ left h q → r ≡ q
undivided h r q e f = grind (arith, nat_tests)

pub rest_back : (bits n m d : ℕ) → turn bits n d ≡ turn bits m d → rest bits n (suc d) ≡ rest bits m (suc d) → rest bits n d ≡ rest bits m d
unfolding turn
rest_back bits n m d = undivided (half bits d) (rest bits n d) (rest bits m d)

-- half of the keys that are left, and what is left of a key, after so many levels
half_is : (bits d k : ℕ) → k + d ≡ 64 - width bits → half bits d ≡ 2 ^ k / 2
unfolding span
half_is bits zero k e = ap (λ (x : ℕ). 2 ^ x / 2) (sym (omega arith))
half_is bits (suc d) k e =
    let twice = two-pow-succ k in
    let more = half_is bits d (suc k) (omega arith) in
    omega arith

below : (h r k : ℕ) → h ≡ k → r < k + k → left h r < k
below h r k e l = grind (arith, nat_tests)

rest_small : (bits n d k : ℕ) → k + d ≡ 64 - width bits → rest bits n d < 2 ^ k
unfolding span
rest_small bits n zero k e =
    let all : 64 - width bits ≡ k = omega arith in
    subst (λ (x : ℕ). key n % 2 ^ (64 - width bits) < 2 ^ x) all (mod-lt (key n) (pow_pos (64 - width bits)))
rest_small bits n (suc d) k e =
    let twice = two-pow-succ k in
    let is = half_is bits d (suc k) (omega arith) in
    let more = rest_small bits n d (suc k) (omega arith) in
    below (half bits d) (rest bits n d) (2 ^ k) (omega arith) (omega arith)

-- after the last level nothing is left
pub rest_none : (bits n d : ℕ) → suc d ≡ levels bits → rest bits n d ≡ 0
unfolding levels
rest_none bits n d e = let small : rest bits n d < 2 ^ 0 = rest_small bits n d 0 (omega arith) in omega arith

pub some_level : (bits : ℕ) → (d : ℕ) × (suc d ≡ levels bits)
unfolding levels
some_level bits = (64 - width bits, omega arith)
