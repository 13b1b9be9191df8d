-- How many goods the shelves have.
use Rattle.std.proofs.Common.{◌≡◌, ℕ, suc, ◌+◌, ◌-◌, ◌*◌, ◌/◌, ◌<◌, ◌≤◌, true, eqb, leb, List, [], ◌∷◌, length, ap, ◌∙◌, div-lt_iff_lt-mul, le-div_iff_mul-le, arith}
use native.Mathlib.Nat.{div-add-mod}
use Rattle.std.proofs.lemmas.Bool.Decides.{nat_tests}
use Rattle.std.proofs.lemmas.Bool.{leb-true}
use Rattle.hall.specs.House.{every, any, has, distinct, Store, Spot, load, goods, fine, level}
use Rattle.hall.specs.Claims.{LevelLoads, LevelCount}
use Rattle.hall.proofs.Lists.{bit, count, all_weak, every_all, all_from_has, every_has, count_once}
use Rattle.hall.proofs.Sums.{sum_of, sum_add, sum_bits, sum_same, sum_le, sum_const, both_sides, sum_below}

-- each good is on one of the shelves
pub loads_sum : (ks : List ℕ) (ps : List Spot) → distinct ks ≡ true → every (λ p. has ks p.shelf) ps ≡ true →
    sum_of (λ k. count (λ p. eqb p.shelf k) ps) ks ≡ length ps
loads_sum ks ps d h =
    let a = both_sides (λ k p. eqb p.shelf k) ks ps in
    let b : sum_of (λ p. count (λ k. eqb p.shelf k) ks) ps ≡ sum_of (λ p. 1) ps =
    sum_same _ _ ps (all_weak (λ p. has ks p.shelf ≡ true) _ ps (λ p e. count_once p.shelf ks d ∙ ap bit e) (every_all (λ p. has ks p.shelf) ps h)) in
    omega (arith, sum_const {A = Spot} 1 ps)

pub record Fine (s : Store) : Type 0 where
  pub shelves_once : distinct s.shelves ≡ true
  pub goods_once : distinct (goods s) ≡ true
  pub placed : every (λ p. has s.shelves p.shelf) s.spots ≡ true

pub fine_parts : (s : Store) → fine s ≡ true → Fine s
fine_parts s f = record { shelves_once = grind arith; goods_once = grind arith; placed = grind arith }

pub level_at : (s : Store) (k j : ℕ) → level s ≡ true → has s.shelves k ≡ true → has s.shelves j ≡ true → load s k ≤ suc (load s j)
level_at s k j l h i =
    leb-true _ _ (every_has (λ j. leb (load s k) (suc (load s j))) s.shelves j (every_has (λ k. every (λ j. leb (load s k) (suc (load s j))) s.shelves) s.shelves k l h) i)

pub has_length : (ks : List ℕ) (k : ℕ) → has ks k ≡ true → 0 < length ks
unfolding any
has_length [] k h = grind arith
has_length (x ∷ ks) k h = omega arith

pub level_loads : LevelLoads
level_loads s k f l h =
    let F = fine_parts s f in
    let n = loads_sum s.shelves s.spots F.shelves_once F.placed in
    let m = has_length s.shelves k h in
    let up : sum_of (load s) s.shelves < length s.shelves * suc (load s k) =
    sum_below (load s) (suc (load s k)) s.shelves k (all_from_has _ s.shelves (λ j i. level_at s j k l i h)) h (omega arith) in
    let down : sum_of (λ j. load s k - 1) s.shelves ≤ sum_of (load s) s.shelves =
    sum_le _ _ s.shelves (all_from_has _ s.shelves (λ j i. let q = level_at s k j l h i in omega arith)) in
    let a : length s.spots / length s.shelves < suc (load s k) = (div-lt_iff_lt-mul m).1 (omega arith) in
    let b : load s k - 1 ≤ length s.spots / length s.shelves = (le-div_iff_mul-le m).1 (omega (arith, sum_const {A = ℕ} (load s k - 1) s.shelves)) in
    omega arith

pub level_count : LevelCount
level_count s f l =
    let F = fine_parts s f in
    let q = length s.spots / length s.shelves in
    let a = loads_sum s.shelves s.spots F.shelves_once F.placed in
    let b : sum_of (load s) s.shelves ≡ sum_of (λ k. q + bit (eqb (load s k) (suc q))) s.shelves =
    sum_same _ _ s.shelves (all_from_has _ s.shelves (λ k h. let x = level_loads s k f l h in grind (arith, nat_tests))) in
    let c = sum_add (λ k. q) (λ k. bit (eqb (load s k) (suc q))) s.shelves in
    omega (arith, sum_const {A = ℕ} q s.shelves, sum_bits (λ k. eqb (load s k) (suc q)) s.shelves, div-add-mod (length s.spots) (length s.shelves))
