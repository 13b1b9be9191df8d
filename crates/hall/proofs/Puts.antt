-- What putting a good on a shelf changes.
use Rattle.std.proofs.Common.{◌≡◌, ℕ, ◌+◌, true, false, not, ◌&&◌, eqb, List, [], ◌∷◌, ◌++◌, sym, refl, ap, arith}
use Rattle.std.proofs.lemmas.Bool.Decides.{nat_tests}
use Rattle.std.proofs.lemmas.Bool.{eqb-true}
use Rattle.words.proofs.Cases.{by_test}
use Rattle.hall.specs.House.{pick, any, those, each, has, distinct, Spot, shelf_of, one, put_spot}
use Rattle.hall.specs.Greedy.{at, goods_of, on}
use Rattle.hall.proofs.Lists.{bit, count, all_of}
use Rattle.hall.proofs.Sets.{count_those, count_split, count_at, count_same_on}
use Rattle.hall.proofs.Moving.{count_goods}

-- a good that is there
pub put_goods : (ps : List Spot) (g k : ℕ) → has (goods_of ps) g ≡ true → goods_of (put_spot ps g k) ≡ goods_of ps
unfolding any each put_spot
put_goods [] g k h = grind arith
put_goods (p ∷ ps) g k h =
    by_test (eqb p.good g) (λ q. rw q (ap (λ x. x ∷ goods_of ps) (sym (eqb-true p.good g q))))
    (λ q. rw q (ap (λ xs. p.good ∷ xs) (put_goods ps g k (grind (arith, nat_tests)))))

pub put_on : (ps : List Spot) (g k j : ℕ) → has (goods_of ps) g ≡ true → on (put_spot ps g k) j + bit (eqb (at ps g) j) ≡ on ps j + bit (eqb k j)
unfolding any each put_spot those shelf_of one
put_on [] g k j h = grind arith
put_on (p ∷ ps) g k j h =
    by_test (eqb p.good g) (λ q. rw q (grind (arith, nat_tests)))
    (λ q. let ih = put_on ps g k j (grind (arith, nat_tests)) in rw q (grind (arith, nat_tests)))

pub put_at : (ps : List Spot) (g k h : ℕ) → at (put_spot ps g k) h ≡ pick (eqb g h) k (at ps h)
unfolding put_spot shelf_of one
put_at [] g k h = grind (arith, nat_tests)
put_at (p ∷ ps) g k h = let ih = put_at ps g k h in grind (arith, nat_tests)

-- a good that is not
pub put_goods_new : (ps : List Spot) (g k : ℕ) → has (goods_of ps) g ≡ false → goods_of (put_spot ps g k) ≡ goods_of ps ++ g ∷ []
unfolding any each put_spot
put_goods_new [] g k h = refl
put_goods_new (p ∷ ps) g k h = let ih : goods_of (put_spot ps g k) ≡ goods_of ps ++ g ∷ [] = put_goods_new ps g k (grind arith) in grind (arith, nat_tests)

pub put_on_new : (ps : List Spot) (g k j : ℕ) → has (goods_of ps) g ≡ false → on (put_spot ps g k) j ≡ on ps j + bit (eqb k j)
unfolding any each put_spot those
put_on_new [] g k j h = grind arith
put_on_new (p ∷ ps) g k j h = let ih = put_on_new ps g k j (grind arith) in grind (arith, nat_tests)

-- a good that goes
abbrev pub without : ℕ → List Spot → List Spot
without g ps = those (λ p. not (eqb p.good g)) ps

pub without_goods : (g : ℕ) (ps : List Spot) → goods_of (without g ps) ≡ those (λ j. not (eqb j g)) (goods_of ps)
unfolding each those
without_goods g [] = refl
without_goods g (p ∷ ps) = let ih = without_goods g ps in grind arith

pub without_at : (g h : ℕ) (ps : List Spot) → eqb h g ≡ false → at (without g ps) h ≡ at ps h
unfolding those shelf_of one
without_at g h [] e = refl
without_at g h (p ∷ ps) e = let ih = without_at g h ps e in grind (arith, nat_tests)

pub without_on : (g j : ℕ) (ps : List Spot) → distinct (goods_of ps) ≡ true → has (goods_of ps) g ≡ true → on ps j ≡ bit (eqb (at ps g) j) + on (without g ps) j
without_on g j ps d h =
    let a = count_goods (λ i k. eqb k j) ps d in
    let b = count_split (λ i. eqb (at ps i) j) (λ i. eqb i g) (goods_of ps) in
    let c = count_at (λ i. eqb (at ps i) j) g (goods_of ps) d h in
    let e = count_those (λ p. eqb p.shelf j) (λ p. not (eqb p.good g)) ps in
    let f = count_goods (λ i k. not (eqb i g) && eqb k j) ps d in
    let w : count (λ i. not (eqb i g) && eqb (at ps i) j) (goods_of ps) ≡ count (λ i. eqb (at ps i) j && not (eqb i g)) (goods_of ps) =
    count_same_on _ _ (goods_of ps) (all_of _ (goods_of ps) (λ i. grind arith)) in
    omega arith
