-- Where goods are, and how many are moved.
use Rattle.std.proofs.Common.{◌≡◌, ℕ, suc, Bool, true, false, not, ◌&&◌, eqb, List, [], ◌∷◌, length, refl, ap, arith}
use Rattle.std.proofs.lemmas.Bool.Decides.{nat_tests}
use Rattle.std.proofs.lemmas.Bool.{eqb-true}
use Rattle.words.proofs.Cases.{by_test}
use Rattle.hall.specs.House.{every, any, those, each, none_of, has, distinct, Spot, Store, goods, load, shelf_of, one, same_one, moved}
use Rattle.hall.specs.Greedy.{at, goods_of}
use Rattle.hall.proofs.Lists.{count, all_from_has}
use Rattle.hall.proofs.Sets.{count_same_on}
use Rattle.hall.proofs.Loads.{Fine}

pub shelf_of_there : (ps : List Spot) (g : ℕ) → has (goods_of ps) g ≡ true → shelf_of ps g ≡ at ps g ∷ []
unfolding any each shelf_of one
shelf_of_there [] g h = grind arith
shelf_of_there (p ∷ ps) g h = let ih = shelf_of_there ps g in grind (arith, nat_tests)

pub shelf_of_none : (ps : List Spot) (g : ℕ) → has (goods_of ps) g ≡ false → shelf_of ps g ≡ []
unfolding any each shelf_of one
shelf_of_none [] g h = refl
shelf_of_none (p ∷ ps) g h = let ih = shelf_of_none ps g in grind (arith, nat_tests)

-- what is counted of spots can be counted of goods
pub count_goods : (f : ℕ → ℕ → Bool) (ps : List Spot) → distinct (goods_of ps) ≡ true →
    count (λ p. f p.good p.shelf) ps ≡ count (λ g. f g (at ps g)) (goods_of ps)
unfolding any each shelf_of one distinct those
count_goods f [] d = refl
count_goods f (p ∷ ps) d =
    let ih = count_goods f ps (grind arith) in
    let c : count (λ g. f g (at (p ∷ ps) g)) (goods_of ps) ≡ count (λ g. f g (at ps g)) (goods_of ps) =
    count_same_on _ _ (goods_of ps) (all_from_has _ (goods_of ps) (λ g i. ap (f g) (grind (arith, nat_tests)))) in
    let b : at (p ∷ ps) p.good ≡ p.shelf = grind (arith, nat_tests) in
    let b₁ : f p.good (at (p ∷ ps) p.good) ≡ f p.good p.shelf = ap (f p.good) b in
    grind arith

pub moved_test : (ps qs : List Spot) (g : ℕ) → has (goods_of ps) g ≡ true →
    (not (same_one (shelf_of ps g) (shelf_of qs g)) && not (none_of (shelf_of qs g))) ≡ (has (goods_of qs) g && not (eqb (at ps g) (at qs g)))
unfolding same_one none_of one
moved_test ps qs g h =
    by_test (has (goods_of qs) g) (λ e. rw (shelf_of_there ps g h, shelf_of_there qs g e, e) (grind arith)) (λ e. rw (shelf_of_there ps g h, shelf_of_none qs g e, e))

pub moved_count : (s t : Store) → length (moved s t) ≡ count (λ g. has (goods t) g && not (eqb (at s.spots g) (at t.spots g))) (goods s)
moved_count s t = count_same_on _ _ (goods s) (all_from_has _ (goods s) (λ g i. moved_test s.spots t.spots g i))

pub load_count : (s : Store) (k : ℕ) → distinct (goods s) ≡ true → load s k ≡ count (λ g. eqb (at s.spots g) k) (goods s)
load_count s k d = count_goods (λ g j. eqb j k) s.spots d

pub at_all : (f : ℕ → ℕ → Bool) (ps : List Spot) (g : ℕ) → every (λ p. f p.good p.shelf) ps ≡ true → has (goods_of ps) g ≡ true → f g (at ps g) ≡ true
unfolding every any each shelf_of one
at_all f [] g h i = grind arith
at_all f (p ∷ ps) g h i =
    by_test (eqb p.good g) (λ q. rw q (rw (← eqb-true p.good g q) (grind arith))) (λ q. let ih = at_all f ps g (grind arith) (grind (arith, nat_tests)) in rw q ih)

pub at_placed : (s : Store) (g : ℕ) → Fine s → has (goods s) g ≡ true → has s.shelves (at s.spots g) ≡ true
at_placed s g F h = at_all (λ g k. has s.shelves k) s.spots g F.placed h

pub length_each : {A B : Type 0} (f : A → B) (xs : List A) → length (each f xs) ≡ length xs
unfolding each
length_each f [] = refl
length_each f (x ∷ xs) = ap suc (length_each f xs)
