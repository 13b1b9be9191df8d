-- How a store that may be there is put together from facts about its parts.
use Rattle.std.proofs.Common.{◌≡◌, ℕ, suc, ◌+◌, ◌≤◌, Bool, true, false, not, eqb, List, [], ◌∷◌, length, sym, refl, ap, ◌∙◌, arith}
use Rattle.std.proofs.lemmas.Bool.Decides.{nat_tests}
use Rattle.std.proofs.lemmas.Bool.{le-leb}
use Rattle.hall.specs.House.{every, any, each, has, distinct, same_set, Spot, Store, goods, shelf_of, one, same_one, moved, fine, level, Command, may_be, goods_after, shelves_after, Move}
use Rattle.hall.specs.Greedy.{at, goods_of, on}
use Rattle.hall.specs.Claims.{changes}
use Rattle.hall.proofs.Lists.{bit, count, all_every, all_from_has}
use Rattle.hall.proofs.Sets.{count_same_on}
use Rattle.hall.proofs.Loads.{level_at}
use Rattle.hall.proofs.Moving.{moved_count, shelf_of_there}

abbrev pub Lev : (ℕ → ℕ) → List ℕ → Type 0
Lev f ks = (i j : ℕ) → has ks i ≡ true → has ks j ≡ true → f i ≤ suc (f j)

pub lev_from : (s : Store) → level s ≡ true → Lev (on s.spots) s.shelves
lev_from s l i j h e = level_at s i j l h e

pub level_from : (s : Store) → Lev (on s.spots) s.shelves → level s ≡ true
level_from s v =
    all_every _ s.shelves (all_from_has _ s.shelves (λ i h. all_every _ s.shelves (all_from_has _ s.shelves (λ j e. le-leb _ _ (v i j h e)))))

pub every_at : (f : ℕ → ℕ → Bool) (ps : List Spot) → distinct (goods_of ps) ≡ true → ((g : ℕ) → has (goods_of ps) g ≡ true → f g (at ps g) ≡ true) →
    every (λ p. f p.good p.shelf) ps ≡ true
unfolding every any each shelf_of one distinct
every_at f [] d h = refl
every_at f (p ∷ ps) d h =
    let b : at (p ∷ ps) p.good ≡ p.shelf = grind (arith, nat_tests) in
    let a : f p.good p.shelf ≡ true = rw b at (h p.good (grind (arith, nat_tests))) in
    let ih : every (λ p. f p.good p.shelf) ps ≡ true =
    every_at f ps (grind arith) (λ g i. let e : at (p ∷ ps) g ≡ at ps g = grind (arith, nat_tests) in rw e at (h g (grind (arith, nat_tests)))) in
    grind arith

pub fine_from : (s : Store) → distinct s.shelves ≡ true → distinct (goods s) ≡ true → ((g : ℕ) → has (goods s) g ≡ true → has s.shelves (at s.spots g) ≡ true) → fine s ≡ true
fine_from s a b h = let c = every_at (λ g k. has s.shelves k) s.spots b h in grind arith

pub same_from : (xs ys : List ℕ) → ((k : ℕ) → has xs k ≡ has ys k) → same_set xs ys ≡ true
same_from xs ys h =
    let a : every (has ys) xs ≡ true = all_every (has ys) xs (all_from_has _ xs (λ k e. sym (h k) ∙ e)) in
    let b : every (has xs) ys ≡ true = all_every (has xs) ys (all_from_has _ ys (λ k e. h k ∙ e)) in
    grind arith

pub may_from : (s : Store) (c : Command) (t : Store) → fine t ≡ true → level t ≡ true → goods t ≡ goods_after s c → t.shelves ≡ shelves_after s c → may_be s c t ≡ true
may_from s c t f l e k =
    let a : same_set (goods t) (goods_after s c) ≡ true = same_from _ _ (λ j. ap (λ xs. has xs j) e) in
    let b : same_set t.shelves (shelves_after s c) ≡ true = same_from _ _ (λ j. ap (λ xs. has xs j) k) in
    grind arith

-- moved, where the goods are the same
pub moved_same : (s t : Store) → goods t ≡ goods s → length (moved s t) ≡ count (λ g. not (eqb (at s.spots g) (at t.spots g))) (goods s)
moved_same s t e = moved_count s t ∙ rw e (count_same_on _ _ (goods s) (all_from_has _ (goods s) (λ g i. rw i refl)))

pub changes_at : (ps : List Spot) (m : Move) → has (goods_of ps) m.good ≡ true → changes ps m ≡ not (eqb (at ps m.good) m.to)
unfolding same_one one
changes_at ps m h = rw (shelf_of_there ps m.good h) refl

-- one of a fullest goes elsewhere, or one comes to an emptiest
pub lev_give : (f f₁ : ℕ → ℕ) (ks : List ℕ) (a k : ℕ) → Lev f ks → ((j : ℕ) → f₁ j + bit (eqb a j) ≡ f j + bit (eqb k j)) → has ks k ≡ false →
    ((j : ℕ) → has ks j ≡ true → f j ≤ f a) → Lev f₁ ks
lev_give f f₁ ks a k v p out full i j h e =
    let x = p i in let y = p j in let z = v i j h e in let u = full i h in let w = full j e in grind (arith, nat_tests)

pub lev_get : (f f₁ : ℕ → ℕ) (ks : List ℕ) (a k : ℕ) → Lev f ks → ((j : ℕ) → f₁ j + bit (eqb a j) ≡ f j + bit (eqb k j)) → has ks a ≡ false →
    ((j : ℕ) → has ks j ≡ true → f k ≤ f j) → Lev f₁ ks
lev_get f f₁ ks a k v p out empty i j h e =
    let x = p i in let y = p j in let z = v i j h e in let u = empty i h in let w = empty j e in grind (arith, nat_tests)

pub lev_add : (f f₁ : ℕ → ℕ) (ks : List ℕ) (k : ℕ) → Lev f ks → ((j : ℕ) → f₁ j ≡ f j + bit (eqb k j)) → ((j : ℕ) → has ks j ≡ true → f k ≤ f j) → Lev f₁ ks
lev_add f f₁ ks k v p empty i j h e =
    let x = p i in let y = p j in let z = v i j h e in let u = empty i h in let w = empty j e in grind (arith, nat_tests)

-- one goes of the shelf k, and no shelf has two more then
pub lev_less : (f f₁ : ℕ → ℕ) (ks : List ℕ) (k : ℕ) → Lev f ks → ((j : ℕ) → f j ≡ bit (eqb k j) + f₁ j) → ((j : ℕ) → has ks j ≡ true → f₁ j ≤ suc (f₁ k)) → Lev f₁ ks
lev_less f f₁ ks k v p most i j h e =
    let x = p i in let y = p j in let z = v i j h e in let u = most i h in grind (arith, nat_tests)

-- one goes of a shelf that has one more than another
pub lev_off : (f f₁ : ℕ → ℕ) (ks : List ℕ) (a k : ℕ) → Lev f ks → ((j : ℕ) → f₁ j + bit (eqb a j) ≡ f j) → has ks k ≡ true → f a ≡ suc (f k) → Lev f₁ ks
lev_off f f₁ ks a k v p in₁ more i j h e =
    let x = p i in let y = p j in let z = v i j h e in let u = v i k h in₁ in grind (arith, nat_tests)

pub one_more : (f f₁ : ℕ → ℕ) (ks : List ℕ) (a k : ℕ) → Lev f ks → ((j : ℕ) → f j ≡ bit (eqb k j) + f₁ j) → has ks a ≡ true → has ks k ≡ true →
    suc (suc (f₁ k)) ≤ f₁ a → (f a ≡ suc (f k)) × (eqb a k ≡ false)
one_more f f₁ ks a k v p h e two = let x = p a in let y = p k in let z = v a k h e in (grind (arith, nat_tests), grind (arith, nat_tests))
