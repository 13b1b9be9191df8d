-- The rows of the worked spring.
use Rattle.std.proofs.Common.{◌≡◌, ℕ, zero, suc, ◌+◌, ◌≤◌, Bool, true, false, not, ◌&&◌, eqb, leb, ◌⊎◌, List, [], ◌∷◌, ◌++◌, length, sym, refl, ap, ◌∙◌, subst, inl, inr, arith}
use Rattle.std.specs.List.{AllByRecursion as All}
use Rattle.std.proofs.lemmas.Bool.Decides.{nat_tests}
use Rattle.std.proofs.lemmas.Bool.{eqb-true, leb-true, both_ways}
use Rattle.words.proofs.Cases.{by_test, by_order}
use Rattle.hall.specs.House.{put, pick, every, any, those, each, none_of, has, distinct, same_set, same_one, shelf_of, one, Spot, Store, goods, load, fine, level, is_full, Command, comes, goes, shelf_comes, shelf_goes, asks, refusal, fewest, goods_after, shelves_after, Move, put_all, left_spots, after}
use Rattle.hall.specs.Greedy.{on, at, goods_of}
use Rattle.hall.specs.Claims.{Changed, arrivals}
use Rattle.hall.specs.Spring.{Stocked, Spring}
use Rattle.hall.proofs.Lists.{bit, all_weak, every_all, all_every, every_has}
use Rattle.hall.proofs.Sums.{sum_of}
use Rattle.hall.proofs.Sets.{sets_has, sets_length, has_append, has_one, has_those, any_has}
use Rattle.hall.proofs.Loads.{Fine, fine_parts, level_at, loads_sum}
use Rattle.hall.proofs.Moving.{shelf_of_there, shelf_of_none, at_placed, length_each}
use Rattle.hall.proofs.Lower.{May, may_parts}
use Rattle.hall.proofs.Puts.{put_on, put_at, put_on_new, without_on}
use Rattle.hall.proofs.Ends.{level_from, same_from}
use Rattle.hall.proofs.Can.{good_on, none_on, some_none}
use Rattle.hall.proofs.Changes.{put_of, all_put_has, puts_count, put_there, put_coming, moved_put, all_put_to}

no_put : (ms : List Move) → length ms ≡ 0 → ms ≡ []
no_put [] e = refl
no_put (m ∷ ms) e = absurd (omega arith)

-- how many a change puts, where `fewest` is known
tally : (s : Store) (c : Command) (ms : List Move) (n : ℕ) → fine s ≡ true → level s ≡ true → refusal s c ≡ 0 → asks c ≡ false → Changed s c ms → fewest s c ≡ n → length ms ≡ arrivals c + n
tally s c ms n f l r a C e = (puts_count s c ms f l r a C).1 ∙ ap (λ n. arrivals c + n) e

-- a change with one put
record One (s : Store) (c : Command) (ms : List Move) : Type 0 where
  good : ℕ
  to : ℕ
  is : ms ≡ put good to ∷ []
  may : May s c (after s c ms)
  there : has (goods_after s c) good ≡ true
  coming : (g : ℕ) → has (goods_after s c) g ≡ true → has (goods s) g ≡ false → good ≡ g
  placed : has (shelves_after s c) to ≡ true
  at_then : (g : ℕ) → at (after s c ms).spots g ≡ pick (eqb good g) to (at (left_spots s c) g)
  moves : has (goods_of (left_spots s c)) good ≡ true → (j : ℕ) → load (after s c ms) j + bit (eqb (at (left_spots s c) good) j) ≡ on (left_spots s c) j + bit (eqb to j)
  adds : has (goods_of (left_spots s c)) good ≡ false → (j : ℕ) → load (after s c ms) j ≡ on (left_spots s c) j + bit (eqb to j)

one_of : (s : Store) (c : Command) (ms : List Move) → fine s ≡ true → Changed s c ms → length ms ≡ 1 → One s c ms
unfolding put_all Changed any each
one_of s c [] f C e = absurd (omega arith)
one_of s c (m ∷ []) f C e =
    let ps = left_spots s c in
    let t = after s c (m ∷ []) in
    let M = may_parts s c t C.0 in
    record {
      good = m.good;
      to = m.to;
      is = refl;
      may = M;
      there = put_there s c (m ∷ []) (fine_parts s f) M C.1 C.2 m.good (grind (arith, nat_tests));
      coming = λ g h e. let q = put_coming s c (m ∷ []) (fine_parts s f) M C.1 C.2 g h e in grind (arith, nat_tests);
      placed =
          let h : has (goods t) m.good ≡ true = all_put_has (m ∷ []) ps m.good ∙ grind (arith, nat_tests) in
          let a = at_placed t m.good (fine_parts t M.is_fine) h in
          let b = put_at ps m.good m.to m.good in
          grind (arith, nat_tests);
      at_then = put_at ps m.good m.to;
      moves = λ h j. put_on ps m.good m.to j h;
      adds = λ h j. put_on_new ps m.good m.to j h;
    }
one_of s c (m ∷ n ∷ ms) f C e = absurd (omega arith)

one_is : (s : Store) (c : Command) (ms : List Move) (d : One s c ms) (g k : ℕ) → d.good ≡ g → d.to ≡ k → ms ≡ put g k ∷ []
one_is s c ms d g k e f = d.is ∙ ap (λ x. put x d.to ∷ []) e ∙ ap (λ x. put g x ∷ []) f

shelf_there : (ps : List Spot) (g k : ℕ) → shelf_of ps g ≡ k ∷ [] → (has (goods_of ps) g ≡ true) × (at ps g ≡ k)
unfolding one
shelf_there ps g k e = (
  by_test (has (goods_of ps) g) (λ q. q) (λ q. let a = shelf_of_none ps g q in let z : ◌≡◌ {A = ℕ} 0 1 = cc in absurd (omega arith)),
  ap one e,
)

has_each : (f : ℕ → ℕ) (ks : List ℕ) (k : ℕ) → has ks k ≡ true → has (each f ks) (f k) ≡ true
unfolding any each
has_each f [] k h = h
has_each f (x ∷ ks) k h = by_test (eqb k x) (λ q. let e : f k ≡ f x = ap f (eqb-true k x q) in grind (arith, nat_tests)) (λ q. let ih = has_each f ks k (grind arith) in grind (arith, nat_tests))

-- what the function gives, one by one
abbrev Each : (ℕ → ℕ) → List ℕ → List ℕ → Type 0
Each f [] [] = zero ≡ zero
Each f [] (l ∷ ls) = ⊥
Each f (k ∷ ks) [] = ⊥
Each f (k ∷ ks) (l ∷ ls) = (f k ≡ l) × Each f ks ls

each_out : (f : ℕ → ℕ) (ks ls : List ℕ) → each f ks ≡ ls → Each f ks ls
unfolding each
each_out f [] [] e = refl
each_out f [] (l ∷ ls) e = absurd (omega (arith, ap length e))
each_out f (k ∷ ks) [] e = absurd (omega (arith, ap length e))
each_out f (k ∷ ks) (l ∷ ls) e = (cc, each_out f ks ls cc)

each_in : (f : ℕ → ℕ) (ks ls : List ℕ) → Each f ks ls → each f ks ≡ ls
unfolding each
each_in f [] [] h = refl
each_in f [] (l ∷ ls) h = absurd h
each_in f (k ∷ ks) [] h = absurd h
each_in f (k ∷ ks) (l ∷ ls) h = let ih = each_in f ks ls h.1 in let e = h.0 in cc

module _ {s : Store} {ks ls : List ℕ} (S : Stocked s ks ls) where
  loads_of : Each (load s) ks ls
  loads_of = each_out (load s) ks ls S.loads_are

  parts : Fine s
  parts = fine_parts s S.is_fine

  stocked_has : (k : ℕ) → has s.shelves k ≡ has ks k
  stocked_has = sets_has s.shelves ks S.shelves_are

  stocked_at : (g : ℕ) → has (goods s) g ≡ true → has ks (at s.spots g) ≡ true
  stocked_at g h = sym (stocked_has _) ∙ at_placed s g parts h

  stocked_sum : distinct ks ≡ true → sum_of (load s) ks ≡ length s.spots
  stocked_sum d =
      loads_sum ks s.spots d
      (all_every _ s.spots (all_weak (λ p. has s.shelves p.shelf ≡ true) _ s.spots (λ p e. sym (stocked_has _) ∙ e) (every_all _ s.spots parts.placed)))

  stocked_shelves : distinct ks ≡ true → length s.shelves ≡ length ks
  stocked_shelves d = sets_length s.shelves ks parts.shelves_once d S.shelves_are

  -- what holds of the numbers holds of each shelf's load
  stocked_load : (f : ℕ → Bool) (k : ℕ) → every f ls ≡ true → has s.shelves k ≡ true → f (load s k) ≡ true
  stocked_load f k e h = every_has f ls (load s k) e (subst (λ xs. has xs (load s k) ≡ true) S.loads_are (has_each (load s) ks k (sym (stocked_has k) ∙ h)))

  stocked_level : (n : ℕ) → every (λ l. leb n l && leb l (suc n)) ls ≡ true → level s ≡ true
  stocked_level n e = level_from s (λ i j a b. let x = stocked_load _ i e a in let y = stocked_load _ j e b in grind (arith, nat_tests))

abbrev two : List ℕ
two = 10 ∷ 20 ∷ []

abbrev three : List ℕ
three = 10 ∷ 20 ∷ 30 ∷ []

three_and_two : (s : Store) → fine s ≡ true → level s ≡ true → same_set s.shelves (10 ∷ 20 ∷ []) ≡ true → same_set (goods s) (1 ∷ 2 ∷ 3 ∷ 4 ∷ 5 ∷ []) ≡ true →
    Stocked s (10 ∷ 20 ∷ []) (3 ∷ 2 ∷ []) ⊎ Stocked s (10 ∷ 20 ∷ []) (2 ∷ 3 ∷ [])
unfolding distinct any
three_and_two s f l k g =
    let S : Stocked s (10 ∷ 20 ∷ []) (each (load s) (10 ∷ 20 ∷ [])) = record { is_fine = f; shelves_are = k; loads_are = refl } in
    let n = stocked_sum S refl in
    let m : length (goods s) ≡ 5 = sets_length (goods s) (1 ∷ 2 ∷ 3 ∷ 4 ∷ 5 ∷ []) (fine_parts s f).goods_once refl g in
    let a = level_at s 10 20 l (stocked_has S 10) (stocked_has S 20) in
    let b = level_at s 20 10 l (stocked_has S 20) (stocked_has S 10) in
    let c : load s 10 + load s 20 ≡ 5 = omega (arith, length_each (λ p. p.good) s.spots) in
    by_order (load s 10) 3
    (λ q. inr (record { is_fine = f; shelves_are = k; loads_are = each_in (load s) two (2 ∷ 3 ∷ []) (omega arith, (omega arith, refl)) }))
    (λ q. inl (record { is_fine = f; shelves_are = k; loads_are = each_in (load s) two (3 ∷ 2 ∷ []) (omega arith, (omega arith, refl)) }))

-- one of two shelves with five goods is put: from the one with three, on the third
fill_one : (f f₁ : ℕ → ℕ) (a k : ℕ) → ((j : ℕ) → f₁ j + bit (eqb a j) ≡ f j + bit (eqb k j)) → has two a ≡ true → has three k ≡ true →
    f 10 + f 20 ≡ 5 → f 30 ≡ 0 → f₁ 10 ≤ suc (f₁ 30) → f₁ 20 ≤ suc (f₁ 30) → (k ≡ 30) × (f a ≡ 3) × Each f₁ three (2 ∷ 2 ∷ 1 ∷ [])
unfolding any
fill_one f f₁ a k p ha hk e z l m =
    let x = p 10 in
    let y = p 20 in
    let w = p 30 in
    let u : a ≡ 10 → f a ≡ f 10 = λ q. ap f q in
    let v : a ≡ 20 → f a ≡ f 20 = λ q. ap f q in
    (grind (arith, nat_tests), grind (arith, nat_tests), (grind (arith, nat_tests), (grind (arith, nat_tests), (grind (arith, nat_tests), refl))))

module _ {s : Store} {ls : List ℕ} (S : Stocked s two ls) (l : level s ≡ true) (five : load s 10 + load s 20 ≡ 5) where
  open_has : (j : ℕ) → has (s.shelves ++ 30 ∷ []) j ≡ has three j
  unfolding any
  open_has j = let a = has_append s.shelves (30 ∷ []) j in let b = stocked_has S j in grind arith

  open_put : (ms : List Move) → Changed s (shelf_comes 30) ms → One s (shelf_comes 30) ms
  unfolding any distinct refusal fewest asks arrivals
  open_put ms C =
      let n : length s.spots ≡ 5 = omega (arith, stocked_sum S refl) in
      one_of s (shelf_comes 30) ms S.is_fine C
      (tally s (shelf_comes 30) ms 1 S.is_fine l (rw (stocked_has S 30, stocked_shelves S refl) refl) refl C (rw (n, stocked_shelves S refl) refl))

  open_row : (ms : List Move) → Changed s (shelf_comes 30) ms →
      (g k : ℕ) × (shelf_of s.spots g ≡ k ∷ []) × (load s k ≡ 3) × (ms ≡ put g 30 ∷ []) × Stocked (after s (shelf_comes 30) ms) three (2 ∷ 2 ∷ 1 ∷ [])
  unfolding left_spots goods_after shelves_after any
  open_row ms C =
      let d = open_put ms C in
      let t = after s (shelf_comes 30) ms in
      let v = fill_one (load s) (load t) (at s.spots d.good) d.to (d.moves d.there) (stocked_at S d.good d.there)
      (sym (open_has d.to) ∙ d.placed) five (none_on s 30 (parts S) (stocked_has S 30))
      (level_at t 10 30 d.may.is_level (open_has 10) (open_has 30)) (level_at t 20 30 d.may.is_level (open_has 20) (open_has 30)) in (
        d.good,
        at s.spots d.good,
        shelf_of_there s.spots d.good d.there,
        v.1,
        one_is s _ ms d d.good 30 refl v.0,
        record { is_fine = d.may.is_fine; shelves_are = same_from _ three open_has; loads_are = each_in (load t) three (2 ∷ 2 ∷ 1 ∷ []) v.2 },
      )

-- a sixth good comes to the shelf with one
come_one : (f f₁ : ℕ → ℕ) (k : ℕ) → ((j : ℕ) → f₁ j ≡ f j + bit (eqb k j)) → has three k ≡ true → Each f three (2 ∷ 2 ∷ 1 ∷ []) →
    f₁ 10 ≤ suc (f₁ 30) → f₁ 20 ≤ suc (f₁ 30) → (k ≡ 30) × Each f₁ three (2 ∷ 2 ∷ 2 ∷ [])
unfolding any
come_one f f₁ k p h a l m =
    let x = p 10 in
    let y = p 20 in
    let w = p 30 in
    (grind (arith, nat_tests), (grind (arith, nat_tests), (grind (arith, nat_tests), (grind (arith, nat_tests), refl))))

good_6_comes : (s : Store) (ms : List Move) → Stocked s three (2 ∷ 2 ∷ 1 ∷ []) → has (goods s) 6 ≡ false → Changed s (comes 6) ms →
    (ms ≡ put 6 30 ∷ []) × Stocked (after s (comes 6) ms) three (2 ∷ 2 ∷ 2 ∷ [])
unfolding left_spots goods_after shelves_after any distinct refusal fewest asks arrivals every
good_6_comes s ms S out C =
    let a = loads_of S in
    let n : length s.spots ≡ 5 = omega (arith, stocked_sum S refl) in
    let d = one_of s (comes 6) ms S.is_fine C
    (tally s (comes 6) ms 0 S.is_fine (stocked_level S 1 refl) (rw (out, some_none s.shelves (omega (arith, stocked_shelves S refl)), n) refl) refl C refl) in
    let t = after s (comes 6) ms in
    let e = d.coming 6 (has_append (goods s) (6 ∷ []) 6 ∙ grind (arith, nat_tests)) out in
    let v = come_one (load s) (load t) d.to (d.adds (ap (has (goods s)) e ∙ out)) (sym (stocked_has S d.to) ∙ d.placed) (loads_of S)
    (level_at t 10 30 d.may.is_level (stocked_has S 10) (stocked_has S 30)) (level_at t 20 30 d.may.is_level (stocked_has S 20) (stocked_has S 30)) in (
      one_is s _ ms d 6 30 e v.0,
      record { is_fine = d.may.is_fine; shelves_are = S.shelves_are; loads_are = each_in (load t) three (2 ∷ 2 ∷ 2 ∷ []) v.1 },
    )

-- a good goes from a shelf than which none has more
module _ {s : Store} {ks ls : List ℕ} (S : Stocked s ks ls) (l : level s ≡ true) (g k : ℕ) (e : shelf_of s.spots g ≡ k ∷ []) (most : every (λ x. leb x (load s k)) ls ≡ true) where
  goes_few : fewest s (goes g) ≡ 0
  unfolding fewest one
  goes_few =
      by_test (is_full s (suc (load s (one (shelf_of s.spots g)))))
      (λ q. let j = any_has _ s.shelves q in
      let x = eqb-true _ _ j.2 in
      let y = leb-true _ _ (stocked_load S (λ x. leb x (load s k)) j.0 most j.1) in
      let z : load s (one (shelf_of s.spots g)) ≡ load s k = ap (λ xs. load s (one xs)) e in
      absurd (omega arith))
      (λ q. rw q refl)

  goes_fine : Changed s (goes g) [] → fine (after s (goes g) []) ≡ true
  unfolding Changed
  goes_fine C = (may_parts s (goes g) (after s (goes g) []) C.0).is_fine

  goes_load : (j : ℕ) → load s j ≡ bit (eqb k j) + load (after s (goes g) []) j
  unfolding left_spots put_all
  goes_load j =
      let a = shelf_there s.spots g k e in
      subst (λ i. load s j ≡ bit (eqb i j) + load (after s (goes g) []) j) a.1 (without_on g j s.spots (parts S).goods_once a.0)

  goes_row : (ls₁ : List ℕ) → each (load (after s (goes g) [])) ks ≡ ls₁ → (ms : List Move) → Changed s (goes g) ms → (ms ≡ []) × Stocked (after s (goes g) ms) ks ls₁
  unfolding shelves_after arrivals asks refusal
  goes_row ls₁ a ms C =
      let z = no_put ms (tally s (goes g) ms 0 S.is_fine l (rw (shelf_there s.spots g k e).0 refl) refl C goes_few) in
      rw z (refl, record { is_fine = goes_fine (rw z at C); shelves_are = S.shelves_are; loads_are = a })

good_of_30_goes : (s : Store) (g : ℕ) (ms : List Move) → Stocked s three (2 ∷ 2 ∷ 2 ∷ []) → shelf_of s.spots g ≡ 30 ∷ [] → Changed s (goes g) ms →
    (ms ≡ []) × Stocked (after s (goes g) ms) three (2 ∷ 2 ∷ 1 ∷ [])
unfolding every
good_of_30_goes s g ms S e C =
    let a = loads_of S in
    let most : every (λ x. leb x (load s 30)) (2 ∷ 2 ∷ 2 ∷ []) ≡ true = rw a.1.1.0 refl in
    let l = stocked_level S 2 refl in
    let d = goes_load S l g 30 e most in
    goes_row S l g 30 e most (2 ∷ 2 ∷ 1 ∷ []) (each_in _ three (2 ∷ 2 ∷ 1 ∷ []) (omega (arith, d 10), (omega (arith, d 20), (omega (arith, d 30), refl)))) ms C

good_of_10_goes : (s : Store) (g : ℕ) (ms : List Move) → Stocked s three (2 ∷ 2 ∷ 1 ∷ []) → shelf_of s.spots g ≡ 10 ∷ [] → Changed s (goes g) ms →
    (ms ≡ []) × Stocked (after s (goes g) ms) three (1 ∷ 2 ∷ 1 ∷ [])
unfolding every
good_of_10_goes s g ms S e C =
    let a = loads_of S in
    let most : every (λ x. leb x (load s 10)) (2 ∷ 2 ∷ 1 ∷ []) ≡ true = rw a.0 refl in
    let l = stocked_level S 1 refl in
    let d = goes_load S l g 10 e most in
    goes_row S l g 10 e most (1 ∷ 2 ∷ 1 ∷ []) (each_in _ three (1 ∷ 2 ∷ 1 ∷ []) (omega (arith, d 10), (omega (arith, d 20), (omega (arith, d 30), refl)))) ms C

-- the last good of a shelf that goes is put on the shelf with one
close_one : (f f₁ : ℕ → ℕ) (a k : ℕ) → ((j : ℕ) → f₁ j + bit (eqb a j) ≡ f j + bit (eqb k j)) → a ≡ 30 → has two k ≡ true → Each f three (1 ∷ 2 ∷ 1 ∷ []) →
    f₁ 20 ≤ suc (f₁ 10) → (k ≡ 10) × Each f₁ two (2 ∷ 2 ∷ [])
unfolding any
close_one f f₁ a k p e h b l = let x = p 10 in let y = p 20 in (grind (arith, nat_tests), (grind (arith, nat_tests), (grind (arith, nat_tests), refl)))

module _ {s : Store} (S : Stocked s three (1 ∷ 2 ∷ 1 ∷ [])) (ms : List Move) (C : Changed s (shelf_goes 30) ms) where
  close_has : (j : ℕ) → has (those (λ i. not (eqb i 30)) s.shelves) j ≡ has two j
  unfolding any
  close_has j = let a = has_those (λ i. not (eqb i 30)) s.shelves j in let b = stocked_has S j in grind (arith, nat_tests)

  close_put : One s (shelf_goes 30) ms
  unfolding arrivals fewest asks every refusal any distinct
  close_put =
      one_of s (shelf_goes 30) ms S.is_fine C
      (tally s (shelf_goes 30) ms 1 S.is_fine (stocked_level S 1 refl) (rw (stocked_has S 30, stocked_shelves S refl) refl) refl C (loads_of S).1.1.0)

  -- what stood on 30 can't stay, so it is what is put
  close_from : at s.spots close_put.good ≡ 30
  unfolding left_spots goods_after shelves_after any
  close_from =
      let d = close_put in
      let t = after s (shelf_goes 30) ms in
      let a = loads_of S in
      let g = good_on s.spots 30 (parts S).goods_once (omega arith) in
      let p = at_placed t g.0 (fine_parts t d.may.is_fine) (sets_has _ _ d.may.has_goods g.0 ∙ g.1) in
      let q = d.at_then g.0 in
      let x = close_has (at t.spots g.0) in
      let y = g.2 in
      by_test (eqb d.good g.0) (λ w. ap (at s.spots) (eqb-true _ _ w) ∙ y) (λ w. absurd (grind (arith, nat_tests)))

  close_row : (g : ℕ) × (shelf_of s.spots g ≡ 30 ∷ []) × (ms ≡ put g 10 ∷ []) × Stocked (after s (shelf_goes 30) ms) two (2 ∷ 2 ∷ [])
  unfolding left_spots goods_after shelves_after any
  close_row =
      let d = close_put in
      let t = after s (shelf_goes 30) ms in
      let v = close_one (load s) (load t) (at s.spots d.good) d.to (d.moves d.there) close_from (sym (close_has d.to) ∙ d.placed) (loads_of S)
      (level_at t 20 10 d.may.is_level (close_has 20) (close_has 10)) in (
        d.good,
        shelf_of_there s.spots d.good d.there ∙ ap (λ k. k ∷ []) close_from,
        one_is s _ ms d d.good 10 refl v.0,
        record { is_fine = d.may.is_fine; shelves_are = same_from _ two close_has; loads_are = each_in (load t) two (2 ∷ 2 ∷ []) v.1 },
      )

-- where every good that is put is, it was put
put_tos : (k : ℕ) (ms : List Move) (qs : List Spot) → All (λ m. at qs m.good ≡ m.to) ms → ((g : ℕ) → has (put_of ms) g ≡ true → at qs g ≡ k) → every (λ m. eqb m.to k) ms ≡ true
unfolding any each every
put_tos k [] qs a h = refl
put_tos k (m ∷ ms) qs a h =
    let ih : every (λ m. eqb m.to k) ms ≡ true = put_tos k ms qs a.1 (λ g e. h g (grind arith)) in
    let b = a.0 in
    let c = h m.good (grind (arith, nat_tests)) in
    grind (arith, nat_tests)

-- shelf 20 goes, and 10 is left
module _ {s : Store} (S : Stocked s two (2 ∷ 2 ∷ [])) (ms : List Move) (C : Changed s (shelf_goes 20) ms) where
  last : Store
  last = after s (shelf_goes 20) ms

  last_may : May s (shelf_goes 20) last
  unfolding Changed last
  last_may = may_parts s (shelf_goes 20) (after s (shelf_goes 20) ms) C.0

  last_has : (j : ℕ) → has last.shelves j ≡ has (10 ∷ []) j
  unfolding any last shelves_after
  last_has j = let a = has_those (λ i. not (eqb i 20)) s.shelves j in let b = stocked_has S j in grind (arith, nat_tests)

  last_goods : (g : ℕ) → has (goods last) g ≡ has (goods s) g
  unfolding goods_after
  last_goods g = sets_has _ _ last_may.has_goods g

  last_at : (g : ℕ) → has (goods s) g ≡ true → at last.spots g ≡ 10
  last_at g h = eqb-true _ _ (sym (has_one 10 _) ∙ sym (last_has _) ∙ at_placed last g (fine_parts last last_may.is_fine) (last_goods g ∙ h))

  last_count : length ms ≡ 2
  unfolding arrivals fewest asks every refusal any distinct
  last_count =
      tally s (shelf_goes 20) ms 2 S.is_fine (stocked_level S 2 refl) (rw (stocked_has S 20, stocked_shelves S refl) refl) refl C (loads_of S).1.0

  last_moved : (g : ℕ) → has (goods s) g ≡ true → has (put_of ms) g ≡ same_one (shelf_of s.spots g) (20 ∷ [])
  unfolding Changed last same_one any
  last_moved g h =
      let a = moved_put s (shelf_goes 20) ms (parts S) last_may C.1 C.2 g h in
      let b = last_at g h in
      let c = last_goods g in
      let d = stocked_at S g h in
      rw (shelf_of_there s.spots g h) (grind (arith, nat_tests))

  last_put : (g : ℕ) → has (put_of ms) g ≡ same_one (shelf_of s.spots g) (20 ∷ [])
  unfolding Changed last same_one none_of goods_after
  last_put g =
      by_test (has (goods s) g) (last_moved g)
      (λ h. rw (shelf_of_none s.spots g h) (by_test (has (put_of ms) g)
      (λ q. absurd (both_ways _ h (put_there s (shelf_goes 20) ms (parts S) last_may C.1 C.2 g q))) (λ q. q)))

  last_to : every (λ m. eqb m.to 10) ms ≡ true
  unfolding Changed last goods_after
  last_to =
      put_tos 10 ms last.spots (all_put_to ms (left_spots s (shelf_goes 20)) C.1)
      (λ g h. last_at g (put_there s (shelf_goes 20) ms (parts S) last_may C.1 C.2 g h))

  last_stocked : Stocked last (10 ∷ []) (4 ∷ [])
  unfolding each distinct any goods_after
  last_stocked =
      let S₁ : Stocked last (10 ∷ []) (load last 10 ∷ []) = record { is_fine = last_may.is_fine; shelves_are = same_from _ (10 ∷ []) last_has; loads_are = refl } in
      let a = stocked_sum S₁ refl in
      let b = stocked_sum S refl in
      let c = loads_of S in
      let d = sets_length (goods last) (goods s) (fine_parts last last_may.is_fine).goods_once (parts S).goods_once last_may.has_goods in
      let e : load last 10 ≡ 4 = omega (arith, length_each (λ p. p.good) s.spots, length_each (λ p. p.good) last.spots) in
      record { is_fine = last_may.is_fine; shelves_are = S₁.shelves_are; loads_are = ap (λ n. n ∷ []) e }

last_stays : (s : Store) → Stocked s (10 ∷ []) (4 ∷ []) → refusal s (shelf_goes 10) ≡ 6
unfolding refusal any distinct each
last_stays s S =
    let e : load s 10 ≡ 4 = cc S.loads_are in
    let a = some_none s.spots (omega (arith, stocked_sum S refl)) in
    rw (stocked_has S 10, stocked_shelves S refl, a) refl

pub spring : Spring
unfolding refusal any none_of each every last
spring = record {
  no_shelf = refl;
  three_and_two = three_and_two;
  shelf_30_comes = λ s ms S C. elim S [
    | inl S ↦ let a = loads_of S in open_row S (stocked_level S 2 refl) (omega arith) ms C
    | inr S ↦ let a = loads_of S in open_row S (stocked_level S 2 refl) (omega arith) ms C
  ];
  good_6_comes = good_6_comes;
  good_of_30_goes = good_of_30_goes;
  good_of_10_goes = good_of_10_goes;
  shelf_30_goes = λ s ms S C. close_row S ms C;
  shelf_20_goes = λ s ms S C. (last_count S ms C, last_put S ms C, last_to S ms C, last_stocked S ms C);
  shelf_10_stays = last_stays;
}
