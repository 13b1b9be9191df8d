-- The least and the greatest of a function over a list, and by how much they differ.
use Rattle.std.proofs.Common.{◌≡◌, ℕ, ◌+◌, ◌-◌, ◌≤◌, min, max, Bool, true, ◌&&◌, eqb, leb, List, [], ◌∷◌, length, map, fold, refl, ap, ◌∙◌, arith}
use Rattle.std.specs.List.{AllByRecursion as All}
use Rattle.std.proofs.lemmas.Bool.Decides.{nat_tests}
use Rattle.hall.specs.House.{or, any, every, none_of}
use Rattle.hall.proofs.Lists.{all_every, all_weak}
use Rattle.hall.proofs.Sets.{any_has, any_from}

-- the function takes the value g at the start or over the list, and none greater
record Top (f : ℕ → ℕ) (m : ℕ) (ks : List ℕ) (g : ℕ) : Type 0 where
  start : m ≤ g
  above : All (λ k. f k ≤ g) ks
  taken : or (eqb m g) (any (λ k. eqb (f k) g) ks) ≡ true

-- the same of the least
record Bottom (f : ℕ → ℕ) (m : ℕ) (ks : List ℕ) (l : ℕ) : Type 0 where
  start : l ≤ m
  below : All (λ k. l ≤ f k) ks
  taken : or (eqb m l) (any (λ k. eqb (f k) l) ks) ≡ true

top : (f : ℕ → ℕ) (m : ℕ) (ks : List ℕ) → Top f m ks (fold max m (map f ks))
unfolding any
top f m [] = record { start = omega arith; above = tt; taken = grind (arith, nat_tests) }
top f m (k ∷ ks) =
    let ih = top f (max m (f k)) ks in
    record { start = omega (arith, ih.start); above = (omega (arith, ih.start), ih.above); taken = grind (arith, nat_tests, ih.taken) }

bottom : (f : ℕ → ℕ) (m : ℕ) (ks : List ℕ) → Bottom f m ks (fold min m (map f ks))
unfolding any
bottom f m [] = record { start = omega arith; below = tt; taken = grind (arith, nat_tests) }
bottom f m (k ∷ ks) =
    let ih = bottom f (min m (f k)) ks in
    record { start = omega (arith, ih.start); below = (omega (arith, ih.start), ih.below); taken = grind (arith, nat_tests, ih.taken) }

-- over the list the function lies from l to g, and takes both values
pub record Bounds (f : ℕ → ℕ) (ks : List ℕ) (l g : ℕ) : Type 0 where
  pub order : l ≤ g
  pub low : any (λ k. eqb (f k) l) ks ≡ true
  pub high : any (λ k. eqb (f k) g) ks ≡ true
  pub from : All (λ k. l ≤ f k) ks
  pub to : All (λ k. f k ≤ g) ks

-- what `max` and `min` give of a list's values
bounded : (f : ℕ → ℕ) (k : ℕ) (ks : List ℕ) → Bounds f (k ∷ ks) (fold min (f k) (map f ks)) (fold max (f k) (map f ks))
unfolding any
bounded f k ks =
    let t = top f (f k) ks in
    let b = bottom f (f k) ks in
    record { order = omega (arith, t.start, b.start); low = b.taken; high = t.taken; from = (b.start, b.below); to = (t.start, t.above) }

module _ (f : ℕ → ℕ) (ks : List ℕ) (l g : ℕ) (b : Bounds f ks l g) where
  bounds_all : every (λ k. every (λ j. leb (f k) (f j + (g - l))) ks) ks ≡ true
  bounds_all =
      all_every _ ks (all_weak (λ k. f k ≤ g) _ ks (λ k hk. all_every _ ks (all_weak (λ j. l ≤ f j) _ ks (λ j hj. within k j hk hj) b.from)) b.to)
    where
      within : (k j : ℕ) → f k ≤ g → l ≤ f j → leb (f k) (f j + (g - l)) ≡ true
      within k j hk hj = let le : f k ≤ f j + (g - l) = omega arith in grind (arith, nat_tests)

  bounds_reached : any (λ k. any (λ j. eqb (f k) (f j + (g - l))) ks) ks ≡ true
  bounds_reached =
      let low = any_has (λ k. eqb (f k) l) ks b.low in
      let high = any_has (λ k. eqb (f k) g) ks b.high in
      any_from (λ k. any (λ j. eqb (f k) (f j + (g - l))) ks) ks high.0 high.1
      (any_from (λ j. eqb (f high.0) (f j + (g - l))) ks low.0 low.1 (apart (f low.0) (f high.0) b.order low.2 high.2))
    where
      apart : (x y : ℕ) → l ≤ g → eqb x l ≡ true → eqb y g ≡ true → eqb y (x + (g - l)) ≡ true
      apart x y le ex ey = grind (arith, nat_tests)

-- the difference of the two, 0 where there are none, is by how much the values differ
pub record Differ (f : ℕ → ℕ) (ks : List ℕ) (l g : ℕ) : Type 0 where
  pub order : l ≤ g
  pub bound : every (λ k. every (λ j. leb (f k) (f j + (g - l))) ks) ks ≡ true
  pub tight : or (any (λ k. any (λ j. eqb (f k) (f j + (g - l))) ks) ks) (none_of ks && eqb (g - l) 0) ≡ true

or_first : (a b : Bool) → a ≡ true → or a b ≡ true
or_first a b e = ap (λ x. or x b) e

-- nothing differs where there is nothing
pub differ_none : (f : ℕ → ℕ) (ks : List ℕ) → length ks ≡ 0 → Differ f ks 0 0
unfolding any every none_of
differ_none f [] e = record { order = omega arith; bound = refl; tight = refl }
differ_none f (k ∷ ks) e = absurd (omega arith)

-- the least and the greatest so far, and one value more
abbrev pub widened : ℕ × ℕ → ℕ → ℕ × ℕ
widened ends n = (min ends.0 n, max ends.1 n)

both : (l g : ℕ) (ns : List ℕ) → fold widened (l, g) ns ≡ (fold min l ns, fold max g ns)
both l g [] = refl
both l g (n ∷ ns) = both (min l n) (max g n) ns

-- one pass over the values gives both ends
pub differ : (f : ℕ → ℕ) (k : ℕ) (ks : List ℕ) (m : ℕ) (ends : ℕ × ℕ) → m ≡ f k → ends ≡ fold widened (m, m) (map f ks) → Differ f (k ∷ ks) ends.0 ends.1
differ f k ks m ends first e =
    let b = bounded f k ks in
    rw (e ∙ ap (λ n. fold widened (n, n) (map f ks)) first ∙ both (f k) (f k) (map f ks)) (record { order = b.order; bound = bounds_all f (k ∷ ks) _ _ b; tight = or_first _ _ (bounds_reached f (k ∷ ks) _ _ b) })
