-- A good's place in an ascending list, and what an edit at that place makes of the list.
use Rattle.std.proofs.Common.{◌≡◌, ℕ, zero, suc, ◌<◌, ◌≤◌, true, false, ◌&&◌, eqb, ltb, ◌≢◌, List, [], ◌∷◌, length, get_or, set, Bool, Bor, sym, refl, ap, ◌∙◌, arith}
use Rattle.std.specs.List.{insert, remove}
use Rattle.std.specs.List.Sorted.{IsPartitionedBy, IsPartitionPoint}
use Rattle.std.specs.Fn.{Mut, ComputesKey, Called}
use Rattle.std.proofs.lemmas.List.{get_or_default}
use Rattle.std.proofs.lemmas.List.Sorted.{IsNonDecreasingBy-from_default, IsPartitionedBy-ltb, IsPartitionPoint-from_clause}
use Rattle.std.proofs.lemmas.Bool.Decides.{nat_tests}
use Rattle.std.proofs.lemmas.Bool.{eqb-true}
use Rattle.words.proofs.Cases.{by_test}
use Rattle.placing.specs.declared.acts.Spot.{Spot}
use Rattle.hall.specs.House.{pick, each, every, shelf_of}
use Rattle.assignments.specs.Spots.{shelf_in, above, ascends, zeros, Place, Here, Gap}
use Rattle.assignments.proofs.Walk.{head_above, tail_ascends, above_past, past, here, nowhere}

above_at : (g : ℕ) (ps : List Spot) (j : ℕ) → above g ps ≡ true → j < length ps → g < (get_or ps j zeros).good
unfolding every
above_at g [] j h lt = omega arith
above_at g (p ∷ ps) zero h lt = grind (arith, nat_tests)
above_at g (p ∷ ps) (suc j) h lt = above_at g ps j (grind arith) (omega arith)

-- a later good is greater
climbs : (ps : List Spot) (i j : ℕ) → ascends ps ≡ true → i < j → j < length ps → (get_or ps i zeros).good < (get_or ps j zeros).good
climbs [] i j h le lt = omega arith
climbs (p ∷ ps) i zero h le lt = omega arith
climbs (p ∷ ps) zero (suc j) h le lt = above_at p.good ps j (head_above p ps h) (omega arith)
climbs (p ∷ ps) (suc i) (suc j) h le lt = climbs ps i j (tail_ascends p ps h) (omega arith) (omega arith)

-- the smaller goods stand first, and where they end is the place of the good
module _ (ps : List Spot) (up : ascends ps ≡ true) (g : ℕ) where
  pub parted : IsPartitionedBy (λ p. ltb p.good g) ps
  parted = IsPartitionedBy-ltb (λ p. p.good) ps g (IsNonDecreasingBy-from_default (λ p. p.good) ps zeros (λ i j le lt.
      grind (arith, climbs ps i j up, λ (same : i ≡ j). ap (λ k. (get_or ps k zeros).good) same)))

  pub place_at : (i : ℕ) → i ≤ length ps → IsPartitionPoint (λ p. ltb p.good g ≡ true) (λ p. ltb p.good g ≡ false) ps i → Place g ps i
  place_at i le split = record {
    within = le;
    low = λ k h. let smaller = split.0 k zeros (omega arith) h in grind (arith, nat_tests);
    high = λ k from h. let other = split.1 k zeros from h in grind (arith, nat_tests);
  }

-- the same of what `partition_point` says of a list that is this one
pub placed_by : {F : Type 0} {test : Mut F (Bor Spot × Unit {0}) Bool} {f : F} (xs ps : List Spot) → xs ≡ ps → ascends ps ≡ true → (g i : ℕ) → i ≤ length xs →
    ((q : Spot → Bool) → ComputesKey test q f → IsPartitionedBy q xs → IsPartitionPoint (λ y. q y ≡ true) (λ y. q y ≡ false) xs i) →
    ((a : Bor Spot × Unit {0}) (r : Bool) (f' : F) → Called test f a r f' → (r ≡ ltb a.0.now.good g) × (f' ≡ f)) → Place g ps i
placed_by xs ps same up g i le clause calls =
    let split = IsPartitionPoint-from_clause (λ p. ltb p.good g) xs i clause (rw same (parted ps up g)) calls in
    place_at ps up g i (rw same at le) (rw same at split)

-- what stands at the place is the good, or it is not there
pub here_at : (g : ℕ) (ps : List Spot) (i : ℕ) (p : Spot) → Place g ps i → i < length ps → p ≡ get_or ps i p → p.good ≡ g → Here g ps i
here_at g ps i p place lt at same =
    let stands : p ≡ get_or ps i zeros = at ∙ get_or_default ps i p zeros lt in
    record { place = place; inside = lt; same = ap (λ q. q.good) (sym stands) ∙ same }

pub gap_at : (g : ℕ) (ps : List Spot) (i : ℕ) (p : Spot) → Place g ps i → p ≡ get_or ps i p → p.good ≢ g → Gap g ps i
gap_at g ps i p place at other =
    record { place = place; other = λ lt same. other (ap (λ q. q.good) (at ∙ get_or_default ps i p zeros lt) ∙ same) }

pub gap_past : (g : ℕ) (ps : List Spot) (i : ℕ) → Place g ps i → length ps ≤ i → Gap g ps i
gap_past g ps i place past = record { place = place; other = λ lt. absurd (omega arith) }

-- the rest of a list, without its first
rest : (g : ℕ) (p : Spot) (ps : List Spot) (i : ℕ) → Place g (p ∷ ps) (suc i) → Place g ps i
rest g p ps i h =
    record { within = let w = h.within in omega arith; low = λ k lt. h.low (suc k) (omega arith); high = λ k le lt. h.high (suc k) (omega arith) (omega arith) }

above_inserted : (g : ℕ) (ps : List Spot) (i : ℕ) (q : Spot) → above g ps ≡ true → g < q.good → above g (insert ps i q) ≡ true
unfolding every
above_inserted g [] zero q h lt = grind (arith, nat_tests)
above_inserted g [] (suc i) q h lt = grind (arith, nat_tests)
above_inserted g (p ∷ ps) zero q h lt = grind (arith, nat_tests)
above_inserted g (p ∷ ps) (suc i) q h lt = let ih : above g (insert ps i q) ≡ true = above_inserted g ps i q (grind arith) lt in grind (arith, nat_tests)

-- a new good at its place
pub ascends_inserted : (ps : List Spot) (i : ℕ) (q : Spot) → ascends ps ≡ true → Place q.good ps i → (i < length ps → (get_or ps i zeros).good ≢ q.good) →
    ascends (insert ps i q) ≡ true
unfolding ascends every
ascends_inserted [] zero q h at new = refl
ascends_inserted [] (suc i) q h at new = refl
ascends_inserted (p ∷ ps) zero q h at new =
    let lt : q.good < p.good = let le = at.high 0 (omega arith) (omega arith) in let ne = new (omega arith) in omega arith
    in let up : above q.good (p ∷ ps) ≡ true = above_past q.good p ps h lt in grind arith
ascends_inserted (p ∷ ps) (suc i) q h at new =
    let ih : ascends (insert ps i q) ≡ true = ascends_inserted ps i q (tail_ascends p ps h) (rest q.good p ps i at) (λ lt. new (omega arith))
    in let up : above p.good (insert ps i q) ≡ true = above_inserted p.good ps i q (head_above p ps h) (at.low 0 (omega arith))
    in grind arith

above_set : (g : ℕ) (ps : List Spot) (i : ℕ) (q : Spot) → above g ps ≡ true → (get_or ps i zeros).good ≡ q.good → above g (set ps i q) ≡ true
unfolding every
above_set g [] i q h e = refl
above_set g (p ∷ ps) zero q h e = grind (arith, nat_tests)
above_set g (p ∷ ps) (suc i) q h e = let ih : above g (set ps i q) ≡ true = above_set g ps i q (grind arith) e in grind arith

-- the same good, on another shelf
pub ascends_set : (ps : List Spot) (i : ℕ) (q : Spot) → ascends ps ≡ true → (get_or ps i zeros).good ≡ q.good → ascends (set ps i q) ≡ true
unfolding ascends
ascends_set [] i q h e = refl
ascends_set (p ∷ ps) zero q h e = ap (λ g. above g ps && ascends ps) (sym e) ∙ h
ascends_set (p ∷ ps) (suc i) q h e =
    let ih : ascends (set ps i q) ≡ true = ascends_set ps i q (tail_ascends p ps h) e
    in let up : above p.good (set ps i q) ≡ true = above_set p.good ps i q (head_above p ps h) e in grind arith

above_removed : (g : ℕ) (ps : List Spot) (i : ℕ) → above g ps ≡ true → above g (remove ps i) ≡ true
unfolding every
above_removed g [] zero h = refl
above_removed g [] (suc i) h = refl
above_removed g (p ∷ ps) zero h = grind arith
above_removed g (p ∷ ps) (suc i) h = let ih : above g (remove ps i) ≡ true = above_removed g ps i (grind arith) in grind arith

pub ascends_removed : (ps : List Spot) (i : ℕ) → ascends ps ≡ true → ascends (remove ps i) ≡ true
unfolding ascends
ascends_removed [] zero h = refl
ascends_removed [] (suc i) h = refl
ascends_removed (p ∷ ps) zero h = tail_ascends p ps h
ascends_removed (p ∷ ps) (suc i) h =
    let ih : ascends (remove ps i) ≡ true = ascends_removed ps i (tail_ascends p ps h)
    in let up : above p.good (remove ps i) ≡ true = above_removed p.good ps i (head_above p ps h) in grind arith

-- a good that stands at its place
pub found : (ps : List Spot) (i g : ℕ) → Place g ps i → i < length ps → (get_or ps i zeros).good ≡ g → shelf_in ps g ≡ (get_or ps i zeros).shelf ∷ []
found [] i g at lt e = absurd (omega arith)
found (p ∷ ps) zero g at lt e = ap (shelf_in (p ∷ ps)) (sym e) ∙ here p ps
found (p ∷ ps) (suc i) g at lt e = past p ps g (at.low 0 (omega arith)) ∙ found ps i g (rest g p ps i at) (omega arith) e

-- and one that does not
pub missing : (ps : List Spot) (i g : ℕ) → ascends ps ≡ true → Place g ps i → (i < length ps → (get_or ps i zeros).good ≢ g) → shelf_in ps g ≡ []
unfolding every
missing [] i g h at new = nowhere g [] refl
missing (p ∷ ps) zero g h at new =
    nowhere g (p ∷ ps) (above_past g p ps h (let le = at.high 0 (omega arith) (omega arith) in let ne = new (omega arith) in omega arith))
missing (p ∷ ps) (suc i) g h at new =
    past p ps g (at.low 0 (omega arith)) ∙ missing ps i g (tail_ascends p ps h) (rest g p ps i at) (λ lt. new (omega arith))

-- where the goods are after an edit at a good's place
pub shelf_inserted : (ps : List Spot) (i : ℕ) (q : Spot) → Place q.good ps i → (k : ℕ) →
    shelf_in (insert ps i q) k ≡ pick (eqb k q.good) (q.shelf ∷ []) (shelf_in ps k)
unfolding each shelf_of
shelf_inserted [] zero q at k = grind (arith, nat_tests)
shelf_inserted [] (suc i) q at k = grind (arith, nat_tests)
shelf_inserted (p ∷ ps) zero q at k = grind (arith, nat_tests)
shelf_inserted (p ∷ ps) (suc i) q at k =
    let ih = shelf_inserted ps i q (rest q.good p ps i at) k in let lt = at.low 0 (omega arith) in grind (arith, nat_tests)

pub shelf_set : (ps : List Spot) (i : ℕ) (q : Spot) → Place q.good ps i → i < length ps → (get_or ps i zeros).good ≡ q.good → (k : ℕ) →
    shelf_in (set ps i q) k ≡ pick (eqb k q.good) (q.shelf ∷ []) (shelf_in ps k)
unfolding each shelf_of
shelf_set [] i q at lt e k = absurd (omega arith)
shelf_set (p ∷ ps) zero q at lt e k = grind (arith, nat_tests)
shelf_set (p ∷ ps) (suc i) q at lt e k =
    let ih = shelf_set ps i q (rest q.good p ps i at) (omega arith) e k in let low = at.low 0 (omega arith) in grind (arith, nat_tests)

pub shelf_removed : (ps : List Spot) (i g : ℕ) → ascends ps ≡ true → Place g ps i → i < length ps → (get_or ps i zeros).good ≡ g → (k : ℕ) →
    shelf_in (remove ps i) k ≡ pick (eqb k g) [] (shelf_in ps k)
unfolding each shelf_of
shelf_removed [] i g h at lt e k = absurd (omega arith)
shelf_removed (p ∷ ps) zero g h at lt e k =
    let none : shelf_in ps p.good ≡ [] = nowhere p.good ps (head_above p ps h) in grind (arith, nat_tests)
shelf_removed (p ∷ ps) (suc i) g h at lt e k =
    let ih = shelf_removed ps i g (tail_ascends p ps h) (rest g p ps i at) (omega arith) e k in let low = at.low 0 (omega arith) in grind (arith, nat_tests)

-- a good that isn't there is not missed
pub without : (ps : List Spot) (g : ℕ) → shelf_in ps g ≡ [] → (k : ℕ) → shelf_in ps k ≡ pick (eqb k g) [] (shelf_in ps k)
without ps g none k = by_test (eqb k g) (λ q. rw q (ap (shelf_in ps) (eqb-true k g q) ∙ none)) (λ q. rw q refl)
