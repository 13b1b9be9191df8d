-- Lists of shelves: what stands in them, and what an edit makes of them.
use Rattle.std.proofs.Common.{◌≡◌, ℕ, zero, suc, ◌<◌, ◌≢◌, true, false, List, [], ◌∷◌, length, get_or, slice_index_or, Option, Some, None, MatchOption, sym, refl, ◌∙◌, subst, arith}
use Rattle.std.specs.List.{AllWithin, HoldsAt}
use Rattle.std.specs.List.Sorted.{IsPermutation}
use Rattle.std.proofs.lemmas.Bool.{false≢true}
use Rattle.std.proofs.lemmas.List.{get_or_default}
use Rattle.std.proofs.lemmas.Bool.Decides.{nat_tests}
use Rattle.hall.specs.House.{any, has}
use Rattle.rules.specs.Shelves.{Goes}

-- what stands at a place is there
pub has_item : (ks : List ℕ) (i k : ℕ) → i < length ks → k ≡ get_or ks i k → has ks k ≡ true
unfolding any
has_item [] i k lt e = absurd (omega arith)
has_item (j ∷ ks) zero k lt e = grind (arith, nat_tests)
has_item (j ∷ ks) (suc i) k lt e = let ih : has ks k ≡ true = has_item ks i k (omega arith) e in grind arith

-- the same of a slice
pub has_at : (ks : List ℕ) (i : ℕ) → i < length ks → has ks (slice_index_or ks i 0) ≡ true
has_at ks i lt = has_item ks i _ lt (get_or_default _ _ _ _ lt)

has_none : (ks : List ℕ) (k : ℕ) → ((i : ℕ) → i < length ks → get_or ks i 0 ≢ k) → has ks k ≡ false
unfolding any
has_none [] k other = refl
has_none (j ∷ ks) k other =
    let ih : has ks k ≡ false = has_none ks k (λ i lt. other (suc i) (omega arith)) in
    let first : j ≢ k = other 0 (omega arith) in
    grind (arith, nat_tests)

-- where a search ended: at a place that has the shelf, or past all places, none of which has it
abbrev pub Found : List ℕ → ℕ → Option ℕ → Type 0
Found ks k r = MatchOption r (AllWithin (λ j. j ≢ k) ks 0 (length ks)) (λ i. (i < length ks) × HoldsAt (λ j. j ≡ k) ks i × AllWithin (λ j. j ≢ k) ks 0 i)

-- a list from which what stands at that place has gone
pub goes : (ks ls : List ℕ) (k i x : ℕ) (r : Option ℕ) → Found ks k r → r ≡ Some i → x ≡ get_or ks i x →
    (i < length ks → x ≡ get_or ks i x → IsPermutation ks (x ∷ ls)) → Goes k ks ls
goes ks ls k i x r found e at p =
    let there = rw e at found in
    let same : x ≡ k = at ∙ there.1 x in
    ((λ _. subst (λ y. IsPermutation ks (y ∷ ls)) same (p there.0 at)), λ none. absurd (false≢true (sym none ∙ has_item ks i k there.0 (sym (there.1 k)))))

-- and where no place has it, the same list
pub stays : (ks : List ℕ) (k : ℕ) (r : Option ℕ) → Found ks k r → r ≡ None → Goes k ks ks
stays ks k r found e =
    let other = rw e at found in
    ((λ h. absurd (false≢true (sym (has_none ks k (λ i lt. other i 0 (omega arith) lt)) ∙ h))), λ _. refl)
