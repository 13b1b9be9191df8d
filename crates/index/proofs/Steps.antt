-- What the code does, step by step, in the words of the model.
use Rattle.std.proofs.Common.{◌≡◌, ◌≢◌, ℕ, suc, ◌+◌, ◌-◌, ◌/◌, ◌%◌, ◌<◌, ◌≤◌, true, false, Some, None, sym, ap, ◌∙◌, arith}
use Rattle.std.proofs.lemmas.Bool.Decides.{nat_tests}
use Rattle.words.specs.Slots.{some_slot}
use Rattle.words.proofs.Slots.{slot_none, slot_some}
use Rattle.index_model.specs.Model.{span, levels, key, head, bit, left, descend, locate, child, rests, lower, leaf}
use Rattle.index_model.proofs.Steps.{descend_rests, descend_goes, descend_ends, leaf_goes, leaf_here}

one_more : (a l : ℕ) → l < a → a - l ≡ suc (a - (l + 1))
one_more a l h = omega arith

module _ (at num : ℕ → ℕ) (n p : ℕ) where
  rests_free : None ≡ some_slot (at p) → rests at num n p ≡ true
  unfolding rests
  rests_free e = let z = slot_none (at p) e in grind (arith, nat_tests)

  rests_held : (s : ℕ) → Some s ≡ some_slot (at p) → num s ≡ n → rests at num n p ≡ true
  unfolding rests
  rests_held s e h = let z = slot_some (at p) s e in grind (arith, nat_tests)

  rests_not : (s : ℕ) → Some s ≡ some_slot (at p) → num s ≢ n → rests at num n p ≡ false
  unfolding rests
  rests_not s e h = let z = slot_some (at p) s e in grind (arith, nat_tests)

pub search_starts : (bits : ℕ) (at num : ℕ → ℕ) (n k s : ℕ) → k ≡ key n → s ≡ span bits → descend bits at num n (levels bits - 0) (s / 2) (k / s) (k % s) ≡ locate bits at num n
unfolding head
search_starts bits at num n k s e f = let all : levels bits - 0 ≡ levels bits = omega arith in cc

-- a search, of which l levels of a are over, ends at a free link, and at one that has the number; else it goes on
module _ (bits : ℕ) (at num : ℕ → ℕ) (n a l half p rest w : ℕ) (i : descend bits at num n (a - l) half p rest ≡ w) where
  pub descend_free : l < a → None ≡ some_slot (at p) → p ≡ w
  descend_free h e = sym (descend_rests bits at num n (a - l) half p rest (omega arith) (rests_free at num n p e)) ∙ i

  pub descend_held : (s : ℕ) → l < a → Some s ≡ some_slot (at p) → num s ≡ n → p ≡ w
  descend_held s h e x = sym (descend_rests bits at num n (a - l) half p rest (omega arith) (rests_held at num n p s e x)) ∙ i

  pub descend_on : (s b q r : ℕ) → l < a → Some s ≡ some_slot (at p) → num s ≢ n → b ≡ bit half rest → q ≡ child bits s b → r ≡ left half rest → descend bits at num n (a - (l + 1)) (half / 2) q r ≡ w
  descend_on s b q r h e x eb eq er =
      let told = slot_some (at p) s e in
      let goes = descend_goes bits at num n (a - l) half p rest (a - (l + 1)) (one_more a l h) (rests_not at num n p s e x) in
      cc

  pub descend_over : a ≤ l → child bits 0 0 ≡ w
  descend_over h = sym (descend_ends bits at num n (a - l) half p rest (omega arith)) ∙ i

pub ruleset search_steps = (search_starts, descend_free, descend_held, descend_on, descend_over)

-- the same of the way down to a leaf
module _ (bits : ℕ) (at : ℕ → ℕ) (a l p w : ℕ) (i : leaf bits at (a - l) p ≡ w) where
  pub leaf_found : None ≡ some_slot (lower bits at p) → p ≡ w
  leaf_found e = sym (leaf_here bits at p (a - l) (slot_none (lower bits at p) e)) ∙ i

  pub leaf_on : (q : ℕ) → l < a → Some q ≡ some_slot (lower bits at p) → leaf bits at (a - (l + 1)) q ≡ w
  leaf_on q h e =
      let told = slot_some (lower bits at p) q e in
      sym (leaf_goes bits at p (a - l) (a - (l + 1)) q (one_more a l h) told.1 (λ z. told.0 (sym told.1 ∙ z))) ∙ i

  pub leaf_over : a ≤ l → p ≡ w
  unfolding leaf
  leaf_over h = let none : a - l ≡ 0 = omega arith in sym (ap (λ (x : ℕ). leaf bits at x p) none) ∙ i

pub ruleset ways_down = (leaf_found, leaf_on, leaf_over)
