-- The equations of a climb, as a loop wants them: best is the winner at the place above, and v is what that place holds.
use Rattle.std.proofs.Common.{◌≡◌, ℕ, suc, ◌+◌, ◌/◌, Bool, cond, not, ◌&&◌, eqb, ◌≢◌, ◌⊎◌, List, set, refl, ◌∙◌, inl, inr}
use Rattle.std.proofs.lemmas.Bool.{cond-true, cond-false, and_from, and_left, and_right, not_from_true, not_from_false, eq-eqb, ne_eqb}
use Rattle.loads_model.specs.Model.{tree, winner_at, climb}

pub climb_none : (before : List ℕ → ℕ → ℕ → Bool) (base s n : ℕ) (m : List ℕ) (p : ℕ) → n ≡ 0 → climb before base s n m p ≡ m
unfolding climb
climb_none before base s n m p e = rw e refl

module _ (before : List ℕ → ℕ → ℕ → Bool) (base s : ℕ) (m : List ℕ) (p k n best v : ℕ)
    (e : k ≡ suc n) (wins : best ≡ winner_at before base m (p / 2)) (holds : v ≡ tree base m (p / 2)) where
  climb_by : climb before base s k m p ≡ cond (eqb best v && not (eqb best s)) m (climb before base s n (set m (base + p / 2) best) (p / 2))
  unfolding climb
  climb_by = rw (e, wins, holds) refl

  pub climb_stop : best ≡ v → best ≢ s → climb before base s k m p ≡ m
  climb_stop is other = climb_by ∙ cond-true _ _ _ (and_from _ _ (eq-eqb best v is) (not_from_false _ (ne_eqb best s other)))

  pub climb_on : (best ≢ v) ⊎ (best ≡ s) → climb before base s k m p ≡ climb before base s n (set m (base + p / 2) best) (p / 2)
  climb_on o = climb_by ∙ cond-false (eqb best v && not (eqb best s)) m (climb before base s n (set m (base + p / 2) best) (p / 2)) (elim o [
    | inl ne ↦ and_left (eqb best v) (not (eqb best s)) (ne_eqb best v ne)
    | inr is ↦ and_right (eqb best v) (not (eqb best s)) (not_from_true (eqb best s) (eq-eqb best s is))
  ])
