-- The model's recursions, one level at a time.
use Rattle.std.proofs.Common.{◌≡◌, ℕ, zero, suc, ◌/◌, ◌<◌, ◌≤◌, true, false, List, sym, refl, ap, ◌∙◌, arith}
use Rattle.std.proofs.lemmas.Bool.{cond-true, cond-false, eq-eqb, ne_eqb}
use Rattle.std.proofs.lemmas.Bool.Decides.{nat_tests}
use Rattle.index_model.specs.Model.{capacity, slot_of, child, rests, bit, left, descend, lower, leaf}

module _ (bits : ℕ) where
  pub slot_in : (m : List ℕ) (v : ℕ) → v ≤ capacity bits m → v ≡ slot_of bits m v
  unfolding slot_of
  slot_in m v h = grind (arith, nat_tests)

  pub descend_rests : (at num : ℕ → ℕ) (n k half place rest : ℕ) → 0 < k → rests at num n place ≡ true → descend bits at num n k half place rest ≡ place
  unfolding descend
  descend_rests at num n zero half place rest h e = absurd (omega arith)
  descend_rests at num n (suc k) half place rest h e = cond-true _ _ _ e

  module _ (at num : ℕ → ℕ) (n k half place rest : ℕ) where
    pub descend_goes : (j : ℕ) → k ≡ suc j → rests at num n place ≡ false → descend bits at num n k half place rest ≡ descend bits at num n j (half / 2) (child bits (at place) (bit half rest)) (left half rest)
    unfolding descend
    descend_goes j h e = ap (λ (x : ℕ). descend bits at num n x half place rest) h ∙ cond-false _ _ _ e

    pub descend_ends : k ≡ 0 → descend bits at num n k half place rest ≡ child bits 0 0
    unfolding descend
    descend_ends h = ap (λ (x : ℕ). descend bits at num n x half place rest) h

  module _ (at : ℕ → ℕ) (p : ℕ) where
    pub leaf_goes : (k j q : ℕ) → k ≡ suc j → q ≡ lower bits at p → (q ≡ 0 → ⊥) → leaf bits at k p ≡ leaf bits at j q
    unfolding leaf
    leaf_goes k j q h e u =
        ap (λ (x : ℕ). leaf bits at x p) h
        ∙ cond-false _ _ _ (ne_eqb _ _ (λ z. u (e ∙ z)))
        ∙ ap (leaf bits at j) (sym e)

    pub leaf_here : (k : ℕ) → lower bits at p ≡ 0 → leaf bits at k p ≡ p
    unfolding leaf
    leaf_here zero e = refl
    leaf_here (suc k) e = cond-true _ _ _ (eq-eqb _ _ e)

    pub lower_left : (at (child bits (at p) 0) ≡ 0 → ⊥) → child bits (at p) 0 ≡ lower bits at p
    lower_left u = sym (cond-false _ _ _ (ne_eqb _ _ u))

    pub lower_right : at (child bits (at p) 0) ≡ 0 → (at (child bits (at p) 1) ≡ 0 → ⊥) → child bits (at p) 1 ≡ lower bits at p
    lower_right z u = sym (cond-true _ _ _ (eq-eqb _ _ z) ∙ cond-false _ _ _ (ne_eqb _ _ u))

    pub lower_none : at (child bits (at p) 0) ≡ 0 → at (child bits (at p) 1) ≡ 0 → lower bits at p ≡ 0
    lower_none z y = cond-true _ _ _ (eq-eqb _ _ z) ∙ cond-true _ _ _ (eq-eqb _ _ y)
