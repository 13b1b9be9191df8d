-- What a new slot, and a leaf cut off, leave of a sound index.
use Rattle.std.proofs.Common.{◌≡◌, ℕ, zero, suc, ◌^◌, ◌<◌, sym, refl, ap, ◌∙◌, subst, inl, inr, arith}
use Rattle.std.proofs.lemmas.Bool.{cases_eq}
use Rattle.index_model.specs.Model.{levels, child, locate}
use Rattle.index_model.specs.Sound.{turn, spot, Passes, Hangs, Sound}
use Rattle.index_model.proofs.Keys.{turn_low}
use Rattle.index_model.proofs.Paths.{Ends, same_number, find_used, find_cases, same_find}

module _ (bits : ℕ) where
  pub hangs_by : (at num : ℕ → ℕ) (p n d : ℕ) → num (at p) ≡ n → d < levels bits → spot bits at n d ≡ p → Passes bits at num n d → n < 2 ^ 64 → Hangs bits at num p
  hangs_by at num p n d e s h pass f =
      record {
        depth = d;
        shallow = s;
        here = subst (λ (x : ℕ). spot bits at x d ≡ p) (sym e) h;
        passes = subst (λ (x : ℕ). Passes bits at num x d) (sym e) pass;
        fits = subst (λ (x : ℕ). x < 2 ^ 64) (sym e) f;
      }

  -- a search that meets no change goes as before
  module _ (at num at' num' : ℕ → ℕ) (n : ℕ) where
    pub same_spot : (d : ℕ) → ((e : ℕ) → e < d → at' (spot bits at n e) ≡ at (spot bits at n e)) → spot bits at' n d ≡ spot bits at n d
    same_spot zero same = refl
    same_spot (suc d) same =
        ap (λ (x : ℕ). child bits x (turn bits n d)) (ap at' (same_spot d (λ e h. same e (omega arith))) ∙ same d (omega arith))

    pub same_passes : (d : ℕ) → ((e : ℕ) → e < d → at' (spot bits at n e) ≡ at (spot bits at n e)) → ((e : ℕ) → e < d → num' (at (spot bits at n e)) ≡ num (at (spot bits at n e))) → Passes bits at num n d → Passes bits at' num' n d
    same_passes d same kept pass e h =
        let now = ap at' (same_spot e (λ k l. same k (omega arith))) ∙ same e h in
        (λ z. (pass e h).0 (sym now ∙ z), λ z. (pass e h).1 (sym (ap num' now ∙ kept e h) ∙ z))

  -- the slot s, which hangs nowhere, at the free place p where the search for n ends
  module _ (at num at' num' : ℕ → ℕ) (sound : Sound bits at num) (n s p : ℕ) (fits : n < 2 ^ 64) (end : Ends bits at num n p)
      (free : at p ≡ 0) (fresh : (q : ℕ) → at q ≡ s → ⊥)
      (new : at' p ≡ s) (old : (q : ℕ) → (q ≡ p → ⊥) → at' q ≡ at q)
      (named : num' s ≡ n) (kept : (z : ℕ) → (z ≡ s → ⊥) → num' z ≡ num z) where
    off : (m d : ℕ) → Passes bits at num m d → (e : ℕ) → e < d → at' (spot bits at m e) ≡ at (spot bits at m e)
    off m d pass e h = old (spot bits at m e) (λ z. (pass e h).0 (ap at z ∙ free))

    pub insert_sound : Sound bits at' num'
    insert_sound q u =
        elim (cases_eq q p) [
          | inl here ↦
              (hangs_by at' num' q n end.depth (ap (λ (x : ℕ). num' (at' x)) here ∙ ap num' new ∙ named) end.shallow
              (same_spot at num at' num' n end.depth (off n _ end.passes) ∙ end.here ∙ sym here)
              (same_passes at num at' num' n end.depth (off n _ end.passes) (λ e h. kept _ (fresh _)) end.passes) fits)
          | inr there ↦
              (let was = old q there in
              let there = sound q (λ z. u (was ∙ z)) in
              hangs_by at' num' q (num (at q)) there.depth (ap num' was ∙ kept _ (fresh _)) there.shallow
              (same_spot at num at' num' _ there.depth (off _ _ there.passes) ∙ there.here)
              (same_passes at num at' num' _ there.depth (off _ _ there.passes) (λ e h. kept _ (fresh _)) there.passes) there.fits)
        ]

    pub insert_all : (s ≡ 0 → ⊥)
        → (at' (locate bits at' num' n) ≡ s) × ((m : ℕ) → (m ≡ n → ⊥) → at' (locate bits at' num' m) ≡ at (locate bits at num m))
        × ((q : ℕ) → (at' q ≡ s → ⊥) → (a : ℕ) × (at a ≡ at' q))
    insert_all some = (
      find_used bits at' num' insert_sound n p (λ z. some (sym new ∙ z)) (ap num' new ∙ named) ∙ new,
      (λ m other.
          same_find bits at num at' num' sound insert_sound m
          (λ q u e. (let was = old q (λ z. u (ap at z ∙ free)) in (q, (was, ap num' was ∙ kept _ (fresh q) ∙ e))))
          (λ q u e. (let was = old q (λ z. other (sym e ∙ ap (λ (x : ℕ). num' (at' x)) z ∙ ap num' new ∙ named)) in
          (q, (sym was, sym (ap num' was ∙ kept _ (fresh q)) ∙ e))))),
      λ q ne. (q, sym (old q (λ z. ne (ap at' z ∙ new)))),
    )

  -- where the slots in use are those that were, but for that of n
  module _ (at at' num : ℕ → ℕ) (sound : Sound bits at num) (sound' : Sound bits at' num) (n p : ℕ)
      (used : at p ≡ 0 → ⊥) (named : num (at p) ≡ n)
      (back : (q : ℕ) → (at' q ≡ 0 → ⊥) → (at' q ≡ at p → ⊥) × ((a : ℕ) × (at a ≡ at' q)))
      (there : (a : ℕ) → (at a ≡ 0 → ⊥) → (a ≡ p → ⊥) → (q : ℕ) × (at' q ≡ at a)) where
    pub remove_gone : at' (locate bits at' num n) ≡ 0
    remove_gone =
        elim (cases_eq (at' (locate bits at' num n)) 0) [
          | inl z ↦ z
          | inr u ↦
              elim (find_cases bits at' num sound' n) [
                | inl z ↦ z
                | inr e ↦
                    (let was = back (locate bits at' num n) u in
                    let same = same_number bits at num sound was.1.0 p (λ z. u (sym was.1.1 ∙ z)) used (ap num was.1.1 ∙ e ∙ sym named) in
                    absurd (was.0 (sym was.1.1 ∙ ap at same)))
              ]
        ]

    pub remove_others : (m : ℕ) → (m ≡ n → ⊥) → at' (locate bits at' num m) ≡ at (locate bits at num m)
    remove_others m other =
        same_find bits at num at' num sound sound' m
        (λ a u e. (let q = there a u (λ z. other (sym e ∙ ap (λ (x : ℕ). num (at x)) z ∙ named)) in (q.0, (q.1, ap num q.1 ∙ e))))
        (λ q u e. (let a = back q u in (a.1.0, (a.1.1, ap num a.1.1 ∙ e))))

  -- the leaf at z goes
  module _ (at at' num : ℕ → ℕ) (sound : Sound bits at num) (z : ℕ)
      (bare : (b : ℕ) → b < 2 → at (child bits (at z) b) ≡ 0) (gone : at' z ≡ 0) (old : (q : ℕ) → (q ≡ z → ⊥) → at' q ≡ at q) where
    past : (m d p : ℕ) → spot bits at m d ≡ p → (at p ≡ 0 → ⊥) → Passes bits at num m d → (e : ℕ) → e < d → spot bits at m e ≡ z → ⊥
    past m d p h u pass e l is =
        let none : at (spot bits at m (suc e)) ≡ 0 = ap (λ (x : ℕ). at (child bits (at x) (turn bits m e))) is ∙ bare (turn bits m e) (turn_low bits m e) in
        elim (cases_eq (suc e) d) [
          | inl last ↦ u (ap at (sym h) ∙ ap (λ (x : ℕ). at (spot bits at m x)) (sym last) ∙ none)
          | inr more ↦ (pass (suc e) (omega arith)).0 none
        ]

    pub cut_sound : Sound bits at' num
    cut_sound q u =
        let was = old q (λ e. u (ap at' e ∙ gone)) in
        let there = sound q (λ e. u (was ∙ e)) in
        let off : (e : ℕ) → e < there.depth → at' (spot bits at (num (at q)) e) ≡ at (spot bits at (num (at q)) e) =
        λ e h. old _ (past (num (at q)) there.depth q there.here (λ e. u (was ∙ e)) there.passes e h) in
        hangs_by at' num q (num (at q)) there.depth (ap num was) there.shallow
        (same_spot at num at' num _ there.depth off ∙ there.here)
        (same_passes at num at' num _ there.depth off (λ e h. refl) there.passes) there.fits
