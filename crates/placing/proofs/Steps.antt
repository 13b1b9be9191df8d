-- A whole step, from what its parts ensure.
use Rattle.std.proofs.Common.{◌≡◌, ℕ, ◌<◌, ◌≤◌, ◌&&◌, eqb, leb, List, ◌∷◌, ◌++◌, length, Some, None, Option, sym, refl, ap, ◌∙◌, append-nil, length-append, arith}
use Rattle.std.proofs.lemmas.Bool.{and_from, eq-eqb, le-leb, and_parts, eqb-true, leb-true}
use Rattle.words.specs.Parts.{flat}
use Rattle.words.proofs.Cases.{by_test}
use Rattle.hall.specs.Promise.{Event}
use Rattle.machine.specs.Machine.{State, turn, turn_of}
use Rattle.machine.specs.Lifting.{event_number}
use Rattle.machine.specs.Keeping.{Kept}
use Rattle.placing_model.specs.Parts.{parts}
use Rattle.placing_model.specs.Memory.{WholeMemory, joined}
use Rattle.placing_model.specs.Own.{own}
use Rattle.placing_model.proofs.Memory.{Sizes, cut_joined, joined_length, length_zeros}
use Rattle.placing_model.proofs.Own.{own_step}
use Rattle.placing.specs.Acts.{act_of}
use Rattle.placing.specs.Turns.{state_in}
use Rattle.placing.specs.Entry.{event_of, row_after, StepSays, step_fits}
use Rattle.placing.specs.declared.acts.Act.{Act}

-- the words of a state, one after the other
joined_is : (p x : ℕ) (g s l k : List ℕ) → joined (state_in p x g s l k) ≡ p ∷ x ∷ (g ++ (s ++ (l ++ k)))
unfolding joined flat
joined_is p x g s l k = ap (λ r. p ∷ x ∷ (g ++ (s ++ (l ++ r)))) (append-nil k)

own_takes : (s s₁ : State parts) (a : Act) (ev : Event) → Kept parts Sizes s → event_number ev < 18446744073709551616 → turn parts s₁ (act_of a) ≡ turn_of parts s ev →
    own.step (joined s) ev ≡ record { memory = joined s₁; act = act_of a }
own_takes s s₁ a ev k n taken = own_step (joined s) ev (joined_length s k) n ∙ rw (cut_joined s k, ← taken) refl

-- a memory, cut into its registers and parts one after the other
cut_up : (m r₁ r₂ r₃ r₄ : List ℕ) (p x : ℕ) (g s l k : List ℕ) → m ≡ p ∷ r₁ → r₁ ≡ x ∷ r₂ → r₂ ≡ g ++ r₃ → r₃ ≡ s ++ r₄ → r₄ ≡ l ++ k → m ≡ p ∷ x ∷ (g ++ (s ++ (l ++ k)))
cut_up m r₁ r₂ r₃ r₄ p x g s l k e₁ e₂ e₃ e₄ e₅ = rw (e₁, e₂, e₃, e₄, e₅) refl

-- a step of the machine is the turn of the state whose words its memory holds
pub acts_in : (m r₁ r₂ r₃ r₄ : List ℕ) (p x p₁ x₁ : ℕ) (g s l k g₁ s₁ l₁ k₁ : List ℕ) (a : Act) (ev : Event) →
    m ≡ p ∷ r₁ → r₁ ≡ x ∷ r₂ → r₂ ≡ g ++ r₃ → r₃ ≡ s ++ r₄ → r₄ ≡ l ++ k → length m ≡ 239635 → length g ≡ 131078 → length s ≡ 4102 → length l ≡ 5121 →
    event_number ev < 18446744073709551616 →
    turn parts (state_in p₁ x₁ g₁ s₁ l₁ k₁) (act_of a) ≡ turn_of parts (state_in p x g s l k) ev →
    WholeMemory m × (own.step m ev ≡ record { memory = p₁ ∷ x₁ ∷ (g₁ ++ (s₁ ++ (l₁ ++ k₁))); act = act_of a })
acts_in m r₁ r₂ r₃ r₄ p x p₁ x₁ g s l k g₁ s₁ l₁ k₁ a ev e₁ e₂ e₃ e₄ e₅ h hg hs hl n taken =
    let e = cut_up m r₁ r₂ r₃ r₄ p x g s l k e₁ e₂ e₃ e₄ e₅ in
    let hm : length (p ∷ x ∷ (g ++ (s ++ (l ++ k)))) ≡ 239635 = ap length (sym e) ∙ h in
    let hk : length k ≡ 99332 = omega (arith, hm, length-append g (s ++ (l ++ k)), length-append s (l ++ k), length-append l k) in (
      h,
      rw (e, ← joined_is p x g s l k, ← joined_is p₁ x₁ g₁ s₁ l₁ k₁)
          (own_takes _ _ a ev (record { phase = tt; subject = tt; goods = hg; shelves = hs; loads = hl; contents = hk }) n taken),
    )

fits_is : (m : List ℕ) (k : ℕ) (out : List ℕ) → step_fits m k out ≡ (eqb (length m) 239635 && (leb k 5 && leb 2 (length out)))
unfolding step_fits own
fits_is m k out = ap (λ n. eqb (length m) n && (leb k 5 && leb 2 (length out))) (length_zeros 239635)

-- a step that does not fit changes nothing
pub step_refused : (m m₁ : List ℕ) (k n : ℕ) (out : List ℕ) (r : Option Act) → r ≡ None → m₁ ≡ m → (length m ≡ 239635 → k ≤ 5 → 2 ≤ length out → ⊥) →
    StepSays m k n out (step_fits m k out) r m₁ out
unfolding StepSays
step_refused m m₁ k n out r none same unfit =
    by_test (step_fits m k out)
    (λ q. let p = and_parts _ _ (sym (fits_is m k out) ∙ q) in let r = and_parts _ _ p.1 in absurd (unfit (eqb-true _ _ p.0) (leb-true _ _ r.0) (leb-true _ _ r.1)))
    (λ q. rw (q, none) (same, refl))

-- a step that fits is the machine's
pub step_taken : (m m₁ : List ℕ) (k n : ℕ) (out out₁ : List ℕ) (a : Act) (ev : Event) → length m ≡ 239635 → k ≤ 5 → 2 ≤ length out → ev ≡ event_of k n →
    own.step m ev ≡ record { memory = m₁; act = act_of a } → out₁ ≡ row_after (act_of a) out → StepSays m k n out (step_fits m k out) (Some a) m₁ out₁
unfolding StepSays
step_taken m m₁ k n out out₁ a ev h i j e s told =
    rw (fits_is m k out ∙ and_from _ _ (eq-eqb _ _ h) (and_from _ _ (le-leb _ _ i) (le-leb _ _ j)), ← e) (s, told)
