-- The walk to a leaf, and a slot that takes the place of another, in a sound index.
use Rattle.std.proofs.Common.{◌≡◌, ℕ, zero, suc, ◌+◌, ◌^◌, ◌<◌, ◌≤◌, ◌⊎◌, sym, refl, ap, ◌∙◌, subst, inl, inr, arith}
use Rattle.std.proofs.lemmas.Bool.{cases_eq}
use Rattle.index_model.specs.Model.{levels, child, leaf}
use Rattle.index_model.specs.Sound.{turn, spot, Passes, Hangs, Sound}
use Rattle.index_model.proofs.Keys.{head_low, turn_low}
use Rattle.index_model.proofs.Steps.{leaf_goes, leaf_here, lower_left, lower_right, lower_none}
use Rattle.index_model.proofs.Paths.{child_same, not_head, same_slot, not_own_child, bare_below, meet}
use Rattle.index_model.proofs.Changes.{hangs_by}

-- each search that comes to q has made k turns at least, and came through p
unfoldable pub Through : ℕ → (at num : ℕ → ℕ) → ℕ → ℕ → ℕ → Type 0
Through bits at num p q k =
    (m e : ℕ) → Passes bits at num m e → spot bits at m e ≡ q → (k ≤ e) × ((c : ℕ) × ((c ≤ e) × (spot bits at m c ≡ p)))

pub record Bottom (bits : ℕ) (at num : ℕ → ℕ) (p z : ℕ) : Type 0 where
  pub used : at z ≡ 0 → ⊥
  pub left : at (child bits (at z) 0) ≡ 0
  pub right : at (child bits (at z) 1) ≡ 0
  pub through : Through bits at num p z 0

module _ (bits : ℕ) where
  some_child : (s b : ℕ) → child bits s b ≡ 0 → ⊥
  some_child s b e = omega (arith, head_low bits 0)

  module _ (at num : ℕ → ℕ) (sound : Sound bits at num) (p : ℕ) where
    through_more : (q k b : ℕ) → b < 2 → (at q ≡ 0 → ⊥) → Through bits at num p q k → Through bits at num p (child bits (at q) b) (suc k)
    unfolding Through
    through_more q k b l u t m zero pass h = absurd (not_head bits _ _ _ h)
    through_more q k b l u t m (suc e) pass h =
        let parts = child_same bits (at q) (at (spot bits at m e)) b (turn bits m e) l (turn_low bits m e) (sym h) in
        let before = t m e (λ k l. pass k (omega arith)) (sym (same_slot bits at num sound q (spot bits at m e) u parts.0)) in
        (omega arith, (before.1.0, (omega arith, before.1.1.1)))

    leaf_so : (f k q : ℕ) → k + f ≡ levels bits → (at q ≡ 0 → ⊥) → Through bits at num p q k → Bottom bits at num p (leaf bits at f q)
    unfolding Through
    leaf_so zero k q h u t =
        let there = sound q u in
        absurd (omega (arith, (t (num (at q)) there.depth there.passes there.here).0, there.shallow))
    leaf_so (suc f) k q h u t =
        let l = child bits (at q) 0 in
        let r = child bits (at q) 1 in
        elim (cases_eq (at l) 0) [
          | inr left ↦
              subst (Bottom bits at num p) (sym (leaf_goes bits at q (suc f) f l refl (lower_left bits at q left) (some_child (at q) 0)))
              (leaf_so f (suc k) l (omega arith) left (through_more q k 0 (omega arith) u t))
          | inl none ↦
              elim (cases_eq (at r) 0) [
                | inr right ↦
                    subst (Bottom bits at num p) (sym (leaf_goes bits at q (suc f) f r refl (lower_right bits at q none right) (some_child (at q) 1)))
                    (leaf_so f (suc k) r (omega arith) right (through_more q k 1 (omega arith) u t))
                | inl also ↦
                    subst (Bottom bits at num p) (sym (leaf_here bits at q (suc f) (lower_none bits at q none also)))
                    (record { used = u; left = none; right = also; through = λ m e pass h. (omega arith, (t m e pass h).1) })
              ]
        ]

    pub bottom : (at p ≡ 0 → ⊥) → Bottom bits at num p (leaf bits at (levels bits) p)
    unfolding Through
    bottom u = leaf_so (levels bits) 0 p (omega arith) u (λ m e pass h. (omega arith, (e, (omega arith, h))))

  below_cases : (q s : ℕ) → ((b : ℕ) × ((b < 2) × (q ≡ child bits s b))) ⊎ ((b : ℕ) → b < 2 → q ≡ child bits s b → ⊥)
  below_cases q s =
      elim (cases_eq q (child bits s 0)) [
        | inl e ↦ inl (0, (omega arith, e))
        | inr f ↦ elim (cases_eq q (child bits s 1)) [
          | inl e ↦ inl (1, (omega arith, e))
          | inr g ↦ inr (λ b l e. omega arith)
        ]
      ]

  -- the slot y, which hangs nowhere, takes the place p of x, and its children; a search for y's number comes to p
  module _ (at at' num : ℕ → ℕ) (sound : Sound bits at num) (p x y d₀ : ℕ)
      (is_x : at p ≡ x) (used : x ≡ 0 → ⊥) (some : y ≡ 0 → ⊥) (fits : num y < 2 ^ 64) (fresh : (q : ℕ) → (at q ≡ 0 → ⊥) → num (at q) ≡ num y → ⊥)
      (shallow : d₀ < levels bits) (came : spot bits at (num y) d₀ ≡ p) (passed : Passes bits at num (num y) d₀)
      (new : at' p ≡ y) (bare : (b : ℕ) → b < 2 → at' (child bits x b) ≡ 0) (moved : (b : ℕ) → b < 2 → at' (child bits y b) ≡ at (child bits x b))
      (old : (q : ℕ) → (q ≡ p → ⊥) → ((b : ℕ) → b < 2 → q ≡ child bits x b → ⊥) → ((b : ℕ) → b < 2 → q ≡ child bits y b → ⊥) → at' q ≡ at q) where
    nowhere : (q : ℕ) → at q ≡ y → ⊥
    nowhere q e = fresh q (λ z. some (sym e ∙ z)) (ap num e)

    p_used : at p ≡ 0 → ⊥
    p_used z = used (sym is_x ∙ z)

    -- no slot hangs below itself
    p_not_below : (b : ℕ) → b < 2 → p ≡ child bits x b → ⊥
    p_not_below b l e = not_own_child bits at num sound p b l p_used (e ∙ ap (λ (s : ℕ). child bits s b) (sym is_x))

    Moved : ℕ → ℕ → Type 0
    Moved a a' =
        ((a ≡ a') × ((b : ℕ) → b < 2 → a ≡ child bits x b → ⊥)) ⊎ ((b : ℕ) × ((b < 2) × (a ≡ child bits x b) × (a' ≡ child bits y b)))

    -- what hangs at a place then, where a search comes to it
    then_at : (a a' : ℕ) → Moved a a' → ((b : ℕ) → b < 2 → a ≡ child bits y b → ⊥) → ((a ≡ p) × (at' a' ≡ y)) ⊎ ((a ≡ p → ⊥) × (at' a' ≡ at a))
    unfolding Moved
    then_at a a' mv off =
        elim mv [
          | inl same ↦
              elim (cases_eq a p) [
                | inl here ↦ inl (here, ap at' (sym same.0 ∙ here) ∙ new)
                | inr other ↦ inr (other, ap at' (sym same.0) ∙ old a other same.1 off)
              ]
          | inr went ↦
              inr (λ e. p_not_below went.0 went.1.0 (sym e ∙ went.1.1), ap at' went.1.2 ∙ moved went.0 went.1.0 ∙ ap at (sym went.1.1))
        ]

    off_y : (m d : ℕ) → Passes bits at num m d → (b : ℕ) → b < 2 → spot bits at m d ≡ child bits y b → ⊥
    off_y m zero pass b l e = not_head bits _ _ _ e
    off_y m (suc d) pass b l e =
        nowhere (spot bits at m d) (child_same bits (at (spot bits at m d)) y (turn bits m d) b (turn_low bits m d) l e).0

    moved_spot : (m d : ℕ) → Passes bits at num m d → Moved (spot bits at m d) (spot bits at' m d)
    unfolding Moved
    moved_spot m zero pass = inl (refl, λ b l e. not_head bits _ _ _ e)
    moved_spot m (suc d) pass =
        let less : Passes bits at num m d = λ k l. pass k (omega arith) in
        elim (then_at (spot bits at m d) (spot bits at' m d) (moved_spot m d less) (off_y m d less)) [
          | inl here ↦
              inr (turn bits m d, (turn_low bits m d, ap (λ (s : ℕ). child bits s (turn bits m d)) (ap at here.0 ∙ is_x), ap (λ (s : ℕ). child bits s (turn bits m d)) here.1))
          | inr other ↦
              inl (
                ap (λ (s : ℕ). child bits s (turn bits m d)) (sym other.1),
                λ b l e. other.0 (same_slot bits at num sound (spot bits at m d) p (pass d (omega arith)).0 ((child_same bits (at (spot bits at m d)) x (turn bits m d) b (turn_low bits m d) l e).0 ∙ sym is_x)),
              )
        ]

    moved_once : (a b c : ℕ) → Moved a b → Moved a c → b ≡ c
    unfolding Moved
    moved_once a b c m n =
        elim m [
          | inl same ↦ elim n [ inl also ↦ sym same.0 ∙ also.0 | inr went ↦ absurd (same.1 went.0 went.1.0 went.1.1) ]
          | inr went ↦ elim n [
            | inl same ↦ absurd (same.1 went.0 went.1.0 went.1.1)
            | inr also ↦
                (let bit = (child_same bits x x went.0 also.0 went.1.0 also.1.0 (sym went.1.1 ∙ also.1.1)).1 in
                went.1.2 ∙ ap (child bits y) bit ∙ sym also.1.2)
          ]
        ]

    -- a search for another number than y's goes on as before
    moved_passes : (m d : ℕ) → ((e : ℕ) → e < d → spot bits at m e ≡ p → m ≡ num y → ⊥) → Passes bits at num m d → Passes bits at' num m d
    moved_passes m d other pass e h =
        let less : Passes bits at num m e = λ k l. pass k (omega arith) in
        elim (then_at (spot bits at m e) (spot bits at' m e) (moved_spot m e less) (off_y m e less)) [
          | inl here ↦ (λ z. some (sym here.1 ∙ z), λ z. other e h here.0 (sym z ∙ ap num here.1))
          | inr there ↦ (λ z. (pass e h).0 (sym there.1 ∙ z), λ z. (pass e h).1 (ap num (sym there.1) ∙ z))
        ]

    keeps : (q q' : ℕ) → (at q ≡ 0 → ⊥) → Moved q q' → at' q' ≡ at q → Hangs bits at' num q'
    keeps q q' u mv e =
        let there = sound q u in
        hangs_by bits at' num q' (num (at q)) there.depth (ap num e) there.shallow
        (moved_once q _ _ (subst (λ (a : ℕ). Moved a (spot bits at' (num (at q)) there.depth)) there.here (moved_spot (num (at q)) there.depth there.passes)) mv)
        (moved_passes (num (at q)) there.depth (λ e h k. fresh q u) there.passes) there.fits

    replace_sound : Sound bits at' num
    unfolding Moved
    replace_sound q u =
        elim (cases_eq q p) [
          | inl here ↦
              (hangs_by bits at' num q (num y) d₀ (ap (λ (a : ℕ). num (at' a)) here ∙ ap num new) shallow
              (moved_once p _ _ (subst (λ (a : ℕ). Moved a (spot bits at' (num y) d₀)) came (moved_spot (num y) d₀ passed)) (inl (refl, p_not_below)) ∙ sym here)
              (moved_passes (num y) d₀ (λ e h is k. omega (arith, (meet bits at num sound (num y) (num y) e d₀ (λ k l. passed k (omega arith)) passed (is ∙ sym came)).0)) passed)
              fits)
          | inr other ↦
              elim (below_cases q x) [
                | inl un ↦ absurd (u (ap at' un.1.1 ∙ bare un.0 un.1.0))
                | inr not_x ↦
                    elim (below_cases q y) [
                      | inl un ↦
                          (let was = ap at' un.1.1 ∙ moved un.0 un.1.0 in
                          keeps (child bits x un.0) q (λ z. u (was ∙ z)) (inr (un.0, (un.1.0, refl, un.1.1))) was)
                      | inr not_y ↦
                          (let was = old q other not_x not_y in
                          keeps q q (λ z. u (was ∙ z)) (inl (refl, not_x)) was)
                    ]
              ]
        ]

    -- the slots in use are y and those that were, but for x
    replace_uses : (q : ℕ) → (at' q ≡ 0 → ⊥) → (at' q ≡ y) ⊎ ((a : ℕ) × ((at a ≡ at' q) × (at' q ≡ x → ⊥)))
    replace_uses q u =
        elim (cases_eq q p) [
          | inl here ↦ inl (ap at' here ∙ new)
          | inr other ↦
              elim (below_cases q x) [
                | inl un ↦ absurd (u (ap at' un.1.1 ∙ bare un.0 un.1.0))
                | inr not_x ↦
                    elim (below_cases q y) [
                      | inl un ↦
                          (let was = ap at' un.1.1 ∙ moved un.0 un.1.0 in
                          inr (child bits x un.0, (sym was, λ e. p_not_below un.0 un.1.0 (same_slot bits at num sound p _ p_used (is_x ∙ sym e ∙ was)))))
                      | inr not_y ↦
                          (let was = old q other not_x not_y in
                          inr (q, (sym was, λ e. other (sym (same_slot bits at num sound p q p_used (is_x ∙ sym e ∙ was))))))
                    ]
              ]
        ]

    replace_keeps : (a : ℕ) → (at a ≡ 0 → ⊥) → (a ≡ p → ⊥) → (q : ℕ) × (at' q ≡ at a)
    replace_keeps a u other =
        elim (below_cases a x) [
          | inl un ↦ (child bits y un.0, moved un.0 un.1.0 ∙ ap at (sym un.1.1))
          | inr not_x ↦
              elim (below_cases a y) [
                | inl un ↦ absurd (u (ap at un.1.1 ∙ bare_below bits at num sound y un.0 un.1.0 (λ q v. nowhere q)))
                | inr not_y ↦ (a, old a other not_x not_y)
              ]
        ]

    pub replace_all : Sound bits at' num
        × ((q : ℕ) → (at' q ≡ 0 → ⊥) → (at' q ≡ y) ⊎ ((a : ℕ) × ((at a ≡ at' q) × (at' q ≡ x → ⊥))))
        × ((a : ℕ) → (at a ≡ 0 → ⊥) → (a ≡ p → ⊥) → (q : ℕ) × (at' q ≡ at a))
    replace_all = (replace_sound, replace_uses, replace_keeps)
