-- The tree in the memory: what hanging a slot, and taking one out, leave of a sound tree.
use Rattle.std.proofs.Common.{◌≡◌, ℕ, zero, suc, ◌^◌, ◌<◌, ◌≤◌, eqb, ◌⊎◌, List, length, sym, refl, ap, ◌∙◌, subst, inl, inr, arith}
use Rattle.std.proofs.lemmas.Bool.{cases_eq, cond-true, cond-false, eq-eqb, ne_eqb}
use Rattle.index_model.specs.Model.{levels, capacity, word, slot_at, number_at, child, locate, locate_in, slot_for, put, hang, leaf, replace, unhang}
use Rattle.index_model.specs.Sound.{spot, Passes, Sound}
use Rattle.index_model.proofs.Paths.{same_number, same_slot, not_own_child, bare_below, meet, ends, find_cases}
use Rattle.index_model.proofs.Changes.{same_spot, same_passes, insert_sound, insert_all, cut_sound, remove_gone, remove_others}
use Rattle.index_model.proofs.Moves.{Bottom, Through, bottom, replace_all}
use Rattle.index_model.proofs.Words.{same_capacity, slot_small, slot_inside, spot_inside, length_put, put_same, put_other, put_number, name_same, name_other, name_slots}

abbrev pub Tree : ℕ → List ℕ → Type 0
Tree bits m = Sound bits (slot_at bits m) (number_at bits m)

-- a slot that can be used, and is not
pub record Spare (bits : ℕ) (m : List ℕ) (s : ℕ) : Type 0 where
  pub some : 0 < s
  pub small : s ≤ capacity bits m
  pub free : (p : ℕ) → slot_at bits m p ≡ s → ⊥

pub record Hung (bits : ℕ) (m u : List ℕ) (n s : ℕ) : Type 0 where
  pub sound : Tree bits u
  pub found : slot_for bits u n ≡ s
  pub others : (k : ℕ) → (k ≡ n → ⊥) → slot_for bits u k ≡ slot_for bits m k
  pub used : (p : ℕ) → (slot_at bits u p ≡ s → ⊥) → (q : ℕ) × (slot_at bits m q ≡ slot_at bits u p)
  pub kept : (z : ℕ) → (z ≡ s → ⊥) → number_at bits u z ≡ number_at bits m z

pub record Unhung (bits : ℕ) (m u : List ℕ) (n : ℕ) : Type 0 where
  pub sound : Tree bits u
  pub gone : slot_for bits u n ≡ 0
  pub others : (k : ℕ) → (k ≡ n → ⊥) → slot_for bits u k ≡ slot_for bits m k
  pub used : (p : ℕ) → (slot_at bits u p ≡ 0 → ⊥) → (slot_at bits u p ≡ slot_for bits m n → ⊥) × ((q : ℕ) × (slot_at bits m q ≡ slot_at bits u p))
  pub kept : number_at bits u ≡ number_at bits m

module _ (bits : ℕ) where
  pub hung : (m : List ℕ) (n s : ℕ) → Tree bits m → n < 2 ^ 64 → slot_for bits m n ≡ 0 → Spare bits m s → Hung bits m (hang bits m n s) n s
  hung m n s sound fits none spare =
      let small = spare.small in
      let some = spare.some in
      let u = hang bits m n s in
      let p = locate_in bits m n in
      let end = ends bits (slot_at bits m) (number_at bits m) sound n fits in
      let inside : word bits p < length m = subst (λ (x : ℕ). word bits x < length m) end.here (spot_inside bits m (omega arith) n end.depth) in
      let reads = name_slots bits (put bits m p s) s n in
      let new : slot_at bits u p ≡ s = ap (λ (f : ℕ → ℕ). f p) reads ∙ put_same bits m p s inside small in
      let old : (q : ℕ) → (q ≡ p → ⊥) → slot_at bits u q ≡ slot_at bits m q = λ q ne. ap (λ (f : ℕ → ℕ). f q) reads ∙ put_other bits m p s q ne in
      let named : number_at bits u s ≡ n = name_same bits (put bits m p s) s n some (subst (λ (c : ℕ). s ≤ c) (sym (same_capacity bits m (put bits m p s) (length_put bits m p s))) small) in
      let kept : (z : ℕ) → (z ≡ s → ⊥) → number_at bits u z ≡ number_at bits m z = λ z ne. name_other bits (put bits m p s) s n z ne ∙ ap (λ (f : ℕ → ℕ). f z) (put_number bits m p s) in
      let all = insert_all bits (slot_at bits m) (number_at bits m) (slot_at bits u) (number_at bits u) sound n s p fits end none spare.free new old named kept (λ z. omega arith) in
      record {
        sound = insert_sound bits (slot_at bits m) (number_at bits m) (slot_at bits u) (number_at bits u) sound n s p fits end none spare.free new old named kept;
        found = all.0;
        others = all.1;
        used = all.2;
        kept = kept;
      }

  above : (x : ℕ) → (x ≡ 0 → ⊥) → 0 < x
  above zero u = absurd (u refl)
  above (suc x) u = omega arith

  two : (P : ℕ → Type 0) → P 0 → P 1 → (b : ℕ) → b < 2 → P b
  two P p q zero l = p
  two P p q (suc zero) l = q
  two P p q (suc (suc b)) l = absurd (omega arith)

  -- the columns after a replacement, by their reads
  module _ (t : List ℕ) (p x y : ℕ) (some_x : 0 < x) (small_x : x ≤ capacity bits t) (some_y : 0 < y) (small_y : y ≤ capacity bits t)
      (inside : word bits p < length t) (apart : x ≡ y → ⊥) (p_x : (b : ℕ) → b < 2 → p ≡ child bits x b → ⊥) (p_y : (b : ℕ) → b < 2 → p ≡ child bits y b → ⊥) where
    abbrev t₁ : List ℕ
    t₁ = put bits t (child bits y 0) (slot_at bits t (child bits x 0))

    abbrev t₂ : List ℕ
    t₂ = put bits t₁ (child bits y 1) (slot_at bits t (child bits x 1))

    abbrev t₃ : List ℕ
    t₃ = put bits t₂ (child bits x 0) 0

    abbrev t₄ : List ℕ
    t₄ = put bits t₃ (child bits x 1) 0

    replace_new : slot_at bits (replace bits t p x y) p ≡ y
    unfolding replace
    replace_new = put_same bits t₄ p y (simp length_put inside) (simp length_put small_y)

    replace_bare : (b : ℕ) → b < 2 → slot_at bits (replace bits t p x y) (child bits x b) ≡ 0
    unfolding replace
    replace_bare =
        two (λ b. slot_at bits (replace bits t p x y) (child bits x b) ≡ 0)
        (put_other bits t₄ p y (child bits x 0) (λ e. p_x 0 (omega arith) (sym e)) ∙ put_other bits t₃ (child bits x 1) 0 (child bits x 0) (λ e. omega arith)
        ∙ put_same bits t₂ (child bits x 0) 0 (simp length_put (omega arith)) (simp length_put (omega arith)))
        (put_other bits t₄ p y (child bits x 1) (λ e. p_x 1 (omega arith) (sym e)) ∙ put_same bits t₃ (child bits x 1) 0 (simp length_put (omega arith)) (simp length_put (omega arith)))

    replace_moved : (b : ℕ) → b < 2 → slot_at bits (replace bits t p x y) (child bits y b) ≡ slot_at bits t (child bits x b)
    unfolding replace
    replace_moved =
        two (λ b. slot_at bits (replace bits t p x y) (child bits y b) ≡ slot_at bits t (child bits x b))
        (put_other bits t₄ p y (child bits y 0) (λ e. p_y 0 (omega arith) (sym e)) ∙ put_other bits t₃ (child bits x 1) 0 (child bits y 0) (λ e. apart (omega arith))
        ∙ put_other bits t₂ (child bits x 0) 0 (child bits y 0) (λ e. apart (omega arith)) ∙ put_other bits t₁ (child bits y 1) (slot_at bits t (child bits x 1)) (child bits y 0) (λ e. omega arith)
        ∙ put_same bits t (child bits y 0) (slot_at bits t (child bits x 0)) (omega arith) (slot_small bits t (child bits x 0)))
        (put_other bits t₄ p y (child bits y 1) (λ e. p_y 1 (omega arith) (sym e)) ∙ put_other bits t₃ (child bits x 1) 0 (child bits y 1) (λ e. apart (omega arith))
        ∙ put_other bits t₂ (child bits x 0) 0 (child bits y 1) (λ e. apart (omega arith))
        ∙ put_same bits t₁ (child bits y 1) (slot_at bits t (child bits x 1)) (simp length_put (omega arith)) (simp length_put (slot_small bits t (child bits x 1))))

    replace_old : (q : ℕ) → (q ≡ p → ⊥) → ((b : ℕ) → b < 2 → q ≡ child bits x b → ⊥) → ((b : ℕ) → b < 2 → q ≡ child bits y b → ⊥) → slot_at bits (replace bits t p x y) q ≡ slot_at bits t q
    unfolding replace
    replace_old q np nx ny =
        put_other bits t₄ p y q np ∙ put_other bits t₃ (child bits x 1) 0 q (nx 1 (omega arith)) ∙ put_other bits t₂ (child bits x 0) 0 q (nx 0 (omega arith))
        ∙ put_other bits t₁ (child bits y 1) (slot_at bits t (child bits x 1)) q (ny 1 (omega arith)) ∙ put_other bits t (child bits y 0) (slot_at bits t (child bits x 0)) q (ny 0 (omega arith))

  replace_numbers : (t : List ℕ) (p x y : ℕ) → number_at bits (replace bits t p x y) ≡ number_at bits t
  unfolding replace
  replace_numbers t p x y =
      put_number bits _ _ _ ∙ put_number bits _ _ _ ∙ put_number bits _ _ _ ∙ put_number bits _ _ _ ∙ put_number bits t (child bits y 0) (slot_at bits t (child bits x 0))

  module _ (t : List ℕ) (n : ℕ) (sound : Tree bits t) (found : slot_for bits t n ≡ 0 → ⊥) where
    abbrev p : ℕ
    p = locate_in bits t n

    abbrev z : ℕ
    z = leaf bits (slot_at bits t) (levels bits) p

    abbrev x : ℕ
    x = slot_at bits t p

    abbrev y : ℕ
    y = slot_at bits t z

    abbrev cut : List ℕ
    cut = put bits t z 0

    bot : Bottom bits (slot_at bits t) (number_at bits t) p z
    bot = bottom bits (slot_at bits t) (number_at bits t) sound p found

    named : number_at bits t x ≡ n
    named = elim (find_cases bits (slot_at bits t) (number_at bits t) sound n) [ inl free ↦ absurd (found free) | inr e ↦ e ]

    finish : (u : List ℕ) → number_at bits u ≡ number_at bits t → Sound bits (slot_at bits u) (number_at bits t)
        → ((q : ℕ) → (slot_at bits u q ≡ 0 → ⊥) → (slot_at bits u q ≡ x → ⊥) × ((a : ℕ) × (slot_at bits t a ≡ slot_at bits u q)))
        → ((a : ℕ) → (slot_at bits t a ≡ 0 → ⊥) → (a ≡ p → ⊥) → (q : ℕ) × (slot_at bits u q ≡ slot_at bits t a))
        → Unhung bits t u n
    finish u e hang back there =
        let same = sym e in
        record {
          sound = subst (Sound bits (slot_at bits u)) same hang;
          gone = subst (λ (num : ℕ → ℕ). slot_at bits u (locate bits (slot_at bits u) num n) ≡ 0) same
              (remove_gone bits (slot_at bits t) (slot_at bits u) (number_at bits t) sound hang n p found named back there);
          others = λ m other.
              subst (λ (num : ℕ → ℕ). slot_at bits u (locate bits (slot_at bits u) num m) ≡ slot_for bits t m) same
              (remove_others bits (slot_at bits t) (slot_at bits u) (number_at bits t) sound hang n p found named back there m other);
          used = back;
          kept = e;
        }

    cut_gone : slot_at bits cut z ≡ 0
    cut_gone = put_same bits t z 0 (slot_inside bits t z bot.used) (omega arith)

    cut_old : (q : ℕ) → (q ≡ z → ⊥) → slot_at bits cut q ≡ slot_at bits t q
    cut_old q ne = put_other bits t z 0 q ne

    cut_hang : Sound bits (slot_at bits cut) (number_at bits t)
    cut_hang =
        cut_sound bits (slot_at bits t) (slot_at bits cut) (number_at bits t) sound z
        (two (λ b. slot_at bits t (child bits y b) ≡ 0) bot.left bot.right) cut_gone cut_old

    off_z : (q : ℕ) → (slot_at bits cut q ≡ 0 → ⊥) → q ≡ z → ⊥
    off_z q u e = u (ap (slot_at bits cut) e ∙ cut_gone)

    -- the number's own slot is a leaf
    removed_leaf : z ≡ p → Unhung bits t cut n
    removed_leaf e =
        finish cut (put_number bits t z 0) cut_hang
        (λ q u. (let was = cut_old q (off_z q u) in
        (λ is. off_z q u (sym (same_slot bits (slot_at bits t) (number_at bits t) sound p q found (sym is ∙ was)) ∙ sym e), (q, sym was))))
        (λ a u ne. (a, cut_old a (λ is. ne (is ∙ e))))

    module _ (apart : z ≡ p → ⊥) where
      abbrev last : List ℕ
      last = replace bits cut p x y

      x_y : x ≡ y → ⊥
      x_y e = apart (sym (same_slot bits (slot_at bits t) (number_at bits t) sound p z found e))

      is_x : slot_at bits cut p ≡ x
      is_x = cut_old p (λ e. apart (sym e))

      fresh : (q : ℕ) → (slot_at bits cut q ≡ 0 → ⊥) → number_at bits t (slot_at bits cut q) ≡ number_at bits t y → ⊥
      fresh q u e =
          let was = cut_old q (off_z q u) in
          off_z q u (same_number bits (slot_at bits t) (number_at bits t) sound q z (λ f. u (was ∙ f)) bot.used (ap (number_at bits t) (sym was) ∙ e))

      -- the search for y's number, up to p
      way : (d : ℕ) × ((d < levels bits) × (spot bits (slot_at bits cut) (number_at bits t y) d ≡ p) × Passes bits (slot_at bits cut) (number_at bits t) (number_at bits t y) d)
      unfolding Through
      way =
          let there = sound z bot.used in
          let up = (bot.through (number_at bits t y) there.depth there.passes there.here).1 in
          let d = up.0 in
          let less : Passes bits (slot_at bits t) (number_at bits t) (number_at bits t y) d = λ k l. there.passes k (omega (arith, up.1.0)) in
          let off : (e : ℕ) → e < d → slot_at bits cut (spot bits (slot_at bits t) (number_at bits t y) e) ≡ slot_at bits t (spot bits (slot_at bits t) (number_at bits t y) e) =
          λ e l. cut_old _ (λ is. omega (
            arith,
            up.1.0,
            (meet bits (slot_at bits t) (number_at bits t) sound (number_at bits t y) (number_at bits t y) e there.depth
                (λ k j. there.passes k (omega (arith, up.1.0))) there.passes (is ∙ sym there.here)).0,
          )) in (
            d,
            (
              omega (arith, up.1.0, there.shallow),
              same_spot bits (slot_at bits t) (number_at bits t) (slot_at bits cut) (number_at bits t) (number_at bits t y) d off ∙ up.1.1,
              same_passes bits (slot_at bits t) (number_at bits t) (slot_at bits cut) (number_at bits t) (number_at bits t y) d off (λ e l. refl) less,
            ),
          )

      p_used : slot_at bits cut p ≡ 0 → ⊥
      p_used e = found (sym is_x ∙ e)

      not_x : (b : ℕ) → b < 2 → p ≡ child bits x b → ⊥
      not_x b l e = not_own_child bits (slot_at bits t) (number_at bits t) sound p b l found e

      not_y : (b : ℕ) → b < 2 → p ≡ child bits y b → ⊥
      not_y b l e =
          p_used (ap (slot_at bits cut) e ∙ bare_below bits (slot_at bits cut) (number_at bits t) cut_hang y b l (λ q v is. fresh q v (ap (number_at bits t) is)))

      inside_cut : word bits p < length cut
      inside_cut = simp length_put (slot_inside bits t p found)

      some_x : 0 < x
      some_x = above x found

      some_y : 0 < y
      some_y = above y bot.used

      small_x : x ≤ capacity bits cut
      small_x = simp length_put (slot_small bits t p)

      small_y : y ≤ capacity bits cut
      small_y = simp length_put (slot_small bits t z)

      last_new : slot_at bits last p ≡ y
      last_new = replace_new cut p x y some_x small_x some_y small_y inside_cut x_y not_x not_y

      last_all : Sound bits (slot_at bits last) (number_at bits t)
          × ((q : ℕ) → (slot_at bits last q ≡ 0 → ⊥) → (slot_at bits last q ≡ y) ⊎ ((a : ℕ) × ((slot_at bits cut a ≡ slot_at bits last q) × (slot_at bits last q ≡ x → ⊥))))
          × ((a : ℕ) → (slot_at bits cut a ≡ 0 → ⊥) → (a ≡ p → ⊥) → (q : ℕ) × (slot_at bits last q ≡ slot_at bits cut a))
      last_all =
          replace_all bits (slot_at bits cut) (slot_at bits last) (number_at bits t) cut_hang p x y way.0 is_x found bot.used (sound z bot.used).fits fresh way.1.0 way.1.1 way.1.2
          last_new (replace_bare cut p x y some_x small_x some_y small_y inside_cut x_y not_x not_y)
          (replace_moved cut p x y some_x small_x some_y small_y inside_cut x_y not_x not_y) (replace_old cut p x y some_x small_x some_y small_y inside_cut x_y not_x not_y)

      removed_moved : Unhung bits t last n
      removed_moved =
          finish last (replace_numbers cut p x y ∙ put_number bits t z 0) last_all.0
          (λ q u.
          elim (last_all.1 q u) [
            | inl is_y ↦ (λ is. x_y (sym is ∙ is_y), (z, sym is_y))
            | inr was ↦
                (was.1.1, (was.0, sym (cut_old was.0 (off_z was.0 (λ f. u (sym was.1.0 ∙ f)))) ∙ was.1.0))
          ])
          (λ a u ne.
          elim (cases_eq a z) [
            | inl is ↦ (p, last_new ∙ ap (slot_at bits t) (sym is))
            | inr other ↦
                (let was = cut_old a other in
                let q = last_all.2 a (λ f. u (sym was ∙ f)) ne in
                (q.0, q.1 ∙ was))
          ])

  pub unhung : (m : List ℕ) (n : ℕ) → Tree bits m → (slot_for bits m n ≡ 0 → ⊥) → Unhung bits m (unhang bits m n) n
  unhung t n sound found =
      let p = locate_in bits t n in
      let z = leaf bits (slot_at bits t) (levels bits) p in
      elim (cases_eq z p) [
        | inl is ↦
            subst (λ (u : List ℕ). Unhung bits t u n) (sym (cond-true (eqb z p) (put bits t z 0) (replace bits (put bits t z 0) p (slot_at bits t p) (slot_at bits t z)) (eq-eqb _ _ is)))
            (removed_leaf t n sound found is)
        | inr ne ↦
            subst (λ (u : List ℕ). Unhung bits t u n) (sym (cond-false (eqb z p) (put bits t z 0) (replace bits (put bits t z 0) p (slot_at bits t p) (slot_at bits t z)) (ne_eqb _ _ ne)))
            (removed_moved t n sound found ne)
      ]
