-- A number goes: the index stays sound, finds it no more, and all others as before.
use Rattle.std.proofs.Common.{◌≡◌, ℕ, suc, ◌-◌, ◌<◌, ◌≤◌, eqb, List, ◌∷◌, length, sym, refl, ap, ◌∙◌, subst, inl, inr, arith}
use Rattle.std.proofs.lemmas.Bool.{cases_eq, cond-false, ne_eqb}
use Rattle.index_model.specs.Model.{capacity, slot_of, slot_at, number_at, fresh_at, free_at, count_at, locate, locate_in, slot_for, find_at, name_slot, register, unhang, give_slot, remove_in}
use Rattle.index_model.specs.Sound.{Sound, SoundIn, Inside, Outside, Chain, next_at}
use Rattle.index_model.specs.Laws.{Removed, RemoveLaw}
use Rattle.index_model.proofs.Steps.{slot_in}
use Rattle.index_model.proofs.Paths.{same_find}
use Rattle.index_model.proofs.Changes.{hangs_by, same_passes}
use Rattle.index_model.proofs.Chains.{chain_kept, chain_outside, take_out}
use Rattle.index_model.proofs.Words.{same_capacity, of_capacity, of_small, slot_small, name_same, name_other, name_slots, length_register, register_slots, register_numbers, fresh_other, free_other, count_same, free_same, keeps_name, keeps_unhang}
use Rattle.index_model.proofs.Trees.{Unhung, unhung}
use Rattle.index_model.proofs.Inserts.{still}

module _ (bits : ℕ) where
  -- a slot that hangs nowhere gets another number
  module _ (at num num' : ℕ → ℕ) (sound : Sound bits at num) (kept : (q : ℕ) → (at q ≡ 0 → ⊥) → num' (at q) ≡ num (at q)) where
    renamed_sound : Sound bits at num'
    renamed_sound q u =
        let there = sound q u in
        hangs_by bits at num' q (num (at q)) there.depth (kept q u) there.shallow there.here
        (same_passes bits at num at num' (num (at q)) there.depth (λ e h. refl) (λ e h. kept _ (there.passes e h).0) there.passes) there.fits

    renamed_find : (n : ℕ) → at (locate bits at num' n) ≡ at (locate bits at num n)
    renamed_find n = same_find bits at num at num' sound renamed_sound n (λ p u e. (p, (refl, kept p u ∙ e))) (λ q u e. (q, (refl, sym (kept q u) ∙ e)))

  pub free_small : (l : List ℕ) → free_at bits l ≤ capacity bits l
  unfolding free_at
  free_small l = of_small bits l _

  -- a number goes
  removed : (m l u : List ℕ) (n x : ℕ) → SoundIn bits m → slot_for bits m n ≡ x → 0 < x → Unhung bits m l n → capacity bits u ≡ capacity bits m
      → slot_at bits u ≡ slot_at bits l → ((z : ℕ) → (z ≡ x → ⊥) → number_at bits u z ≡ number_at bits l z) → number_at bits u x ≡ free_at bits m
      → fresh_at u ≡ fresh_at m → free_at bits u ≡ x → count_at u ≡ count_at m - 1 → Removed bits m u n
  unfolding find_at
  removed m l u n x sound is some h cap slots numbers given fresh free count =
      let off : (q : ℕ) → (slot_at bits l q ≡ 0 → ⊥) → slot_at bits l q ≡ x → ⊥ = λ q v e. (h.used q v).0 (e ∙ sym is) in
      let kept : (q : ℕ) → (slot_at bits l q ≡ 0 → ⊥) → number_at bits u (slot_at bits l q) ≡ number_at bits l (slot_at bits l q) = λ q v. numbers _ (off q v) in
      let at_u : (p : ℕ) → slot_at bits u p ≡ slot_at bits l p = λ p. ap (λ (at : ℕ → ℕ). at p) slots in
      let was : (p : ℕ) → (slot_at bits u p ≡ 0 → ⊥) → (q : ℕ) × (slot_at bits m q ≡ slot_at bits u p) =
      λ p v. (let q = (h.used p (λ z. v (at_u p ∙ z))).1 in (q.0, q.1 ∙ sym (at_u p))) in
      let fewer = take_out x sound.uses sound.once (subst (λ (y : ℕ). Inside y sound.uses) is (sound.used (locate_in bits m n) (λ z. omega (arith, is, z, some)))) in
      let finds : (k : ℕ) → slot_for bits u k ≡ slot_for bits l k =
      λ k. ap (λ (at : ℕ → ℕ). at (locate bits at (number_at bits u) k)) slots ∙ renamed_find (slot_at bits l) (number_at bits l) (number_at bits u) h.sound kept k in
      let one : count_at m ≡ suc (length fewer.rest) = sound.count ∙ fewer.longer in
      let below : x ≤ fresh_at m = omega (arith, sound.low (locate_in bits m n), is) in
      let small : x ≤ capacity bits m = omega (arith, below, sound.top) in
      let next : next_at bits u x ≡ free_at bits m = of_capacity bits m u (number_at bits u x) cap ∙ ap (slot_of bits m) given ∙ sym (slot_in bits m (free_at bits m) (free_small m)) in
      record {
        sound = record {
          hang = subst (λ (at : ℕ → ℕ). Sound bits at (number_at bits u)) (sym slots) (renamed_sound (slot_at bits l) (number_at bits l) (number_at bits u) h.sound kept);
          low = λ p. elim (cases_eq (slot_at bits u p) 0) [
            | inl z ↦ omega arith
            | inr v ↦ (let q = was p v in omega (arith, sound.low q.0, q.1, fresh))
          ];
          top = omega (arith, fresh, cap, sound.top);
          uses = fewer.rest;
          used = λ p v. (let q = was p v in fewer.stays (slot_at bits u p) (λ e. off p (λ z. v (at_u p ∙ z)) (sym (at_u p) ∙ e))
              (subst (λ (y : ℕ). Inside y sound.uses) q.1 (sound.used q.0 (λ z. v (sym q.1 ∙ z)))));
          hung = λ z i.
              (let j = fewer.was z i in
              let q = sound.hung z j.0 in
              (q.0, still bits m u n sound.hang (λ k ne. finds k ∙ h.others k ne) q.1.0 z q.1.1 q.0 (λ f. j.1 (sym f ∙ is))));
          once = fewer.once;
          count = count ∙ omega (arith, one);
          chain = x ∷ sound.chain;
          linked = (
            free,
            some,
            omega (arith, below, fresh),
            (λ p e. off p (λ z. omega (arith, some, e, at_u p, z)) (sym (at_u p) ∙ e)),
            outside,
            subst (λ (g : ℕ). Chain (slot_at bits u) (next_at bits u) (fresh_at u) g sound.chain) (sym next)
                (chain_kept (slot_at bits m) (next_at bits m) (slot_at bits u) (next_at bits u) (fresh_at m) (fresh_at u) x (omega (arith, fresh)) (λ p v ne. was p v)
                (λ z ne. of_capacity bits m u (number_at bits u z) cap ∙ ap (slot_of bits m) (numbers z ne ∙ ap (λ (num : ℕ → ℕ). num z) h.kept))
                (free_at bits m) sound.chain outside sound.linked),
          );
          counts = fresh ∙ omega (arith, sound.counts, fewer.longer);
        };
        gone = finds n ∙ h.gone;
        others = λ k ne. finds k ∙ h.others k ne;
        counted = omega (arith, one, count);
      }
    where
      outside : Outside x sound.chain
      outside =
          chain_outside (slot_at bits m) (next_at bits m) (fresh_at m) x (λ s low no_one e. no_one (locate_in bits m n) (is ∙ e)) (free_at bits m) sound.chain sound.linked

  -- the model's tests, decided
  remove_is : (m : List ℕ) (n x : ℕ) → slot_for bits m n ≡ x → 0 < x → remove_in bits m n ≡ give_slot bits (unhang bits m n) x
  unfolding remove_in
  remove_is m n x e h =
      cond-false (eqb (slot_for bits m n) 0) m (give_slot bits (unhang bits m n) (slot_for bits m n)) (ne_eqb _ _ (λ z. omega (arith, h, e, z))) ∙ ap (give_slot bits (unhang bits m n)) e

  remove_so : (m : List ℕ) (n x : ℕ) → SoundIn bits m → slot_for bits m n ≡ x → 0 < x → Removed bits m (remove_in bits m n) n
  remove_so m n x sound is some =
      let l = unhang bits m n in
      let h = unhung bits m n sound.hang (λ z. omega (arith, is, some, z)) in
      let k = keeps_unhang bits m n in
      let w = name_slot bits l x (free_at bits l) in
      let kw = keeps_name bits m l x (free_at bits l) k in
      let w₁ = register w 1 x in
      let u = register w₁ 2 (count_at l - 1) in
      let small : x ≤ capacity bits m = omega (arith, is, slot_small bits m (locate_in bits m n)) in
      let cap_l = same_capacity bits m l k.long in
      let cap_w = same_capacity bits m w kw.long in
      let cap_w₁ : capacity bits w₁ ≡ capacity bits m = same_capacity bits w w₁ (length_register w 1 x) ∙ cap_w in
      let numbers : number_at bits u ≡ number_at bits w = register_numbers bits w₁ 2 (count_at l - 1) (omega arith) ∙ register_numbers bits w 1 x (omega arith) in
      subst (λ (v : List ℕ). Removed bits m v n) (sym (remove_is m n x is some))
      (removed m l u n x sound is some h (same_capacity bits w₁ u (length_register w₁ 2 (count_at l - 1)) ∙ cap_w₁)
      (register_slots bits w₁ 2 (count_at l - 1) (omega arith) ∙ register_slots bits w 1 x (omega arith) ∙ name_slots bits l x (free_at bits l))
      (λ z ne. ap (λ (num : ℕ → ℕ). num z) numbers ∙ name_other bits l x (free_at bits l) z ne)
      (ap (λ (num : ℕ → ℕ). num x) numbers ∙ name_same bits l x (free_at bits l) some (omega (arith, small, cap_l)) ∙ k.free)
      (fresh_other w₁ 2 (count_at l - 1) (λ e. omega arith) ∙ fresh_other w 1 x (λ e. omega arith) ∙ kw.fresh)
      (free_other bits w₁ 2 (count_at l - 1) (λ e. omega arith) ∙ free_same bits w x (omega (arith, some, small, cap_w)) ∙ sym (slot_in bits w x (omega (arith, small, cap_w))))
      (count_same bits w₁ (count_at l - 1) (omega (arith, some, small, cap_w₁)) ∙ ap (λ (c : ℕ). c - 1) k.count))

pub remove_law : RemoveLaw
unfolding find_at
remove_law bits m n sound some = remove_so bits m n (slot_for bits m n) sound refl some
