-- Whatever the memory holds: slots within the capacity, the memory as long as it was, and words of 64 bits.
use Rattle.std.proofs.Common.{◌≡◌, ℕ, ◌+◌, ◌-◌, ◌^◌, ◌<◌, ◌≤◌, eqb, List, length, set, sym, refl, ap, ◌∙◌, subst, inl, inr, arith}
use Rattle.std.proofs.lemmas.List.{length-set}
use Rattle.std.proofs.lemmas.Bool.{cases_eq, cases_lt, cond-true, cond-false, eq-eqb, ne_eqb}
use Rattle.std.proofs.lemmas.Bool.Decides.{nat_tests}
use Rattle.words.specs.Small.{Small, Kept}
use Rattle.words.proofs.Laws.{small_set}
use Rattle.index_model.specs.Model.{heads, capacity, word, row, slot_of, slot_at, number_at, free_at, count_at, locate_in, slot_for, find_at, put, name_slot, register, hang, next_slot, take_slot, slot_to, insert_slot, insert_in, unhang, give_slot, remove_in}
use Rattle.index_model.specs.Laws.{RoomLaw, BoundLaw, NarrowLaw}
use Rattle.index_model.proofs.Words.{slot_small, length_name, length_register, keeps_unhang, unhang_by}
use Rattle.index_model.proofs.Inserts.{take_fresh, take_free, hang_keeps}
use Rattle.index_model.proofs.Removes.{free_small}

module _ (bits : ℕ) where
  next_small : (m : List ℕ) → next_slot bits m ≤ capacity bits m
  next_small m = let f = free_small bits m in grind (arith, nat_tests)

  to_small : (m : List ℕ) (n : ℕ) → slot_to bits m n ≤ capacity bits m
  to_small m n = let f = next_small m in grind (arith, nat_tests)

  to_room : (m : List ℕ) (n : ℕ) → (slot_to bits m n ≡ 0 → ⊥) → count_at m < capacity bits m
  to_room m n u =
      elim (cases_lt (count_at m) (capacity bits m)) [ inl l ↦ l | inr g ↦ absurd (u (grind (arith, nat_tests))) ]

  -- what holds of the memory, and of the one after a change, holds after insert, and after remove
  insert_by : (P : List ℕ → Type 0) (m : List ℕ) (n : ℕ) → P m → ((slot_to bits m n ≡ 0 → ⊥) → P (hang bits (take_slot bits m (slot_to bits m n)) n (slot_to bits m n))) → P (insert_in bits m n)
  unfolding insert_in
  insert_by P m n h k =
      elim (cases_eq (slot_to bits m n) 0) [
        | inl z ↦ subst P (sym (cond-true (eqb (slot_to bits m n) 0) m (hang bits (take_slot bits m (slot_to bits m n)) n (slot_to bits m n)) (eq-eqb _ _ z))) h
        | inr u ↦ subst P (sym (cond-false (eqb (slot_to bits m n) 0) m (hang bits (take_slot bits m (slot_to bits m n)) n (slot_to bits m n)) (ne_eqb _ _ u))) (k u)
      ]

  remove_by : (P : List ℕ → Type 0) (m : List ℕ) (n : ℕ) → P m → P (give_slot bits (unhang bits m n) (slot_for bits m n)) → P (remove_in bits m n)
  unfolding remove_in
  remove_by P m n h k =
      elim (cases_eq (slot_for bits m n) 0) [
        | inl z ↦ subst P (sym (cond-true (eqb (slot_for bits m n) 0) m (give_slot bits (unhang bits m n) (slot_for bits m n)) (eq-eqb _ _ z))) h
        | inr u ↦ subst P (sym (cond-false (eqb (slot_for bits m n) 0) m (give_slot bits (unhang bits m n) (slot_for bits m n)) (ne_eqb _ _ u))) k
      ]

  long_take : (m : List ℕ) (s : ℕ) → length (take_slot bits m s) ≡ length m
  long_take m s =
      elim (cases_eq (free_at bits m) 0) [
        | inl e ↦ ap length (take_fresh bits m s e) ∙ simp length_register
        | inr e ↦ ap length (take_free bits m s e) ∙ simp length_register
      ]

  -- words of 64 bits
  small_slot : (m : List ℕ) (v : ℕ) → v < 2 ^ 64 → slot_of bits m v < 2 ^ 64
  unfolding slot_of
  small_slot m v h = grind (arith, nat_tests)

  small_at : (m : List ℕ) (p : ℕ) → Small m → slot_at bits m p < 2 ^ 64
  unfolding slot_at Small
  small_at m p h = small_slot m _ (h (word bits p))

  small_free : (m : List ℕ) → Small m → free_at bits m < 2 ^ 64
  unfolding free_at Small
  small_free m h = small_slot m _ (h 1)

  small_number : (m : List ℕ) (s : ℕ) → Small m → number_at bits m s < 2 ^ 64
  unfolding number_at Small
  small_number m s h = let w = h (row bits s) in grind (arith, nat_tests)

  small_count : (m : List ℕ) → Small m → count_at m - 1 < 2 ^ 64
  unfolding count_at Small
  small_count m h = omega (arith, h 2)

  kept_self : (m : List ℕ) → Kept m m
  kept_self m = record { long = refl; small = λ h. h }

  kept_set : (m l : List ℕ) (i v : ℕ) → (Small m → v < 2 ^ 64) → Kept m l → Kept m (set l i v)
  kept_set m l i v h k = record { long = length-set l i v ∙ k.long; small = λ s. small_set l i v (k.small s) (h s) }

  kept_put : (m l : List ℕ) (p s : ℕ) → (Small m → s < 2 ^ 64) → Kept m l → Kept m (put bits l p s)
  unfolding put
  kept_put m l p s = kept_set m l (word bits p) s

  kept_name : (m l : List ℕ) (s n : ℕ) → (Small m → n < 2 ^ 64) → Kept m l → Kept m (name_slot bits l s n)
  unfolding name_slot
  kept_name m l s n = kept_set m l (row bits s) n

  kept_register : (m l : List ℕ) (k v : ℕ) → (Small m → v < 2 ^ 64) → Kept m l → Kept m (register l k v)
  kept_register m l k v = kept_set m l k v

  kept_take : (m : List ℕ) (s : ℕ) → s < 2 ^ 64 → count_at m + 1 < 2 ^ 64 → Kept m (take_slot bits m s)
  kept_take m s h l =
      elim (cases_eq (free_at bits m) 0) [
        | inl e ↦ subst (Kept m) (sym (take_fresh bits m s e)) (kept_register m _ 2 _ (λ w. l) (kept_register m m 0 s (λ w. h) (kept_self m)))
        | inr e ↦ subst (Kept m) (sym (take_free bits m s e))
            (kept_register m _ 2 _ (λ w. l) (kept_register m m 1 _ (small_number m s) (kept_self m)))
      ]

  kept_unhang : (m : List ℕ) (n : ℕ) → Kept m (unhang bits m n)
  kept_unhang m n =
      unhang_by bits (Kept m) (λ s. Small m → s < 2 ^ 64) (λ w. omega arith) (λ l p k w. small_at l p (k.small w)) (λ l p s. kept_put m l p s) m n (kept_self m)

  kept_give : (m l : List ℕ) (s : ℕ) → (Small m → s < 2 ^ 64) → Kept m l → Kept m (give_slot bits l s)
  kept_give m l s h k =
      kept_register m _ 2 _ (λ w. small_count l (k.small w))
      (kept_register m _ 1 s h (kept_name m l s _ (λ w. small_free l (k.small w)) k))

pub room_law : RoomLaw
unfolding heads
room_law bits m rows e = omega arith

pub bound_law : BoundLaw
unfolding find_at insert_slot
bound_law bits m n =
    record {
      found = slot_small bits m (locate_in bits m n);
      told = to_small bits m n;
      insert = insert_by bits (λ (l : List ℕ). length l ≡ length m) m n refl (λ u. (hang_keeps bits _ _ _).long ∙ long_take bits m (slot_to bits m n));
      remove = remove_by bits (λ (l : List ℕ). length l ≡ length m) m n refl (simp (length_register, length_name) (keeps_unhang bits m n).long);
    }

pub narrow_law : NarrowLaw
unfolding find_at
narrow_law bits m n =
    record {
      found = small_at bits m (locate_in bits m n);
      number = small_number bits m n;
      insert = λ l h. insert_by bits (Kept m) m n (kept_self bits m) (λ u.
          (let s = slot_to bits m n in
          let t = take_slot bits m s in
          let fits : s < 2 ^ 64 = omega (arith, to_small bits m n) in
          kept_name bits m _ s n (λ w. h) (kept_put bits m t (locate_in bits t n) s (λ w. fits) (kept_take bits m s fits (omega (arith, to_room bits m n u))))));
      remove = remove_by bits (Kept m) m n (kept_self bits m) (kept_give bits m _ _ (small_at bits m (locate_in bits m n)) (kept_unhang bits m n));
    }
