-- What each write to the memory leaves of what is read.
use Rattle.std.proofs.Common.{◌≡◌, ℕ, zero, suc, ◌+◌, ◌-◌, ◌*◌, ◌/◌, ◌<◌, ◌≤◌, cond, eqb, leb, List, length, get_or, set, sym, refl, ap, ◌∙◌, subst, ap₂, inl, inr, arith}
use mathlib.Core.Path.{fun_ext}
use Rattle.std.proofs.lemmas.List.{length-set, get_or-set_same, get_or-set_other, get_or_past}
use Rattle.std.proofs.lemmas.Bool.{cases_eq, cases_lt, cond-true, cond-false, le-leb}
use Rattle.std.proofs.lemmas.Bool.Decides.{nat_tests}
use Rattle.index_model.specs.Model.{heads, levels, head, capacity, word, row, slot_of, slot_at, number_at, fresh_at, free_at, count_at, put, name_slot, register, replace, leaf, locate_in, cut_at, unhang}
use Rattle.index_model.specs.Sound.{spot}
use Rattle.index_model.proofs.Keys.{head_low, turn_low}
use Rattle.index_model.proofs.Steps.{slot_in}

-- what a change of the tree leaves
pub record Keeps (bits : ℕ) (m l : List ℕ) : Type 0 where
  pub long : length l ≡ length m
  pub fresh : fresh_at l ≡ fresh_at m
  pub free : free_at bits l ≡ free_at bits m
  pub count : count_at l ≡ count_at m

pub length_register : (m : List ℕ) (k v : ℕ) → length (register m k v) ≡ length m
length_register m k v = length-set m k v

pub fresh_other : (m : List ℕ) (k v : ℕ) → (0 ≡ k → ⊥) → fresh_at (register m k v) ≡ fresh_at m
unfolding fresh_at
fresh_other m k v ne = get_or-set_other m k 0 v 0 ne

module _ (bits : ℕ) where
  pub same_capacity : (m l : List ℕ) → length l ≡ length m → capacity bits l ≡ capacity bits m
  same_capacity m l e = ap (λ (n : ℕ). (n - (heads bits + 6)) / 3) e

  capacity_set : (m : List ℕ) (i v : ℕ) → capacity bits (set m i v) ≡ capacity bits m
  capacity_set m i v = same_capacity m (set m i v) (length-set m i v)

  pub of_capacity : (m l : List ℕ) (x : ℕ) → capacity bits l ≡ capacity bits m → slot_of bits l x ≡ slot_of bits m x
  unfolding slot_of
  of_capacity m l x e = ap (λ (c : ℕ). cond (leb x c) x 0) e

  at_set : (m : List ℕ) (i v p : ℕ) → (word bits p ≡ i → ⊥) → slot_at bits (set m i v) p ≡ slot_at bits m p
  unfolding slot_at
  at_set m i v p ne = of_capacity m (set m i v) _ (capacity_set m i v) ∙ ap (slot_of bits m) (get_or-set_other m i (word bits p) v 0 ne)

  number_set : (m : List ℕ) (i v s : ℕ) → (row bits s ≡ i → ⊥) → number_at bits (set m i v) s ≡ number_at bits m s
  unfolding number_at
  number_set m i v s ne = ap₂ (λ (c x : ℕ). cond (leb s c) x 0) (capacity_set m i v) (get_or-set_other m i (row bits s) v 0 ne)

  -- a slot is within the capacity
  pub of_small : (m : List ℕ) (v : ℕ) → slot_of bits m v ≤ capacity bits m
  unfolding slot_of
  of_small m v = grind (arith, nat_tests)

  pub slot_small : (m : List ℕ) (p : ℕ) → slot_at bits m p ≤ capacity bits m
  unfolding slot_at
  slot_small m p = of_small m _

  pub slot_inside : (m : List ℕ) (p : ℕ) → (slot_at bits m p ≡ 0 → ⊥) → word bits p < length m
  unfolding slot_at
  slot_inside m p u =
      elim (cases_lt (word bits p) (length m)) [
        | inl l ↦ l
        | inr past ↦ absurd (u (ap (slot_of bits m) (get_or_past m (word bits p) 0 past) ∙ sym (slot_in bits m 0 (omega arith))))
      ]

  -- the words of links, and of numbers, are within the memory
  pub link_inside : (m : List ℕ) (p : ℕ) → 0 < capacity bits m → p < heads bits + 2 + 2 * capacity bits m → word bits p < length m
  link_inside m p c l = omega arith

  pub spot_inside : (m : List ℕ) → 0 < capacity bits m → (n d : ℕ) → word bits (spot bits (slot_at bits m) n d) < length m
  spot_inside m c n zero = link_inside m (head bits n) c (omega (arith, head_low bits n))
  spot_inside m c n (suc d) =
      link_inside m (spot bits (slot_at bits m) n (suc d)) c (omega (arith, slot_small m (spot bits (slot_at bits m) n d), turn_low bits n d))

  -- a slot hung at a link
  pub length_put : (m : List ℕ) (p s : ℕ) → length (put bits m p s) ≡ length m
  unfolding put
  length_put m p s = length-set m (word bits p) s

  pub put_same : (m : List ℕ) (p s : ℕ) → word bits p < length m → s ≤ capacity bits m → slot_at bits (put bits m p s) p ≡ s
  unfolding put slot_at
  put_same m p s l h =
      of_capacity m (set m (word bits p) s) _ (capacity_set m (word bits p) s) ∙ ap (slot_of bits m) (get_or-set_same m (word bits p) s 0 l) ∙ sym (slot_in bits m s h)

  pub put_other : (m : List ℕ) (p s q : ℕ) → (q ≡ p → ⊥) → slot_at bits (put bits m p s) q ≡ slot_at bits m q
  unfolding put
  put_other m p s q ne = at_set m (word bits p) s q (λ e. ne (omega arith))

  pub put_number : (m : List ℕ) (p s : ℕ) → number_at bits (put bits m p s) ≡ number_at bits m
  unfolding put
  put_number m p s = fun_ext (λ (z : ℕ). number_set m (word bits p) s z (λ e. omega arith))

  -- a slot with a number
  pub length_name : (m : List ℕ) (s n : ℕ) → length (name_slot bits m s n) ≡ length m
  unfolding name_slot
  length_name m s n = length-set m (row bits s) n

  pub name_same : (m : List ℕ) (s n : ℕ) → 0 < s → s ≤ capacity bits m → number_at bits (name_slot bits m s n) s ≡ n
  unfolding name_slot number_at
  name_same m s n z h =
      ap (λ (c : ℕ). cond (leb s c) (get_or (set m (row bits s) n) (row bits s) 0) 0) (capacity_set m (row bits s) n)
      ∙ cond-true _ _ _ (le-leb _ _ h) ∙ get_or-set_same m (row bits s) n 0 (omega arith)

  pub name_other : (m : List ℕ) (s n z : ℕ) → (z ≡ s → ⊥) → number_at bits (name_slot bits m s n) z ≡ number_at bits m z
  unfolding name_slot
  name_other m s n z ne = number_set m (row bits s) n z (λ e. ne (omega arith))

  pub name_slots : (m : List ℕ) (s n : ℕ) → slot_at bits (name_slot bits m s n) ≡ slot_at bits m
  unfolding name_slot
  name_slots m s n = fun_ext (λ (p : ℕ). at_set m (row bits s) n p (λ e. omega arith))

  -- a register
  pub register_slots : (m : List ℕ) (k v : ℕ) → k < 3 → slot_at bits (register m k v) ≡ slot_at bits m
  register_slots m k v l = fun_ext (λ (p : ℕ). at_set m k v p (λ e. omega arith))

  pub register_numbers : (m : List ℕ) (k v : ℕ) → k < 3 → number_at bits (register m k v) ≡ number_at bits m
  register_numbers m k v l = fun_ext (λ (z : ℕ). number_set m k v z (λ e. omega arith))

  pub free_other : (m : List ℕ) (k v : ℕ) → (1 ≡ k → ⊥) → free_at bits (register m k v) ≡ free_at bits m
  unfolding free_at
  free_other m k v ne = of_capacity m (set m k v) _ (capacity_set m k v) ∙ ap (slot_of bits m) (get_or-set_other m k 1 v 0 ne)

  pub fresh_same : (m : List ℕ) (v : ℕ) → 0 < capacity bits m → fresh_at (register m 0 v) ≡ v
  unfolding fresh_at
  fresh_same m v c = get_or-set_same m 0 v 0 (omega arith)

  pub count_same : (m : List ℕ) (v : ℕ) → 0 < capacity bits m → count_at (register m 2 v) ≡ v
  unfolding count_at
  count_same m v c = get_or-set_same m 2 v 0 (omega arith)

  pub free_same : (m : List ℕ) (v : ℕ) → 0 < capacity bits m → free_at bits (register m 1 v) ≡ slot_of bits m v
  unfolding free_at
  free_same m v c = of_capacity m (set m 1 v) _ (capacity_set m 1 v) ∙ ap (slot_of bits m) (get_or-set_same m 1 v 0 (omega arith))

  pub keeps_self : (m : List ℕ) → Keeps bits m m
  keeps_self m = record { long = refl; fresh = refl; free = refl; count = refl }

  keeps_set : (m l : List ℕ) (i v : ℕ) → 3 ≤ i → Keeps bits m l → Keeps bits m (set l i v)
  unfolding fresh_at free_at count_at
  keeps_set m l i v h k =
      record {
        long = length-set l i v ∙ k.long;
        fresh = get_or-set_other l i 0 v 0 (λ e. omega arith) ∙ k.fresh;
        free = of_capacity l (set l i v) _ (capacity_set l i v) ∙ ap (slot_of bits l) (get_or-set_other l i 1 v 0 (λ e. omega arith)) ∙ k.free;
        count = get_or-set_other l i 2 v 0 (λ e. omega arith) ∙ k.count;
      }

  pub keeps_put : (m l : List ℕ) (p s : ℕ) → Keeps bits m l → Keeps bits m (put bits l p s)
  unfolding put
  keeps_put m l p s = keeps_set m l (word bits p) s (omega arith)

  pub keeps_name : (m l : List ℕ) (s n : ℕ) → Keeps bits m l → Keeps bits m (name_slot bits l s n)
  unfolding name_slot
  keeps_name m l s n = keeps_set m l (row bits s) n (omega arith)

  -- what each hanging of a slot keeps, a removal keeps
  module _ (P : List ℕ → Type 0) (V : ℕ → Type 0) (none : V 0) (slots : (l : List ℕ) (p : ℕ) → P l → V (slot_at bits l p))
      (keep : (l : List ℕ) (p s : ℕ) → V s → P l → P (put bits l p s)) where
    replace_by : (m : List ℕ) (p x y : ℕ) → V y → P m → P (replace bits m p x y)
    unfolding replace
    replace_by m p x y v h = keep _ _ _ v (keep _ _ _ none (keep _ _ _ none (keep _ _ _ (slots m _ h) (keep _ _ _ (slots m _ h) h))))

    cut_by : (m : List ℕ) (p e : ℕ) → P m → P (cut_at bits m p e)
    cut_by m p e h =
        elim (cases_eq e p) [
          | inl is ↦ subst P (sym (cond-true (eqb e p) (put bits m e 0) (replace bits (put bits m e 0) p (slot_at bits m p) (slot_at bits m e)) (grind (arith, nat_tests)))) (keep m e 0 none h)
          | inr ne ↦ subst P (sym (cond-false (eqb e p) (put bits m e 0) (replace bits (put bits m e 0) p (slot_at bits m p) (slot_at bits m e)) (grind (arith, nat_tests))))
              (replace_by (put bits m e 0) p (slot_at bits m p) (slot_at bits m e) (slots m e h) (keep m e 0 none h))
        ]

    pub unhang_by : (m : List ℕ) (n : ℕ) → P m → P (unhang bits m n)
    unhang_by m n h = cut_by m (locate_in bits m n) (leaf bits (slot_at bits m) (levels bits) (locate_in bits m n)) h

  pub keeps_unhang : (m : List ℕ) (n : ℕ) → Keeps bits m (unhang bits m n)
  keeps_unhang m n = unhang_by (Keeps bits m) (λ s. Unit {0}) tt (λ l p k. tt) (λ l p s v k. keeps_put m l p s k) m n (keeps_self m)
