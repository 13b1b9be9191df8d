-- The laws by what a call told.
use Rattle.std.proofs.Common.{◌≡◌, ℕ, ◌^◌, ◌<◌, ◌≤◌, eqb, ◌⊎◌, List, Some, None, Option, sym, refl, ap, ◌∙◌, subst, inl, inr, arith}
use Rattle.std.proofs.lemmas.Bool.{cond-false, ne_eqb}
use Rattle.words.specs.Slots.{some_slot}
use Rattle.words.proofs.Cases.{by_order}
use Rattle.index_model.specs.Model.{capacity, count_at, find_at, insert_slot, insert_in, remove_in}
use Rattle.index_model.specs.Sound.{SoundIn}
use Rattle.index_model.specs.Laws.{Inserted, InsertTells, Removed, RemoveTells}
use Rattle.index_model.proofs.Finds.{refuse_law}
use Rattle.index_model.proofs.Inserts.{insert_law}
use Rattle.index_model.proofs.Removes.{remove_law}

some_is : (s : ℕ) → 0 < s → some_slot s ≡ Some s
some_is s h = cond-false (eqb s 0) None (Some s) (ne_eqb s 0 (λ z. omega arith))

module _ (bits : ℕ) (m l : List ℕ) (n : ℕ) (r : Option ℕ) where
  pub insert_tells : r ≡ some_slot (insert_slot bits m n) → l ≡ insert_in bits m n → n < 2 ^ 64 → SoundIn bits m → InsertTells bits m n r l
  insert_tells e f fits sound =
      by_order 0 (find_at bits m n) (λ there. refused ((refuse_law bits m n).there there) (inl there))
      (λ low. by_order (count_at m) (capacity bits m)
      (λ room.
      (let none : find_at bits m n ≡ 0 = omega arith in
      let i = insert_law bits m n sound fits none room in
      subst (λ (q : Option ℕ). InsertTells bits m n q l) (sym (e ∙ some_is (insert_slot bits m n) i.some))
      (none, subst (λ (u : List ℕ). Inserted bits m u n (insert_slot bits m n)) (sym f) i)))
      (λ full. refused ((refuse_law bits m n).full full) (inr full)))
    where
      refused : insert_slot bits m n ≡ 0 → (0 < find_at bits m n) ⊎ (capacity bits m ≤ count_at m) → InsertTells bits m n r l
      refused none why = subst (λ (q : Option ℕ). InsertTells bits m n q l) (sym (e ∙ ap some_slot none)) (f ∙ (refuse_law bits m n).same none, why)

  pub remove_tells : r ≡ some_slot (find_at bits m n) → l ≡ remove_in bits m n → SoundIn bits m → RemoveTells bits m n r l
  remove_tells e f sound =
      by_order 0 (find_at bits m n)
      (λ there.
      subst (λ (q : Option ℕ). RemoveTells bits m n q l) (sym (e ∙ some_is (find_at bits m n) there))
      (refl, subst (λ (u : List ℕ). Removed bits m u n) (sym f) (remove_law bits m n sound there)))
      (λ low.
      (let none : find_at bits m n ≡ 0 = omega arith in
      subst (λ (q : Option ℕ). RemoveTells bits m n q l) (sym (e ∙ ap some_slot none)) (f ∙ (refuse_law bits m n).absent none, none)))
