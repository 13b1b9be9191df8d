-- A number comes in: the index stays sound, and finds it beside all others.
use Rattle.std.proofs.Common.{◌≡◌, ℕ, suc, ◌+◌, ◌^◌, ◌<◌, ◌≤◌, cond, eqb, ltb, List, [], ◌∷◌, length, sym, refl, ap, ◌∙◌, subst, ap₂, subst₂, inl, inr, arith}
use Rattle.std.proofs.lemmas.Bool.{cases_eq, cond-true, cond-false, lt-ltb, eq-eqb, ne_eqb}
use Rattle.index_model.specs.Model.{capacity, slot_of, slot_at, number_at, fresh_at, free_at, count_at, locate, locate_in, slot_for, find_at, put, register, hang, next_slot, take_slot, slot_to, insert_slot, insert_in}
use Rattle.index_model.specs.Sound.{Sound, SoundIn, Inside, Outside, Chain, next_at}
use Rattle.index_model.specs.Laws.{Inserted, InsertLaw}
use Rattle.index_model.proofs.Paths.{find_used}
use Rattle.index_model.proofs.Chains.{chain_kept, chain_empty, chain_first, outside_of}
use Rattle.index_model.proofs.Words.{same_capacity, of_capacity, length_register, register_slots, register_numbers, fresh_other, free_other, fresh_same, count_same, free_same, Keeps, keeps_self, keeps_put, keeps_name}
use Rattle.index_model.proofs.Trees.{Tree, Spare, Hung, hung}

-- the memory l that a slot was taken from, in m
record Took (bits : ℕ) (m l : List ℕ) : Type 0 where
  pub slots : slot_at bits l ≡ slot_at bits m
  pub numbers : number_at bits l ≡ number_at bits m
  pub long : length l ≡ length m
  pub count : count_at l ≡ count_at m + 1

module _ (bits : ℕ) where
  -- a slot that hangs still hangs, unless it is the number's own
  pub still : (m u : List ℕ) (n : ℕ) → Tree bits m → ((k : ℕ) → (k ≡ n → ⊥) → slot_for bits u k ≡ slot_for bits m k)
      → (q s : ℕ) → slot_at bits m q ≡ s → 0 < s → (slot_for bits m n ≡ s → ⊥) → (p : ℕ) × (slot_at bits u p ≡ s)
  still m u n tree others q s is some ne =
      let k = number_at bits m (slot_at bits m q) in
      let v : slot_at bits m q ≡ 0 → ⊥ = λ z. omega (arith, is, some, z) in
      let e = find_used bits (slot_at bits m) (number_at bits m) tree k q v refl ∙ is in
      (locate_in bits u k, others k (λ f. ne (sym (ap (slot_for bits m) f) ∙ e)) ∙ e)

  -- a number comes in
  rehung : (m l u : List ℕ) (n s : ℕ) → slot_at bits l ≡ slot_at bits m → number_at bits l ≡ number_at bits m → Hung bits l u n s → Hung bits m u n s
  rehung m l u n s e f h =
      record {
        sound = h.sound;
        found = h.found;
        others = λ k ne. h.others k ne ∙ ap₂ (λ (at num : ℕ → ℕ). at (locate bits at num k)) e f;
        used = λ p ne. (let q = h.used p ne in (q.0, ap (λ (at : ℕ → ℕ). at q.0) (sym e) ∙ q.1));
        kept = λ z ne. h.kept z ne ∙ ap (λ (num : ℕ → ℕ). num z) f;
      }

  inserted : (m u : List ℕ) (n s : ℕ) (xs : List ℕ) (sound : SoundIn bits m) → slot_for bits m n ≡ 0 → Spare bits m s → Hung bits m u n s → capacity bits u ≡ capacity bits m
      → fresh_at m ≤ fresh_at u → fresh_at u ≤ capacity bits m → s ≤ fresh_at u → count_at u ≡ count_at m + 1
      → Outside s xs → Chain (slot_at bits m) (next_at bits m) (fresh_at m) (free_at bits u) xs → fresh_at u ≡ suc (length sound.uses) + length xs
      → Inserted bits m u n s
  unfolding find_at
  inserted m u n s xs sound none spare h cap more top low counted out linked counts =
      record {
        sound = record {
          hang = h.sound;
          low = λ p. elim (cases_eq (slot_at bits u p) s) [
            | inl is ↦ omega arith
            | inr ne ↦ (let q = h.used p ne in omega (arith, sound.low q.0, q.1))
          ];
          top = omega arith;
          uses = s ∷ sound.uses;
          used = λ p v. elim (cases_eq (slot_at bits u p) s) [
            | inl is ↦ inl is
            | inr ne ↦ (let q = h.used p ne in inr (subst (λ (x : ℕ). Inside x sound.uses) q.1 (sound.used q.0 (λ z. v (sym q.1 ∙ z)))))
          ];
          hung = λ z i. elim i [
            | inl e ↦ (omega (arith, e, spare.some), (locate_in bits u n, h.found ∙ sym e))
            | inr j ↦ (let q = sound.hung z j in (q.0, still m u n sound.hang h.others q.1.0 z q.1.1 q.0 (λ f. omega (arith, none, f, q.0))))
          ];
          once = (outside_of s sound.uses (λ i. (let q = sound.hung s i in spare.free q.1.0 q.1.1)), sound.once);
          count = counted ∙ omega (arith, sound.count);
          chain = xs;
          linked = chain_kept (slot_at bits m) (next_at bits m) (slot_at bits u) (next_at bits u) (fresh_at m) (fresh_at u) s more (λ p v ne. h.used p ne)
              (λ z ne. of_capacity bits m u (number_at bits u z) cap ∙ ap (slot_of bits m) (h.kept z ne)) (free_at bits u) xs out linked;
          counts = counts;
        };
        some = spare.some;
        found = h.found;
        unused = λ k. spare.free (locate_in bits m k);
        others = h.others;
        counted = counted;
      }

  took : (m : List ℕ) (k v : ℕ) → k < 2 → 0 < capacity bits m → Took bits m (register (register m k v) 2 (count_at m + 1))
  took m k v h c =
      record {
        slots = register_slots bits (register m k v) 2 (count_at m + 1) (omega arith) ∙ register_slots bits m k v (omega arith);
        numbers = register_numbers bits (register m k v) 2 (count_at m + 1) (omega arith) ∙ register_numbers bits m k v (omega arith);
        long = length_register (register m k v) 2 (count_at m + 1) ∙ length_register m k v;
        count = count_same bits (register m k v) (count_at m + 1) (omega (arith, same_capacity bits m (register m k v) (length_register m k v)));
      }

  hung_on : (m l : List ℕ) (n s : ℕ) → SoundIn bits m → n < 2 ^ 64 → slot_for bits m n ≡ 0 → Spare bits m s → Took bits m l → Hung bits m (hang bits l n s) n s
  hung_on m l n s sound fits none spare t =
      rehung m l (hang bits l n s) n s t.slots t.numbers
      (hung bits l n s (subst₂ (Sound bits) (sym t.slots) (sym t.numbers) sound.hang) fits
      (ap₂ (λ (at num : ℕ → ℕ). at (locate bits at num n)) t.slots t.numbers ∙ none)
      (record { some = spare.some; small = omega (arith, spare.small, same_capacity bits m l t.long); free = λ p e. spare.free p (ap (λ (at : ℕ → ℕ). at p) (sym t.slots) ∙ e) }))

  pub hang_keeps : (l : List ℕ) (n s : ℕ) → Keeps bits l (hang bits l n s)
  hang_keeps l n s = keeps_name bits l (put bits l (locate_in bits l n) s) s n (keeps_put bits l l (locate_in bits l n) s (keeps_self bits l))

  -- where there is no free slot, a fresh one
  insert_fresh : (m : List ℕ) (n : ℕ) → SoundIn bits m → n < 2 ^ 64 → slot_for bits m n ≡ 0 → count_at m < capacity bits m → free_at bits m ≡ 0
      → (fresh_at m < capacity bits m) × Inserted bits m (hang bits (register (register m 0 (fresh_at m + 1)) 2 (count_at m + 1)) n (fresh_at m + 1)) n (fresh_at m + 1)
  insert_fresh m n sound fits none room bare =
      let s = fresh_at m + 1 in
      let l₁ = register m 0 s in
      let l = register l₁ 2 (count_at m + 1) in
      let k = hang_keeps l n s in
      let empty : length sound.chain ≡ 0 = chain_empty (slot_at bits m) (next_at bits m) (fresh_at m) (free_at bits m) sound.chain bare sound.linked in
      let spare : Spare bits m s = record { some = omega arith; small = omega (arith, empty, sound.counts, sound.count); free = λ p e. omega (arith, sound.low p, e) } in
      let t = took m 0 s (omega arith) (omega arith) in
      let fresh : fresh_at (hang bits l n s) ≡ s = k.fresh ∙ fresh_other l₁ 2 (count_at m + 1) (λ e. omega arith) ∙ fresh_same bits m s (omega arith) in
      let free : free_at bits (hang bits l n s) ≡ 0 = k.free ∙ free_other bits l₁ 2 (count_at m + 1) (λ e. omega arith) ∙ free_other bits m 0 s (λ e. omega arith) ∙ bare in (
        omega (arith, spare.small),
        inserted m (hang bits l n s) n s [] sound none spare (hung_on m l n s sound fits none spare t) (same_capacity bits l (hang bits l n s) k.long ∙ same_capacity bits m l t.long)
            (omega (arith, fresh)) (omega (arith, fresh, spare.small)) (omega (arith, fresh)) (k.count ∙ t.count) tt free (fresh ∙ omega (arith, empty, sound.counts)),
      )

  -- the first free slot
  insert_free : (m : List ℕ) (n : ℕ) → SoundIn bits m → n < 2 ^ 64 → slot_for bits m n ≡ 0 → count_at m < capacity bits m → (free_at bits m ≡ 0 → ⊥)
      → Inserted bits m (hang bits (register (register m 1 (number_at bits m (free_at bits m))) 2 (count_at m + 1)) n (free_at bits m)) n (free_at bits m)
  insert_free m n sound fits none room some =
      let s = free_at bits m in
      let l₁ = register m 1 (number_at bits m s) in
      let l = register l₁ 2 (count_at m + 1) in
      let k = hang_keeps l n s in
      let first = chain_first (slot_at bits m) (next_at bits m) (fresh_at m) s sound.chain some sound.linked in
      let spare : Spare bits m s = record { some = omega (arith, some); small = omega (arith, first.low, sound.top); free = first.free } in
      let t = took m 1 (number_at bits m s) (omega arith) (omega arith) in
      let fresh : fresh_at (hang bits l n s) ≡ fresh_at m = k.fresh ∙ fresh_other l₁ 2 (count_at m + 1) (λ e. omega arith) ∙ fresh_other m 1 (number_at bits m s) (λ e. omega arith) in
      let free : free_at bits (hang bits l n s) ≡ next_at bits m s = k.free ∙ free_other bits l₁ 2 (count_at m + 1) (λ e. omega arith) ∙ free_same bits m (number_at bits m s) (omega arith) in
      inserted m (hang bits l n s) n s first.rest sound none spare (hung_on m l n s sound fits none spare t) (same_capacity bits l (hang bits l n s) k.long ∙ same_capacity bits m l t.long)
      (omega (arith, fresh)) (omega (arith, fresh, sound.top)) (omega (arith, fresh, first.low)) (k.count ∙ t.count) first.apart
      (subst (λ (g : ℕ). Chain (slot_at bits m) (next_at bits m) (fresh_at m) g first.rest) (sym free) first.on)
      (fresh ∙ omega (arith, first.longer, sound.counts))

  -- the model's tests, decided
  insert_is : (m : List ℕ) (n s : ℕ) → slot_to bits m n ≡ s → 0 < s → insert_in bits m n ≡ hang bits (take_slot bits m s) n s
  unfolding insert_in
  insert_is m n s e h =
      ap (λ (x : ℕ). cond (eqb x 0) m (hang bits (take_slot bits m x) n x)) e ∙ cond-false (eqb s 0) m (hang bits (take_slot bits m s) n s) (ne_eqb s 0 (λ z. omega arith))

  slot_to_is : (m : List ℕ) (n : ℕ) → slot_for bits m n ≡ 0 → count_at m < capacity bits m → slot_to bits m n ≡ next_slot bits m
  slot_to_is m n none room =
      cond-true (eqb (slot_for bits m n) 0) (cond (ltb (count_at m) (capacity bits m)) (next_slot bits m) 0) 0 (eq-eqb _ _ none)
      ∙ cond-true (ltb (count_at m) (capacity bits m)) (next_slot bits m) 0 (lt-ltb _ _ room)

  next_fresh : (m : List ℕ) → free_at bits m ≡ 0 → fresh_at m < capacity bits m → next_slot bits m ≡ fresh_at m + 1
  next_fresh m e h = cond-true (eqb (free_at bits m) 0) _ _ (eq-eqb _ _ e) ∙ cond-true (ltb (fresh_at m) (capacity bits m)) _ _ (lt-ltb _ _ h)

  next_free : (m : List ℕ) → (free_at bits m ≡ 0 → ⊥) → next_slot bits m ≡ free_at bits m
  next_free m e = cond-false (eqb (free_at bits m) 0) _ _ (ne_eqb _ _ e)

  pub take_fresh : (m : List ℕ) (s : ℕ) → free_at bits m ≡ 0 → take_slot bits m s ≡ register (register m 0 s) 2 (count_at m + 1)
  take_fresh m s e = ap (λ (l : List ℕ). register l 2 (count_at m + 1)) (cond-true (eqb (free_at bits m) 0) _ _ (eq-eqb _ _ e))

  pub take_free : (m : List ℕ) (s : ℕ) → (free_at bits m ≡ 0 → ⊥) → take_slot bits m s ≡ register (register m 1 (number_at bits m s)) 2 (count_at m + 1)
  take_free m s e = ap (λ (l : List ℕ). register l 2 (count_at m + 1)) (cond-false (eqb (free_at bits m) 0) _ _ (ne_eqb _ _ e))

  told : (m l : List ℕ) (n s : ℕ) → slot_to bits m n ≡ s → take_slot bits m s ≡ l → Inserted bits m (hang bits l n s) n s → Inserted bits m (insert_in bits m n) n (insert_slot bits m n)
  unfolding insert_slot
  told m l n s e f i =
      subst₂ (λ (u : List ℕ) (x : ℕ). Inserted bits m u n x) (sym (insert_is m n s e i.some ∙ ap (λ (x : List ℕ). hang bits x n s) f)) (sym e) i

pub insert_law : InsertLaw
unfolding find_at
insert_law bits m n sound fits none room =
    elim (cases_eq (free_at bits m) 0) [
      | inl bare ↦
          (let i = insert_fresh bits m n sound fits none room bare in
          told bits m _ n (fresh_at m + 1) (slot_to_is bits m n none room ∙ next_fresh bits m bare i.0) (take_fresh bits m (fresh_at m + 1) bare) i.1)
      | inr some ↦
          told bits m _ n (free_at bits m) (slot_to_is bits m n none room ∙ next_free bits m some) (take_free bits m (free_at bits m) some)
          (insert_free bits m n sound fits none room some)
    ]
