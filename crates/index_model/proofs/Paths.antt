-- Searches in a sound index: where they end, and that what is found is what is there.
use Rattle.std.proofs.Common.{◌≡◌, ℕ, zero, suc, ◌+◌, ◌^◌, ◌<◌, ◌≤◌, true, false, ◌⊎◌, sym, refl, ap, ◌∙◌, subst, inl, inr, arith}
use Rattle.std.proofs.lemmas.Bool.{cases_eq, cases_order, cases_Bool, eq-eqb, ne_eqb, eqb-true, eqb-false, or_cases, or_parts, or_right, or_from}
use Rattle.index_model.specs.Model.{levels, key, head, child, rests, descend, locate}
use Rattle.index_model.specs.Sound.{half, rest, turn, spot, Passes, Sound}
use Rattle.index_model.proofs.Keys.{same_key, head_low, key_parts, turn_low, rest_back, rest_none, some_level}
use Rattle.index_model.proofs.Steps.{descend_rests, descend_goes, descend_ends}

-- a search's end
pub record Ends (bits : ℕ) (at num : ℕ → ℕ) (n place : ℕ) : Type 0 where
  pub depth : ℕ
  pub shallow : depth < levels bits
  pub here : spot bits at n depth ≡ place
  pub passes : Passes bits at num n depth
  pub rested : rests at num n place ≡ true

module _ (bits : ℕ) where
  module _ (at num : ℕ → ℕ) where
    rests_cases : (n p : ℕ) → rests at num n p ≡ true → (at p ≡ 0) ⊎ (num (at p) ≡ n)
    unfolding rests
    rests_cases n p e =
        elim (or_cases _ _ e) [ inl a ↦ inl (eqb-true _ _ a) | inr b ↦ inr (eqb-true _ _ b) ]

    rests_not : (n p : ℕ) → rests at num n p ≡ false → (at p ≡ 0 → ⊥) × (num (at p) ≡ n → ⊥)
    unfolding rests
    rests_not n p e = (eqb-false _ _ (or_parts _ _ e).0, eqb-false _ _ (or_parts _ _ e).1)

    rests_held : (n p : ℕ) → num (at p) ≡ n → rests at num n p ≡ true
    unfolding rests
    rests_held n p e = or_right _ _ (eq-eqb _ _ e)

    passed : (n p : ℕ) → (at p ≡ 0 → ⊥) → (num (at p) ≡ n → ⊥) → rests at num n p ≡ false
    unfolding rests
    passed n p u v = or_from _ _ (ne_eqb _ _ u) (ne_eqb _ _ v)

    -- the search after so many levels, for so many more
    search : ℕ → ℕ → ℕ → ℕ
    search n f e = descend bits at num n f (half bits e) (spot bits at n e) (rest bits n e)

    search_goes : (n f e : ℕ) → rests at num n (spot bits at n e) ≡ false → search n (suc f) e ≡ search n f (suc e)
    unfolding search turn
    search_goes n f e r = descend_goes bits at num n (suc f) (half bits e) (spot bits at n e) (rest bits n e) f refl r

    search_at : (n f e d : ℕ) → e ≤ d → d < e + f → Passes bits at num n d → rests at num n (spot bits at n d) ≡ true → search n f e ≡ spot bits at n d
    unfolding search
    search_at n zero e d l h pass r = absurd (omega arith)
    search_at n (suc f) e d l h pass r =
        elim (cases_eq e d) [
          | inl same ↦
              descend_rests bits at num n (suc f) _ _ _ (omega arith) (rw same r) ∙ ap (spot bits at n) same
          | inr other ↦
              let less : e < d = omega arith in
              search_goes n f e (passed n _ (pass e less).0 (pass e less).1) ∙ search_at n f (suc e) d less (omega arith) pass r
        ]

    passes_more : (n e : ℕ) → Passes bits at num n e → rests at num n (spot bits at n e) ≡ false → Passes bits at num n (suc e)
    passes_more n e pass r k h =
        elim (cases_eq k e) [ inl same ↦ rw same (rests_not n _ r) | inr other ↦ pass k (omega arith) ]

    -- it ends, or goes past all levels
    search_ends : (n f e : ℕ) → e + f ≡ levels bits → Passes bits at num n e
        → ((search n f e ≡ child bits 0 0) × Passes bits at num n (levels bits)) ⊎ Ends bits at num n (search n f e)
    unfolding search
    search_ends n zero e h pass = inl (descend_ends bits at num n 0 _ _ _ refl, subst (Passes bits at num n) (omega arith) pass)
    search_ends n (suc f) e h pass =
        elim (cases_Bool (rests at num n (spot bits at n e))) [
          | inl r ↦
              inr (subst (Ends bits at num n) (sym (descend_rests bits at num n (suc f) _ _ _ (omega arith) r))
              (record { depth = e; shallow = omega arith; here = refl; passes = pass; rested = r }))
          | inr r ↦
              subst (λ (x : ℕ). ((x ≡ child bits 0 0) × Passes bits at num n (levels bits)) ⊎ Ends bits at num n x) (sym (search_goes n f e r))
              (search_ends n f (suc e) (omega arith) (passes_more n e pass r))
        ]

  pub child_same : (s z b c : ℕ) → b < 2 → c < 2 → child bits s b ≡ child bits z c → (s ≡ z) × (b ≡ c)
  child_same s z b c h k e = (omega arith, omega arith)

  -- a head is no slot's link
  pub not_head : (n s b : ℕ) → head bits n ≡ child bits s b → ⊥
  not_head n s b e = omega (arith, head_low bits n)

  module _ (at num : ℕ → ℕ) (sound : Sound bits at num) where
    -- a number hangs at one place, and so does a slot
    pub same_number : (p q : ℕ) → (at p ≡ 0 → ⊥) → (at q ≡ 0 → ⊥) → num (at p) ≡ num (at q) → p ≡ q
    same_number p q u v e =
        let hp = sound p u in
        let hq = sound q v in
        let there : spot bits at (num (at q)) hp.depth ≡ p = rw (← e) hp.here in
        let here : spot bits at (num (at p)) hq.depth ≡ q = rw e hq.here in
        elim (cases_order hp.depth hq.depth) [
          | inl same ↦ sym hp.here ∙ ap (spot bits at (num (at p))) same ∙ here
          | inr (inl less) ↦ absurd ((hq.passes hp.depth less).1 (ap (λ (x : ℕ). num (at x)) there ∙ e))
          | inr (inr more) ↦ absurd ((hp.passes hq.depth more).1 (ap (λ (x : ℕ). num (at x)) here ∙ sym e))
        ]

    pub same_slot : (p q : ℕ) → (at p ≡ 0 → ⊥) → at p ≡ at q → p ≡ q
    same_slot p q u e = same_number p q u (λ z. u (e ∙ z)) (ap num e)

    -- no slot hangs below itself
    pub not_own_child : (p b : ℕ) → b < 2 → (at p ≡ 0 → ⊥) → p ≡ child bits (at p) b → ⊥
    not_own_child p b l u e =
        go (sound p u).depth ((sound p u).here ∙ e) (sound p u).passes
      where
        go : (d : ℕ) → spot bits at (num (at p)) d ≡ child bits (at p) b → Passes bits at num (num (at p)) d → ⊥
        go zero h pass = not_head _ _ _ h
        go (suc d) h pass =
            let parts = child_same (at (spot bits at (num (at p)) d)) (at p) (turn bits (num (at p)) d) b (turn_low bits (num (at p)) d) l h in
            (pass d (omega arith)).1 (ap num parts.0)

    -- below a slot that hangs nowhere, and below none, nothing hangs
    pub bare_below : (y b : ℕ) → b < 2 → ((q : ℕ) → (at q ≡ 0 → ⊥) → at q ≡ y → ⊥) → at (child bits y b) ≡ 0
    bare_below y b l none =
        elim (cases_eq (at (child bits y b)) 0) [ inl z ↦ z | inr u ↦ absurd (go _ (sound _ u).depth (sound _ u).here (sound _ u).passes) ]
      where
        go : (n d : ℕ) → spot bits at n d ≡ child bits y b → Passes bits at num n d → ⊥
        go n zero h pass = not_head _ _ _ h
        go n (suc d) h pass = none _ (pass d (omega arith)).0 (child_same (at (spot bits at n d)) y (turn bits n d) b (turn_low bits n d) l h).0

    -- two searches that meet have made as many turns, and agree on the bits so far
    pub meet : (n m d e : ℕ) → Passes bits at num n d → Passes bits at num m e → spot bits at n d ≡ spot bits at m e → (d ≡ e) × (rest bits n d ≡ rest bits m d → key n ≡ key m)
    meet n m zero zero pn pm h = (refl, key_parts bits n m h)
    meet n m zero (suc e) pn pm h = absurd (not_head _ _ _ h)
    meet n m (suc d) zero pn pm h = absurd (not_head _ _ _ (sym h))
    meet n m (suc d) (suc e) pn pm h =
        let parts = child_same (at (spot bits at n d)) (at (spot bits at m e)) (turn bits n d) (turn bits m e) (turn_low bits n d) (turn_low bits m e) h in
        let before = meet n m d e (λ k l. pn k (omega arith)) (λ k l. pm k (omega arith)) (same_slot _ _ (pn d (omega arith)).0 parts.0) in
        let same : turn bits n d ≡ turn bits m d = parts.1 ∙ ap (turn bits m) (sym before.0) in
        (ap suc before.0, λ r. before.1 (rest_back bits n m d same r))

    -- no search for a number of 64 bits passes all levels
    too_deep : (n d : ℕ) → n < 2 ^ 64 → suc d ≡ levels bits → Passes bits at num n (suc d) → ⊥
    too_deep n d h is pass =
        let used = (pass d (omega arith)).0 in
        let there = sound (spot bits at n d) used in
        let both = meet n (num (at (spot bits at n d))) d there.depth (λ k l. pass k (omega arith)) there.passes (sym there.here) in
        let none = rest_none bits n d is ∙ sym (rest_none bits (num (at (spot bits at n d))) d is) in
        (pass d (omega arith)).1 (sym (same_key _ _ h there.fits (both.1 none)))

    search_all : (n : ℕ) → ((locate bits at num n ≡ child bits 0 0) × Passes bits at num n (levels bits)) ⊎ Ends bits at num n (locate bits at num n)
    unfolding search
    search_all n = search_ends at num n (levels bits) 0 (omega arith) (λ k l. absurd (omega arith))

    pub ends : (n : ℕ) → n < 2 ^ 64 → Ends bits at num n (locate bits at num n)
    ends n h =
        elim (search_all n) [
          | inl past ↦ (let d = some_level bits in absurd (too_deep n d.0 h d.1 (subst (Passes bits at num n) (sym d.1) past.1)))
          | inr e ↦ e
        ]

    pub locate_used : (p : ℕ) → (at p ≡ 0 → ⊥) → locate bits at num (num (at p)) ≡ p
    unfolding search
    locate_used p u =
        let there = sound p u in
        search_at at num (num (at p)) (levels bits) 0 there.depth (omega arith) (omega (arith, there.shallow)) there.passes (rests_held at num _ _ (ap (λ (x : ℕ). num (at x)) there.here))
        ∙ there.here

    pub find_used : (n p : ℕ) → (at p ≡ 0 → ⊥) → num (at p) ≡ n → at (locate bits at num n) ≡ at p
    find_used n p u e = ap (λ (x : ℕ). at (locate bits at num x)) (sym e) ∙ ap at (locate_used p u)

    pub find_cases : (n : ℕ) → (at (locate bits at num n) ≡ 0) ⊎ (num (at (locate bits at num n)) ≡ n)
    find_cases n =
        elim (search_all n) [
          | inl past ↦ inl (ap at past.0 ∙ bare_below 0 0 (omega arith) (λ q u. u))
          | inr end ↦ rests_cases at num n (locate bits at num n) end.rested
        ]

  -- what a search finds hangs on what is in use alone
  pub same_find : (at num at' num' : ℕ → ℕ) → Sound bits at num → Sound bits at' num' → (n : ℕ)
      → ((p : ℕ) → (at p ≡ 0 → ⊥) → num (at p) ≡ n → (q : ℕ) × ((at' q ≡ at p) × (num' (at' q) ≡ n)))
      → ((q : ℕ) → (at' q ≡ 0 → ⊥) → num' (at' q) ≡ n → (p : ℕ) × ((at p ≡ at' q) × (num (at p) ≡ n)))
      → at' (locate bits at' num' n) ≡ at (locate bits at num n)
  same_find at num at' num' sound sound' n there back =
      let here = locate bits at num n in
      let here' = locate bits at' num' n in
      elim (cases_eq (at here) 0) [
        | inr used ↦
            elim (find_cases at num sound n) [
              | inl z ↦ absurd (used z)
              | inr e ↦ (let q = there here used e in
                  find_used at' num' sound' n q.0 (λ z. used (sym q.1.0 ∙ z)) q.1.1 ∙ q.1.0)
            ]
        | inl free ↦
            elim (cases_eq (at' here') 0) [
              | inl free' ↦ free' ∙ sym free
              | inr used' ↦
                  elim (find_cases at' num' sound' n) [
                    | inl z ↦ absurd (used' z)
                    | inr e ↦ (let p = back here' used' e in
                        sym (find_used at num sound n p.0 (λ z. used' (sym p.1.0 ∙ z)) p.1.1 ∙ p.1.0))
                  ]
            ]
      ]
