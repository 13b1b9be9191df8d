-- A winner tree over any strict weak order: the root is a best slot, the lowest of equals, and a slot stands only over its leaf.
use Rattle.std.proofs.Common.{◌≡◌, ℕ, zero, suc, ◌+◌, ◌-◌, ◌*◌, ◌/◌, ◌<◌, ◌≤◌, Bool, false, cond, eqb, ◌≢◌, ◌⊎◌, sym, refl, ap, ◌∙◌, subst, inl, inr, arith}
use Rattle.std.proofs.lemmas.Bool.{eqb-true, eqb-false, cond_both, cases_Bool, cases_eq, cases_lt, both_ways}
use Rattle.loads_model.specs.Model.{pick, winner, leaf}
use Rattle.loads_model.specs.Sound.{Ranked, Held, Weak}
use Rattle.loads_model.specs.Laws.{RootLaw}

-- what a match gives
pub pick_one : (before : ℕ → ℕ → Bool) (a b : ℕ) → (pick before a b ≡ a) ⊎ (pick before a b ≡ b)
pick_one before a b =
    cond_both (eqb b 0) a (cond (eqb a 0) b (cond (before b a) b a)) (λ x. (x ≡ a) ⊎ (x ≡ b)) (λ _. inl refl)
    (λ _. cond_both (eqb a 0) b (cond (before b a) b a) (λ x. (x ≡ a) ⊎ (x ≡ b)) (λ _. inr refl)
    (λ _. cond_both (before b a) b a (λ x. (x ≡ a) ⊎ (x ≡ b)) (λ _. inr refl) (λ _. inl refl)))

-- a match of two slots whose order stayed gives what it gave
pub pick_same : (before other : ℕ → ℕ → Bool) (a b : ℕ) → other b a ≡ before b a → pick other a b ≡ pick before a b
pick_same before other a b e = rw e refl

-- v is some slot, at least as good as a, and the lower one of equals
abbrev Beyond : (ℕ → ℕ → Bool) → ℕ → ℕ → Type 0
Beyond before a v = (v ≢ 0) × (before a v ≡ false) × (before v a ≡ false → v ≤ a)

module _ (before : ℕ → ℕ → Bool) (w : Weak before) where
  never_self : (x : ℕ) → before x x ≡ false
  never_self x = elim (cases_Bool (before x x)) [ inl e ↦ w.asym x x e | inr e ↦ e ]

  beyond_self : (a : ℕ) → a ≢ 0 → Beyond before a a
  beyond_self a some = (some, never_self a, λ _. omega arith)

  beyond_through : (a b c : ℕ) → Beyond before a b → Beyond before b c → Beyond before a c
  beyond_through a b c f g = (
    g.0,
    w.through a b c f.1 g.1,
    λ e. (let k = f.2 (w.through b c a g.1 e) in let l = g.2 (w.through c a b e f.1) in omega arith),
  )

  pick_left : (a b : ℕ) → a ≢ 0 → Beyond before a (pick before a b)
  pick_left a b some =
      cond_both (eqb b 0) a (cond (eqb a 0) b (cond (before b a) b a)) (Beyond before a) (λ _. beyond_self a some)
      (λ eb. cond_both (eqb a 0) b (cond (before b a) b a) (Beyond before a) (λ ea. absurd (some (eqb-true a 0 ea)))
      (λ _. cond_both (before b a) b a (Beyond before a) (λ e. (eqb-false b 0 eb, w.asym b a e, λ n. absurd (both_ways (before b a) n e))) (λ _. beyond_self a some)))

  pick_right : (a b : ℕ) → b ≢ 0 → (a ≢ 0 → a ≤ b) → Beyond before b (pick before a b)
  pick_right a b some low =
      cond_both (eqb b 0) a (cond (eqb a 0) b (cond (before b a) b a)) (Beyond before b) (λ e. absurd (some (eqb-true b 0 e)))
      (λ _. cond_both (eqb a 0) b (cond (before b a) b a) (Beyond before b) (λ _. beyond_self b some)
      (λ ea. cond_both (before b a) b a (Beyond before b) (λ _. beyond_self b some) (λ e. (eqb-false a 0 ea, e, λ _. low (eqb-false a 0 ea)))))

pub halves : (p : ℕ) → (p ≡ 2 * (p / 2)) ⊎ (p ≡ 2 * (p / 2) + 1)
halves p = elim (cases_eq p (2 * (p / 2))) [ inl e ↦ inl e | inr ne ↦ inr (omega arith) ]

-- q is p, or one of the n places above it
abbrev pub Over : ℕ → ℕ → ℕ → Type 0
Over zero p q = q ≡ p
Over (suc n) p q = (q ≡ p) ⊎ Over n (p / 2) q

-- one of the n places above p
abbrev pub Above : ℕ → ℕ → ℕ → Type 0
Above zero p q = ⊥
Above (suc n) p q = Over n (p / 2) q

-- the first place of a level
abbrev pub top : ℕ → ℕ
top zero = 1
top (suc n) = 2 * top n

pub over_self : (n p q : ℕ) → q ≡ p → Over n p q
over_self zero p q e = e
over_self (suc n) p q e = inl e

pub over_low : (n p q : ℕ) → Over n p q → q ≤ p
over_low zero p q o = omega arith
over_low (suc n) p q o = elim o [ inl e ↦ omega arith | inr o ↦ (let h = over_low n (p / 2) q o in omega arith) ]

-- two children of one place are not both over p
pub over_once : (n p q r : ℕ) → Over n p q → Over n p r → q / 2 ≡ r / 2 → 0 < q / 2 → q ≡ r
over_once zero p q r o k e some = o ∙ sym k
over_once (suc n) p q r o k e some = elim o [
  | inl here ↦ elim k [ inl there ↦ here ∙ sym there | inr k ↦ absurd (let h = over_low n (p / 2) r k in omega arith) ]
  | inr o ↦ elim k [ inl there ↦ absurd (let h = over_low n (p / 2) q o in omega arith) | inr k ↦ over_once n (p / 2) q r o k e some ]
]

-- what is over a left child lies left of what is over its right sibling
over_order : (n x y u : ℕ) → top n ≤ x → x < 2 * top n → top n ≤ y → y < 2 * top n → Over n x (2 * u) → Over n y (2 * u + 1) → 0 < u → x < y
over_order zero x y u lx hx ly hy o k some = omega arith
over_order (suc n) x y u lx hx ly hy o k some = elim o [
  | inl here ↦ elim k [ inl there ↦ omega arith | inr k ↦ (let h = over_low n (y / 2) (2 * u + 1) k in absurd (omega arith)) ]
  | inr o ↦ elim k [
    | inl there ↦ (let h = over_low n (x / 2) (2 * u) o in absurd (omega arith))
    | inr k ↦ (let h = over_order n (x / 2) (y / 2) u (omega arith) (omega arith) (omega arith) (omega arith) o k some in omega arith)
  ]
]

-- what is over a place at level n, has its parent over that place too
pub over_half : (n p q r : ℕ) → top n ≤ p → p < 2 * top n → Over n p q → (q ≡ 2 * r) ⊎ (q ≡ 2 * r + 1) → 0 < r → Over n p r
over_half zero p q r low high o e some = elim e [ inl e ↦ absurd (omega arith) | inr e ↦ absurd (omega arith) ]
over_half (suc n) p q r low high o e some =
    elim o [
      | inl here ↦ inr (over_self n (p / 2) r (elim e [ inl e ↦ omega arith | inr e ↦ omega arith ]))
      | inr o ↦ inr (over_half n (p / 2) q r (omega arith) (omega arith) o e some)
    ]

-- the place above the one at hand is above it
pub above_next : (n p r : ℕ) → top n ≤ p → p < 2 * top n → (p ≡ 2 * r) ⊎ (p ≡ 2 * r + 1) → 0 < r → Above n p r
above_next zero p r low high e some = elim e [ inl e ↦ absurd (omega arith) | inr e ↦ absurd (omega arith) ]
above_next (suc n) p r low high e some = over_self n (p / 2) r (elim e [ inl e ↦ omega arith | inr e ↦ omega arith ])

pub above_not_self : (n p r : ℕ) → r ≢ p → Over n p r → Above n p r
above_not_self zero p r ne o = ne o
above_not_self (suc n) p r ne o = elim o [ inl e ↦ absurd (ne e) | inr o ↦ o ]

module _ (before : ℕ → ℕ → Bool) (at : ℕ → ℕ) (r : Ranked before at) where
  -- an induction from the leaves up, along what a place holds
  from_leaf : (P : ℕ → ℕ → Type 0) →
      ((s : ℕ) → Held at s → P (leaf s) s) →
      ((p v : ℕ) → 0 < p → p < 1024 → (P (2 * p) v ⊎ P (2 * p + 1) v) → P p v) →
      (n p : ℕ) → 2048 ≤ p + n → 0 < p → p < 2048 → at p ≢ 0 → P p (at p)
  from_leaf P base step zero p fuel low high some = absurd (omega arith)
  from_leaf P base step (suc n) p fuel low high some =
      elim (cases_lt p 1024) [
        | inl lt ↦
            let here = r.inner p low lt in
            elim (pick_one before (at (2 * p)) (at (2 * p + 1))) [
              | inl e ↦ step p (at p) low lt (inl (subst (λ v. P (2 * p) v) (sym (here ∙ e))
                  (from_leaf P base step n (2 * p) (omega arith) (omega arith) (omega arith) (λ z. some (here ∙ e ∙ z)))))
              | inr e ↦ step p (at p) low lt (inr (subst (λ v. P (2 * p + 1) v) (sym (here ∙ e))
                  (from_leaf P base step n (2 * p + 1) (omega arith) (omega arith) (omega arith) (λ z. some (here ∙ e ∙ z)))))
            ]
        | inr ge ↦
            let same : leaf (p - 1023) ≡ p = omega arith in
            elim (r.leaves (p - 1023) (omega arith) (omega arith)) [
              | inl e ↦
                  let val : at p ≡ p - 1023 = ap at (sym same) ∙ e in
                  subst (λ v. P p v) (sym val) (subst (λ k. P k (p - 1023)) same
                  (base (p - 1023) (record { some = omega arith; near = omega arith; marked = e })))
              | inr e ↦ absurd (some (ap at (sym same) ∙ e))
            ]
      ]

  -- what a place holds is held by its leaf, over which the place stands
  held : (p : ℕ) → 0 < p → p < 2048 → at p ≢ 0 → Held at (at p) × Over 10 (leaf (at p)) p
  held p low high some =
      from_leaf (λ q v. Held at v × Over 10 (leaf v) q)
      (λ s h. (h, over_self 10 (leaf s) (leaf s) refl))
      (λ q v lo hi o. elim o [
        | inl h ↦ (h.0, over_half 10 (leaf v) (2 * q) q (omega arith) (omega (arith, h.0.near)) h.1 (inl refl) lo)
        | inr h ↦ (h.0, over_half 10 (leaf v) (2 * q + 1) q (omega arith) (omega (arith, h.0.near)) h.1 (inr refl) lo)
      ])
      2048 p (omega arith) low high some

  -- a slot stands only over its leaf
  pub only_over : (p s : ℕ) → 0 < p → p < 2048 → 0 < s → at p ≡ s → Over 10 (leaf s) p
  only_over p s low high some e = subst (λ v. Over 10 (leaf v) p) e (held p low high (λ z. absurd (omega arith))).1

  -- of the slots at two siblings the left one is lower
  left_low : (u : ℕ) → 0 < u → u < 1024 → at (2 * u) ≢ 0 → at (2 * u + 1) ≢ 0 → at (2 * u) ≤ at (2 * u + 1)
  left_low u low high l k =
      let a = held (2 * u) (omega arith) (omega arith) l in
      let b = held (2 * u + 1) (omega arith) (omega arith) k in
      let h = over_order 10 (leaf (at (2 * u))) (leaf (at (2 * u + 1))) u (omega (arith, a.0.some)) (omega (arith, a.0.near)) (omega (arith, b.0.some)) (omega (arith, b.0.near)) a.1 b.1 low in
      omega arith

  -- what a place holds, and what its parent holds
  parent : Weak before → (p : ℕ) → 1 < p → p < 2048 → at p ≢ 0 → Beyond before (at p) (at (p / 2))
  parent w p low high some =
      subst (Beyond before (at p)) (sym (r.inner (p / 2) (omega arith) (omega arith))) (elim (halves p) [
        | inl e ↦ subst (λ a. Beyond before a (winner before at (p / 2))) (sym (ap at e))
            (pick_left before w (at (2 * (p / 2))) (at (2 * (p / 2) + 1)) (λ z. some (ap at e ∙ z)))
        | inr e ↦ subst (λ a. Beyond before a (winner before at (p / 2))) (sym (ap at e))
            (pick_right before w (at (2 * (p / 2))) (at (2 * (p / 2) + 1)) (λ z. some (ap at e ∙ z))
            (λ l. left_low (p / 2) (omega arith) (omega arith) l (λ z. some (ap at e ∙ z))))
      ])

  -- and what the root holds
  root_beyond : Weak before → (n p : ℕ) → p ≤ n → 0 < p → p < 2048 → at p ≢ 0 → Beyond before (at p) (at 1)
  root_beyond w zero p fuel low high some = absurd (omega arith)
  root_beyond w (suc n) p fuel low high some =
      elim (cases_eq p 1) [
        | inl e ↦ subst (λ k. Beyond before (at p) (at k)) e (beyond_self before w (at p) some)
        | inr ne ↦
            let up : Beyond before (at p) (at (p / 2)) = parent w p (omega arith) high some in
            beyond_through before w (at p) (at (p / 2)) (at 1) up
            (root_beyond w n (p / 2) (omega arith) (omega arith) (omega arith) up.0)
      ]

  -- a held slot, and what the root holds
  best : Weak before → (s : ℕ) → Held at s → Beyond before s (at 1)
  best w s h = subst (λ v. Beyond before v (at 1)) h.marked
      (root_beyond w 2048 (leaf s) (omega (arith, h.near)) (omega arith) (omega (arith, h.near)) (λ z. absurd (omega (arith, h.some, h.marked, z))))

pub root_law : RootLaw
root_law before at w r = elim (cases_eq (at 1) 0) [
  | inl e ↦ inl (e, λ s h. (best before at r w s h).0 e)
  | inr ne ↦ inr ((held before at r 1 (omega arith) (omega arith) ne).0, λ s h. (let b = best before at r w s h in (b.1, b.2)))
]
