-- A climb that stops where the winner stays: the tree is ranked again by any order, and nothing else is changed.
use Rattle.std.proofs.Common.{◌≡◌, ℕ, zero, suc, ◌+◌, ◌*◌, ◌/◌, ◌<◌, ◌≤◌, Bool, true, cond, not, eqb, ltb, leb, ◌≢◌, ◌⊎◌, List, length, get_or, set, sym, refl, ap, ◌∙◌, subst, inl, inr, arith}
use mathlib.Core.Path.{fun_ext}
use Rattle.std.proofs.lemmas.Bool.{eqb-true, eqb-false, leb-true, not-true, cond_both, cond-false, cases_eq, and_parts}
use Rattle.std.proofs.lemmas.List.{length-set, get_or-set_same, get_or-set_other}
use Rattle.words.specs.Small.{Small, Kept}
use Rattle.words.proofs.Laws.{small_set}
use Rattle.words.proofs.Cases.{by_test}
use Rattle.loads_model.specs.Model.{a_slot, load_at, tree, leaf, pick, winner, winner_at, settled, climb, replay}
use Rattle.loads_model.specs.Sound.{Ranked, Order}
use Rattle.loads_model.specs.Laws.{ReplayLaw}
use Rattle.loads_model.proofs.Tournament.{pick_one, pick_same, halves, Over, Above, top, over_self, over_low, over_once, over_half, above_next, above_not_self, only_over}

abbrev Fixed : (ℕ → ℕ → Bool) → (ℕ → ℕ) → ℕ → Type 0
Fixed before at i = at i ≡ winner before at i

-- a write at a place q of a tree
module _ (base : ℕ) (m : List ℕ) (q v : ℕ) where
  tree_same : base + q < length m → tree base (set m (base + q) v) q ≡ v
  tree_same lt = get_or-set_same m (base + q) v 0 lt

  tree_other : (i : ℕ) → i ≢ q → tree base (set m (base + q) v) i ≡ tree base m i
  tree_other i ne = get_or-set_other m (base + q) (base + i) v 0 (λ e. ne (omega arith))

  -- leaves the matches that q takes no part in
  fixed_other : (before : ℕ → ℕ → Bool) (i : ℕ) → i ≢ q → 2 * i ≢ q → 2 * i + 1 ≢ q →
      Fixed before (tree base m) i → Fixed before (tree base (set m (base + q) v)) i
  fixed_other before i n₀ n₁ n₂ f =
      let e₀ = tree_other i n₀ in
      let e₁ = tree_other (2 * i) n₁ in
      let e₂ = tree_other (2 * i + 1) n₂ in
      cc

  fixed_here : (before : ℕ → ℕ → Bool) → v ≡ winner before (tree base m) q → 0 < q → base + q < length m →
      Fixed before (tree base (set m (base + q) v)) q
  fixed_here before e some lt =
      let e₀ = tree_same lt in
      let e₁ = tree_other (2 * q) (λ e. absurd (omega arith)) in
      let e₂ = tree_other (2 * q + 1) (λ e. absurd (omega arith)) in
      cc

-- was and old are the order and the tree before the slot s changed; by the order other only its matches may differ
module _ (before : List ℕ → ℕ → ℕ → Bool) (base s : ℕ) (was other : ℕ → ℕ → Bool) (old : ℕ → ℕ) (r : Ranked was old) (some : 0 < s) (near : s ≤ 1024)
    (same : (x y : ℕ) → x ≢ s → y ≢ s → other x y ≡ was x y)
    (steady : (m : List ℕ) (q v : ℕ) → before (set m (base + q) v) ≡ before m) where
  -- the places before p are as they were
  abbrev KeptTo : List ℕ → ℕ → Type 0
  KeptTo m p = (q : ℕ) → 0 < q → q < p → tree base m q ≡ old q

  -- the sibling of a place on the way up does not hold s
  apart : (m : List ℕ) (p c k : ℕ) → KeptTo m p → p < 2048 → Over 10 (leaf s) c → tree base m c ≢ s →
      k / 2 ≡ c / 2 → 0 < k / 2 → k < p → tree base m k ≢ s
  apart m p c k kept high on ne e lo lt is =
      let on₁ : Over 10 (leaf s) k = only_over was old r k s (omega arith) (omega arith) some (sym (kept k (omega arith) lt) ∙ is) in
      ne (subst (λ j. tree base m j ≡ s) (over_once 10 (leaf s) k c on₁ on e lo) is)

  -- a match between slots other than s is as it was
  as_was : (m : List ℕ) (p u : ℕ) → KeptTo m p → p ≤ 2048 → 0 < u → 2 * u + 1 < p → tree base m (2 * u) ≢ s → tree base m (2 * u + 1) ≢ s → Fixed other (tree base m) u
  as_was m p u kept high lo lt n₀ n₁ =
      let e₀ : tree base m u ≡ old u = kept u lo (omega arith) in
      let e₁ : tree base m (2 * u) ≡ old (2 * u) = kept (2 * u) (omega arith) (omega arith) in
      let e₂ : tree base m (2 * u + 1) ≡ old (2 * u + 1) = kept (2 * u + 1) (omega arith) lt in
      let e₃ : old u ≡ winner was old u = r.inner u lo (omega arith) in
      let e₄ : pick other (tree base m (2 * u)) (tree base m (2 * u + 1)) ≡ pick was (tree base m (2 * u)) (tree base m (2 * u + 1)) =
      pick_same was other (tree base m (2 * u)) (tree base m (2 * u + 1)) (same (tree base m (2 * u + 1)) (tree base m (2 * u)) n₁ n₀) in
      cc

  -- THE STOP: above a place that is right and does not hold s, all is right
  settled_above : (m : List ℕ) (p : ℕ) → KeptTo m p → p < 2048 → (n c i : ℕ) → c ≤ p / 2 → Over 10 (leaf s) c → tree base m c ≢ s → Fixed other (tree base m) c →
      Over n c i → 0 < i → Fixed other (tree base m) i
  settled_above m p kept high zero c i le on ne f o lo = subst (Fixed other (tree base m)) (sym o) f
  settled_above m p kept high (suc n) c i le on ne f o lo = elim o [
    | inl e ↦ subst (Fixed other (tree base m)) (sym e) f
    | inr o ↦
        let up : 0 < c / 2 = omega (arith, over_low n (c / 2) i o) in
        let n₀ : tree base m (2 * (c / 2)) ≢ s = apart m p c (2 * (c / 2)) kept high on ne (omega arith) (omega arith) (omega arith) in
        let n₁ : tree base m (2 * (c / 2) + 1) ≢ s = apart m p c (2 * (c / 2) + 1) kept high on ne (omega arith) (omega arith) (omega arith) in
        let f₁ : Fixed other (tree base m) (c / 2) = as_was m p (c / 2) kept (omega arith) up (omega arith) n₀ n₁ in
        settled_above m p kept high n (c / 2) i (omega arith) (over_half 10 (leaf s) c (c / 2) (omega arith) (omega arith) on (halves c) up)
        (elim (pick_one other (tree base m (2 * (c / 2))) (tree base m (2 * (c / 2) + 1))) [ inl e ↦ λ z. n₀ (sym (f₁ ∙ e) ∙ z) | inr e ↦ λ z. n₁ (sym (f₁ ∙ e) ∙ z) ])
        f₁ o lo
  ]

  -- a climb from p mends what is above it
  climb_fixes : (n : ℕ) (m : List ℕ) (p : ℕ) → before m ≡ other → top n ≤ p → p < 2 * top n → p < 2048 → base + 2047 < length m → Over 10 (leaf s) p → KeptTo m p →
      ((i : ℕ) → 0 < i → i < 1024 → Above n p i ⊎ Fixed other (tree base m) i) →
      (i : ℕ) → 0 < i → i < 1024 → Fixed other (tree base (climb before base s n m p)) i
  unfolding climb
  climb_fixes zero m p eb low high near₁ fits on kept all i lo hi = elim (all i lo hi) [ inl o ↦ absurd o | inr f ↦ f ]
  climb_fixes (suc n) m p eb low high near₁ fits on kept all i lo hi =
      cond_both (settled before base s m (p / 2)) m (climb before base s n next (p / 2)) (λ t. Fixed other (tree base t) i) stop
      (λ _. climb_fixes n next (p / 2) (steady m (p / 2) won ∙ eb) (omega arith) (omega arith) (omega arith) (omega (arith, length-set m (base + p / 2) won)) half kept₁ all₁ i lo hi)
    where
      won : ℕ
      won = winner_at before base m (p / 2)

      next : List ℕ
      next = set m (base + p / 2) won

      wins : won ≡ winner other (tree base m) (p / 2)
      wins = ap (λ b. winner b (tree base m) (p / 2)) eb

      half : Over 10 (leaf s) (p / 2)
      half = over_half 10 (leaf s) p (p / 2) (omega arith) (omega arith) on (halves p) (omega arith)

      stop : settled before base s m (p / 2) ≡ true → Fixed other (tree base m) i
      stop e =
          let parts = and_parts (eqb won (tree base m (p / 2))) (not (eqb won s)) e in
          let is : won ≡ tree base m (p / 2) = eqb-true won (tree base m (p / 2)) parts.0 in
          elim (all i lo hi) [
            | inl o ↦ settled_above m p kept near₁ n (p / 2) i (omega arith) half
                (λ z. eqb-false won s (not-true (eqb won s) parts.1) (is ∙ z)) (sym is ∙ wins) o lo
            | inr f ↦ f
          ]

      kept₁ : KeptTo next (p / 2)
      kept₁ q lo₁ lt = tree_other base m (p / 2) won q (λ e. absurd (omega arith)) ∙ kept q lo₁ (omega arith)

      all₁ : (i : ℕ) → 0 < i → i < 1024 → Above n (p / 2) i ⊎ Fixed other (tree base next) i
      all₁ i lo hi =
          elim (cases_eq i (p / 2)) [
            | inl e ↦ inr (subst (Fixed other (tree base next)) (sym e) (fixed_here base m (p / 2) won other wins (omega arith) (omega arith)))
            | inr ne ↦ elim (all i lo hi) [
              | inl o ↦ inl (above_not_self n (p / 2) i ne o)
              | inr f ↦ elim (cases_eq (p / 2) (2 * i)) [
                | inl e ↦ inl (above_next n (p / 2) i (omega arith) (omega arith) (inl e) lo)
                | inr n₁ ↦ elim (cases_eq (p / 2) (2 * i + 1)) [
                  | inl e ↦ inl (above_next n (p / 2) i (omega arith) (omega arith) (inr e) lo)
                  | inr n₂ ↦ inr (fixed_other base m (p / 2) won other i ne (λ e. n₁ (sym e)) (λ e. n₂ (sym e)) f)
                ]
              ]
            ]
          ]

  -- a replay mends the inner places
  replay_fixes : (m : List ℕ) (mark : ℕ) → before m ≡ other → base + 2047 < length m → ((q : ℕ) → tree base m q ≡ old q) →
      (i : ℕ) → 0 < i → i < 1024 → Fixed other (tree base (replay before base m s mark)) i
  replay_fixes m mark eb fits as_old =
      climb_fixes 10 marked (leaf s) (steady m (leaf s) mark ∙ eb) (omega arith) (omega arith) (omega arith)
      (omega (arith, length-set m (base + leaf s) mark)) (over_self 10 (leaf s) (leaf s) refl)
      (λ q lo lt. tree_other base m (leaf s) mark q (λ e. absurd (omega arith)) ∙ as_old q) start
    where
      marked : List ℕ
      marked = set m (base + leaf s) mark

      up : (i q : ℕ) → 0 < i → i < 1024 → (q ≡ 2 * i) ⊎ (q ≡ 2 * i + 1) → q < 2048 → 0 < q → tree base m q ≡ s → Above 10 (leaf s) i
      up i q lo hi e high low v =
          above_not_self 10 (leaf s) i (λ e. absurd (omega arith))
          (over_half 10 (leaf s) q i (omega arith) (omega arith) (only_over was old r q s low high some (sym (as_old q) ∙ v)) e lo)

      start : (i : ℕ) → 0 < i → i < 1024 → Above 10 (leaf s) i ⊎ Fixed other (tree base marked) i
      start i lo hi =
          elim (cases_eq (leaf s) (2 * i)) [
            | inl e ↦ inl (above_next 10 (leaf s) i (omega arith) (omega arith) (inl e) lo)
            | inr n₁ ↦ elim (cases_eq (leaf s) (2 * i + 1)) [
              | inl e ↦ inl (above_next 10 (leaf s) i (omega arith) (omega arith) (inr e) lo)
              | inr n₂ ↦ elim (cases_eq (tree base m (2 * i)) s) [
                | inl v ↦ inl (up i (2 * i) lo hi (inl refl) (omega arith) (omega arith) v)
                | inr m₁ ↦ elim (cases_eq (tree base m (2 * i + 1)) s) [
                  | inl v ↦ inl (up i (2 * i + 1) lo hi (inr refl) (omega arith) (omega arith) v)
                  | inr m₂ ↦ inr (fixed_other base m (leaf s) mark other i (λ e. absurd (omega arith)) (λ e. n₁ (sym e)) (λ e. n₂ (sym e))
                      (as_was m 2048 i (λ q _ _. as_old q) (omega arith) lo (omega arith) m₁ m₂))
                ]
              ]
            ]
          ]

-- a climb writes inner places only
climb_frame : (before : List ℕ → ℕ → ℕ → Bool) (base s n : ℕ) (m : List ℕ) (p k : ℕ) → p < 2048 → (k < base) ⊎ (base + 1023 < k) →
    get_or (climb before base s n m p) k 0 ≡ get_or m k 0
unfolding climb
climb_frame before base s zero m p k high far = refl
climb_frame before base s (suc n) m p k high far =
    cond_both (settled before base s m (p / 2)) m (climb before base s n (set m (base + p / 2) (winner_at before base m (p / 2))) (p / 2)) (λ t. get_or t k 0 ≡ get_or m k 0)
    (λ _. refl)
    (λ _. climb_frame before base s n (set m (base + p / 2) (winner_at before base m (p / 2))) (p / 2) k (omega arith) far
    ∙ get_or-set_other m (base + p / 2) k (winner_at before base m (p / 2)) 0 (λ e. elim far [ inl l ↦ absurd (omega arith) | inr l ↦ absurd (omega arith) ]))

-- all but one tree's inner places and the slot's leaf there
pub replay_frame : (before : List ℕ → ℕ → ℕ → Bool) (base : ℕ) (m : List ℕ) (s mark k : ℕ) → s ≤ 1024 → k ≢ base + leaf s → (k < base) ⊎ (base + 1023 < k) →
    get_or (replay before base m s mark) k 0 ≡ get_or m k 0
replay_frame before base m s mark k near ne far =
    climb_frame before base s 10 (set m (base + leaf s) mark) (leaf s) k (omega arith) far ∙ get_or-set_other m (base + leaf s) k mark 0 ne

pub replay_mark : (before : List ℕ → ℕ → ℕ → Bool) (base : ℕ) (m : List ℕ) (s mark : ℕ) → 0 < s → s ≤ 1024 → base + 2047 < length m →
    tree base (replay before base m s mark) (leaf s) ≡ mark
replay_mark before base m s mark some near fits =
    climb_frame before base s 10 (set m (base + leaf s) mark) (leaf s) (base + leaf s) (omega arith) (inr (omega arith))
    ∙ get_or-set_same m (base + leaf s) mark 0 (omega arith)

-- loads, of which words past 1,024 are no part
pub load_same : (m n : List ℕ) (x : ℕ) → (x ≤ 1024 → get_or n x 0 ≡ get_or m x 0) → load_at n x ≡ load_at m x
unfolding load_at
load_same m n x h =
    by_test (a_slot x)
    (λ e. ap (λ w. cond (a_slot x) w 0) (h (leb-true x 1024 (and_parts (ltb 0 x) (leb x 1024) e).1)))
    (λ e. cond-false (a_slot x) (get_or n x 0) 0 e ∙ sym (cond-false (a_slot x) (get_or m x 0) 0 e))

pub order_same : (before : List ℕ → ℕ → ℕ → Bool) → Order before → (m n : List ℕ) → ((x : ℕ) → load_at n x ≡ load_at m x) → before n ≡ before m
order_same before o m n e = fun_ext (λ x. fun_ext (λ y. o.local m n x y (e x) (e y)))

pub replay_load : (before : List ℕ → ℕ → ℕ → Bool) (base : ℕ) (m : List ℕ) (s mark x : ℕ) → 1024 < base → s ≤ 1024 → load_at (replay before base m s mark) x ≡ load_at m x
replay_load before base m s mark x past near =
    load_same m (replay before base m s mark) x (λ h. replay_frame before base m s mark x near (λ e. absurd (omega arith)) (inl (omega arith)))

pub replay_law : ReplayLaw
replay_law before base m n s mark o past fits some near marks r as_old others =
    subst (λ b. Ranked b (tree base (replay before base n s mark)))
    (sym (order_same before o n (replay before base n s mark) (λ x. replay_load before base n s mark x past near)))
    (record {
      inner = replay_fixes before base s (before m) (before n) (tree base m) r some near (λ x y nx ny. o.local m n x y (others x nx) (others y ny)) steady n mark refl fits as_old;
      leaves = leaves;
    })
  where
    steady : (m : List ℕ) (q v : ℕ) → before (set m (base + q) v) ≡ before m
    steady m q v = order_same before o m (set m (base + q) v) (λ x. load_same m (set m (base + q) v) x (λ h. get_or-set_other m (base + q) x v 0 (λ e. absurd (omega arith))))

    leaves : (k : ℕ) → 0 < k → k ≤ 1024 → (tree base (replay before base n s mark) (leaf k) ≡ k) ⊎ (tree base (replay before base n s mark) (leaf k) ≡ 0)
    leaves k lo hi = elim (cases_eq k s) [
      | inl e ↦
          let here : tree base (replay before base n s mark) (leaf k) ≡ mark = ap (λ j. tree base (replay before base n s mark) (leaf j)) e ∙ replay_mark before base n s mark some near fits in
          elim marks [ inl x ↦ inl (here ∙ x ∙ sym e) | inr x ↦ inr (here ∙ x) ]
      | inr ne ↦
          let there : tree base (replay before base n s mark) (leaf k) ≡ tree base m (leaf k) = replay_frame before base n s mark (base + leaf k) near (λ e. ne (omega arith)) (inr (omega arith)) ∙ as_old (leaf k) in
          elim (r.leaves k lo hi) [ inl x ↦ inl (there ∙ x) | inr x ↦ inr (there ∙ x) ]
    ]

-- for every memory: what came from m by writes of small words is as long as m, and of words that fit 64 bits where m is
pub kept_self : (m : List ℕ) → Kept m m
kept_self m = record { long = refl; small = λ s. s }

pub kept_set : (m n : List ℕ) (k v : ℕ) → Kept m n → (Small m → v < 18446744073709551616) → Kept m (set n k v)
kept_set m n k v h fits = record { long = length-set n k v ∙ h.long; small = λ s. small_set n k v (h.small s) (fits s) }

winner_small : (before : List ℕ → ℕ → ℕ → Bool) (base : ℕ) (m : List ℕ) (p : ℕ) → Small m → winner_at before base m p < 18446744073709551616
unfolding Small
winner_small before base m p s = elim (pick_one (before m) (tree base m (2 * p)) (tree base m (2 * p + 1))) [
  | inl e ↦ omega (arith, e, s (base + 2 * p))
  | inr e ↦ omega (arith, e, s (base + (2 * p + 1)))
]

climb_kept : (before : List ℕ → ℕ → ℕ → Bool) (base s n : ℕ) (old m : List ℕ) (p : ℕ) → Kept old m → Kept old (climb before base s n m p)
unfolding climb
climb_kept before base s zero old m p h = h
climb_kept before base s (suc n) old m p h =
    cond_both (settled before base s m (p / 2)) m (climb before base s n (set m (base + p / 2) (winner_at before base m (p / 2))) (p / 2)) (Kept old)
    (λ _. h)
    (λ _. climb_kept before base s n old (set m (base + p / 2) (winner_at before base m (p / 2))) (p / 2)
    (kept_set old m (base + p / 2) (winner_at before base m (p / 2)) h (λ z. winner_small before base m (p / 2) (h.small z))))

pub replay_kept : (before : List ℕ → ℕ → ℕ → Bool) (base : ℕ) (old m : List ℕ) (s mark : ℕ) → Kept old m → (Small old → mark < 18446744073709551616) → Kept old (replay before base m s mark)
replay_kept before base old m s mark h fits = climb_kept before base s 10 old (set m (base + leaf s) mark) (leaf s) (kept_set old m (base + leaf s) mark h fits)
