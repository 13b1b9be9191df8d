-- The walk along the links of a shelf meets each of its goods once, and no other.
use Rattle.std.proofs.Common.{◌≡◌, ℕ, zero, suc, ◌+◌, ◌<◌, ◌≤◌, cond, eqb, ◌≢◌, List, [], ◌∷◌, length, sym, refl, ap, ◌∙◌, subst, arith}
use Rattle.std.proofs.lemmas.Bool.{cond-true, cond-false, eq-eqb, ne_eqb}
use Rattle.std.proofs.lemmas.Bool.Decides.{nat_tests}
use Rattle.words.proofs.Cases.{by_same}
use Rattle.contents_model.specs.Model.{walk_from}
use Rattle.contents_model.specs.Sound.{Linked}
use Rattle.contents_model.specs.Laws.{times, Chain}
use Rattle.contents_model.proofs.Totals.{length_total, total_ones}

module _ {shelf first next previous rank : ℕ → ℕ} {top : ℕ} (l : Linked shelf first next previous rank top) (none : shelf 0 ≡ 0) where
  -- the good before one
  above : (g : ℕ) → shelf g ≢ 0 → previous g ≢ 0 → (shelf (previous g) ≢ 0) × ((next (previous g) ≢ 0) × ((next (previous g) ≡ g) × (rank g < rank (previous g))))
  above g u some =
      let b = l.before g u some in
      let on : shelf (previous g) ≢ 0 = λ w. u (sym b.0 ∙ w) in
      let more : next (previous g) ≢ 0 = λ w. u (ap shelf (sym b.1 ∙ w) ∙ none) in
      (on, (more, (b.1, subst (λ (x : ℕ). rank x < rank (previous g)) b.1 (l.falls (previous g) on more))))

  -- what holds of the first of each shelf, and of the next where it holds of a good, holds of each good that is on a shelf
  module _ (P : ℕ → Type 0) (start : (s : ℕ) → first s ≢ 0 → P (first s)) (step : (g : ℕ) → shelf g ≢ 0 → next g ≢ 0 → P g → P (next g)) where
    begin : (g : ℕ) → shelf g ≢ 0 → previous g ≡ 0 → P g
    begin g u z =
        let e = l.begins g u z in
        subst P e (start (shelf g) (λ w. u (ap shelf (sym e ∙ w) ∙ none)))

    climb : (k g : ℕ) → top ≤ rank g + k → shelf g ≢ 0 → P g
    climb zero g h u = by_same (previous g) 0 (begin g u) (λ some. absurd (omega (arith, (above g u some).1.1.1, l.bounded (previous g))))
    climb (suc k) g h u =
        by_same (previous g) 0 (begin g u)
        (λ some. (let a = above g u some in subst P a.1.1.0 (step (previous g) a.0 a.1.0 (climb k (previous g) (omega (arith, a.1.1.1)) a.0))))

    everywhere : (g : ℕ) → shelf g ≢ 0 → P g
    everywhere g u = climb top g (omega arith) u

  pub first_some : (g : ℕ) → shelf g ≢ 0 → first (shelf g) ≢ 0
  first_some =
      everywhere (λ g. first (shelf g) ≢ 0)
      (λ s u w. u (ap first (sym (l.leads s u).0) ∙ w))
      (λ g u v h w. h (ap first (sym (l.after g u v).0) ∙ w))

  -- f is none, or a good on a shelf with a rank below r
  abbrev Low : ℕ → ℕ → Type 0
  Low r f = f ≢ 0 → (shelf f ≢ 0) × (rank f < r)

  next_low : (r f : ℕ) → shelf f ≢ 0 → rank f ≤ r → Low r (next f)
  next_low r f u h v = (λ w. u (sym (l.after f u v).0 ∙ w), omega (arith, l.falls f u v))

  -- only goods of the shelf
  walk_own : (s k f g : ℕ) → s ≢ 0 → (f ≢ 0 → shelf f ≡ s) → shelf g ≢ s → times (walk_from next k f) g ≡ 0
  unfolding walk_from times
  walk_own s zero f g some on off = refl
  walk_own s (suc k) f g some on off =
      by_same f 0 (λ z. grind (arith, nat_tests))
      (λ u. (let h = on u in
      let ih = walk_own s k (next f) g some (λ v. (l.after f (λ w. some (sym h ∙ w)) v).0 ∙ h) off in
      let other : f ≢ g = λ e. off (ap shelf (sym e) ∙ h) in
      grind (arith, nat_tests)))

  -- only goods of a lower rank
  walk_down : (k f g : ℕ) → Low (rank g) f → times (walk_from next k f) g ≡ 0
  unfolding walk_from times
  walk_down zero f g on = refl
  walk_down (suc k) f g on =
      by_same f 0 (λ z. grind (arith, nat_tests))
      (λ u. (let h = on u in let ih = walk_down k (next f) g (next_low (rank g) f h.0 (omega (arith, h.1))) in grind (arith, nat_tests)))

  walk_once : (r k f g : ℕ) → Low r f → times (walk_from next k f) g ≤ 1
  unfolding walk_from times
  walk_once r zero f g on = omega arith
  walk_once r (suc k) f g on =
      by_same f 0 (λ z. grind (arith, nat_tests))
      (λ u. (let low = next_low (rank f) f (on u).0 (omega arith) in
      let ih = walk_once (rank f) k (next f) g low in
      let down = walk_down k (next f) f low in
      grind (arith, nat_tests)))

  walk_starts : (k f : ℕ) → 0 < k → f ≢ 0 → 0 < times (walk_from next k f) f
  unfolding walk_from times
  walk_starts zero f h u = absurd (omega arith)
  walk_starts (suc k) f h u = grind (arith, nat_tests)

  -- with each good the next
  walk_goes : (k f g : ℕ) → Low k f → next g ≢ 0 → 0 < times (walk_from next k f) g → 0 < times (walk_from next k f) (next g)
  unfolding walk_from times
  walk_goes zero f g on v has = absurd (omega arith)
  walk_goes (suc k) f g on v has =
      by_same f 0 (λ z. absurd (let q : ◌≡◌ {A = ℕ} 0 1 = grind (arith, nat_tests) in omega arith))
      (λ u. (let low = next_low k f (on u).0 (omega (arith, (on u).1)) in
      by_same f g
      (λ e. (let same : next f ≡ next g = ap next e in
      let w : next f ≢ 0 = λ z. v (sym same ∙ z) in
      let here = walk_starts k (next f) (omega (arith, (low w).1)) w in
      grind (arith, nat_tests)))
      (λ ne. (let ih = walk_goes k (next f) g low v in grind (arith, nat_tests)))))

  -- as many turns as there are goods do
  walk_ends : (k n f : ℕ) → Low k f → length (walk_from next k f) ≤ n → walk_from next n f ≡ walk_from next k f
  unfolding walk_from
  walk_ends zero zero f on h = refl
  walk_ends zero (suc n) f on h = by_same f 0 (λ z. grind (arith, nat_tests)) (λ u. absurd (omega (arith, (on u).1)))
  walk_ends (suc k) zero f on h = by_same f 0 (λ z. grind (arith, nat_tests)) (λ u. absurd (let q : ◌≡◌ {A = ℕ} 0 1 = grind (arith, nat_tests) in omega arith))
  walk_ends (suc k) (suc n) f on h =
      by_same f 0 (λ z. grind (arith, nat_tests))
      (λ u. (let fits : length (walk_from next k (next f)) ≤ n = grind (arith, nat_tests) in
      ap (λ (t : List ℕ). cond (eqb f 0) [] (f ∷ t)) (walk_ends k n (next f) (next_low k f (on u).0 (omega (arith, (on u).1))) fits)))

  -- linked both ways, up to the end
  walk_chain : (k p f : ℕ) → Low k f → (f ≢ 0 → previous f ≡ p) → Chain next previous p f (walk_from next k f)
  unfolding walk_from Chain
  walk_chain zero p f on back = by_same f 0 (λ z. z) (λ u. absurd (omega (arith, (on u).1)))
  walk_chain (suc k) p f on back =
      by_same f 0 (λ z. subst (Chain next previous p f) (sym (cond-true _ _ _ (eq-eqb _ _ z))) z)
      (λ u. (let ih : Chain next previous f (next f) (walk_from next k (next f)) = walk_chain k f (next f) (next_low k f (on u).0 (omega (arith, (on u).1))) (λ w. (l.after f (on u).0 w).1) in
      subst (Chain next previous p f) (sym (cond-false _ _ _ (ne_eqb _ _ u))) (refl, (back u, ih))))

  -- the walk over the shelf s, in as many turns as there are slots
  module _ (s n : ℕ) (some : s ≢ 0) (within : (g : ℕ) → shelf g ≢ 0 → g < n) where
    abbrev goods : List ℕ
    goods = walk_from next (suc top) (first s)

    on_it : first s ≢ 0 → shelf (first s) ≡ s
    on_it u = (l.leads s u).0

    low : Low (suc top) (first s)
    low u = (λ z. some (sym (on_it u) ∙ z), omega (arith, l.bounded (first s)))

    own : (g : ℕ) → shelf g ≢ s → times goods g ≡ 0
    own g = walk_own s (suc top) (first s) g some on_it

    once : (g : ℕ) → times goods g ≤ 1
    once g = walk_once (suc top) (suc top) (first s) g low

    ends : walk_from next n (first s) ≡ goods
    ends =
        let past : (g : ℕ) → n ≤ g → times goods g ≡ 0 = λ g h. own g (λ e. omega (arith, within g (λ z. some (sym e ∙ z)))) in
        walk_ends (suc top) n (first s) low (subst (λ (k : ℕ). k ≤ n) (sym (length_total n goods past)) (total_ones n (times goods) once))

    -- each good of the shelf
    all : (g : ℕ) → shelf g ≢ 0 → shelf g ≡ s → 0 < times goods g
    all =
        everywhere (λ g. shelf g ≡ s → 0 < times goods g)
        (λ t u e. (let same : first t ≡ first s = ap first (sym (l.leads t u).0 ∙ e) in rw same (walk_starts (suc top) (first s) (omega arith) (λ z. u (same ∙ z)))))
        (λ g u v h e. walk_goes (suc top) (first s) g low v (h (sym (l.after g u v).0 ∙ e)))

    pub walk_each : (g : ℕ) → times (walk_from next n (first s)) g ≡ cond (eqb (shelf g) s) 1 0
    walk_each g =
        rw ends (by_same (shelf g) s
        (λ e. (let has = all g (λ z. some (sym e ∙ z)) e in let one = once g in grind (arith, nat_tests)))
        (λ ne. (let z = own g ne in grind (arith, nat_tests))))

    pub walk_linked : Chain next previous 0 (first s) (walk_from next n (first s))
    walk_linked = rw ends (walk_chain (suc top) 0 (first s) low (λ u. (l.leads s u).1))
