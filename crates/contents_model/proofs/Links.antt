-- Adding to the front of a list and taking out of one, over functions: the links stay right.
use Rattle.std.proofs.Common.{◌≡◌, ℕ, suc, ◌<◌, ◌≤◌, cond, ◌&&◌, eqb, ◌≢◌, arith}
use Rattle.std.proofs.lemmas.Bool.Decides.{nat_tests}
use Rattle.contents_model.specs.Sound.{Linked}

module _ {shelf first next previous rank shelf' first' next' previous' : ℕ → ℕ} {top s g : ℕ} (l : Linked shelf first next previous rank top)
    (none : shelf 0 ≡ 0) (no_previous : previous' 0 ≡ 0) (no_shelf : first 0 ≡ 0) (some_s : s ≢ 0) (some_g : g ≢ 0) (free : shelf g ≡ 0)
    (new_shelf : (x : ℕ) → shelf' x ≡ cond (eqb x g) s (shelf x))
    (new_next : (x : ℕ) → next' x ≡ cond (eqb x g) (first s) (next x))
    (new_previous : (x : ℕ) → x ≢ 0 → previous' x ≡ cond (eqb x g) 0 (cond (eqb x (first s)) g (previous x)))
    (new_first : (t : ℕ) → first' t ≡ cond (eqb t s) g (first t)) where
  unfoldable pub rank' : ℕ → ℕ
  rank' x = cond (eqb x g) (suc top) (rank x)

  add_some : (x : ℕ) → shelf' x ≢ 0 → x ≢ 0
  add_some x u = let a = new_shelf x in grind (arith, nat_tests)

  add_bounded : (x : ℕ) → rank' x ≤ suc top
  unfolding rank'
  add_bounded x = let b = l.bounded x in grind (arith, nat_tests)

  add_falls : (x : ℕ) → shelf' x ≢ 0 → next' x ≢ 0 → rank' (next' x) < rank' x
  unfolding rank'
  add_falls x u v =
      let a = new_shelf x in let b = new_next x in let c = l.bounded (first s) in let d = l.falls x in let e = l.after x in let f = l.leads s in
      grind (arith, nat_tests)

  add_after : (x : ℕ) → shelf' x ≢ 0 → next' x ≢ 0 → (shelf' (next' x) ≡ shelf' x) × (previous' (next' x) ≡ x)
  add_after x u v =
      let a = new_shelf x in let b = new_next x in let d = new_shelf (next' x) in let p = new_previous (next' x) v in let e = l.after x in let f = l.leads s in
      (grind (arith, nat_tests), grind (arith, nat_tests))

  add_before : (x : ℕ) → shelf' x ≢ 0 → previous' x ≢ 0 → (shelf' (previous' x) ≡ shelf' x) × (next' (previous' x) ≡ x)
  add_before x u v =
      let a = new_shelf x in let z = add_some x u in let p = new_previous x z in let b = new_next (previous' x) in let d = new_shelf (previous' x) in let e = l.before x in let f = l.leads s in
      (grind (arith, nat_tests), grind (arith, nat_tests))

  add_loose : (x : ℕ) → shelf' x ≡ 0 → (next' x ≡ 0) × (previous' x ≡ 0)
  add_loose x z =
      let a = new_shelf x in let b = new_next x in let p = new_previous x in let d = l.loose x in let f = l.leads s in
      (grind (arith, nat_tests), grind (arith, nat_tests))

  add_begins : (x : ℕ) → shelf' x ≢ 0 → previous' x ≡ 0 → first' (shelf' x) ≡ x
  add_begins x u v =
      let a = new_shelf x in let z = add_some x u in let p = new_previous x z in let b = new_first (shelf' x) in let e = l.begins x in
      grind (arith, nat_tests)

  add_leads : (t : ℕ) → first' t ≢ 0 → (shelf' (first' t) ≡ t) × (previous' (first' t) ≡ 0)
  add_leads t u =
      let a = new_first t in let p = new_previous (first' t) u in let b = new_shelf (first' t) in
      let e = l.leads t in let f = l.leads s in let h = l.leads 0 in
      (grind (arith, nat_tests), grind (arith, nat_tests))

  pub add_linked : Linked shelf' first' next' previous' rank' (suc top)
  add_linked = record { bounded = add_bounded; falls = add_falls; after = add_after; before = add_before; loose = add_loose; begins = add_begins; leads = add_leads }

module _ {shelf first next previous rank shelf' first' next' previous' : ℕ → ℕ} {top g : ℕ} (l : Linked shelf first next previous rank top)
    (none : shelf 0 ≡ 0) (no_next : next' 0 ≡ 0) (no_previous : previous' 0 ≡ 0) (stands : shelf g ≢ 0)
    (new_shelf : (x : ℕ) → shelf' x ≡ cond (eqb x g) 0 (shelf x))
    (new_next : (x : ℕ) → x ≢ 0 → next' x ≡ cond (eqb x g) 0 (cond (eqb x (previous g)) (next g) (next x)))
    (new_previous : (x : ℕ) → x ≢ 0 → previous' x ≡ cond (eqb x g) 0 (cond (eqb x (next g)) (previous g) (previous x)))
    (new_first : (t : ℕ) → first' t ≡ cond (eqb (previous g) 0 && eqb t (shelf g)) (next g) (first t)) where
  remove_some : (x : ℕ) → shelf' x ≢ 0 → x ≢ 0
  remove_some x u = let a = new_shelf x in grind (arith, nat_tests)

  remove_falls : (x : ℕ) → shelf' x ≢ 0 → next' x ≢ 0 → rank (next' x) < rank x
  remove_falls x u v =
      let a = new_shelf x in let z = remove_some x u in let b = new_next x z in let d = l.falls x in let e = l.falls g stands in let f = l.before g stands in
      grind (arith, nat_tests)

  remove_after : (x : ℕ) → shelf' x ≢ 0 → next' x ≢ 0 → (shelf' (next' x) ≡ shelf' x) × (previous' (next' x) ≡ x)
  remove_after x u v =
      let a = new_shelf x in let z = remove_some x u in let b = new_next x z in let c = new_shelf (next' x) in let p = new_previous (next' x) v in
      let d = l.after x in let e = l.after g stands in let f = l.before g stands in let h = l.falls g stands in
      (grind (arith, nat_tests), grind (arith, nat_tests))

  remove_before : (x : ℕ) → shelf' x ≢ 0 → previous' x ≢ 0 → (shelf' (previous' x) ≡ shelf' x) × (next' (previous' x) ≡ x)
  remove_before x u v =
      let a = new_shelf x in let z = remove_some x u in let p = new_previous x z in let b = new_next (previous' x) v in let c = new_shelf (previous' x) in
      let d = l.before x in let e = l.after g stands in let f = l.before g stands in let h = l.falls g stands in
      (grind (arith, nat_tests), grind (arith, nat_tests))

  remove_loose : (x : ℕ) → shelf' x ≡ 0 → (next' x ≡ 0) × (previous' x ≡ 0)
  remove_loose x z =
      let a = new_shelf x in let b = new_next x in let p = new_previous x in let d = l.loose x in let e = l.after g stands in let f = l.before g stands in
      (grind (arith, nat_tests), grind (arith, nat_tests))

  remove_begins : (x : ℕ) → shelf' x ≢ 0 → previous' x ≡ 0 → first' (shelf' x) ≡ x
  remove_begins x u v =
      let a = new_shelf x in let z = remove_some x u in let p = new_previous x z in let b = new_first (shelf' x) in
      let d = l.begins x in let e = l.begins g stands in let f = l.after g stands in
      grind (arith, nat_tests)

  remove_leads : (t : ℕ) → first' t ≢ 0 → (shelf' (first' t) ≡ t) × (previous' (first' t) ≡ 0)
  remove_leads t u =
      let a = new_first t in let p = new_previous (first' t) u in let b = new_shelf (first' t) in
      let d = l.leads t in let e = l.begins g stands in let f = l.after g stands in let h = l.falls g stands in let k = l.before g stands in
      (grind (arith, nat_tests), grind (arith, nat_tests))

  pub remove_linked : Linked shelf' first' next' previous' rank top
  remove_linked = record { bounded = l.bounded; falls = remove_falls; after = remove_after; before = remove_before; loose = remove_loose; begins = remove_begins; leads = remove_leads }
