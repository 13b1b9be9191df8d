-- What is read of a memory after each write to it, and what every write keeps.
use Rattle.std.proofs.Common.{◌≡◌, ℕ, ◌+◌, ◌-◌, ◌*◌, ◌/◌, ◌<◌, Bool, true, false, cond, ◌&&◌, eqb, ltb, ◌≢◌, List, length, set, refl, ap, ◌∙◌, arith}
use Rattle.std.proofs.lemmas.List.{length-set, get_or-set_same, get_or-set_other}
use Rattle.std.proofs.lemmas.Bool.{cond_both, lt-ltb, ne_eqb}
use Rattle.std.proofs.lemmas.Bool.Decides.{nat_tests}
use Rattle.contents_model.specs.Model.{rows, slot, outside, field, put_field, head, shelf_at, first_at, next_at, previous_at, pushed, refuses, add_at, unlinked, remove_at}

-- what holds of a memory after every write holds after the writes of a good added or removed
module _ (P : List ℕ → Type 0) (V : ℕ → Type 0) (zero_may : V 0) (keep : (m : List ℕ) (p v : ℕ) → V v → P m → P (set m p v)) where
  keep_put : (m : List ℕ) (g k v : ℕ) → V v → P m → P (put_field m g k v)
  unfolding put_field
  keep_put m g k v h p = cond_both (outside g (rows m)) m (set m (1025 + 3 * g + k) v) P (λ e. p) (λ e. keep m (1025 + 3 * g + k) v h p)

  pub keep_pushed : (m : List ℕ) (s g f : ℕ) → V s → V g → V f → P m → P (pushed m s g f)
  keep_pushed m s g f a b c p = keep _ s g b (keep_put _ g 2 0 zero_may (keep_put _ g 1 f c (keep_put _ g 0 s a (keep_put m f 2 g b p))))

  pub keep_unlinked : (m : List ℕ) (s g q n : ℕ) → V q → V n → P m → P (unlinked m s g q n)
  keep_unlinked m s g q n a b p =
      let start = cond_both (eqb q 0) (set m s n) m P (λ e. keep m s n b p) (λ e. p) in
      keep_put _ g 2 0 zero_may (keep_put _ g 1 0 zero_may (keep_put _ g 0 0 zero_may (keep_put _ n 2 q a (keep_put _ q 1 n b start))))

  pub keep_add : (m : List ℕ) (s g : ℕ) → (s < 1025 → V s) → V g → V (first_at m s) → P m → P (add_at m s g)
  unfolding add_at
  keep_add m s g a b c p = cond_both (refuses m s g) m (pushed m s g (first_at m s)) P (λ e. p) (λ e. keep_pushed m s g (first_at m s) (a (grind (arith, nat_tests))) b c p)

  pub keep_remove : (m : List ℕ) (g : ℕ) → V (previous_at m g) → V (next_at m g) → P m → P (remove_at m g)
  unfolding remove_at
  keep_remove m g a b p =
      cond_both (eqb (shelf_at m g) 0) m (unlinked m (shelf_at m g) g (previous_at m g) (next_at m g)) P (λ e. p) (λ e. keep_unlinked m (shelf_at m g) g (previous_at m g) (next_at m g) a b p)

-- lengths
abbrev pub Long : List ℕ → List ℕ → Type 0
Long m n = length n ≡ length m

abbrev pub Any : ℕ → Type 0
Any v = Unit {0}

pub long_set : (m n : List ℕ) (k v : ℕ) → Any v → Long m n → Long m (set n k v)
long_set m n k v h e = length-set n k v ∙ e

pub rows_so : (m n : List ℕ) → Long m n → rows n ≡ rows m
unfolding rows
rows_so m n e = ap (λ (k : ℕ). (k - 1025) / 3) e

rows_put : (m : List ℕ) (g k v : ℕ) → rows (put_field m g k v) ≡ rows m
rows_put m g k v = rows_so m _ (keep_put (Long m) Any tt (long_set m) m g k v tt refl)

-- a column of a good's row as a slot: its shelf, the next good, the previous one
unfoldable at : List ℕ → ℕ → ℕ → ℕ
at m x k = slot (field m x k) (cond (eqb k 0) 1025 (rows m))

shelf_is : (m : List ℕ) (x : ℕ) → shelf_at m x ≡ at m x 0
unfolding shelf_at at
shelf_is m x = refl

next_is : (m : List ℕ) (x : ℕ) → next_at m x ≡ at m x 1
unfolding next_at at
next_is m x = refl

previous_is : (m : List ℕ) (x : ℕ) → previous_at m x ≡ at m x 2
unfolding previous_at at
previous_is m x = refl

-- one write to a row; the conditions are tests, which simp settles
at_put : (m : List ℕ) (g k v x : ℕ) → ltb k 3 ≡ true → ltb g (rows m) ≡ true → ltb v (cond (eqb k 0) 1025 (rows m)) ≡ true → eqb x 0 && eqb g 0 ≡ false
    → at (put_field m g k v) x k ≡ cond (eqb x g) v (at m x k)
unfolding at field put_field rows
at_put m g k v x h i j u =
    let e = length-set m (1025 + 3 * g + k) v in
    let a = get_or-set_same m (1025 + 3 * g + k) v 0 in
    let b = get_or-set_other m (1025 + 3 * g + k) (1025 + 3 * x + k) v 0 in
    grind (arith, nat_tests)

at_put_other : (m : List ℕ) (g k v x j : ℕ) → ltb k 3 ≡ true → ltb j 3 ≡ true → eqb j k ≡ false → at (put_field m g k v) x j ≡ at m x j
unfolding at field put_field rows
at_put_other m g k v x j p q ne =
    let e = length-set m (1025 + 3 * g + k) v in
    let b = get_or-set_other m (1025 + 3 * g + k) (1025 + 3 * x + j) v 0 in
    grind (arith, nat_tests)

first_put : (m : List ℕ) (g k v t : ℕ) → first_at (put_field m g k v) t ≡ first_at m t
unfolding first_at head put_field rows
first_put m g k v t =
    let e = length-set m (1025 + 3 * g + k) v in
    let b = get_or-set_other m (1025 + 3 * g + k) t v 0 in
    grind (arith, nat_tests)

-- one write to a shelf's word
at_set : (m : List ℕ) (s v x k : ℕ) → ltb s 1025 ≡ true → at (set m s v) x k ≡ at m x k
unfolding at field rows
at_set m s v x k h =
    let e = length-set m s v in
    let b = get_or-set_other m s (1025 + 3 * x + k) v 0 in
    grind (arith, nat_tests)

first_set : (m : List ℕ) (s v t : ℕ) → outside s 1025 ≡ false → ltb v (rows m) ≡ true → first_at (set m s v) t ≡ cond (eqb t s) v (first_at m t)
unfolding first_at head rows
first_set m s v t h i =
    let e = length-set m s v in
    let a = get_or-set_same m s v 0 in
    let b = get_or-set_other m s t v 0 in
    grind (arith, nat_tests)

neither : (b : Bool) → b && false ≡ false
neither true = refl
neither false = refl

-- a good in front of the others
module _ (m : List ℕ) (s g f : ℕ) (hs : outside s 1025 ≡ false) (some : g ≢ 0) (hg : g < rows m) (hf : f < rows m) where
  s_low : ltb s 1025 ≡ true
  s_low = grind (arith, nat_tests)

  none_low : ltb 0 (rows m) ≡ true
  none_low = lt-ltb _ _ (omega arith)

  pub pushed_shelf : (x : ℕ) → shelf_at (pushed m s g f) x ≡ cond (eqb x g) s (shelf_at m x)
  pushed_shelf x = simp (shelf_is, at_set, at_put_other, at_put, rows_put, lt-ltb _ _ hg, s_low, ne_eqb _ _ some, neither)

  pub pushed_next : (x : ℕ) → next_at (pushed m s g f) x ≡ cond (eqb x g) f (next_at m x)
  pushed_next x = simp (next_is, at_set, at_put_other, at_put, rows_put, lt-ltb _ _ hg, lt-ltb _ _ hf, s_low, ne_eqb _ _ some, neither)

  pub pushed_previous : (x : ℕ) → x ≢ 0 → previous_at (pushed m s g f) x ≡ cond (eqb x g) 0 (cond (eqb x f) g (previous_at m x))
  pushed_previous x u = simp (previous_is, at_set, at_put_other, at_put, rows_put, lt-ltb _ _ hg, lt-ltb _ _ hf, none_low, s_low, ne_eqb _ _ u)

  pub pushed_first : (t : ℕ) → first_at (pushed m s g f) t ≡ cond (eqb t s) g (first_at m t)
  pushed_first t = simp (first_set, first_put, rows_put, lt-ltb _ _ hg)

-- a good taken out
module _ (m : List ℕ) (s g p n : ℕ) (hs : outside s 1025 ≡ false) (some : g ≢ 0) (hg : g < rows m) (hp : p < rows m) (hn : n < rows m) where
  abbrev begun : List ℕ
  begun = cond (eqb p 0) (set m s n) m

  begun_rows : rows begun ≡ rows m
  begun_rows = let e = rows_so m (set m s n) (length-set m s n) in grind (arith, nat_tests)

  begun_at : (x k : ℕ) → at begun x k ≡ at m x k
  begun_at x k = let e = at_set m s n x k (s_low m s g n hs some hg hn) in grind (arith, nat_tests)

  begun_first : (t : ℕ) → first_at begun t ≡ cond (eqb p 0 && eqb t s) n (first_at m t)
  begun_first t = let e = first_set m s n t hs (lt-ltb _ _ hn) in grind (arith, nat_tests)

  pub unlinked_shelf : (x : ℕ) → shelf_at (unlinked m s g p n) x ≡ cond (eqb x g) 0 (shelf_at m x)
  unlinked_shelf x = simp (shelf_is, at_put_other, at_put, rows_put, begun_rows, begun_at, lt-ltb _ _ hg, ne_eqb _ _ some, neither)

  pub unlinked_next : (x : ℕ) → x ≢ 0 → next_at (unlinked m s g p n) x ≡ cond (eqb x g) 0 (cond (eqb x p) n (next_at m x))
  unlinked_next x u = simp (next_is, at_put_other, at_put, rows_put, begun_rows, begun_at, lt-ltb _ _ hg, lt-ltb _ _ hp, lt-ltb _ _ hn, none_low m s g n hs some hg hn, ne_eqb _ _ u)

  pub unlinked_previous : (x : ℕ) → x ≢ 0 → previous_at (unlinked m s g p n) x ≡ cond (eqb x g) 0 (cond (eqb x n) p (previous_at m x))
  unlinked_previous x u = simp (previous_is, at_put_other, at_put, rows_put, begun_rows, begun_at, lt-ltb _ _ hg, lt-ltb _ _ hp, lt-ltb _ _ hn, none_low m s g n hs some hg hn, ne_eqb _ _ u)

  pub unlinked_first : (t : ℕ) → first_at (unlinked m s g p n) t ≡ cond (eqb p 0 && eqb t s) n (first_at m t)
  unlinked_first t = simp (first_put, begun_first)
