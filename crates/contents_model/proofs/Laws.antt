-- The laws of specs/Laws.
use Rattle.std.proofs.Common.{◌≡◌, ℕ, ◌+◌, ◌-◌, ◌*◌, ◌<◌, ◌≤◌, Bool, true, false, cond, eqb, ◌≢◌, ◌⊎◌, List, length, get_or, set, replicate, refl, ap, ◌∙◌, inl, inr, arith}
use Rattle.std.proofs.lemmas.List.{get_or_past, get_or-replicate, length-replicate}
use Rattle.std.proofs.lemmas.Bool.{cond-true, cond-false, eq-eqb, ne_eqb}
use Rattle.std.proofs.lemmas.Bool.Decides.{nat_tests}
use Rattle.words.specs.Small.{Small}
use Rattle.words.proofs.Laws.{small_set}
use Rattle.words.proofs.Cases.{by_test, by_order, by_same}
use Rattle.contents_model.specs.Model.{rows, slot, outside, field, head, shelf_at, first_at, next_at, previous_at, pushed, refuses, add_at, unlinked, remove_at, walk}
use Rattle.contents_model.specs.Sound.{Sound}
use Rattle.contents_model.specs.Laws.{EmptyLaw, Placed, Fits, AddLaw, AddKeeps, RemoveLaw, FirstLaw, NextLaw, Chain, KeptLaw, BoundsLaw, RowsLaw, StillLaw, times}
use Rattle.contents_model.proofs.Links.{add_linked, remove_linked}
use Rattle.contents_model.proofs.Totals.{total, total_same, total_move, length_total}
use Rattle.contents_model.proofs.Turns.{walk_short}
use Rattle.contents_model.proofs.Walks.{first_some, walk_each, walk_linked}
use Rattle.contents_model.proofs.Words.{rows_so, Long, Any, long_set, keep_pushed, keep_unlinked, keep_add, keep_remove, pushed_shelf, pushed_next, pushed_previous, pushed_first, unlinked_shelf, unlinked_next, unlinked_previous, unlinked_first}

pub rows_law : RowsLaw
unfolding rows
rows_law m e = omega arith

-- what is read of any memory
shelf_below : (m : List ℕ) (g : ℕ) → shelf_at m g < 1025
unfolding shelf_at
shelf_below m g = grind (arith, nat_tests)

first_below : (m : List ℕ) (s : ℕ) → first_at m s ≤ rows m - 1
unfolding first_at
first_below m s = grind (arith, nat_tests)

next_below : (m : List ℕ) (g : ℕ) → next_at m g ≤ rows m - 1
unfolding next_at
next_below m g = grind (arith, nat_tests)

previous_below : (m : List ℕ) (g : ℕ) → previous_at m g ≤ rows m - 1
unfolding previous_at
previous_below m g = grind (arith, nat_tests)

has_row : (m : List ℕ) (g : ℕ) → shelf_at m g ≢ 0 → (0 < g) × (g < rows m)
unfolding shelf_at field
has_row m g u = (grind (arith, nat_tests), grind (arith, nat_tests))

-- slot 0 is no good and no shelf
no_good : (m : List ℕ) → shelf_at m 0 ≡ 0
unfolding shelf_at field
no_good m = grind (arith, nat_tests)

no_next : (m : List ℕ) → next_at m 0 ≡ 0
unfolding next_at field
no_next m = grind (arith, nat_tests)

no_previous : (m : List ℕ) → previous_at m 0 ≡ 0
unfolding previous_at field
no_previous m = grind (arith, nat_tests)

no_first : (m : List ℕ) → first_at m 0 ≡ 0
unfolding first_at head
no_first m = grind (arith, nat_tests)

-- a memory of zeros
zeros : (n p : ℕ) → ◌≡◌ {A = ℕ} (get_or (replicate n 0) p 0) 0
zeros n p = by_order p n (get_or-replicate n p 0 0) (λ h. get_or_past (replicate n 0) p 0 (omega (arith, length-replicate {A = ℕ} n 0)))

module _ (n k : ℕ) where
  empty_shelf : shelf_at (replicate n 0) k ≡ 0
  unfolding shelf_at field
  empty_shelf = let z = zeros n (1025 + 3 * k + 0) in grind (arith, nat_tests)

  empty_next : next_at (replicate n 0) k ≡ 0
  unfolding next_at field
  empty_next = let z = zeros n (1025 + 3 * k + 1) in grind (arith, nat_tests)

  empty_previous : previous_at (replicate n 0) k ≡ 0
  unfolding previous_at field
  empty_previous = let z = zeros n (1025 + 3 * k + 2) in grind (arith, nat_tests)

  empty_first : first_at (replicate n 0) k ≡ 0
  unfolding first_at head
  empty_first = let z = zeros n k in grind (arith, nat_tests)

pub empty_law : EmptyLaw
empty_law n = (
  record {
    rank = λ g. 0;
    top = 0;
    linked = record {
      bounded = λ g. omega arith;
      falls = λ g u v. absurd (u (empty_shelf n g));
      after = λ g u v. absurd (u (empty_shelf n g));
      before = λ g u v. absurd (u (empty_shelf n g));
      loose = λ g z. (empty_next n g, empty_previous n g);
      begins = λ g u v. absurd (u (empty_shelf n g));
      leads = λ s u. absurd (u (empty_first n s));
    };
  },
  empty_shelf n,
)

-- goods of a sound memory
pub first_law : FirstLaw
first_law m sound =
    record {
      on = λ s u. (sound.linked.leads s (λ z. omega arith)).0;
      some = λ g u. (let h = first_some sound.linked (no_good m) g (λ z. omega arith) in omega arith);
    }

pub next_law : NextLaw
next_law m g sound =
    let none : shelf_at m g ≡ 0 → next_at m g ≡ 0 = λ z. (sound.linked.loose g z).0 in
    record { on = λ u. (sound.linked.after g (λ z. omega (arith, none z)) (λ z. omega arith)).0; none = none }

module _ (m : List ℕ) (s : ℕ) (sound : Sound m) (some : 0 < s) where
  pub walk_law : (g : ℕ) → times (walk m s) g ≡ cond (eqb (shelf_at m g) s) 1 0
  unfolding walk
  walk_law =
      walk_each sound.linked (no_good m) s (rows m) (λ z. omega arith) (λ g u. (has_row m g u).1)

  pub chain_law : Chain (next_at m) (previous_at m) 0 (first_at m s) (walk m s)
  unfolding walk
  chain_law =
      walk_linked sound.linked (no_good m) s (rows m) (λ z. omega arith) (λ g u. (has_row m g u).1)

  past : (g : ℕ) → rows m ≤ g → shelf_at m g ≢ s
  past g h e = omega (arith, (has_row m g (λ z. omega arith)).1)

  -- the walk is as long as there are goods of the shelf
  walk_length : length (walk m s) ≡ total (rows m) (λ g. cond (eqb (shelf_at m g) s) 1 0)
  walk_length =
      length_total (rows m) (walk m s) (λ g h. walk_law g ∙ cond-false _ _ _ (ne_eqb _ _ (past g h)))
      ∙ total_same (rows m) _ _ (λ g h. walk_law g)

-- a memory in which one good's shelf is another
placed : (m n : List ℕ) (g s : ℕ) → Sound m → Sound n → rows n ≡ rows m → g < rows m → ((x : ℕ) → shelf_at n x ≡ cond (eqb x g) s (shelf_at m x)) → Placed m n g s
placed m n g s before after same low new =
    record { sound = after; here = here; others = others; count = count }
  where
    here : shelf_at n g ≡ s
    here = new g ∙ cond-true _ _ _ (eq-eqb g g refl)

    others : (x : ℕ) → x ≢ g → shelf_at n x ≡ shelf_at m x
    others x ne = new x ∙ cond-false _ _ _ (ne_eqb _ _ ne)

    count : (t : ℕ) → 0 < t → length (walk n t) + cond (eqb (shelf_at m g) t) 1 0 ≡ length (walk m t) + cond (eqb s t) 1 0
    count t some =
        let moved = total_move (rows m) g (λ x. cond (eqb (shelf_at m x) t) 1 0) (λ x. cond (eqb (shelf_at n x) t) 1 0) low (λ x ne. ap (λ (y : ℕ). cond (eqb y t) 1 0) (others x ne)) in
        rw (walk_length n t after some, walk_length m t before some, same) (moved ∙ ap (λ (y : ℕ). total (rows m) (λ x. cond (eqb (shelf_at m x) t) 1 0) + cond (eqb y t) 1 0) here)

-- a good comes
module _ (m : List ℕ) (s g : ℕ) (sound : Sound m) (fits : Fits m s g) where
  abbrev n : List ℕ
  n = pushed m s g (first_at m s)

  added_is : add_at m s g ≡ n
  unfolding add_at
  added_is =
      let a = fits.some_shelf in let b = fits.shelf_below in let c = fits.some_good in let d = fits.good_below in let e = fits.free in
      let h : refuses m s g ≡ false = grind (arith, nat_tests) in cond-false _ _ _ h

  inside : outside s 1025 ≡ false
  inside = let a = fits.some_shelf in let b = fits.shelf_below in grind (arith, nat_tests)

  some_g : g ≢ 0
  some_g z = omega (arith, fits.some_good)

  first_low : first_at m s < rows m
  first_low = omega (arith, first_below m s, fits.good_below)

  new_shelf : (x : ℕ) → shelf_at n x ≡ cond (eqb x g) s (shelf_at m x)
  new_shelf = pushed_shelf m s g (first_at m s) inside some_g fits.good_below first_low

  pushed_sound : Sound n
  pushed_sound =
      record {
        rank = _;
        top = _;
        linked = add_linked sound.linked
            (no_good m) (no_previous n) (no_first m) (λ z. omega (arith, fits.some_shelf)) some_g fits.free new_shelf
            (pushed_next m s g (first_at m s) inside some_g fits.good_below first_low)
            (pushed_previous m s g (first_at m s) inside some_g fits.good_below first_low)
            (pushed_first m s g (first_at m s) inside some_g fits.good_below first_low);
      }

pub add_law : AddLaw
add_law m s g sound fits =
    rw (added_is m s g sound fits) (placed m (pushed m s g (first_at m s)) g s sound (pushed_sound m s g sound fits)
    (rows_so m _ (keep_pushed (Long m) Any tt (long_set m) m s g (first_at m s) tt tt tt refl)) fits.good_below (new_shelf m s g sound fits))

refused : (m : List ℕ) (s g : ℕ) → refuses m s g ≡ true → add_at m s g ≡ m
unfolding add_at
refused m s g h = cond-true _ _ _ h

taken : (m : List ℕ) (s g : ℕ) → refuses m s g ≡ false → Fits m s g
taken m s g h =
    record { some_shelf = grind (arith, nat_tests); shelf_below = grind (arith, nat_tests); some_good = grind (arith, nat_tests); good_below = grind (arith, nat_tests); free = grind (arith, nat_tests) }

pub add_keeps : AddKeeps
add_keeps m s g sound = by_test (refuses m s g) (λ h. rw (refused m s g h) sound) (λ h. (add_law m s g sound (taken m s g h)).sound)

-- a good goes
module _ (m : List ℕ) (g : ℕ) (sound : Sound m) (stands : shelf_at m g ≢ 0) where
  abbrev p : ℕ
  p = previous_at m g

  abbrev q : ℕ
  q = next_at m g

  abbrev o : List ℕ
  o = unlinked m (shelf_at m g) g p q

  removed_is : remove_at m g ≡ o
  unfolding remove_at
  removed_is = cond-false _ _ _ (ne_eqb _ _ stands)

  on_one : outside (shelf_at m g) 1025 ≡ false
  on_one = let a = shelf_below m g in grind (arith, nat_tests)

  some_row : g ≢ 0
  some_row z = omega (arith, (has_row m g stands).0)

  row_low : g < rows m
  row_low = (has_row m g stands).1

  p_low : p < rows m
  p_low = omega (arith, previous_below m g, row_low)

  q_low : q < rows m
  q_low = omega (arith, next_below m g, row_low)

  unlinked_sound : Sound o
  unlinked_sound =
      record {
        rank = sound.rank;
        top = sound.top;
        linked = remove_linked sound.linked
            (no_good m) (no_next o) (no_previous o) stands
            (unlinked_shelf m (shelf_at m g) g p q on_one some_row row_low p_low q_low)
            (unlinked_next m (shelf_at m g) g p q on_one some_row row_low p_low q_low)
            (unlinked_previous m (shelf_at m g) g p q on_one some_row row_low p_low q_low)
            (unlinked_first m (shelf_at m g) g p q on_one some_row row_low p_low q_low);
      }

  unlinked_placed : Placed m o g 0
  unlinked_placed =
      placed m o g 0 sound unlinked_sound (rows_so m o (keep_unlinked (Long m) Any tt (long_set m) m (shelf_at m g) g p q tt tt refl)) row_low
      (unlinked_shelf m (shelf_at m g) g p q on_one some_row row_low p_low q_low)

not_there : (m : List ℕ) (g : ℕ) → shelf_at m g ≡ 0 → remove_at m g ≡ m
unfolding remove_at
not_there m g z = cond-true _ _ _ (eq-eqb _ _ z)

pub remove_law : RemoveLaw
remove_law m g sound =
    by_same (shelf_at m g) 0
    (λ z. rw (not_there m g z) (record { sound = sound; here = z; others = λ x ne. refl; count = λ t some. ap (λ (y : ℕ). length (walk m t) + cond (eqb y t) 1 0) z }))
    (λ u. rw (removed_is m g sound u) (unlinked_placed m g sound u))

-- lengths and words of 64 bits
abbrev Fit : ℕ → Type 0
Fit v = v < 18446744073709551616

fit_set : (m : List ℕ) (k v : ℕ) → Fit v → Small m → Small (set m k v)
fit_set m k v h small = small_set m k v small h

slot_fits : (m : List ℕ) (p l : ℕ) (t : Bool) → Small m → Fit (slot (cond t 0 (get_or m p 0)) l)
unfolding Small
slot_fits m p l t h = let a = h p in grind (arith, nat_tests)

module _ (m : List ℕ) (k : ℕ) (small : Small m) where
  first_fits : Fit (first_at m k)
  unfolding first_at head
  first_fits = slot_fits m k (rows m) (outside k 1025) small

  next_fits : Fit (next_at m k)
  unfolding next_at field
  next_fits = slot_fits m (1025 + 3 * k + 1) (rows m) (outside k (rows m)) small

  previous_fits : Fit (previous_at m k)
  unfolding previous_at field
  previous_fits = slot_fits m (1025 + 3 * k + 2) (rows m) (outside k (rows m)) small

pub bounds_law : BoundsLaw
bounds_law m k =
    record {
      shelf = shelf_below m k;
      first = first_below m k;
      next = next_below m k;
      walk = walk_short m k;
      first_fits = first_fits m k;
      next_fits = next_fits m k;
      good = λ u. has_row m k (λ z. omega arith);
    }

pub kept_law : KeptLaw
kept_law m =
    record {
      add_long = add_long;
      add = λ s g b. record { long = add_long s g; small = λ h. keep_add Small Fit (omega arith) fit_set m s g (λ c. omega arith) b (first_fits m s h) h };
      remove = λ g. record {
        long = keep_remove (Long m) Any tt (long_set m) m g tt tt refl;
        small = λ h. keep_remove Small Fit (omega arith) fit_set m g (previous_fits m g h) (next_fits m g h) h;
      };
    }
  where
    add_long : (s g : ℕ) → length (add_at m s g) ≡ length m
    add_long s g = keep_add (Long m) Any tt (long_set m) m s g (λ c. tt) tt tt refl

pub still_law : StillLaw
still_law m s g =
    record {
      no_shelf = λ h. refused m s g (no_shelf h);
      no_good = λ h. refused m s g (no_row h);
      elsewhere = λ u. refused m s g (grind (arith, nat_tests));
      nowhere = not_there m g;
    }
  where
    no_shelf : (s ≡ 0) ⊎ (1025 ≤ s) → refuses m s g ≡ true
    no_shelf (inl z) = grind (arith, nat_tests)
    no_shelf (inr h) = grind (arith, nat_tests)

    no_row : (g ≡ 0) ⊎ (rows m ≤ g) → refuses m s g ≡ true
    no_row (inl z) = grind (arith, nat_tests)
    no_row (inr h) = grind (arith, nat_tests)
