-- No store that may be so has fewer goods moved.
use Rattle.std.proofs.Common.{◌≡◌, ℕ, zero, suc, ◌+◌, ◌/◌, ◌<◌, ◌≤◌, true, false, not, ◌&&◌, eqb, [], ◌∷◌, ◌++◌, length, sym, refl, ◌∙◌, arith, length-append}
use Rattle.std.proofs.lemmas.Bool.Decides.{nat_tests}
use Rattle.std.proofs.lemmas.Bool.{eqb-true}
use Rattle.words.proofs.Cases.{by_test}
use Rattle.hall.specs.House.{those, has, same_set, Store, goods, load, moved, fine, level, Command, comes, goes, shelf_comes, shelf_goes, where_is, refusal, may_be, fewest, goods_after, shelves_after, is_full}
use Rattle.hall.specs.Greedy.{at}
use Rattle.hall.specs.Claims.{FewestLower}
use Rattle.hall.proofs.Lists.{bit, count, all_has, all_from_has, count_le}
use Rattle.hall.proofs.Sets.{count_same_on, count_those, has_append, has_one, has_those, count_sets, sets_length, sets_has, distinct_those, distinct_push, count_at, count_split, count_zero, any_has}
use Rattle.hall.proofs.Loads.{Fine, fine_parts, level_at, level_loads}
use Rattle.hall.proofs.Moving.{moved_count, load_count, at_placed, length_each}

pub record May (s : Store) (c : Command) (t : Store) : Type 0 where
  pub is_fine : fine t ≡ true
  pub is_level : level t ≡ true
  pub has_goods : same_set (goods t) (goods_after s c) ≡ true
  pub has_shelves : same_set t.shelves (shelves_after s c) ≡ true

pub may_parts : (s : Store) (c : Command) (t : Store) → may_be s c t ≡ true → May s c t
may_parts s c t h = record { is_fine = grind arith; is_level = grind arith; has_goods = grind arith; has_shelves = grind arith }

lower_shelf_goes : (s t : Store) (k : ℕ) → Fine s → Fine t → May s (shelf_goes k) t → load s k ≤ length (moved s t)
unfolding goods_after shelves_after
lower_shelf_goes s t k F G M =
    rw (load_count s k F.goods_once, moved_count s t)
    (count_le _ _ (goods s) (all_from_has _ (goods s) (λ g i e.
    let a : has (goods t) g ≡ true = sets_has (goods t) (goods s) M.has_goods g ∙ i in
    let b = at_placed t g G a in
    let c = sets_has t.shelves _ M.has_shelves (at t.spots g) in
    let d = has_those (λ j. not (eqb j k)) s.shelves (at t.spots g) in
    grind (arith, nat_tests))))

module _ (s t : Store) (k : ℕ) (F : Fine s) (G : Fine t) (M : May s (shelf_comes k) t) (out : has s.shelves k ≡ false) where
  -- the new shelf has its share, and all of it is moved
  pub new_share : length s.spots / suc (length s.shelves) ≤ load t k
  unfolding goods_after shelves_after
  new_share =
      let e : has t.shelves k ≡ true = sets_has t.shelves _ M.has_shelves k ∙ has_append s.shelves (k ∷ []) k ∙ grind (arith, nat_tests, has_one k k) in
      let a = (level_loads t k M.is_fine M.is_level e).0 in
      let b : length t.spots ≡ length s.spots =
      omega (arith, sets_length (goods t) (goods s) G.goods_once F.goods_once M.has_goods, length_each (λ p. p.good) s.spots, length_each (λ p. p.good) t.spots) in
      let c : length t.shelves ≡ suc (length s.shelves) =
      omega (arith, sets_length t.shelves (s.shelves ++ k ∷ []) G.shelves_once (distinct_push s.shelves k F.shelves_once out) M.has_shelves, length-append s.shelves (k ∷ [])) in
      rw (b, c) at a

  pub new_moved : load t k ≤ length (moved s t)
  unfolding goods_after
  new_moved =
      rw (load_count t k G.goods_once, count_sets (λ g. eqb (at t.spots g) k) (goods t) (goods s) G.goods_once F.goods_once M.has_goods, moved_count s t)
      (count_le _ _ (goods s) (all_from_has _ (goods s) (λ g i q.
      let x : has (goods t) g ≡ true = sets_has (goods t) (goods s) M.has_goods g ∙ i in
      let y = at_placed s g F i in
      grind (arith, nat_tests))))

-- with nothing moved a shelf loses what goes, and no more
kept_load : (s t : Store) (g k : ℕ) → Fine s → Fine t → May s (goes g) t → has (goods s) g ≡ true → length (moved s t) ≡ 0 →
    load s k ≡ bit (eqb (at s.spots g) k) + load t k
unfolding goods_after
kept_load s t g k F G M h z =
    let a = load_count s k F.goods_once in
    let b = count_split (λ j. eqb (at s.spots j) k) (λ j. eqb j g) (goods s) in
    let c = count_at (λ j. eqb (at s.spots j) k) g (goods s) F.goods_once h in
    let d = load_count t k G.goods_once in
    let e = count_sets (λ j. eqb (at t.spots j) k) (goods t) (those (λ j. not (eqb j g)) (goods s)) G.goods_once (distinct_those _ (goods s) F.goods_once) M.has_goods in
    let w = count_those (λ j. eqb (at t.spots j) k) (λ j. not (eqb j g)) (goods s) in
    let still = count_zero (λ j. has (goods t) j && not (eqb (at s.spots j) (at t.spots j))) (goods s) (sym (moved_count s t) ∙ z) in
    let v : count (λ j. not (eqb j g) && eqb (at t.spots j) k) (goods s) ≡ count (λ j. eqb (at s.spots j) k && not (eqb j g)) (goods s) =
    count_same_on _ _ (goods s) (all_from_has _ (goods s) (λ j i.
    let x = sets_has (goods t) _ M.has_goods j ∙ has_those (λ j. not (eqb j g)) (goods s) j in
    let y = all_has (λ j. (has (goods t) j && not (eqb (at s.spots j) (at t.spots j))) ≡ false) (goods s) j still i in
    grind (arith, nat_tests))) in
    omega arith

lower_goes : (s t : Store) (g : ℕ) → Fine s → Fine t → May s (goes g) t → has (goods s) g ≡ true →
    is_full s (suc (load s (at s.spots g))) ≡ true → 0 < length (moved s t)
unfolding shelves_after
lower_goes s t g F G M h full = go (length (moved s t)) refl
  where
    go : (n : ℕ) → length (moved s t) ≡ n → 0 < n
    go zero z =
        let k = any_has _ s.shelves full in
        let x = kept_load s t g k.0 F G M h z in
        let y = kept_load s t g (at s.spots g) F G M h z in
        let a = level_at t k.0 (at s.spots g) M.is_level
        (sets_has t.shelves s.shelves M.has_shelves k.0 ∙ k.1)
        (sets_has t.shelves s.shelves M.has_shelves (at s.spots g) ∙ at_placed s g F h) in
        let e = eqb-true _ _ k.2 in
        grind (arith, nat_tests)
    go (suc n) z = omega arith

pub fewest_lower : FewestLower
unfolding fewest refusal
fewest_lower s (comes g) f r t m = omega arith
fewest_lower s (goes g) f r t m =
    let M = may_parts s (goes g) t m in
    by_test (is_full s (suc (load s (at s.spots g))))
    (λ e. let z = lower_goes s t g (fine_parts s f) (fine_parts t M.is_fine) M (grind arith) e in rw e z)
    (λ e. rw e (omega arith))
fewest_lower s (shelf_comes k) f r t m =
    let M = may_parts s (shelf_comes k) t m in
    let out : has s.shelves k ≡ false = grind arith in
    let x = new_share s t k (fine_parts s f) (fine_parts t M.is_fine) M out in
    let y = new_moved s t k (fine_parts s f) (fine_parts t M.is_fine) M out in
    grind (arith, nat_tests)
fewest_lower s (shelf_goes k) f r t m =
    let M = may_parts s (shelf_goes k) t m in
    lower_shelf_goes s t k (fine_parts s f) (fine_parts t M.is_fine) M
fewest_lower s (where_is g) f r t m = omega arith
