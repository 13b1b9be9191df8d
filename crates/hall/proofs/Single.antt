-- A good that comes or goes.
use Rattle.std.proofs.Common.{◌≡◌, ℕ, suc, ◌+◌, ◌≤◌, true, false, not, ◌&&◌, eqb, List, [], ◌∷◌, length, sym, refl, ap, ◌∙◌, arith}
use Rattle.std.proofs.lemmas.Bool.Decides.{nat_tests}
use Rattle.std.proofs.lemmas.Bool.{eq-eqb, eqb-true}
use Rattle.words.proofs.Cases.{by_test}
use Rattle.hall.specs.House.{put, pick, or, those, none_of, has, distinct, Spot, Store, goods, load, same_one, moved, comes, goes, may_be, goods_after, shelves_after, is_full, put_spot}
use Rattle.hall.specs.Greedy.{at, goods_of, on, Emptiest}
use Rattle.hall.specs.Claims.{changes}
use Rattle.hall.proofs.Lists.{bit, all_from_has}
use Rattle.hall.proofs.Sets.{count_same_on, has_append, has_one, has_those, distinct_those, distinct_push, count_at, any_has, any_from, count_none_of}
use Rattle.hall.proofs.Loads.{Fine}
use Rattle.hall.proofs.Moving.{moved_count, at_placed, shelf_of_none}
use Rattle.hall.proofs.Puts.{put_goods, put_on, put_at, put_goods_new, put_on_new, without, without_goods, without_at, without_on}
use Rattle.hall.proofs.Ends.{Lev, level_from, fine_from, may_from, changes_at, lev_add, lev_less, lev_off, one_more}

module _ (s : Store) (g : ℕ) (F : Fine s) (v : Lev (on s.spots) s.shelves) (out : has (goods s) g ≡ false) (k : ℕ) (empty : Emptiest s.shelves s.spots k) where
  -- a good comes to an emptiest shelf
  come_placed : (h : ℕ) → has (goods_of (put_spot s.spots g k)) h ≡ true → has s.shelves (at (put_spot s.spots g k) h) ≡ true
  come_placed h e =
      let i : or (has (goods s) h) (eqb h g) ≡ true = grind (arith, rw (put_goods_new s.spots g k out) at e, has_append (goods s) (g ∷ []) h, has_one g h) in
      let p = put_at s.spots g k h in
      let a = empty.0 in
      by_test (eqb g h) (λ q. grind arith) (λ q. let b = at_placed s h F (grind (arith, nat_tests)) in grind arith)

  pub come_may : may_be s (comes g) (record { shelves = s.shelves; spots = put_spot s.spots g k }) ≡ true
  unfolding goods_after shelves_after
  come_may =
      may_from s (comes g) t
      (fine_from t F.shelves_once (ap distinct (put_goods_new s.spots g k out) ∙ distinct_push (goods s) g F.goods_once out) come_placed)
      (level_from t (lev_add (on s.spots) (on (put_spot s.spots g k)) s.shelves k v (λ j. put_on_new s.spots g k j out) empty.1))
      (put_goods_new s.spots g k out) refl
    where
      t : Store
      t = record { shelves = s.shelves; spots = put_spot s.spots g k }

  pub come_moved : length (moved s (record { shelves = s.shelves; spots = put_spot s.spots g k })) ≡ 0
  come_moved =
      moved_count s (record { shelves = s.shelves; spots = put_spot s.spots g k })
      ∙ count_none_of _ (goods s) (all_from_has _ (goods s) (λ h i. let p = put_at s.spots g k h in grind (arith, nat_tests)))

  pub come_changes : changes s.spots (put g k) ≡ true
  unfolding same_one none_of
  come_changes = rw (shelf_of_none s.spots g out) refl

module _ (s : Store) (g : ℕ) (F : Fine s) (v : Lev (on s.spots) s.shelves) (there : has (goods s) g ≡ true) where
  pub go_on : (j : ℕ) → on s.spots j ≡ bit (eqb (at s.spots g) j) + on (without g s.spots) j
  go_on j = without_on g j s.spots F.goods_once there

  pub go_goods_once : distinct (goods_of (without g s.spots)) ≡ true
  go_goods_once = ap distinct (without_goods g s.spots) ∙ distinct_those _ (goods s) F.goods_once

  go_has : (h : ℕ) → has (goods_of (without g s.spots)) h ≡ (has (goods s) h && not (eqb h g))
  go_has h = ap (λ gs. has gs h) (without_goods g s.spots) ∙ has_those _ (goods s) h

  go_at : (h : ℕ) → has (goods_of (without g s.spots)) h ≡ true → at (without g s.spots) h ≡ at s.spots h
  go_at h e = without_at g h s.spots (grind (arith, go_has h))

  go_placed : (h : ℕ) → has (goods_of (without g s.spots)) h ≡ true → has s.shelves (at (without g s.spots) h) ≡ true
  go_placed h e = let a = at_placed s h F (grind (arith, go_has h)) in let b = go_at h e in grind arith

  -- no shelf has two more
  module _ (most : (j : ℕ) → has s.shelves j ≡ true → on (without g s.spots) j ≤ suc (on (without g s.spots) (at s.spots g))) where
    pub go_may : may_be s (goes g) (record { shelves = s.shelves; spots = without g s.spots }) ≡ true
    unfolding goods_after shelves_after
    go_may =
        may_from s (goes g) t
        (fine_from t F.shelves_once go_goods_once go_placed)
        (level_from t (lev_less (on s.spots) (on (without g s.spots)) s.shelves (at s.spots g) v go_on most))
        (without_goods g s.spots) refl
      where
        t : Store
        t = record { shelves = s.shelves; spots = without g s.spots }

    pub go_moved : length (moved s (record { shelves = s.shelves; spots = without g s.spots })) ≡ 0
    go_moved =
        moved_count s (record { shelves = s.shelves; spots = without g s.spots })
        ∙ count_none_of _ (goods s) (all_from_has _ (goods s) (λ h i. let p = go_at h in grind (arith, nat_tests)))

    pub go_none : is_full s (suc (load s (at s.spots g))) ≡ false
    go_none = by_test (is_full s (suc (load s (at s.spots g))))
        (λ e. let k = any_has _ s.shelves e in
        let x = eqb-true _ _ k.2 in
        let y = most k.0 k.1 in
        let z = go_on k.0 in
        let w = go_on (at s.spots g) in
        absurd (grind (arith, nat_tests)))
        (λ e. e)

  -- one of a shelf that has two more comes to that of the good that goes
  module _ (h : ℕ) (in₁ : has (goods_of (without g s.spots)) h ≡ true)
      (two : suc (suc (on (without g s.spots) (at s.spots g))) ≤ on (without g s.spots) (at (without g s.spots) h)) where
    from : ℕ
    from = at (without g s.spots) h

    ends : List Spot
    ends = put_spot (without g s.spots) h (at s.spots g)

    mend_more : (on s.spots from ≡ suc (on s.spots (at s.spots g))) × (eqb from (at s.spots g) ≡ false)
    unfolding from
    mend_more = one_more (on s.spots) (on (without g s.spots)) s.shelves from (at s.spots g) v go_on (go_placed h in₁) (at_placed s g F there) two

    mend_on : (j : ℕ) → on ends j + bit (eqb from j) ≡ on s.spots j
    unfolding from ends
    mend_on j = omega (arith, put_on (without g s.spots) h (at s.spots g) j in₁, go_on j)

    mend_goods : goods_of ends ≡ those (λ j. not (eqb j g)) (goods s)
    unfolding ends
    mend_goods = put_goods (without g s.spots) h (at s.spots g) in₁ ∙ without_goods g s.spots

    mend_at : (j : ℕ) → at ends j ≡ pick (eqb h j) (at s.spots g) (at (without g s.spots) j)
    unfolding ends
    mend_at j = put_at (without g s.spots) h (at s.spots g) j

    mend_placed : (j : ℕ) → has (goods_of ends) j ≡ true → has s.shelves (at ends j) ≡ true
    mend_placed j e =
        let i : has (goods_of (without g s.spots)) j ≡ true = rw (mend_goods ∙ sym (without_goods g s.spots)) at e in
        let a = go_placed j i in
        let b = at_placed s g F there in
        let c = mend_at j in
        grind arith

    pub mend_may : may_be s (goes g) (record { shelves = s.shelves; spots = put_spot (without g s.spots) h (at s.spots g) }) ≡ true
    unfolding goods_after shelves_after ends
    mend_may =
        may_from s (goes g) t
        (fine_from t F.shelves_once (ap distinct mend_goods ∙ distinct_those _ (goods s) F.goods_once) mend_placed)
        (level_from t (lev_off (on s.spots) (on ends) s.shelves from (at s.spots g) v mend_on (at_placed s g F there) mend_more.0))
        mend_goods refl
      where
        t : Store
        t = record { shelves = s.shelves; spots = ends }

    pub mend_moved : length (moved s (record { shelves = s.shelves; spots = put_spot (without g s.spots) h (at s.spots g) })) ≡ 1
    unfolding ends from
    mend_moved =
        moved_count s (record { shelves = s.shelves; spots = ends })
        ∙ count_same_on _ (λ j. true && eqb j h) (goods s) (all_from_has _ (goods s) (λ j i.
        let a = mend_at j in
        let b = mend_more.1 in
        let c : has (goods_of ends) j ≡ (has (goods s) j && not (eqb j g)) = ap (λ gs. has gs j) mend_goods ∙ has_those _ (goods s) j in
        let d = go_at j in
        let e = go_has j in
        grind (arith, nat_tests)))
        ∙ count_at (λ j. true) h (goods s) F.goods_once (grind (arith, go_has h))

    pub mend_full : is_full s (suc (load s (at s.spots g))) ≡ true
    unfolding from
    mend_full = any_from _ s.shelves from (go_placed h in₁) (eq-eqb _ _ mend_more.0)

    pub mend_changes : changes (without g s.spots) (put h (at s.spots g)) ≡ true
    unfolding from
    mend_changes = changes_at (without g s.spots) (put h (at s.spots g)) in₁ ∙ ap not mend_more.1
