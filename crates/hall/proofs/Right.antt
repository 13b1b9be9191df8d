-- Greedy moves are a change, with as few moved as can be.
use Rattle.std.proofs.Common.{◌≡◌, ℕ, suc, ◌/◌, ◌≤◌, Bool, true, false, List, [], ◌∷◌, length, sym, refl, ap, ◌∙◌, subst, arith}
use Rattle.std.proofs.lemmas.Bool.Decides.{nat_tests}
use Rattle.hall.specs.House.{put, every, any, each, has, distinct, Store, goods, moved, fine, level, Command, comes, goes, shelf_comes, shelf_goes, where_is, asks, refusal, may_be, fewest, shelves_after, divided, Move, put_all, left_spots, after}
use Rattle.hall.specs.Greedy.{at, goods_of, on, Greedy}
use Rattle.hall.specs.Claims.{once, changes, Changed, GreedyRight}
use Rattle.hall.proofs.Loads.{Fine, fine_parts}
use Rattle.hall.proofs.Lower.{fewest_lower}
use Rattle.hall.proofs.Puts.{without}
use Rattle.hall.proofs.Ends.{lev_from}
use Rattle.hall.proofs.Fill.{filled_start, filled_end, filled_may, filled_moved, filling_once, filling_changes}
use Rattle.hall.proofs.Empty.{emptied_start, emptied_end, emptied_may, emptied_moved, emptying_once, emptying_changes}
use Rattle.hall.proofs.Single.{come_may, come_moved, come_changes, go_may, go_moved, go_none, mend_may, mend_moved, mend_full, mend_changes}

record Made (s : Store) (c : Command) (ms : List Move) : Type 0 where
  may : may_be s c (after s c ms) ≡ true
  is_once : once ms ≡ true
  all_change : every (changes (left_spots s c)) ms ≡ true
  few : length (moved s (after s c ms)) ≡ fewest s c

once_one : (m : Move) → once (m ∷ []) ≡ true
unfolding each distinct any
once_one m = refl

every_one : {A : Type 0} (f : A → Bool) (x : A) → f x ≡ true → every f (x ∷ []) ≡ true
unfolding every
every_one f x h = rw h refl

every_none : {A : Type 0} (f : A → Bool) → every f [] ≡ true
unfolding every
every_none f = refl

made_comes : (s : Store) (g : ℕ) (ms : List Move) → Fine s → level s ≡ true → has (goods s) g ≡ false → Greedy s (comes g) ms → Made s (comes g) ms
unfolding put_all left_spots shelves_after fewest
made_comes s g ms F l out r =
    rw r.2 (record {
      may = come_may s g F (lev_from s l) out r.0 r.1;
      is_once = once_one _;
      all_change = every_one _ _ (come_changes s g F (lev_from s l) out r.0 r.1);
      few = come_moved s g F (lev_from s l) out r.0 r.1;
    })

made_mend : (s : Store) (g h : ℕ) → Fine s → level s ≡ true → has (goods s) g ≡ true → has (goods_of (without g s.spots)) h ≡ true →
    suc (suc (on (without g s.spots) (at s.spots g))) ≤ on (without g s.spots) (at (without g s.spots) h) →
    Made s (goes g) (put h (at s.spots g) ∷ [])
unfolding put_all left_spots shelves_after fewest
made_mend s g h F l there i two = record {
  may = mend_may s g F (lev_from s l) there h i two;
  is_once = once_one _;
  all_change = every_one _ _ (mend_changes s g F (lev_from s l) there h i two);
  few = mend_moved s g F (lev_from s l) there h i two ∙ rw (mend_full s g F (lev_from s l) there h i two) refl;
}

made_goes : (s : Store) (g : ℕ) (ms : List Move) → Fine s → level s ≡ true → has (goods s) g ≡ true → Greedy s (goes g) ms → Made s (goes g) ms
unfolding put_all left_spots shelves_after fewest each distinct
made_goes s g [] F l there r = record {
  may = go_may s g F (lev_from s l) there r;
  is_once = refl;
  all_change = every_none _;
  few = go_moved s g F (lev_from s l) there r ∙ rw (go_none s g F (lev_from s l) there r) refl;
}
made_goes s g (m ∷ ms) F l there r =
    subst (λ (x : Move). Made s (goes g) (x ∷ ms)) (ap (λ (x : ℕ). put m.good x) (sym r.0))
    (subst (λ (xs : List Move). Made s (goes g) (put m.good (at s.spots g) ∷ xs)) (sym r.3) (made_mend s g m.good F l there r.1 r.2))

made_shelf_comes : (s : Store) (k : ℕ) (ms : List Move) → Fine s → level s ≡ true → has s.shelves k ≡ false → Greedy s (shelf_comes k) ms → Made s (shelf_comes k) ms
unfolding left_spots shelves_after fewest
made_shelf_comes s k ms F l out r =
    let a = filled_start s k F out l in
    let b = filled_end s k F out _ ms s.spots a r in
    let d : divided (length s.spots) (suc (length s.shelves)) ≡ length s.spots / suc (length s.shelves) = grind (arith, nat_tests) in
    record {
      may = filled_may s k F out _ b.0 (b.1 ∙ d);
      is_once = filling_once s k F out _ ms s.spots r;
      all_change = filling_changes s k F out _ ms s.spots refl r;
      few = filled_moved s k F out _ b.0 ∙ b.1;
    }

made_shelf_goes : (s : Store) (k : ℕ) (ms : List Move) → Fine s → level s ≡ true → Greedy s (shelf_goes k) ms → Made s (shelf_goes k) ms
unfolding left_spots shelves_after fewest
made_shelf_goes s k ms F l r =
    let a = emptied_start s k F l in
    let b = emptied_end s k F ms s.spots a r in
    record {
      may = emptied_may s k F _ b.0 b.1;
      is_once = emptying_once s k F ms s.spots r;
      all_change = emptying_changes s k F ms s.spots a r;
      few = emptied_moved s k F _ b.0 b.1;
    }

made : (s : Store) (c : Command) (ms : List Move) → fine s ≡ true → level s ≡ true → refusal s c ≡ 0 → asks c ≡ false → Greedy s c ms → Made s c ms
unfolding refusal asks
made s (comes g) ms f l r a d = made_comes s g ms (fine_parts s f) l (grind arith) d
made s (goes g) ms f l r a d = made_goes s g ms (fine_parts s f) l (grind arith) d
made s (shelf_comes k) ms f l r a d = made_shelf_comes s k ms (fine_parts s f) l (grind arith) d
made s (shelf_goes k) ms f l r a d = made_shelf_goes s k ms (fine_parts s f) l d
made s (where_is g) ms f l r a d = absurd (grind arith)

pub greedy_right : GreedyRight
unfolding Changed
greedy_right s c ms f l r a d =
    let M = made s c ms f l r a d in
    ((M.may, M.is_once, M.all_change, λ t m. let x = fewest_lower s c f r t m in let y = M.few in omega arith), M.few)
