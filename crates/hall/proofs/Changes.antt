-- What every change puts: the goods that it moves and the one that comes, each of them once.
use Rattle.std.proofs.Common.{◌≡◌, ℕ, ◌+◌, true, false, not, ◌&&◌, eqb, List, [], ◌∷◌, ◌++◌, length, refl, ap, ◌∙◌, arith}
use Rattle.std.specs.List.{AllByRecursion as All}
use Rattle.std.proofs.lemmas.Bool.Decides.{nat_tests}
use Rattle.words.proofs.Cases.{by_test}
use Rattle.hall.specs.House.{or, every, any, each, has, distinct, Spot, Store, goods, moved, Command, comes, goes, shelf_comes, shelf_goes, where_is, refusal, fewest, goods_after, Move, put_spot, put_all, left_spots, after}
use Rattle.hall.specs.Greedy.{at, goods_of}
use Rattle.hall.specs.Claims.{once, changes, Changed, arrivals, PutsCount}
use Rattle.hall.proofs.Lists.{count, all_has, all_from_has}
use Rattle.hall.proofs.Sets.{count_same_on, count_all, has_append, has_one, has_those, sets_has, count_at, count_split, count_none_of, count_meet}
use Rattle.hall.proofs.Loads.{Fine, fine_parts}
use Rattle.hall.proofs.Moving.{moved_count, length_each}
use Rattle.hall.proofs.Lower.{May, may_parts}
use Rattle.hall.proofs.Puts.{put_at, without_goods, without_at}
use Rattle.hall.proofs.Ends.{changes_at}
use Rattle.hall.proofs.Whole.{fewest_right}

-- the goods that are put
abbrev pub put_of : List Move → List ℕ
put_of ms = each (λ m. m.good) ms

put_has : (ps : List Spot) (g k h : ℕ) → has (goods_of (put_spot ps g k)) h ≡ or (has (goods_of ps) h) (eqb h g)
unfolding any each put_spot
put_has [] g k h = grind arith
put_has (p ∷ ps) g k h = let ih = put_has ps g k h in grind (arith, nat_tests)

pub all_put_has : (ms : List Move) (ps : List Spot) (g : ℕ) → has (goods_of (put_all ps ms)) g ≡ or (has (goods_of ps) g) (has (put_of ms) g)
unfolding any each put_all
all_put_has [] ps g = grind arith
all_put_has (m ∷ ms) ps g = let ih = all_put_has ms (put_spot ps m.good m.to) g in let a = put_has ps m.good m.to g in grind arith

-- a good that isn't put stays where it is, and one that is put is where it was put, if once
pub all_put_away : (ms : List Move) (ps : List Spot) (g : ℕ) → has (put_of ms) g ≡ false → at (put_all ps ms) g ≡ at ps g
unfolding any each put_all
all_put_away [] ps g h = refl
all_put_away (m ∷ ms) ps g h =
    let ih : at (put_all (put_spot ps m.good m.to) ms) g ≡ at (put_spot ps m.good m.to) g = all_put_away ms (put_spot ps m.good m.to) g (grind arith) in
    ih ∙ put_at ps m.good m.to g ∙ grind (arith, nat_tests)

pub all_put_to : (ms : List Move) (ps : List Spot) → once ms ≡ true → All (λ m. at (put_all ps ms) m.good ≡ m.to) ms
unfolding each distinct put_all
all_put_to [] ps o = tt
all_put_to (m ∷ ms) ps o = (
  all_put_away ms (put_spot ps m.good m.to) m.good (grind arith) ∙ put_at ps m.good m.to m.good ∙ grind (arith, nat_tests),
  all_put_to ms (put_spot ps m.good m.to) (grind arith),
)

-- so it isn't where it was, if it wasn't put where it stood
put_apart : (ms : List Move) (ps qs : List Spot) → All (λ m. at qs m.good ≡ m.to) ms → every (changes ps) ms ≡ true →
    All (λ g. has (goods_of ps) g ≡ true → eqb (at ps g) (at qs g) ≡ false) (put_of ms)
unfolding each every
put_apart [] ps qs a h = tt
put_apart (m ∷ ms) ps qs a h = (
  (λ e. let b = changes_at ps m e in let c = a.0 in grind (arith, nat_tests)),
  put_apart ms ps qs a.1 (grind arith),
)

-- what is there before anything is put was there
left_at : (s : Store) (c : Command) (g : ℕ) → has (goods_of (left_spots s c)) g ≡ true → (has (goods s) g ≡ true) × (at (left_spots s c) g ≡ at s.spots g)
unfolding left_spots
left_at s (comes x) g h = (h, refl)
left_at s (goes x) g h =
    let a : has (goods_of (left_spots s (goes x))) g ≡ (has (goods s) g && not (eqb g x)) = ap (λ gs. has gs g) (without_goods x s.spots) ∙ has_those _ (goods s) g in
    (grind arith, without_at x g s.spots (grind arith))
left_at s (shelf_comes k) g h = (h, refl)
left_at s (shelf_goes k) g h = (h, refl)
left_at s (where_is x) g h = (h, refl)

left_stays : (s : Store) (c : Command) (g : ℕ) → has (goods_after s c) g ≡ true → has (goods s) g ≡ true → has (goods_of (left_spots s c)) g ≡ true
unfolding left_spots goods_after
left_stays s (comes x) g h e = e
left_stays s (goes x) g h e = ap (λ gs. has gs g) (without_goods x s.spots) ∙ h
left_stays s (shelf_comes k) g h e = e
left_stays s (shelf_goes k) g h e = e
left_stays s (where_is x) g h e = e

-- of goods that have to be there then, with those among them that were not, as many were not as come
new_count : (s : Store) (c : Command) (gs : List ℕ) → distinct gs ≡ true → refusal s c ≡ 0 → ((g : ℕ) → has gs g ≡ true → has (goods_after s c) g ≡ true) →
    ((g : ℕ) → has (goods_after s c) g ≡ true → has (goods s) g ≡ false → has gs g ≡ true) → count (λ g. true && not (has (goods s) g)) gs ≡ arrivals c
unfolding goods_after arrivals refusal
new_count s (comes x) gs d r h i =
    let out : has (goods s) x ≡ false = grind arith in
    let e : (g : ℕ) → has (goods s ++ x ∷ []) g ≡ or (has (goods s) g) (eqb g x) = λ g. has_append (goods s) (x ∷ []) g ∙ ap (or (has (goods s) g)) (has_one x g) in
    count_same_on _ (λ g. true && eqb g x) gs (all_from_has _ gs (λ g j. let a = h g j in let b = e g in grind (arith, nat_tests)))
    ∙ count_at (λ g. true) x gs d (i x (grind (arith, nat_tests, e x)) out)
new_count s (goes x) gs d r h i = count_none_of _ gs (all_from_has _ gs (λ g j. let a = has_those (λ j. not (eqb j x)) (goods s) g in let b = h g j in grind arith))
new_count s (shelf_comes k) gs d r h i = count_none_of _ gs (all_from_has _ gs (λ g j. ap not (h g j)))
new_count s (shelf_goes k) gs d r h i = count_none_of _ gs (all_from_has _ gs (λ g j. ap not (h g j)))
new_count s (where_is x) gs d r h i = count_none_of _ gs (all_from_has _ gs (λ g j. ap not (h g j)))

module _ (s : Store) (c : Command) (ms : List Move) (F : Fine s) (M : May s c (after s c ms)) (o : once ms ≡ true) (ch : every (changes (left_spots s c)) ms ≡ true) where
  pub put_there : (g : ℕ) → has (put_of ms) g ≡ true → has (goods_after s c) g ≡ true
  put_there g h = let a = all_put_has ms (left_spots s c) g in let b = sets_has _ _ M.has_goods g in grind arith

  -- moved and put is the same of a good that was there
  pub moved_put : (g : ℕ) → has (goods s) g ≡ true →
      (has (goods (after s c ms)) g && not (eqb (at s.spots g) (at (put_all (left_spots s c) ms) g))) ≡ (has (put_of ms) g && true)
  moved_put g i =
      let a = all_put_has ms (left_spots s c) g in
      let l = left_at s c g in
      by_test (has (put_of ms) g)
      (λ e. let b = left_stays s c g (put_there g e) i in
      let x = (l b).1 in
      let d = all_has _ (put_of ms) g (put_apart ms (left_spots s c) (put_all (left_spots s c) ms) (all_put_to ms (left_spots s c) o) ch) e b in
      grind (arith, nat_tests))
      (λ e. let b = all_put_away ms (left_spots s c) g e in
      by_test (has (goods_of (left_spots s c)) g) (λ q. let x = (l q).1 in grind (arith, nat_tests)) (λ q. grind (arith, nat_tests)))

  -- what has to be there then and was not is put
  pub put_coming : (g : ℕ) → has (goods_after s c) g ≡ true → has (goods s) g ≡ false → has (put_of ms) g ≡ true
  put_coming g h e =
      let a = all_put_has ms (left_spots s c) g in
      let b = sets_has _ _ M.has_goods g in
      by_test (has (goods_of (left_spots s c)) g) (λ q. let x = (left_at s c g q).0 in grind arith) (λ q. grind arith)

  pub put_moved : refusal s c ≡ 0 → length ms ≡ arrivals c + length (moved s (after s c ms))
  put_moved r =
      let a = moved_count s (after s c ms) in
      let b : count (λ g. has (goods (after s c ms)) g && not (eqb (at s.spots g) (at (put_all (left_spots s c) ms) g))) (goods s) ≡ count (λ g. has (put_of ms) g && true) (goods s) =
      count_same_on _ _ (goods s) (all_from_has _ (goods s) moved_put) in
      let d = count_meet (λ g. true) (goods s) (put_of ms) F.goods_once o in
      let e : count (λ g. has (goods s) g && true) (put_of ms) ≡ count (λ g. true && has (goods s) g) (put_of ms) =
      count_same_on _ _ (put_of ms) (all_from_has _ (put_of ms) (λ g i. grind arith)) in
      omega (arith, count_split (λ g. true) (has (goods s)) (put_of ms), count_all (put_of ms), length_each (λ m. m.good) ms, new_count s c (put_of ms) o r put_there put_coming)

pub puts_count : PutsCount
unfolding Changed
puts_count s c ms f l r a C =
    let M = may_parts s c (after s c ms) C.0 in
    let u = fewest_right s c f l r a in
    let x = C.3 u.1.0 u.1.1 in
    let y = u.1.2 in
    let z = u.0 (after s c ms) C.0 in
    let e : length (moved s (after s c ms)) ≡ fewest s c = omega arith in
    (e, put_moved s c ms (fine_parts s f) M C.1 C.2 r ∙ ap (λ n. arrivals c + n) e)
