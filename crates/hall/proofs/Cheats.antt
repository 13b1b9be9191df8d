-- A machine that cheats fails at one of a few short lists of commands.
use Rattle.std.proofs.Common.{◌≡◌, ℕ, zero, suc, ◌+◌, ◌<◌, Bool, true, false, ◌&&◌, eqb, ltb, leb, List, [], ◌∷◌, ◌++◌, length, sym, refl, ap, ◌∙◌, arith}
use Rattle.std.proofs.lemmas.Bool.Decides.{nat_tests}
use Rattle.std.proofs.lemmas.Bool.{eqb-true, eq-eqb}
use Rattle.words.proofs.Cases.{by_test}
use Rattle.hall.specs.House.{pick, or, every, any, those, each, none_of, has, distinct, Spot, Store, goods, load, fine, level, Command, comes, shelf_comes, where_is, refusal, goods_after, shelves_after, Move, put, put_spot, put_all, left_spots, after, told, asks}
use Rattle.hall.specs.Greedy.{on, at}
use Rattle.hall.specs.Claims.{Changed}
use Rattle.hall.specs.Promise.{Event, said, next, Act, puts, done, refused, Engine, one_act, runs, number_of, Asked, EitherWay, Right, Whole}
use Rattle.hall.specs.Cheats.{Cheats}
use Rattle.hall.proofs.Sets.{has_append, has_one, sets_has, sets_length}
use Rattle.hall.proofs.Loads.{fine_parts, level_at, loads_sum}
use Rattle.hall.proofs.Moving.{shelf_of_there, at_placed, length_each}
use Rattle.hall.proofs.Lower.{may_parts}
use Rattle.hall.proofs.Ends.{same_from}

by_act : {P : Type 0} (a : Act) → ((g k : ℕ) → a ≡ puts g k → P) → (a ≡ done → P) → ((k : ℕ) → a ≡ refused k → P) → P
by_act (puts g k) p d r = p g k refl
by_act done p d r = d refl
by_act (refused k) p d r = r k refl

-- without done no run ends well
no_end : (e : Engine) → ((m : List ℕ) (ev : Event) → (e.step m ev).act ≡ done → ⊥) → (n : ℕ) (m : List ℕ) (ev : Event) (ms : List Move) → (runs n e m ev ms).end ≡ 0 → ⊥
unfolding runs one_act
no_end e h zero m ev ms q = omega arith
no_end e h (suc n) m ev ms q =
    by_act (e.step m ev).act (λ g k a. no_end e h n (e.step m ev).memory next (ms ++ put g k ∷ []) (rw a at q)) (h m ev)
    (λ k a. let z : pick (leb 1 k && ltb k 1000) k 1001 ≡ 0 = rw a at q in grind (arith, nat_tests))

never_ends : (e : Engine) → ((m : List ℕ) (ev : Event) → (e.step m ev).act ≡ done → ⊥) → Whole e → ⊥
unfolding Whole Right refusal any every number_of
never_ends e h W = let R = W.1 (shelf_comes 1 ∷ []) refl in no_end e h R.0 e.start (said (shelf_comes 1)) [] (R.1.1 refl).0

-- what holds of the moves, and still does with each put that the machine makes, holds of a run's moves
run_keeps : (e : Engine) (Q : List Move → Type 0) → ((m : List ℕ) (ev : Event) (ms : List Move) (g k : ℕ) → (e.step m ev).act ≡ puts g k → Q ms → Q (ms ++ put g k ∷ [])) →
    (n : ℕ) (m : List ℕ) (ev : Event) (ms : List Move) → Q ms → Q (runs n e m ev ms).moves
unfolding runs one_act
run_keeps e Q h zero m ev ms q = q
run_keeps e Q h (suc n) m ev ms q =
    by_act (e.step m ev).act (λ g k a. rw a (run_keeps e Q h n (e.step m ev).memory next (ms ++ put g k ∷ []) (h m ev ms g k a q))) (λ a. rw a q) (λ k a. rw a q)

-- a run with one put begins with it
first_put : (e : Engine) (n : ℕ) (m : List ℕ) (ev : Event) (g k : ℕ) → (runs n e m ev []).moves ≡ put g k ∷ [] → (e.step m ev).act ≡ puts g k
unfolding runs one_act
first_put e zero m ev g k q = cc
first_put e (suc n) m ev g k q =
    by_act (e.step m ev).act
    (λ i j a.
    let r = run_keeps e (λ ms. (rest : List Move) × (ms ≡ put i j ∷ rest)) (λ m₁ ev₁ ms x y b w. (w.0 ++ put x y ∷ [], ap (λ l. l ++ put x y ∷ []) w.1)) n (e.step m ev).memory next (put i j ∷ []) ([], refl) in
    let z : put i j ∷ r.0 ≡ put g k ∷ [] = sym r.1 ∙ (rw a at q) in
    let u : put i j ≡ put g k = cc in
    a ∙ ap (λ (x : Move). puts x.good x.to) u)
    (λ a. let z : [] ≡ put g k ∷ [] = rw a at q in cc)
    (λ x a. let z : [] ≡ put g k ∷ [] = rw a at q in cc)

-- a fine and level store with these shelves and goods, all goods on shelves that pass the test
record Held (f : ℕ → Bool) (ks gs : List ℕ) (s : Store) : Type 0 where
  is_fine : fine s ≡ true
  is_level : level s ≡ true
  shelves_are : s.shelves ≡ ks
  goods_are : (g : ℕ) → has (goods s) g ≡ has gs g
  all_on : every (λ p. f p.shelf) s.spots ≡ true

held_length : {f : ℕ → Bool} {ks gs : List ℕ} {s : Store} → Held f ks gs s → distinct gs ≡ true → length s.spots ≡ length gs
held_length {gs = gs} {s = s} H d =
    sym (length_each (λ p. p.good) s.spots) ∙ sets_length (goods s) gs (fine_parts s H.is_fine).goods_once d (same_from (goods s) gs H.goods_are)

put_on_all : (f : ℕ → Bool) (ps : List Spot) (g k : ℕ) → f k ≡ true → every (λ p. f p.shelf) ps ≡ true → every (λ p. f p.shelf) (put_spot ps g k) ≡ true
unfolding every put_spot
put_on_all f [] g k h a = grind arith
put_on_all f (p ∷ ps) g k h a = let ih : every (λ p. f p.shelf) (put_spot ps g k) ≡ true = put_on_all f ps g k h (grind arith) in grind arith

all_put_on : (f : ℕ → Bool) (ms : List Move) (ps : List Spot) → every (λ m. f m.to) ms ≡ true → every (λ p. f p.shelf) ps ≡ true → every (λ p. f p.shelf) (put_all ps ms) ≡ true
unfolding every put_all
all_put_on f [] ps h a = a
all_put_on f (m ∷ ms) ps h a = all_put_on f ms (put_spot ps m.good m.to) (grind arith) (put_on_all f ps m.good m.to (grind arith) a)

every_push : (f : Move → Bool) (ms : List Move) (m : Move) → f m ≡ true → every f ms ≡ true → every f (ms ++ m ∷ []) ≡ true
unfolding every
every_push f [] m h a = grind arith
every_push f (x ∷ ms) m h a = let ih : every f (ms ++ m ∷ []) ≡ true = every_push f ms m h (grind arith) in grind arith

-- a machine that keeps its promise and puts goods only on shelves that pass the test
module _ (e : Engine) (f : ℕ → Bool) (to : (m : List ℕ) (ev : Event) (g k : ℕ) → (e.step m ev).act ≡ puts g k → f k ≡ true) where
  -- it is in such a store, with these commands to come
  record Then (ks gs : List ℕ) (cs : List Command) : Type 0 where
    memory : List ℕ
    store : Store
    held : Held f ks gs store
    right : Right e memory store cs

  at_first : Whole e → (cs : List Command) → every (λ c. ltb (number_of c) 18446744073709551616) cs ≡ true → Then [] [] cs
  unfolding Whole distinct every each
  at_first W cs h = record {
    memory = e.start;
    store = record { shelves = []; spots = [] };
    held = record { is_fine = refl; is_level = refl; shelves_are = refl; goods_are = λ g. refl; all_on = refl };
    right = W.1 cs h;
  }

  run_on : (n : ℕ) (m : List ℕ) (c : Command) → every (λ x. f x.to) (runs n e m (said c) []).moves ≡ true
  unfolding every
  run_on n m c = run_keeps e (λ ms. every (λ x. f x.to) ms ≡ true) (λ m₁ ev ms g k a q. every_push (λ x. f x.to) ms (put g k) (to m₁ ev g k a) q) n m (said c) [] refl

  -- a command that isn't refused, and lets no good go
  goes_on : {ks gs ks₁ gs₁ : List ℕ} {cs : List Command} (c : Command) (T : Then ks gs (c ∷ cs)) → asks c ≡ false → left_spots T.store c ≡ T.store.spots → refusal T.store c ≡ 0 →
      shelves_after T.store c ≡ ks₁ → ((g : ℕ) → has (goods_after T.store c) g ≡ has gs₁ g) → Then ks₁ gs₁ cs
  unfolding Right EitherWay Changed
  goes_on c T a l r x y =
      let n = T.right.0 in
      let w = T.right.1.1 r in
      let ms = (runs n e T.memory (said c) []).moves in
      let C : Changed T.store c ms = rw a at w.1 in
      let M = may_parts T.store c (after T.store c ms) C.0 in
      record {
        memory = (runs n e T.memory (said c) []).memory;
        store = after T.store c ms;
        held = record {
          is_fine = M.is_fine;
          is_level = M.is_level;
          shelves_are = x;
          goods_are = λ g. sets_has _ _ M.has_goods g ∙ y g;
          all_on = all_put_on f ms (left_spots T.store c) (run_on n T.memory c) (rw l T.held.all_on);
        };
        right = rw a at w.2;
      }

  shelf_came : {ks gs : List ℕ} {cs : List Command} (k : ℕ) → has ks k ≡ false → leb 1024 (length ks) ≡ false → Then ks gs (shelf_comes k ∷ cs) → Then (ks ++ k ∷ []) gs cs
  unfolding asks refusal goods_after shelves_after left_spots
  shelf_came k out room T =
      let H = T.held in
      goes_on (shelf_comes k) T refl refl (rw (H.shelves_are, out, room) refl) (ap (λ xs. xs ++ k ∷ []) H.shelves_are) H.goods_are

  good_came : {ks gs : List ℕ} {cs : List Command} (g : ℕ) → none_of ks ≡ false → distinct gs ≡ true → has gs g ≡ false → leb 32768 (length gs) ≡ false →
      Then ks gs (comes g ∷ cs) → Then ks (gs ++ g ∷ []) cs
  unfolding asks refusal goods_after shelves_after left_spots
  good_came {gs = gs} g some d out room T =
      let H = T.held in
      goes_on (comes g) T refl refl (rw (H.goods_are g, out, H.shelves_are, some, held_length H d, room) refl) H.shelves_are
      (λ j. has_append (goods T.store) (g ∷ []) j ∙ ap (λ b. or b (has (g ∷ []) j)) (H.goods_are j) ∙ sym (has_append gs (g ∷ []) j))

  two_on_two : Whole e → Then (1 ∷ 2 ∷ []) (1 ∷ 2 ∷ []) []
  unfolding every number_of any distinct none_of
  two_on_two W =
      let T = at_first W (shelf_comes 1 ∷ shelf_comes 2 ∷ comes 1 ∷ comes 2 ∷ []) refl in
      good_came 2 refl refl refl refl (good_came 1 refl refl refl refl (shelf_came 2 refl refl (shelf_came 1 refl refl T)))

  one_on_one : (k : ℕ) → ltb k 18446744073709551616 ≡ true → Whole e → Then (k ∷ []) (1 ∷ []) (where_is 1 ∷ [])
  unfolding every number_of any distinct none_of
  one_on_one k h W =
      let T = at_first W (shelf_comes k ∷ comes 1 ∷ where_is 1 ∷ []) (rw h refl) in
      good_came 1 refl refl refl refl (shelf_came k refl refl T)

-- goods that are all on one shelf are on no other
only_on : (k j : ℕ) (ps : List Spot) → every (λ p. eqb p.shelf k) ps ≡ true → 0 < on ps j → j ≡ k
unfolding every those
only_on k j [] h i = absurd (omega arith)
only_on k j (p ∷ ps) h i = by_test (eqb p.shelf j) (λ q. grind (arith, nat_tests)) (λ q. only_on k j ps (grind arith) (grind arith))

-- two goods on two shelves are not all on one
apart : (k : ℕ) (s : Store) → Held (λ j. eqb j k) (1 ∷ 2 ∷ []) (1 ∷ 2 ∷ []) s → ⊥
unfolding any distinct
apart k s H =
    let F = fine_parts s H.is_fine in
    let n : load s 1 + (load s 2 + 0) ≡ length s.spots = rw H.shelves_are at (loads_sum s.shelves s.spots F.shelves_once F.placed) in
    let m = held_length H refl in
    let a = level_at s 1 2 H.is_level (rw H.shelves_are refl) (rw H.shelves_are refl) in
    let b = level_at s 2 1 H.is_level (rw H.shelves_are refl) (rw H.shelves_are refl) in
    let x = only_on k 1 s.spots H.all_on (omega arith) in
    let y = only_on k 2 s.spots H.all_on (omega arith) in
    omega arith

-- what a run has to answer, and so the first act, where a good's only shelf is k
answers : (e : Engine) (k : ℕ) → ltb k 18446744073709551616 ≡ true → Whole e → (m : List ℕ) × ((e.step m (said (where_is 1))).act ≡ puts 1 k)
unfolding Right EitherWay Asked asks refusal told any each
answers e k h W =
    let T = one_on_one e (λ j. true) (λ m ev g j a. refl) k h W in
    let H = T.held in
    let s = T.store in
    let w = T.right.1.1 (rw (H.goods_are 1) refl) in
    let p : has (k ∷ []) (at s.spots 1) ≡ true = rw H.shelves_are at (at_placed s 1 (fine_parts s H.is_fine) (H.goods_are 1)) in
    let q : at s.spots 1 ≡ k = eqb-true _ _ (sym (has_one k (at s.spots 1)) ∙ p) in
    let t : told s (where_is 1) ≡ put 1 k ∷ [] = ap (each (put 1)) (shelf_of_there s.spots 1 (H.goods_are 1)) ∙ ap (λ j. put 1 j ∷ []) q in
    (T.memory, first_put e T.right.0 T.memory (said (where_is 1)) 1 k (w.1 ∙ t))

pub cheats : Cheats
cheats = record {
  refuses_all = λ e h. never_ends e (λ m ev q. let z : refused (h m ev).0 ≡ done = sym (h m ev).1 ∙ q in grind arith);
  never_ends = never_ends;
  one_shelf = λ e k h W. let T = two_on_two e (λ j. eqb j k) (λ m ev g j a. eq-eqb j k (h m ev g j a)) W in apart k T.store T.held;
  forgets = λ e h W.
      let a = answers e 1 refl W in
      let b = answers e 2 refl W in
      let z : puts 1 1 ≡ puts 1 2 = sym a.1 ∙ h a.0 b.0 1 ∙ b.1 in
      grind arith;
}
