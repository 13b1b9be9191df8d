-- The machine keeps the whole promise.
use Rattle.std.proofs.Common.{◌≡◌, ℕ, zero, suc, ◌<◌, true, ltb, List, [], ◌∷◌, ◌++◌, length, sym, refl, ap, ◌∙◌, subst, arith, lit<}
use Rattle.std.proofs.lemmas.Bool.Decides.{nat_tests}
use Rattle.std.proofs.lemmas.Bool.{ltb-true}
use Rattle.hall.specs.House.{any, each, every, distinct, those, Store, fine, level, Command, comes, goes, shelf_comes, shelf_goes, where_is, Move, refusal}
use Rattle.hall.specs.Promise.{Engine, Step, Event, said, next, Act, puts, done, refused, ran, one_act, runs, number_of, Serves, Steady, Whole}
use Rattle.words.proofs.Cases.{by_order}
use Rattle.hall.proofs.Loads.{fine_parts}
use Rattle.hall.proofs.Keeps.{right_from}
use Rattle.machine.specs.Interfaces.{Parts, Laws}
use Rattle.machine.specs.Machine.{State, Turn, turn, turn_of, start}
use Rattle.machine.specs.Relation.{Holds, Tells, Served, Does}
use Rattle.machine.specs.Lifting.{event_number, Lifts, Keeps}
use Rattle.machine.proofs.Commands.{does_ask, does_come, does_go}
use Rattle.machine.proofs.Opening.{does_open}
use Rattle.machine.proofs.Closing.{does_close}

append_none : {A : Type 0} (xs : List A) → xs ++ [] ≡ xs
append_none [] = refl
append_none (x ∷ xs) = ap (λ ys. x ∷ ys) (append_none xs)

append_more : {A : Type 0} (xs ys zs : List A) → (xs ++ ys) ++ zs ≡ xs ++ (ys ++ zs)
append_more [] ys zs = refl
append_more (x ∷ xs) ys zs = ap (λ us. x ∷ us) (append_more xs ys zs)

pub refusal_small : (s : Store) (c : Command) → refusal s c < 1000
unfolding refusal
refusal_small s (comes g) = grind arith
refusal_small s (goes g) = grind arith
refusal_small s (shelf_comes k) = grind arith
refusal_small s (shelf_goes k) = grind arith
refusal_small s (where_is g) = grind arith

module _ (P : Parts) (Q : Laws P) where
  -- each command: refused as it should be, or carried out by greedy moves
  pub does : (m : State P) (s : Store) (c : Command) → Holds P Q m s → fine s ≡ true → level s ≡ true → number_of c < 18446744073709551616 → Does P Q m s c
  unfolding number_of
  does m s (comes g) h f l n = does_come P Q m s h (fine_parts s f) g n
  does m s (goes g) h f l n = does_go P Q m s h (fine_parts s f) g
  does m s (shelf_comes k) h f l n = does_open P Q m s h (fine_parts s f) l k n
  does m s (shelf_goes k) h f l n = does_close P Q m s h (fine_parts s f) k
  does m s (where_is g) h f l n = does_ask P Q m s h (fine_parts s f) g

  pub start_holds : Holds P Q (start P) (record { shelves = []; spots = [] })
  unfolding any each those
  start_holds = record {
    idle = refl;
    shows = record {
      stands = record {
        goods_sound = Q.goods.empty_sound;
        shelves_sound = Q.shelves.empty_sound;
        contents_sound = Q.contents.empty_sound;
        goods_there = λ g. rw (Q.goods.empty_find g) refl;
        shelves_there = λ k. rw (Q.shelves.empty_find k) refl;
        placed = λ g h. grind arith;
        on_shelf = λ g h. grind arith;
        no_other = λ y h. let e = Q.contents.empty_shelf y in absurd (omega arith);
        goods_count = Q.goods.empty_count;
        shelves_count = Q.shelves.empty_count;
        goods_room = omega arith;
      };
      weighs = record {
        sound = Q.loads.empty_sound;
        slot = λ k h. grind arith;
        there = λ k h. grind arith;
        load = λ k h. grind arith;
        no_other = λ x h. absurd (Q.loads.empty_none x h);
      };
    };
  }

  module _ (e : Engine) (l : Lifts P e) where
    -- a step of the engine, where the machine's turn is known
    pub step_is : (m m₁ : State P) (ev : Event) (a : Act) → l.Fits m → event_number ev < 18446744073709551616 → turn_of P m ev ≡ turn P m₁ a →
        (e.step (l.joined m) ev ≡ record { memory = l.joined m₁; act = a }) × l.Fits m₁
    step_is m m₁ ev a f n t = (
      l.step_lift m ev f n ∙ ap (λ (t : Turn P). record { memory = l.joined t.state; act = t.act }) t,
      subst (λ (t : Turn P). l.Fits t.state) t (l.turn_fits m ev f n),
    )

    -- one step more in front of a run
    pub runs_step : (n : ℕ) (m : List ℕ) (ev : Event) (ms : List Move) (m₁ : List ℕ) (a : Act) → e.step m ev ≡ record { memory = m₁; act = a } →
        runs (suc n) e m ev ms ≡ one_act (λ m₂ ms₂. runs n e m₂ next ms₂) ms m₁ a
    unfolding runs
    runs_step n m ev ms m₁ a t = ap (λ (t : Step). one_act (λ m₂ ms₂. runs n e m₂ next ms₂) ms t.memory t.act) t

    pub runs_tell : (ms : List Move) (acc : List Move) (m n : State P) (ev : Event) → l.Fits m → event_number ev < 18446744073709551616 → Tells P m ev ms n →
        (runs (suc (length ms)) e (l.joined m) ev acc ≡ ran (l.joined n) (acc ++ ms) 0) × l.Fits n
    unfolding one_act
    runs_tell [] acc m n ev f h t =
        let x = step_is m n ev done f h t in
        (runs_step zero (l.joined m) ev acc (l.joined n) done x.0 ∙ ap (λ as₁. ran (l.joined n) as₁ 0) (sym (append_none acc)), x.1)
    runs_tell (v ∷ ms) acc m n ev f h t =
        let x = step_is m t.0 ev (puts v.good v.to) f h t.1 in
        let r = runs_tell ms (acc ++ v ∷ []) t.0 n next x.1 (lit< tt) t.2 in
        (runs_step (suc (length ms)) (l.joined m) ev acc (l.joined t.0) (puts v.good v.to) x.0 ∙ r.0 ∙ ap (λ as₁. ran (l.joined n) as₁ 0) (append_more acc (v ∷ []) ms), r.1)

    pub runs_no : (m : State P) (s : Store) (c : Command) → l.Fits m → number_of c < 18446744073709551616 → 0 < refusal s c →
        turn_of P m (said c) ≡ turn P m (refused (refusal s c)) → runs 1 e (l.joined m) (said c) [] ≡ ran (l.joined m) [] (refusal s c)
    unfolding one_act
    runs_no m s c f h r t =
        let k = refusal_small s c in
        runs_step zero (l.joined m) (said c) [] (l.joined m) (refused (refusal s c)) (step_is m m (said c) (refused (refusal s c)) f h t).0
        ∙ ap (λ x. ran (l.joined m) [] x) (grind (arith, nat_tests))

    -- what hall asks of a run, from what it comes to
    abbrev Kept : List ℕ → Store → Type 0
    Kept m s = Keeps P Q e l m s

    serves_no : (m : State P) (s : Store) (c : Command) → Holds P Q m s → l.Fits m → 0 < refusal s c → runs 1 e (l.joined m) (said c) [] ≡ ran (l.joined m) [] (refusal s c) →
        Serves Kept e (l.joined m) s c
    serves_no m s c h f r t = (1, ((λ q. rw t (refl, refl, record { state = m; is_joined = refl; fits = f; holds = h })), (λ q. absurd (omega arith))))

    serves_so : (m : State P) (s : Store) (c : Command) → refusal s c ≡ 0 → (v : Served P Q m s c) →
        (runs (suc (length v.moves)) e (l.joined m) (said c) [] ≡ ran (l.joined v.state) v.moves 0) × l.Fits v.state → Serves Kept e (l.joined m) s c
    serves_so m s c z v t =
        (suc (length v.moves), ((λ q. absurd (omega arith)), (λ q. rw t.0 (refl, v.greedy, record { state = v.state; is_joined = refl; fits = t.1; holds = v.holds }))))

    serves_state : (m : State P) (s : Store) (c : Command) → Holds P Q m s → l.Fits m → fine s ≡ true → level s ≡ true → number_of c < 18446744073709551616 →
        Serves Kept e (l.joined m) s c
    serves_state m s c h f fi le n =
        let d = does m s c h fi le n in
        by_order 0 (refusal s c)
        (λ r. serves_no m s c h f r (runs_no m s c f n r (d.refuses r)))
        (λ r. let z : refusal s c ≡ 0 = omega arith in
        let v = d.serves z in serves_so m s c z v (runs_tell v.moves [] m v.state (said c) f n v.tells))

    pub serves : (m : List ℕ) (s : Store) (c : Command) → Kept m s → fine s ≡ true → level s ≡ true → ltb (number_of c) 18446744073709551616 ≡ true → Serves Kept e m s c
    serves m s c h f v n = rw h.is_joined (serves_state h.state s c h.holds h.fits f v (ltb-true _ _ n))

    pub whole : Steady e → Whole e
    unfolding Whole distinct every each
    whole st =
        (st, λ cs k. right_from e Kept serves cs e.start _ (record { state = start P; is_joined = l.start_joined; fits = l.start_fits; holds = start_holds }) refl refl k)
