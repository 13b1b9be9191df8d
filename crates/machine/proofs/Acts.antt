-- Every command goes exactly as it should, act by act, after every list of commands.
use Rattle.std.proofs.Common.{◌≡◌, ℕ, zero, suc, ◌+◌, ◌-◌, ◌<◌, ◌≤◌, Bool, true, false, eqb, ltb, List, [], ◌∷◌, ◌++◌, length, sym, refl, ap, ◌∙◌, div-le_self, arith, lit<, lit≤}
use Rattle.std.proofs.lemmas.Bool.Decides.{nat_tests}
use Rattle.std.proofs.lemmas.Bool.{ltb-true, lt-ltb, and_parts, and_from, eq-eqb, ne_eqb}
use Rattle.words.proofs.Cases.{by_order}
use Rattle.hall.specs.House.{pick, each, every, Store, Command, Move, fine, level, refusal, asks, told, fewest, distinct, where_is, comes, goes, shelf_comes, shelf_goes}
use Rattle.hall.specs.Claims.{arrivals}
use Rattle.hall.specs.Promise.{Engine, Event, said, next, Act, puts, done, refused, Ran, ran, one_act, runs, number_of, EitherWay, Asked, then_store}
use Rattle.hall.proofs.Keeps.{next_of}
use Rattle.hall.proofs.Changes.{puts_count}
use Rattle.hall.proofs.Moving.{shelf_of_there}
use Rattle.hall.proofs.Can.{count_length}
use Rattle.machine.specs.Interfaces.{Parts, Laws}
use Rattle.machine.specs.Machine.{State, start}
use Rattle.machine.specs.Relation.{Tells, Served}
use Rattle.machine.specs.Lifting.{event_number, Lifts, Keeps}
use Rattle.machine.specs.Acts.{puts_of, Carried, Exact, nothing, AllWords, whole_run, store_then, memory_after, store_after, Exactly}
use Rattle.machine.proofs.Refines.{refusal_small, does, start_holds, step_is, runs_step, runs_tell, runs_no}

-- a run that has ended takes no more acts
module _ (e : Engine) where
  act_more : (n k : ℕ) (m : List ℕ) (ms : List Move) (a : Act) →
      ((m₁ : List ℕ) (ms₁ : List Move) → ((runs n e m₁ next ms₁).end ≡ 1000 → ⊥) → runs (n + k) e m₁ next ms₁ ≡ runs n e m₁ next ms₁) →
      ((one_act (λ m₁ ms₁. runs n e m₁ next ms₁) ms m a).end ≡ 1000 → ⊥) →
      one_act (λ m₁ ms₁. runs (n + k) e m₁ next ms₁) ms m a ≡ one_act (λ m₁ ms₁. runs n e m₁ next ms₁) ms m a
  unfolding one_act
  act_more n k m ms (puts g j) f h = f _ _ h
  act_more n k m ms done f h = refl
  act_more n k m ms (refused j) f h = refl

  pub runs_more : (n k : ℕ) (m : List ℕ) (ev : Event) (ms : List Move) → ((runs n e m ev ms).end ≡ 1000 → ⊥) → runs (n + k) e m ev ms ≡ runs n e m ev ms
  unfolding runs
  runs_more zero k m ev ms h = absurd (h refl)
  runs_more (suc n) k m ev ms h =
      let q : suc n + k ≡ suc (n + k) = omega arith in
      rw q (act_more n k (e.step m ev).memory ms (e.step m ev).act (λ m₁ ms₁ h₁. runs_more n k m₁ next ms₁ h₁) h)

  -- two runs that have ended are one
  pub runs_same : (n k : ℕ) (m : List ℕ) (ev : Event) (ms : List Move) → ((runs n e m ev ms).end ≡ 1000 → ⊥) → n ≤ k → runs k e m ev ms ≡ runs n e m ev ms
  runs_same n k m ev ms h l = let q : n + (k - n) ≡ k = omega arith in ap (λ j. runs j e m ev ms) (sym q) ∙ runs_more n (k - n) m ev ms h

told_one : (s : Store) (c : Command) (ms : List Move) → asks c ≡ true → refusal s c ≡ 0 → ms ≡ told s c → length ms ≡ 1
unfolding asks refusal told each
told_one s (comes g) ms a r e = grind arith
told_one s (goes g) ms a r e = grind arith
told_one s (shelf_comes k) ms a r e = grind arith
told_one s (shelf_goes k) ms a r e = grind arith
told_one s (where_is g) ms a r e = rw (e, shelf_of_there s.spots g (grind arith)) refl

-- a command that is served right puts as many as it has to
pub way_count : (s : Store) (c : Command) (ms : List Move) (b : Bool) → asks c ≡ b → fine s ≡ true → level s ≡ true → refusal s c ≡ 0 → EitherWay b s c ms →
    length ms ≡ pick b 1 (arrivals c + fewest s c)
unfolding EitherWay Asked
way_count s c ms true a f l r w = told_one s c ms a r w
way_count s c ms false a f l r w = (puts_count s c ms f l r a w).1

-- no command puts more than there are goods, and one
pub puts_bound : (s : Store) (c : Command) → length s.spots ≤ 32768 → puts_of s c ≤ 32769
unfolding asks arrivals fewest
puts_bound s (comes g) h = omega arith
puts_bound s (goes g) h = grind arith
puts_bound s (shelf_comes k) h = grind (arith, nat_tests, div-le_self (length s.spots) (suc (length s.shelves)))
puts_bound s (shelf_goes k) h = omega (arith, count_length (λ p. eqb p.shelf k) s.spots)
puts_bound s (where_is g) h = omega arith

pub ended : (r : Ran) (m : List ℕ) (ms : List Move) (n : ℕ) → r ≡ ran m ms n → n < 1000 → r.end ≡ 1000 → ⊥
ended r m ms n e h q = let x : r.end ≡ n = ap (λ (r : Ran). r.end) e in omega arith

module _ (P : Parts) (Q : Laws P) (e : Engine) (l : Lifts P e) where
  -- as many acts as there are puts do not end a command
  runs_short : (ms : List Move) (acc : List Move) (m n : State P) (ev : Event) → l.Fits m → event_number ev < 18446744073709551616 → Tells P m ev ms n →
      (runs (length ms) e (l.joined m) ev acc).end ≡ 1000
  unfolding one_act runs
  runs_short [] acc m n ev f h t = refl
  runs_short (v ∷ ms) acc m n ev f h t =
      let x = step_is P Q e l m t.0 ev (puts v.good v.to) f h t.1 in
      ap (λ (r : Ran). r.end) (runs_step P Q e l (length ms) (l.joined m) ev acc (l.joined t.0) (puts v.good v.to) x.0)
      ∙ runs_short ms (acc ++ v ∷ []) t.0 n next x.1 (lit< tt) t.2

  -- a memory that holds a fine and level store
  pub record Good (m : List ℕ) (s : Store) : Type 0 where
    pub keeps : Keeps P Q e l m s
    pub is_fine : fine s ≡ true
    pub is_level : level s ≡ true

  pub record CarriedGood (m : List ℕ) (s : Store) (c : Command) : Type 0 where
    pub carried : Carried e m s c
    pub good : Good carried.memory (then_store s c carried.moves)

  served : (m : State P) (s : Store) (c : Command) → l.Fits m → fine s ≡ true → level s ≡ true → number_of c < 18446744073709551616 → refusal s c ≡ 0 →
      Served P Q m s c → CarriedGood (l.joined m) s c
  served m s c f fi le n r v =
      let t = runs_tell P Q e l v.moves [] m v.state (said c) f n v.tells in
      let x = next_of s c v.moves (asks c) refl fi le r v.greedy in
      record {
        carried = record {
          moves = v.moves;
          memory = l.joined v.state;
          short = runs_short v.moves [] m v.state (said c) f n v.tells;
          whole = t.0;
          count = way_count s c v.moves (asks c) refl fi le r x.way;
          right = x.way;
        };
        good = record { keeps = record { state = v.state; is_joined = refl; fits = t.1; holds = v.holds }; is_fine = x.is_fine; is_level = x.is_level };
      }

  pub serves_good : (m : List ℕ) (s : Store) (c : Command) → Good m s → number_of c < 18446744073709551616 → refusal s c ≡ 0 → CarriedGood m s c
  serves_good m s c g n r =
      let k = g.keeps in
      let d = does P Q k.state s c k.holds g.is_fine g.is_level n in
      rw k.is_joined (served k.state s c k.fits g.is_fine g.is_level n r (d.serves r))

  pub refuses_good : (m : List ℕ) (s : Store) (c : Command) → Good m s → number_of c < 18446744073709551616 → 0 < refusal s c → runs 1 e m (said c) [] ≡ ran m [] (refusal s c)
  refuses_good m s c g n r =
      let k = g.keeps in
      let d = does P Q k.state s c k.holds g.is_fine g.is_level n in
      rw k.is_joined (runs_no P Q e l k.state s c k.fits n r (d.refuses r))

  pub exact_good : (m : List ℕ) (s : Store) (c : Command) → Good m s → number_of c < 18446744073709551616 → Exact e m s c
  exact_good m s c g n = record { refuses = refuses_good m s c g n; serves = λ r. (serves_good m s c g n r).carried }

  pub start_good : Good e.start nothing
  unfolding every each distinct
  start_good = record { keeps = record { state = start P; is_joined = l.start_joined; fits = l.start_fits; holds = start_holds P Q }; is_fine = refl; is_level = refl }

  -- no command takes more acts than a whole run has
  puts_few : (m : List ℕ) (s : Store) (c : Command) → Good m s → (v : Carried e m s c) → suc (length v.moves) ≤ 32770
  puts_few m s c g v = let n = v.count in let b = puts_bound s c g.keeps.holds.shows.stands.goods_room in omega arith

  pub whole_serves : (m : List ℕ) (s : Store) (c : Command) → Good m s → (v : Carried e m s c) → whole_run e m c ≡ ran v.memory v.moves 0
  whole_serves m s c g v =
      runs_same e (suc (length v.moves)) 32770 m (said c) [] (ended _ _ _ 0 v.whole (lit< tt)) (puts_few m s c g v) ∙ v.whole

  whole_refuses : (m : List ℕ) (s : Store) (c : Command) → Good m s → number_of c < 18446744073709551616 → 0 < refusal s c → whole_run e m c ≡ ran m [] (refusal s c)
  whole_refuses m s c g n r =
      let t = refuses_good m s c g n r in
      runs_same e 1 32770 m (said c) [] (ended _ _ _ (refusal s c) t (refusal_small s c)) (lit≤ tt) ∙ t

  pub whole_good : (m : List ℕ) (s : Store) (c : Command) → Good m s → number_of c < 18446744073709551616 → Good (whole_run e m c).memory (store_then e m s c)
  whole_good m s c g n =
      by_order 0 (refusal s c)
      (λ r. let t = whole_refuses m s c g n r in let q : eqb (refusal s c) 0 ≡ false = ne_eqb _ _ (omega arith) in rw (q, t) g)
      (λ r. let z : refusal s c ≡ 0 = omega arith in
      let v = serves_good m s c g n z in
      let t = whole_serves m s c g v.carried in
      let q : eqb (refusal s c) 0 ≡ true = eq-eqb _ _ z in rw (q, t) v.good)

  pub after_good : (cs : List Command) (m : List ℕ) (s : Store) → Good m s → AllWords cs → Good (memory_after e m cs) (store_after e m s cs)
  unfolding memory_after store_after every
  after_good [] m s g w = g
  after_good (c ∷ cs) m s g w =
      let p = and_parts (ltb (number_of c) 18446744073709551616) _ w in
      after_good cs _ _ (whole_good m s c g (ltb-true _ _ p.0)) p.1

  -- THE THEOREM, act by act
  pub exactly : Exactly e
  exactly cs c w n = exact_good _ _ c (after_good cs e.start nothing start_good w) n

-- one command more
pub memory_more : (e : Engine) (m : List ℕ) (cs : List Command) (c : Command) → memory_after e m (cs ++ c ∷ []) ≡ (whole_run e (memory_after e m cs) c).memory
unfolding memory_after
memory_more e m [] c = refl
memory_more e m (d ∷ cs) c = memory_more e (whole_run e m d).memory cs c

pub store_more : (e : Engine) (m : List ℕ) (s : Store) (cs : List Command) (c : Command) →
    store_after e m s (cs ++ c ∷ []) ≡ store_then e (memory_after e m cs) (store_after e m s cs) c
unfolding memory_after store_after
store_more e m s [] c = refl
store_more e m s (d ∷ cs) c = store_more e (whole_run e m d).memory (store_then e m s d) cs c

pub words_more : (cs : List Command) (c : Command) → AllWords cs → number_of c < 18446744073709551616 → AllWords (cs ++ c ∷ [])
unfolding every
words_more [] c w n = and_from _ _ (lt-ltb _ _ n) refl
words_more (d ∷ cs) c w n = let p = and_parts (ltb (number_of d) 18446744073709551616) _ w in and_from _ _ p.0 (words_more cs c p.1 n)
