-- What telling a command leaves of a hall that is reached.
use Rattle.std.proofs.Common.{◌≡◌, ℕ, ◌+◌, ◌<◌, ◌≤◌, List, [], ◌∷◌, ◌++◌, length, get_or, take, Some, None, Ok, Err, Option, Result, Vec, sym, refl, subst, arith, lit<}
use mathlib.Core.Logic.{∥∥₁_map, ∥∥₁_elim}
use base.Stored.{Coded-set, coded_list, coded_ℕ}
use Rattle.std.proofs.lemmas.List.{take_more, take_all}
use Rattle.std.specs.declared.alloc.Global.{Global}
use Rattle.hall.specs.House.{each, Store, Command, Move}
use Rattle.hall.specs.Promise.{said, ran, runs, number_of, then_store}
use Rattle.machine.specs.Acts.{nothing}
use Rattle.placing_model.specs.Own.{own}
use Rattle.placing_model.specs.Reached.{Reached, refusing, Answered, hall_then, acts_of}
use Rattle.placing_model.proofs.Reaching.{run_done, run_refused, run_ends, carried_more, carried_none}
use Rattle.placing.specs.Acts.{refusal_number, command_of}
use Rattle.owner.specs.Runs.{ending_number}
use Rattle.owner.specs.Halls.{Outcome, answer_of, answer_as, answers_of, outcome_from, commands_of, AllTold, GoesOn}
use Rattle.placing.specs.declared.acts.Refusal.{Refusal}
use Rattle.placing.specs.declared.acts.Refusal.TheVariants.{Busy, NotThere, AlreadyThere, NoShelf, LastShelf, Full}
use Rattle.placing.specs.declared.acts.Command as told
use Rattle.placing.specs.declared.acts.Spot.{Spot}
use Rattle.owner.specs.declared.halls.telling.Failure.{Failure}
use Rattle.owner.specs.declared.halls.telling.Failure.TheVariants.{Refused, NoMemory}
use Rattle.owner.proofs.Running.{each_more}

-- some hall is reached
abbrev pub SomeHall : List ℕ → Type 0
SomeHall m = ∥ ((s : Store) × Reached m s) ∥₁

pub refusal_some : (why : Refusal) → 0 < refusal_number why
refusal_some Busy = lit< tt
refusal_some NotThere = lit< tt
refusal_some AlreadyThere = lit< tt
refusal_some NoShelf = lit< tt
refusal_some LastShelf = lit< tt
refusal_some Full = lit< tt

module _ (m m₁ : List ℕ) (c : Command) (ms : List Move) (n : number_of c < 18446744073709551616) (some : SomeHall m) where
  pub run_kept : (r : Option (Result (Unit {0}) Refusal)) → runs (acts_of c) own m (said c) [] ≡ ran m₁ ms (ending_number r) → SomeHall m₁
  run_kept (Some (Ok _)) run = ∥∥₁_map some (λ x. (then_store x.0 c ms, (run_done m m₁ x.0 c ms 0 x.1 n run refl).1))
  run_kept (Some (Err why)) run =
      ∥∥₁_map some (λ x. (x.0, subst (λ k. Reached k x.0) (sym (run_refused m m₁ x.0 c ms (refusal_number why) x.1 n run (refusal_some why)).1) x.1))
  run_kept None run = ∥∥₁_map some (λ x. absurd (run_ends m m₁ x.0 c ms 1000 x.1 n run refl))

  pub run_not : runs (acts_of c) own m (said c) [] ≡ ran m₁ ms 1000 → ⊥
  run_not run = ∥∥₁_elim some (λ a b. absurd a) (λ x. run_ends m m₁ x.0 c ms 1000 x.1 n run refl)

  -- refused, it is as it was
  pub run_same : (k : ℕ) → 0 < k → runs (acts_of c) own m (said c) [] ≡ ran m₁ ms k → m₁ ≡ m
  run_same k h run = ∥∥₁_elim some (Coded-set (coded_list coded_ℕ) m₁ m) (λ x. (run_refused m m₁ x.0 c ms k x.1 n run h).1)

  pub run_stays : (k : ℕ) → 0 < k → runs (acts_of c) own m (said c) [] ≡ ran m₁ ms k → (s : Store) → Reached m s → Answered s c (refusing k) × Reached m₁ s
  run_stays k h run s r = let x = run_refused m m₁ s c ms k r n run h in (x.0, subst (λ j. Reached j s) (sym x.1) r)

-- the run as the code makes it
pub as_run : (a b : ℕ) (m k m₁ k₁ : List ℕ) (c : Command) (ms : List Move) (n : ℕ) → a ≡ b → m ≡ k → k₁ ≡ m₁ →
    runs a own m (said c) [] ≡ ran m₁ ms n → runs b own k (said c) [] ≡ ran k₁ ms n
as_run a b m k m₁ k₁ c ms n e f g h = rw (← e, ← f, g) h

-- an answer and the outcome that is noted of it are one
outcome_answer : (told : Result (Vec Spot Global) Failure) (o : Outcome) → Ok o ≡ outcome_from told → answer_of told ≡ answer_as o
outcome_answer (Ok moves) o e = let q : o ≡ Ok moves = cc in rw q refl
outcome_answer (Err (Refused why)) o e = let q : o ≡ Err why = cc in rw q refl
outcome_answer (Err (NoMemory want)) o e = absurd (let z : ◌≡◌ {A = ℕ} 0 1 = cc in omega arith)

pub goes_on : (m m₁ : List ℕ) (os os₁ : List Outcome) (c : Command) (told : Result (Vec Spot Global) Failure) (o : Outcome) →
    ((s : Store) → Reached m s → Answered s c (answer_of told) × Reached m₁ (hall_then s c (answer_of told))) → Ok o ≡ outcome_from told → os₁ ≡ os ++ o ∷ [] →
    GoesOn m os c m₁ os₁
goes_on m m₁ os os₁ c told o right e q cs h =
    let x = right h.0 h.2 in
    let a = outcome_answer told o e in
    (hall_then h.0 c (answer_of told), rw (q, each_more answer_as os o, ← a) (carried_more nothing cs (answers_of os) h.0 c (answer_of told) h.1 x.0), x.1)

pub told_none : (m : List ℕ) (os : List Outcome) → os ≡ [] → Reached m nothing → AllTold [] m os
unfolding each
told_none m os e r = (nothing, rw e (carried_none nothing), r)

-- the commands up to a place of a list, one more, and all
pub told_more : (xs : List told.Command) (i : ℕ) (d : told.Command) (m : List ℕ) (os : List Outcome) → i < length xs →
    AllTold (commands_of (take i xs) ++ command_of (get_or xs i d) ∷ []) m os → AllTold (commands_of (take (i + 1) xs)) m os
told_more xs i d m os h a = rw (take_more xs i d h, each_more command_of (take i xs) (get_or xs i d)) a

pub told_all : (xs : List told.Command) (i : ℕ) (m : List ℕ) (os : List Outcome) → length xs ≤ i → AllTold (commands_of (take i xs)) m os → AllTold (commands_of xs) m os
told_all xs i m os h a = let e : take i xs ≡ xs = take_all i xs h in rw e at a
