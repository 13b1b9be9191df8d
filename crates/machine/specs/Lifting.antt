-- An engine over a memory of words that takes the machine's turns.
use Rattle.std.specs.Prelude.{◌≡◌, ℕ, ◌<◌, Bool, true, false, List}
use Rattle.hall.specs.House.{Store}
use Rattle.hall.specs.Promise.{Engine, Event, said, next, Act, puts, done, refused, number_of}
use Rattle.machine.specs.Interfaces.{Parts, Laws}
use Rattle.machine.specs.Machine.{State, start, turn_of}
use Rattle.machine.specs.Relation.{Holds}

abbrev pub event_number : Event → ℕ
event_number (said c) = number_of c
event_number next = 0

abbrev pub says_puts : Act → Bool
says_puts (puts g k) = true
says_puts done = false
says_puts (refused k) = false

module _ (P : Parts) where
  pub record Lifts (e : Engine) : Type 1 where
    pub joined : State P → List ℕ
    pub Fits : State P → Type 0
    pub start_fits : Fits (start P)
    pub start_joined : e.start ≡ joined (start P)
    pub turn_fits : (m : State P) (ev : Event) → Fits m → event_number ev < 18446744073709551616 → Fits (turn_of P m ev).state
    pub step_lift : (m : State P) (ev : Event) → Fits m → event_number ev < 18446744073709551616 →
        e.step (joined m) ev ≡ record { memory = joined (turn_of P m ev).state; act = (turn_of P m ev).act }

module _ (P : Parts) (Q : Laws P) where
  -- a memory holds a store: it is a state's that does
  pub record Keeps (e : Engine) (l : Lifts P e) (memory : List ℕ) (s : Store) : Type 0 where
    pub state : State P
    pub is_joined : memory ≡ l.joined state
    pub fits : l.Fits state
    pub holds : Holds P Q state s
