-- What is claimed of the machine in every memory, reached or not.
use Rattle.std.specs.Prelude.{◌≡◌, ℕ, ◌<◌, true, List}
use Rattle.hall.specs.House.{Command}
use Rattle.hall.specs.Promise.{Event, said, next, done, refused, number_of}
use Rattle.machine.specs.Lifting.{event_number, says_puts}
use Rattle.placing_model.specs.Memory.{WholeMemory, cut}
use Rattle.placing_model.specs.Own.{own}

-- a command told while a step is under way is refused with 2 and nothing changes; go on, when nothing is under way, is done and nothing changes;
-- after a put a step is under way
pub record Busy (m : List ℕ) : Type 0 where
  pub refuses : (c : Command) → number_of c < 18446744073709551616 → 0 < (cut m).phase → own.step m (said c) ≡ record { memory = m; act = refused 2 }
  pub rests : (cut m).phase ≡ 0 → own.step m next ≡ record { memory = m; act = done }
  pub goes_on : (ev : Event) → event_number ev < 18446744073709551616 → says_puts (own.step m ev).act ≡ true → 0 < (cut (own.step m ev).memory).phase

abbrev pub OwnBusy : Type 0
OwnBusy = (m : List ℕ) → WholeMemory m → Busy m
