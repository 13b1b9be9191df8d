-- What holds of the machine's turn in every state, whatever its parts are.
use Rattle.std.specs.Prelude.{◌≡◌, ◌<◌, true}
use Rattle.hall.specs.House.{Command}
use Rattle.hall.specs.Promise.{Event, said, next, done, refused}
use Rattle.machine.specs.Interfaces.{Parts}
use Rattle.machine.specs.Machine.{State, turn, turn_of}
use Rattle.machine.specs.Lifting.{says_puts}

-- a command told while a step is under way is refused with 2 and nothing changes; go on, when nothing is under way, is done and nothing changes;
-- after a put a step is under way
pub record BusyRight (P : Parts) (m : State P) : Type 0 where
  pub refuses : (c : Command) → 0 < m.phase → turn_of P m (said c) ≡ turn P m (refused 2)
  pub rests : m.phase ≡ 0 → turn_of P m next ≡ turn P m done
  pub goes_on : (ev : Event) → says_puts (turn_of P m ev).act ≡ true → 0 < (turn_of P m ev).state.phase
