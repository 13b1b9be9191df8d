-- THE MACHINE ITSELF: its memory at the start, and what a step makes of every memory at every event.
use Rattle.std.specs.Prelude.{ℕ, Bool, true, false, ◌&&◌, List, length, ◌==◌, nat_lt}
use Rattle.hall.specs.Promise.{Engine, Event, Step, refused}
use Rattle.machine.specs.Machine.{Turn, turn_of}
use Rattle.machine.specs.Lifting.{event_number}
use Rattle.placing_model.specs.Parts.{parts, zeros}
use Rattle.placing_model.specs.Memory.{cut, joined}

-- memories of the machine's own length, and numbers of 64 bits
unfoldable pub fits : List ℕ → Event → Bool
fits m ev = length m == 239635 && nat_lt (event_number ev) 18446744073709551616

abbrev pub stepped : Bool → List ℕ → Turn parts → Step
stepped true m t = record { memory = joined t.state; act = t.act }
stepped false m t = record { memory = m; act = refused 2 }

unfoldable pub own : Engine
own = record { start = zeros 239635; step = λ m ev. stepped (fits m ev) m (turn_of parts (cut m) ev) }
