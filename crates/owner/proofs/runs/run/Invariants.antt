-- What is left of the run gives the whole.
use Rattle.std.proofs.Common.{◌≡◌, ◌-◌, ◌≤◌, [], length, vec_items, vec_len, vec_capacity}
use Rattle.hall.specs.Promise.{runs}
use Rattle.placing_model.specs.Own.{own}
use Rattle.placing.specs.Acts.{event_of_request}
use Rattle.owner.specs.Runs.{moves_of}
use Rattle.owner.proofs.runs.run.Given as goal

abbrev pub invariant-loop-turn : goal.invariant-loop-turn
invariant-loop-turn l =
    (length l.memory ≡ 239635) × (vec_len l.moves ≡ l.turn) × (l.acts ≤ vec_capacity l.moves)
    × (runs (l.acts - l.turn) own l.memory (event_of_request l.request) (moves_of (vec_items l.moves))
    ≡ runs l.acts own l.initial.memory (event_of_request l.initial.request) [])
