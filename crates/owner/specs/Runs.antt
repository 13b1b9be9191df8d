-- What a run of the code put and how it ended, in the words of the promise.
use Rattle.std.specs.Prelude.{ℕ, List, Some, None, Ok, Err, Option, Result}
use Rattle.hall.specs.House.{each, Move}
use Rattle.placing.specs.Acts.{refusal_number}
use Rattle.placing.specs.declared.acts.Spot.{Spot}
use Rattle.placing.specs.declared.acts.Refusal.{Refusal}

abbrev pub moves_of : List Spot → List Move
moves_of ps = each (λ p. record { good = p.good; to = p.shelf }) ps

-- 0 done, a refusal's number, 1000 still at it
abbrev pub ending_number : Option (Result (Unit {0}) Refusal) → ℕ
ending_number (Some (Ok _)) = 0
ending_number (Some (Err why)) = refusal_number why
ending_number None = 1000
