-- What a hall holds, and what it answers, in the words of the promise.
use Rattle.std.specs.Prelude.{ℕ, List, [], ◌∷◌, ◌++◌, Ok, Err, vec_items, Result, Vec}
use Rattle.std.specs.declared.alloc.AllocError.{AllocError}
use Rattle.std.specs.declared.alloc.Global.{Global}
use Rattle.placing_model.specs.Reached.{Answer, putting, refusing, wanting, Reached, CarriedOut}
use Rattle.machine.specs.Acts.{nothing}
use Rattle.hall.specs.House.{each, Store}
use Rattle.hall.specs.House as house
use Rattle.placing.specs.Acts.{refusal_number, command_of}
use Rattle.owner.specs.Runs.{moves_of}
use Rattle.placing.specs.declared.acts.Command.{Command}
use Rattle.placing.specs.declared.acts.Refusal.{Refusal}
use Rattle.placing.specs.declared.acts.Spot.{Spot}
use Rattle.owner.specs.declared.halls.Hall.{Hall}
use Rattle.owner.specs.declared.halls.telling.Failure.{Failure}
use Rattle.owner.specs.declared.halls.telling.Failure.TheVariants.{Refused, NoMemory}

abbrev pub words_of : Hall → List ℕ
words_of h = vec_items h.memory

abbrev pub answer_of : Result (Vec Spot Global) Failure → Answer
answer_of (Ok moves) = putting (moves_of (vec_items moves))
answer_of (Err (Refused why)) = refusing (refusal_number why)
answer_of (Err (NoMemory want)) = wanting

abbrev pub commands_of : List Command → List house.Command
commands_of cs = each command_of cs

-- what is noted of a command of a list: all that it put, or why it is refused
abbrev pub Outcome : Type 0
Outcome = Result (Vec Spot Global) Refusal

abbrev pub answer_as : Outcome → Answer
answer_as (Ok moves) = putting (moves_of (vec_items moves))
answer_as (Err why) = refusing (refusal_number why)

abbrev pub answers_of : List Outcome → List Answer
answers_of os = each answer_as os

abbrev pub outcome_from : Result (Vec Spot Global) Failure → Result Outcome AllocError
outcome_from (Ok moves) = Ok (Ok moves)
outcome_from (Err (Refused why)) = Ok (Err why)
outcome_from (Err (NoMemory want)) = Err want

-- the commands cs were told from the empty hall on, each was answered right in its turn, and the memory is that of the hall after them
abbrev pub AllTold : List house.Command → List ℕ → List Outcome → Type 0
AllTold cs m os = (s : Store) × CarriedOut nothing cs (answers_of os) s × Reached m s

-- one command more
abbrev pub GoesOn : List ℕ → List Outcome → house.Command → List ℕ → List Outcome → Type 0
GoesOn m os c m₁ os₁ = (cs : List house.Command) → AllTold cs m os → AllTold (cs ++ c ∷ []) m₁ os₁
