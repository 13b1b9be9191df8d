-- The code's enums in the words of the promise: what a request means, what an act says, the numbers of refusals and phases.
use Rattle.std.specs.Prelude.{ℕ, Ok, Err, Result, ◌==◌}
use Rattle.hall.specs.House.{pick, comes, goes, shelf_comes, shelf_goes, where_is}
use Rattle.hall.specs.Promise.{Event, said, next, puts, done, refused}
use Rattle.hall.specs.House as house
use Rattle.hall.specs.Promise as hall
use Rattle.placing.specs.declared.acts.Act.{Act}
use Rattle.placing.specs.declared.acts.Act.TheVariants.{Puts, Done, Refused}
use Rattle.placing.specs.declared.acts.Refusal.{Refusal}
use Rattle.placing.specs.declared.acts.Refusal.TheVariants.{Busy, NotThere, AlreadyThere, NoShelf, LastShelf, Full}
use Rattle.placing.specs.declared.acts.Request.{Request}
use Rattle.placing.specs.declared.acts.Request.TheVariants.{Carry, GoOn}
use Rattle.placing.specs.declared.acts.Command.{Command}
use Rattle.placing.specs.declared.acts.Command.TheVariants.{GoodComes, GoodGoes, ShelfComes, ShelfGoes, WhereIs}
use Rattle.placing.specs.declared.acts.Kind.{Kind}
use Rattle.placing.specs.declared.acts.Kind.TheVariants as kind
use Rattle.placing.specs.declared.acts.UnknownKind.{UnknownKind}
use Rattle.placing.specs.declared.acts.Phase.{Phase}
use Rattle.placing.specs.declared.acts.Phase.TheVariants.{Idle, Ending, Filling, Emptying}

abbrev pub refusal_number : Refusal → ℕ
refusal_number Busy = 2
refusal_number NotThere = 3
refusal_number AlreadyThere = 4
refusal_number NoShelf = 5
refusal_number LastShelf = 6
refusal_number Full = 7

abbrev pub act_of : Act → hall.Act
act_of (Puts p) = puts p.good p.shelf
act_of Done = done
act_of (Refused why) = refused (refusal_number why)

abbrev pub command_of : Command → house.Command
command_of (GoodComes n) = comes n
command_of (GoodGoes n) = goes n
command_of (ShelfComes n) = shelf_comes n
command_of (ShelfGoes n) = shelf_goes n
command_of (WhereIs n) = where_is n

abbrev pub event_of_request : Request → Event
event_of_request (Carry c) = said (command_of c)
event_of_request GoOn = next

abbrev pub kind_number : Kind → ℕ
kind_number kind.GoodComes = 0
kind_number kind.GoodGoes = 1
kind_number kind.ShelfComes = 2
kind_number kind.ShelfGoes = 3
kind_number kind.WhereIs = 4

abbrev pub kind_named : ℕ → Result Kind UnknownKind
kind_named n =
    pick (n == 0) (Ok kind.GoodComes)
    (pick (n == 1) (Ok kind.GoodGoes)
    (pick (n == 2) (Ok kind.ShelfComes) (pick (n == 3) (Ok kind.ShelfGoes) (pick (n == 4) (Ok kind.WhereIs) (Err (record { 0 = n }))))))

abbrev pub kind_in : Command → Kind
kind_in (GoodComes n) = kind.GoodComes
kind_in (GoodGoes n) = kind.GoodGoes
kind_in (ShelfComes n) = kind.ShelfComes
kind_in (ShelfGoes n) = kind.ShelfGoes
kind_in (WhereIs n) = kind.WhereIs

abbrev pub command_with : Kind → ℕ → Command
command_with kind.GoodComes n = GoodComes n
command_with kind.GoodGoes n = GoodGoes n
command_with kind.ShelfComes n = ShelfComes n
command_with kind.ShelfGoes n = ShelfGoes n
command_with kind.WhereIs n = WhereIs n

abbrev pub number_of_phase : Phase → ℕ
number_of_phase Idle = 0
number_of_phase Ending = 1
number_of_phase Filling = 2
number_of_phase Emptying = 3

abbrev pub phase_named : ℕ → Phase
phase_named n = pick (n == 0) Idle (pick (n == 2) Filling (pick (n == 3) Emptying Ending))
