-- How a step of the machine is told to the world outside.
use Rattle.std.specs.Prelude.{◌≡◌, ℕ, ◌<◌, ◌≤◌, Bool, true, false, ◌&&◌, List, ◌∷◌, length, drop, Some, None, Option, ◌==◌, nat_le}
use Rattle.hall.specs.House.{pick, comes, goes, shelf_comes, shelf_goes, where_is}
use Rattle.hall.specs.Promise.{Event, said, next, Act, puts, done, refused}
use Rattle.placing_model.specs.Own.{own}
use Rattle.placing_model.specs.Memory.{WholeMemory}
use Rattle.placing.specs.Acts.{act_of, event_of_request}
use Rattle.placing.specs.declared.acts.Act as code
use Rattle.placing.specs.declared.acts.Request.{Request}

-- 0 a good comes, 1 goes, 2 a shelf comes, 3 goes, 4 where a good is, 5 go on
unfoldable pub event_of : ℕ → ℕ → Event
event_of k n =
    pick (k == 0) (said (comes n))
    (pick (k == 1) (said (goes n)) (pick (k == 2) (said (shelf_comes n)) (pick (k == 3) (said (shelf_goes n)) (pick (k == 4) (said (where_is n)) next))))

-- what a kind and a number ask for: nothing where the kind is above 5
abbrev pub Asks : ℕ → ℕ → Option Request → Type 0
Asks k n (Some r) = (k ≤ 5) × (event_of_request r ≡ event_of k n)
Asks k n None = 5 < k

-- a put is told at the beginning of the lent row: the good and the shelf; the row is left as it was by any other act
abbrev pub row_after : Act → List ℕ → List ℕ
row_after (puts g k) out = g ∷ k ∷ drop 2 out
row_after done out = out
row_after (refused k) out = out

-- one step: for memories of the machine's own length and a lent row of two numbers at least the act that the machine makes; for others none, and nothing is changed
unfoldable pub StepSays : (memory : List ℕ) (kind number : ℕ) (out : List ℕ) → Bool → Option code.Act → (memory₁ out₁ : List ℕ) → Type 0
StepSays memory kind number out true (Some act) memory₁ out₁ =
    (own.step memory (event_of kind number) ≡ record { memory = memory₁; act = act_of act }) × (out₁ ≡ row_after (act_of act) out)
StepSays memory kind number out true None memory₁ out₁ = ⊥
StepSays memory kind number out false (Some act) memory₁ out₁ = ⊥
StepSays memory kind number out false None memory₁ out₁ = (memory₁ ≡ memory) × (out₁ ≡ out)

unfoldable pub step_fits : (memory : List ℕ) (kind : ℕ) (out : List ℕ) → Bool
step_fits memory kind out = length memory == length own.start && (nat_le kind 5 && nat_le 2 (length out))

-- one act: in a memory of the machine's own length it is that of its step; in any other none, and nothing is changed
abbrev pub ActsIn : List ℕ → Event → Option code.Act → List ℕ → Type 0
ActsIn m ev (Some a) m₁ = WholeMemory m × (own.step m ev ≡ record { memory = m₁; act = act_of a })
ActsIn m ev None m₁ = (WholeMemory m → ⊥) × (m₁ ≡ m)
