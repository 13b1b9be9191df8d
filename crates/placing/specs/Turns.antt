-- The state that a lent memory holds, and what a turn of the code leaves of it.
use Rattle.std.specs.Prelude.{◌≡◌, ℕ, List, [], ◌∷◌}
use Rattle.machine.specs.Machine.{State, Turn, turn}
use Rattle.placing_model.specs.Parts.{parts}
use Rattle.placing.specs.Acts.{act_of}
use Rattle.placing.specs.declared.acts.Act.{Act}
use Rattle.placing.specs.declared.memory.Machine.{Machine}

abbrev pub state_in : (phase subject : ℕ) (goods shelves loads contents : List ℕ) → State parts
state_in p x g s l c = record { phase = p; subject = x; goods = g; shelves = s; loads = l; contents = c }

abbrev pub state_of : Machine → State parts
state_of m = state_in m.phase.now m.subject.now m.goods.now m.shelves.now m.loads.now m.contents.now

-- which words it is lent
abbrev pub lent : Machine → List ℕ
lent m =
    m.phase.ghost_name ∷ m.subject.ghost_name ∷ m.goods.ghost_name ∷ m.shelves.ghost_name ∷ m.loads.ghost_name ∷ m.contents.ghost_name ∷ []

-- the same words hold this state now
pub record Changed (m m₁ : Machine) (s : State parts) : Type 0 where
  pub same : lent m₁ ≡ lent m
  pub left : state_of m₁ ≡ s

-- a function of the code took this turn: what it left in the same words, and what it says
pub record Takes (m : Machine) (r : Act) (m₁ : Machine) (t : Turn parts) : Type 0 where
  pub same : lent m₁ ≡ lent m
  pub taken : turn parts (state_of m₁) (act_of r) ≡ t
