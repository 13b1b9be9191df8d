-- The machine's memory: two registers and the four parts, one after the other.
use Rattle.std.specs.Prelude.{◌≡◌, ℕ, List, [], ◌∷◌, length, slice_index, slice_index_or}
use Rattle.words.specs.Parts.{cuts, flat}
use Rattle.machine.specs.Machine.{State}
use Rattle.placing_model.specs.Parts.{parts}

-- a memory of the machine's own length
abbrev pub WholeMemory : List ℕ → Type 0
WholeMemory m = length m ≡ 239635

-- how many words the registers have, the index of goods, the index of shelves, the loads and the contents
abbrev pub sizes : List ℕ
sizes = 2 ∷ 131078 ∷ 4102 ∷ 5121 ∷ 99332 ∷ []

-- the regions of a state, and the state of such regions
abbrev pub listed : State parts → List (List ℕ)
listed s = (s.phase ∷ s.subject ∷ []) ∷ s.goods ∷ s.shelves ∷ s.loads ∷ s.contents ∷ []

abbrev pub named : List (List ℕ) → State parts
named l = record {
  phase = slice_index (slice_index_or l 0 []) 0;
  subject = slice_index (slice_index_or l 0 []) 1;
  goods = slice_index_or l 1 [];
  shelves = slice_index_or l 2 [];
  loads = slice_index_or l 3 [];
  contents = slice_index_or l 4 [];
}

-- the state that a memory holds, and the memory that holds a state
unfoldable pub cut : List ℕ → State parts
cut m = named (cuts 0 sizes m)

unfoldable pub joined : State parts → List ℕ
joined s = flat (listed s)
