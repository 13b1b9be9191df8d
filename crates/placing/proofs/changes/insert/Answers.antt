-- An index with no room stays as it is.
use Rattle.std.proofs.Common.{◌≡◌, ℕ, List, None, Option, sym, ◌∙◌, rules}
use Rattle.words.specs.Slots.{some_slot}
use Rattle.words.proofs.Slots.{slot_none}
use Rattle.index_model.specs.Model.{insert_slot, insert_in}
use Rattle.index_model.proofs.Finds.{refuse_law}
use Rattle.placing.proofs.changes.insert.Goals as goal

full_stays : (bits n : ℕ) (m m₁ : List ℕ) (r : Option ℕ) → m₁ ≡ insert_in bits m n → r ≡ some_slot (insert_slot bits m n) → r ≡ None → m₁ ≡ m
full_stays bits n m m₁ r after says e = after ∙ (refuse_law bits m n).same (slot_none _ (sym e ∙ says))

pub returns-clause-refused : goal.returns-clause-refused
returns-clause-refused g c = λ e. full_stays _ _ _ _ _ (search rules) c.insert.ensures.says e
