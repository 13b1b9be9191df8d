-- The memory of a new hall is the machine's at the start.
use Rattle.std.proofs.Common.{◌≡◌, ℕ, List, replicate, sym, subst}
use Rattle.machine.specs.Acts.{nothing}
use Rattle.placing_model.specs.Parts.{zeros}
use Rattle.placing_model.specs.Own.{own}
use Rattle.placing_model.specs.Reached.{Reached}
use Rattle.placing_model.proofs.Reaching.{reached_start}
use Rattle.owner.proofs.halls.Hall.new.Goals as goal

started : (m : List ℕ) → m ≡ replicate 239635 0 → Reached m nothing
unfolding own zeros
started m e = subst (λ k. Reached k nothing) (sym e) reached_start

pub invariant_of-result : goal.invariant_of-result
invariant_of-result c = let e = c.in_ok-memory.ensures in record { whole = e.len; reached = ∣ (nothing, started _ (e.items_if_clones_equal (λ y q. q))) ∣₁ }

pub returns : goal.returns
returns c = started _ (c.in_ok-memory.ensures.items_if_clones_equal (λ y q. q))
