-- A turn of the climb is one equation of the model's.
use Rattle.std.proofs.Common.{◌+◌, ◌-◌, sym, ◌∙◌, inl, inr, arith}
use Rattle.loads_model.proofs.Steps.{climb_none, climb_stop, climb_on}
use Rattle.loads.proofs.Tree.climb.Goals as goal
use Rattle.loads.proofs.Tree.climb.Goals.{else-best-at-via-then-best-at+else-best-slot, else-best-at-via-else-best-at}

pub returns-then-best-slot : goal.returns-then-best-slot
returns-then-best-slot g c =
    sym (climb_stop _ _ _ _ _ _ (10 - (c.loop-step._step + 1)) _ _ (omega arith) c.winner-best.ensures c.at.ensures c.if-best-at.true c.if-best-slot.true)
    ∙ c.loop-step.invariant.0

pub loop-step-preserved : goal.loop-step-preserved
loop-step-preserved g c = (
  rw c.set_at.ensures (sym (climb_on _ _ _ _ _ _ (10 - (c.loop-step._step + 1)) _ _ (omega arith) c.winner-best.ensures c.at.ensures
      (elim c.else-best-at.branch [ else-best-at-via-then-best-at+else-best-slot w ↦ inr w.if-best-slot.false | else-best-at-via-else-best-at w ↦ inl w.if-best-at.false ])))
      ∙ c.loop-step.invariant.0,
  omega arith,
)

pub returns : goal.returns
returns g c = sym (climb_none _ _ _ _ _ _ (omega arith)) ∙ c.loop-step.invariant.0
