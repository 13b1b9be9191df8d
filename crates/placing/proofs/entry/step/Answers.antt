-- A step that fits is the machine's; one that does not changes nothing.
use Rattle.std.proofs.Common.{refl, arith}
use Rattle.placing.proofs.Steps.{step_refused, step_taken}
use Rattle.placing.proofs.entry.step.Goals as goal

pub returns-in_err-request : goal.returns-in_err-request
returns-in_err-request c = let h = c.in_err-request.ensures in step_refused _ _ _ _ _ _ c.from_residual.ensures refl (λ _ i _. omega arith)

pub returns-then-out-lt2 : goal.returns-then-out-lt2
returns-then-out-lt2 c = step_refused _ _ _ _ _ _ refl refl (λ _ _ h. omega arith)

pub returns-in_err-act : goal.returns-in_err-act
returns-in_err-act c = let h = c.in_err-act.ensures in step_refused _ _ _ _ _ _ c.from_residual-in_err-act.ensures h.1 (λ l _ _. h.0 l)

pub returns : goal.returns
returns c = let h = c.in_ok-request.ensures in let k = c.in_ok-act.ensures in step_taken _ _ _ _ _ _ _ _ k.0 h.0 (omega arith) h.1 k.1 c.tell.ensures
