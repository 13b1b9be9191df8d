-- A hall that is told a command: what the run makes of a hall that is reached.
use Rattle.std.proofs.Common.{refl, arith}
use Rattle.std.proofs.lemmas.List.{with_items_is}
use Rattle.placing_model.proofs.Reaching.{run_done}
use Rattle.owner.proofs.Telling.{refusal_some, run_kept, run_not, run_same, run_stays, as_run}
use Rattle.owner.proofs.halls.Hall.tell.Goals as goal

pub invariant_of-self : goal.invariant_of-self
invariant_of-self c = record {
  whole = c.args.self.now.whole;
  reached = run_kept _ _ _ _ c.run.ensures.small c.args.self.now.reached c.run.result
      (as_run _ _ _ _ _ _ _ _ _ c.acts_for-acts.ensures c.as_mut_slice.ensures.value (with_items_is c.args.self.now.memory c.run.new.memory (omega arith)) c.run.ensures.ran);
}

pub unreachable-requires : goal.unreachable-requires
unreachable-requires c =
    let e = c.in-None.ensures in
    run_not _ _ _ _ e.small c.args.self.now.reached (as_run _ _ _ _ _ _ _ _ _ c.acts_for-acts.ensures c.as_mut_slice.ensures.value (with_items_is c.args.self.now.memory c.run.new.memory (omega arith)) e.ran)

pub returns-in-Some-Ok : goal.returns-in-Some-Ok
returns-in-Some-Ok c =
    let e = c.in-Some-Ok.ensures in
    let run = as_run _ _ _ _ _ _ _ _ _ c.acts_for-acts.ensures c.as_mut_slice.ensures.value (with_items_is c.args.self.now.memory c.run.new.memory (omega arith)) (rw c.in-Some-Ok.field-0-is at e.ran) in
    record {
      right = λ s h. run_done _ _ s _ _ 0 h e.small run refl;
      same = λ q. grind arith;
    }

pub returns-in-Some-Err : goal.returns-in-Some-Err
returns-in-Some-Err c =
    let e = c.in-Some-Err.ensures in
    let run = as_run _ _ _ _ _ _ _ _ _ c.acts_for-acts.ensures c.as_mut_slice.ensures.value (with_items_is c.args.self.now.memory c.run.new.memory (omega arith)) (rw c.in-Some-Err.field-0-is at e.ran) in
    record {
      right = run_stays _ _ _ _ e.small c.args.self.now.reached _ (refusal_some c.in-Some-Err.why) run;
      same = λ q. run_same _ _ _ _ e.small c.args.self.now.reached _ (refusal_some c.in-Some-Err.why) run;
    }
