-- Each turn of the loop is one act of the run.
use Rattle.std.proofs.Common.{◌≡◌, suc, ◌+◌, ◌-◌, length, sym, ap, ◌∙◌, arith}
use Rattle.owner.proofs.Running.{runs_puts, runs_done, runs_refused, runs_none, runs_on, start_runs}
use Rattle.owner.proofs.runs.run.Goals as goal

pub loop-turn-init : goal.loop-turn-init
loop-turn-init c =
    let z : c.args.acts - 0 ≡ c.args.acts = omega arith in
    (c.requires.whole, c.args.moves.now.ok.0 ∙ ap length c.requires.fresh, c.requires.room, start_runs _ _ _ _ _ z c.requires.fresh)

pub push_reserved-requires : goal.push_reserved-requires
push_reserved-requires c = let i = c.loop-turn.invariant in omega arith

pub loop-turn-preserved : goal.loop-turn-preserved
loop-turn-preserved c =
    let i = c.loop-turn.invariant in
    let p = runs_puts (c.args.acts - c.loop-turn.turn) (c.args.acts - (c.loop-turn.turn + 1)) _ _ _ _ (omega arith) _ _ c.in-Puts.is c.in_ok-spot.ensures.1 in (
      omega arith,
      omega (arith, c.push_reserved.ensures.len),
      omega (arith, c.push_reserved.ensures.capacity),
      runs_on _ _ _ _ _ _ c.push_reserved.ensures.items (sym p ∙ i.3),
    )

pub returns-in-Done : goal.returns-in-Done
returns-in-Done c =
    let e = c.number-number.ensures in
    let i = c.loop-turn.invariant in
    record {
      small = omega arith;
      ran = sym i.3 ∙ runs_done (c.args.acts - c.loop-turn.turn) (c.args.acts - suc c.loop-turn.turn) _ _ _ _ (omega arith) _ c.in-Done.is c.in_ok-spot.ensures.1;
    }

pub returns-in-Refused : goal.returns-in-Refused
returns-in-Refused c =
    let e = c.number-number.ensures in
    let i = c.loop-turn.invariant in
    record {
      small = omega arith;
      ran = sym i.3 ∙ runs_refused (c.args.acts - c.loop-turn.turn) (c.args.acts - suc c.loop-turn.turn) _ _ _ _ (omega arith) _ _ c.in-Refused.is c.in_ok-spot.ensures.1;
    }

pub returns-in_err-spot : goal.returns-in_err-spot
returns-in_err-spot c = absurd (c.in_err-spot.ensures.0 c.loop-turn.invariant.0)

pub returns : goal.returns
returns c =
    let e = c.number-number.ensures in
    let i = c.loop-turn.invariant in
    record { small = omega arith; ran = sym i.3 ∙ runs_none _ _ _ _ (omega arith) }
