-- A turn of the search is one equation of the place that is found.
use Rattle.std.proofs.Common.{Some, sym, ap, ◌∙◌, rules}
use Rattle.loads.proofs.Row.{row_some, row_end, row_lower, row_not}
use Rattle.loads.proofs.emptiest.Goals as goal
use Rattle.loads.proofs.emptiest.Goals.{then-load-least, else-load-least}

pub loop-i-preserved : goal.loop-i-preserved
loop-i-preserved c = elim c.if-load-least.branch [
  | then-load-least w ↦ row_lower c.args.loads.now c.loop-i.place c.loop-i.least c.loop-i.i c.loop-i-test.true _ _ w.if-load-least.true w.place-is c.smaller_of-least.ensures ∙ c.loop-i.invariant
  | else-load-least w ↦ row_not c.args.loads.now c.loop-i.place c.loop-i.least c.loop-i.i c.loop-i-test.true _ _ w.if-load-least.false w.place-is c.smaller_of-least.ensures ∙ c.loop-i.invariant
]

pub returns : goal.returns
returns c =
    ap Some (sym (row_end c.args.loads.now c.loop-i.place c.loop-i.least c.loop-i.i c.loop-i-test.false) ∙ c.loop-i.invariant)
    ∙ sym (row_some c.args.loads.now (search (rules, c.in_ok-least.ensures)))
