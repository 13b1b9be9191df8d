-- What is left of the climb gives the whole of it.
use Rattle.std.proofs.Common.{◌≡◌, ◌-◌, ◌<◌}
use Rattle.loads_model.specs.Model.{climb, leaf}
use Rattle.loads.proofs.Tree.climb.Given as goal

abbrev pub invariant-loop-step : goal.invariant-loop-step
invariant-loop-step g l =
    let t = g.Self.Tree in
    (climb t.before t.BASE l.slot (10 - l._step) l.memory l.place ≡ climb t.before t.BASE l.slot 10 l.initial.memory (leaf l.slot))
    × (l.place < 2048)
