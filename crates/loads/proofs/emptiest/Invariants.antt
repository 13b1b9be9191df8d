-- What is left of the row gives the place.
use Rattle.std.proofs.Common.{◌≡◌, get_or, drop}
use Rattle.loads.proofs.Row.{least_at}
use Rattle.loads.proofs.emptiest.Given as goal

abbrev pub invariant-loop-i : goal.invariant-loop-i
invariant-loop-i l = least_at l.place l.least l.i (drop l.i l.loads) ≡ least_at 0 (get_or l.loads 0 0) 1 (drop 1 l.loads)
