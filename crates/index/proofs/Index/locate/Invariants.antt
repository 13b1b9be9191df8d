-- What is left of the search gives the whole.
use Rattle.std.proofs.Common.{◌≡◌, ◌-◌}
use Rattle.index_model.specs.Model.{levels, descend, locate_in, slot_at, number_at}
use Rattle.index.proofs.Index.locate.Given as goal

abbrev pub invariant-loop-level : goal.invariant-loop-level
invariant-loop-level g l =
    let m = g.M.AsSlice.items l.self.memory in
    descend g.row.BITS (slot_at g.row.BITS m) (number_at g.row.BITS m) l.number (levels g.row.BITS - l.level) l.half l.place l.rest
    ≡ locate_in g.row.BITS m l.number
