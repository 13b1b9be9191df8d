-- The leaf below what is come to is the leaf.
use Rattle.std.proofs.Common.{◌≡◌, ◌-◌}
use Rattle.index_model.specs.Model.{levels, leaf, slot_at}
use Rattle.index.proofs.Index.leaf_of.Given as goal

abbrev pub invariant-loop-level : goal.invariant-loop-level
invariant-loop-level g l =
    let at = slot_at g.row.BITS (g.M.AsSlice.items l.self.memory) in
    leaf g.row.BITS at (levels g.row.BITS - l.level) l.place ≡ leaf g.row.BITS at (levels g.row.BITS) l.start
