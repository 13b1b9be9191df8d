-- The law of what it answers and leaves.
use Rattle.std.proofs.Common.{Some, rules, arith}
use Rattle.index_model.specs.Model.{find_at, insert_slot, insert_in}
use Rattle.index_model.proofs.Tells.{insert_tells}
use Rattle.index.proofs.Index+mut+slice+u64+BITS.insert.Goals as goal

pub returns-clause-law : goal.returns-clause-law
unfolding find_at insert_slot insert_in
returns-clause-law g c =
    insert_tells g.row.BITS c.args.self.now.memory.now c.hang.new.self.memory.now c.args.number (Some c.in_ok-slot.slot) (search rules) (search rules) (omega arith)
