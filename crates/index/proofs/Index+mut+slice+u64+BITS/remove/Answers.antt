-- The law of what it answers and leaves.
use Rattle.std.proofs.Common.{Some, rules}
use Rattle.index_model.specs.Model.{find_at, remove_in}
use Rattle.index_model.proofs.Tells.{remove_tells}
use Rattle.index.proofs.Index+mut+slice+u64+BITS.remove.Goals as goal

pub returns-clause-law : goal.returns-clause-law
unfolding find_at remove_in
returns-clause-law g c =
    remove_tells g.row.BITS c.args.self.now.memory.now c.give_slot.new.self.memory.now c.args.number (Some c.in_ok-slot.slot) (search rules) (search rules)
