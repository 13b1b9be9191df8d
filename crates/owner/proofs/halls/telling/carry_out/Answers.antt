-- The commands so far are told, and then all of them.
use Rattle.std.proofs.Common.{refl, arith}
use Rattle.hall.specs.House.{each}
use Rattle.owner.proofs.Telling.{told_none, told_more, told_all}
use Rattle.owner.proofs.halls.telling.carry_out.Goals as goal

pub loop-command-init : goal.loop-command-init
unfolding each
loop-command-init c = told_none _ _ c.new-outcomes.ensures.items c.in_ok-hall.ensures

pub loop-command-preserved : goal.loop-command-preserved
loop-command-preserved c = told_more c.args.commands.now _ _ _ _ (omega arith) (c.in_ok-tell_next.ensures refl _ c.loop-command.invariant)

pub returns : goal.returns
returns c = told_all c.args.commands.now _ _ _ c.loop-command-test.false c.loop-command.invariant
