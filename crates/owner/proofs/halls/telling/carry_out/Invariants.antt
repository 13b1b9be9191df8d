-- The commands so far are told.
use Rattle.std.proofs.Common.{take, vec_items}
use Rattle.owner.specs.Halls.{words_of, commands_of, AllTold}
use Rattle.owner.proofs.halls.telling.carry_out.Given as goal

abbrev pub invariant-loop-command : goal.invariant-loop-command
invariant-loop-command l = AllTold (commands_of (take l.command-index l.commands)) (words_of l.hall) (vec_items l.outcomes)
