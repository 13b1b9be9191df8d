-- An act is that of the machine's step.
use Rattle.std.proofs.Common.{arith}
use Rattle.placing.proofs.Steps.{acts_in}
use Rattle.placing.proofs.entry.act.Goals as goal

pub split_at_mut-shelves-requires : goal.split_at_mut-shelves-requires
split_at_mut-shelves-requires c = omega (arith, c.in_ok-memory.ensures.cases, c.in_ok-rest.ensures.cases, c.split_at_mut-goods.ensures.back_len)

pub returns : goal.returns
returns c =
    acts_in _ _ _ _ _ _ _ _ _ _ _ _ _ _ _ _ _ _ _ c.in_ok-memory.ensures.cases.0 c.in_ok-rest.ensures.cases.0 c.split_at_mut-goods.ensures.value
    c.split_at_mut-shelves.ensures.value c.split_at_mut-loads.ensures.value (omega arith) c.split_at_mut-goods.ensures.front_len
    c.split_at_mut-shelves.ensures.front_len c.split_at_mut-loads.ensures.front_len (omega (arith, c.number-number.ensures)) c.react.ensures
