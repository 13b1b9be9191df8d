-- The proof that `puts_count_stands` carries.
use Rattle.hall.proofs.Changes.{puts_count}
use Rattle.hall.proofs.puts_count_stands.Goals as goal

pub returns : goal.returns
returns c = puts_count
