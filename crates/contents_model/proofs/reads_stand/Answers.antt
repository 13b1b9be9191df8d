-- What the search leaves open of `reads_stand`.
use Rattle.contents_model.proofs.Laws.{first_law, next_law, walk_law, chain_law, bounds_law}
use Rattle.contents_model.proofs.reads_stand.Goals as goal

pub returns : goal.returns
returns c = record { first = first_law; next = next_law; walk = walk_law; chain = chain_law; bounds = bounds_law }
