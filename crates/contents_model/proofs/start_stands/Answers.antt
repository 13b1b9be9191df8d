-- What the search leaves open of `start_stands`.
use Rattle.contents_model.proofs.Laws.{empty_law, rows_law}
use Rattle.contents_model.proofs.start_stands.Goals as goal

pub returns : goal.returns
returns c = record { empty = empty_law; rows = rows_law }
