-- What the search leaves open of `changes_stand`.
use Rattle.contents_model.proofs.Laws.{add_law, add_keeps, remove_law, still_law, kept_law}
use Rattle.contents_model.proofs.changes_stand.Goals as goal

pub returns : goal.returns
returns c = record { add = add_law; add_keeps = add_keeps; remove = remove_law; still = still_law; kept = kept_law }
