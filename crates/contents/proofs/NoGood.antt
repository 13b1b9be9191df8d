-- The row of no good.
use Rattle.std.proofs.Common.{◌≡◌, ℕ, List, refl}
use Rattle.contents_model.specs.Model.{put_field}

pub put_none : (m : List ℕ) (k v : ℕ) → put_field m 0 k v ≡ m
unfolding put_field
put_none m k v = refl
