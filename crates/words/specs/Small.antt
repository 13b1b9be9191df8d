-- Words of 64 bits, and changes that keep a region one of so many such words.
use Rattle.std.specs.Prelude.{◌≡◌, ℕ, ◌<◌, List, length, slice_index}

-- every word fits 64 bits
unfoldable pub Small : List ℕ → Type 0
Small m = (k : ℕ) → slice_index m k < 18446744073709551616

-- a region changed from m to n is as long as it was, and its words still fit 64 bits
pub record Kept (m n : List ℕ) : Type 0 where
  pub long : length n ≡ length m
  pub small : Small m → Small n
