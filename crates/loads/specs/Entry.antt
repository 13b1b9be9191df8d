-- The least of a row of loads, and of two numbers.
use Rattle.std.specs.Prelude.{ℕ, cond, List, Option, min, option_and_then, ◌==◌, nat_lt}
use Rattle.std.specs.List.{position, reduce}

-- the first place of the least number of a row
abbrev pub emptiest_of : List ℕ → Option ℕ
emptiest_of ks = option_and_then (λ least. position (λ load. load == least) ks) (reduce min ks)

abbrev pub smaller : ℕ → ℕ → ℕ
smaller a b = cond (nat_lt a b) a b
