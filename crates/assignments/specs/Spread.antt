-- By how much the loads of a store's shelves differ.
use Rattle.std.specs.Prelude.{ℕ, ◌+◌, Bool, nat_eq, nat_le}
use Rattle.hall.specs.House.{Store, any, every, load}

-- no shelf has over n goods more than another
abbrev pub at_most : Store → ℕ → Bool
at_most s n = every (λ k. every (λ j. nat_le (load s k) (load s j + n)) s.shelves) s.shelves

-- some shelf has just n goods more than another
abbrev pub reached : Store → ℕ → Bool
reached s n = any (λ k. any (λ j. nat_eq (load s k) (load s j + n)) s.shelves) s.shelves
