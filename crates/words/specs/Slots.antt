-- Slots as answers: they count from 1, and 0 is none.
use Rattle.std.specs.Prelude.{ℕ, cond, Some, None, Option, ◌==◌}

abbrev pub some_slot : ℕ → Option ℕ
some_slot s = cond (s == 0) None (Some s)
