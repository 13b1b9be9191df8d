-- Where in a good's row each column stands.
use Rattle.std.specs.Prelude.{ℕ}
use Rattle.contents.specs.declared.Column.{Column}
use Rattle.contents.specs.declared.Column.TheVariants.{Shelf, Next, Previous}

abbrev pub place_of : Column → ℕ
place_of Shelf = 0
place_of Next = 1
place_of Previous = 2
