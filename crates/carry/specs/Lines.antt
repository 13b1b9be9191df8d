-- The lines that are written, as bytes.
use Rattle.std.specs.Prelude.{ℕ, List, ◌++◌, codes, decimal}
use Rattle.placing.specs.Acts.{refusal_number}
use Rattle.carry.specs.declared.lines.Line.{Line}
use Rattle.carry.specs.declared.lines.Line.TheVariants.{Put, Refused}

abbrev pub line_of : Line → List ℕ
line_of (Put p) = decimal p.good ++ (codes " on " ++ decimal p.shelf)
line_of (Refused why) = codes "refused " ++ decimal (refusal_number why)
