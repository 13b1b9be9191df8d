-- Each shelf so far has its points.
use Rattle.std.proofs.Common.{◌≡◌, ◌+◌, ◌*◌, true, length}
use Rattle.std.specs.List.{All}
use Rattle.hall.specs.House.{has}
use Rattle.rules.proofs.ring.points_of.Given as goal

abbrev pub invariant-loop-shelf : goal.invariant-loop-shelf
invariant-loop-shelf l = (length l.points.items ≡ 128 * l.shelf-index) × All (λ p. has l.shelves p.shelf ≡ true) l.points.items

abbrev pub invariant-loop-turn : goal.invariant-loop-turn
invariant-loop-turn l =
    (length l.points.items ≡ 128 * l.shelf-index + l.turn) × All (λ p. has l.shelves p.shelf ≡ true) l.points.items × (has l.shelves l.shelf ≡ true)
