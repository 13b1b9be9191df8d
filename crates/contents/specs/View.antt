-- What a walk has yet to give.
use Rattle.std.specs.Prelude.{ℕ, List}
use Rattle.contents_model.specs.Model.{next_at, walk_from}
use Rattle.contents.specs.declared.Walk.{Walk}

unfoldable pub shown : Walk → List ℕ
shown w = walk_from (next_at w.memory.now) w.left w.at
