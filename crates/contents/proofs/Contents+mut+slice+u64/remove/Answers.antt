-- The model's law, at what was written.
use Rattle.std.proofs.Common.{◌≡◌, arith}
use Rattle.contents_model.specs.Model.{remove_at}
use Rattle.contents_model.proofs.Laws.{remove_law}
use Rattle.contents.proofs.NoGood.{put_none}
use Rattle.contents.proofs.Contents+mut+slice+u64.remove.Goals as goal

pub returns-clause-placed : goal.returns-clause-placed
unfolding remove_at
returns-clause-placed c =
    let is : c.put_field-5.new.memory ≡ remove_at c.args.self.now.memory.now c.args.good = grind (arith, put_none) in
    λ h. rw is (remove_law _ _ h)
