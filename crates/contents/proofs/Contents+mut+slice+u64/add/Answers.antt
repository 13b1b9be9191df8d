-- The model's laws, at what was written.
use Rattle.std.proofs.Common.{◌≡◌, rules}
use Rattle.contents_model.specs.Model.{add_at}
use Rattle.contents_model.proofs.Laws.{add_law, add_keeps}
use Rattle.contents.proofs.Contents+mut+slice+u64.add.Goals as goal

pub returns-then-is_none-clause-sound : goal.returns-then-is_none-clause-sound
unfolding add_at
returns-then-is_none-clause-sound c =
    let is : c.write.new.region ≡ add_at c.args.self.now.memory.now c.args.shelf c.args.good = search rules in
    λ h. rw is (add_keeps c.args.self.now.memory.now c.args.shelf c.args.good h)

pub returns-then-is_none-clause-placed : goal.returns-then-is_none-clause-placed
unfolding add_at
returns-then-is_none-clause-placed c =
    let is : c.write.new.region ≡ add_at c.args.self.now.memory.now c.args.shelf c.args.good = search rules in
    λ h fits. rw is (add_law _ _ _ h fits)
