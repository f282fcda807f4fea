use Rattle.std.proofs.Common.{refl}
use Rattle.ent_members.specs.Changes.{posted}
use Rattle.ent_run.specs.UnderKeys.{nobody}
use Rattle.ent_run.proofs.OneChange.{one_change, one_numbers, one_prepared}
use Rattle.ent_run.proofs.change.post.Goals as goal

pub returns-clause-changed : goal.returns-clause-changed
returns-clause-changed c =
    one_change posted (λ m. refl) c.args.members.now c.post.new.self c.args.at (c.post.ensures nobody)
    c.requires.numbers

pub returns-clause-numbers : goal.returns-clause-numbers
returns-clause-numbers c =
    one_numbers posted (λ m. refl) c.args.members.now c.post.new.self c.args.at (c.post.ensures nobody)

pub returns-clause-prepared : goal.returns-clause-prepared
returns-clause-prepared c =
    one_prepared posted (λ m. refl) c.args.members.now c.post.new.self c.args.at (c.post.ensures nobody)
