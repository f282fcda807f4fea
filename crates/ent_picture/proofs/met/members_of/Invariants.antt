use Rattle.std.proofs.Common.{◌≡◌, take}
use Rattle.ent_picture.specs.Members.{members_of_commits}
use Rattle.ent_picture.proofs.met.members_of.Given as goal

abbrev pub invariant-loop-commit : goal.invariant-loop-commit
invariant-loop-commit l = l.members.items ≡ members_of_commits (take l.commit-index l.commits)
