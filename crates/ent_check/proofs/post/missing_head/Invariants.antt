use Rattle.std.proofs.Common.{◌≡◌, true, take}
use Rattle.std.specs.List.{list_all}
use Rattle.ent_check.specs.Heads.{has}
use Rattle.ent_check.proofs.post.missing_head.Given as goal

-- those so far are heads
abbrev pub invariant-loop-post : goal.invariant-loop-post
invariant-loop-post l = list_all (has l.heads) (take l.post-index l.posts) ≡ true
