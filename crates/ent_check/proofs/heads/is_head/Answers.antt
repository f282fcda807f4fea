use Rattle.std.proofs.Common.{◌∙◌}
use Rattle.ent_check.proofs.HeadsPut.{looked_up}
use Rattle.ent_check.proofs.heads.is_head.Goals as goal

pub returns : goal.returns
returns c = c.contains.ensures ∙ looked_up c.args.heads.now c.args.post.now
