use Rattle.std.proofs.Common.{◌∙◌}
use Rattle.ent_check.proofs.HeadsPut.{met_by_heads}
use Rattle.ent_check.proofs.post.are_content.Goals as goal

pub returns : goal.returns
returns c = c.all_met.ensures ∙ met_by_heads c.in_ok-heads.heads c.args.offers.now c.in_ok-heads.ensures
