use Rattle.ent_prepare.proofs.Kept.{found_is_read}
use Rattle.ent_prepare.proofs.cache.kept.Goals as goal

pub returns : goal.returns
returns c = found_is_read c.args.text.now c.args.cache.now.entries c.peek.result c.peek.ensures c.requires
