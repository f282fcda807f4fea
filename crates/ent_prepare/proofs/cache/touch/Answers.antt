use Rattle.ent_prepare.proofs.Kept.{has_bytes, promoted_are_read}
use Rattle.ent_prepare.proofs.cache.touch.Goals as goal

pub returns : goal.returns
returns c =
    rw c.promote.ensures.entries (promoted_are_read (has_bytes c.args.text.now) c.args.cache.now.entries c.requires)
