use Rattle.std.proofs.Common.{sym, ◌∙◌}
use Rattle.ent_page.proofs.Laid.{length-shown}
use Rattle.ent_page.proofs.page.Page.len.Goals as goal

pub returns : goal.returns
returns c = c.len.ensures ∙ c.self.inside.ends.ok.0
    ∙ sym (length-shown c.self.inside.bytes.items c.self.inside.ends.items c.args.self.now c.self.view_is)
