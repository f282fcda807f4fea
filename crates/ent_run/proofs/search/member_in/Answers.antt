use Rattle.std.proofs.Common.{◌∙◌, Some, ap, sym}
use Rattle.ent_run.proofs.search.member_in.Goals as goal

pub returns-in-Some : goal.returns-in-Some
returns-in-Some c =
    ap Some (c.at.ensures c.at.result.now) ∙ sym (c.in-Some.ensures.some.first c.at.result.now)
