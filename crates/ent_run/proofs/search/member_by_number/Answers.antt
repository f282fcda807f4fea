use Rattle.std.proofs.Common.{◌∙◌, Some, ap, refl, sym}
use Rattle.ent_run.proofs.search.member_by_number.Goals as goal

pub returns-in-Some : goal.returns-in-Some
returns-in-Some c =
    ap Some (c.at.ensures c.at.result.now) ∙ sym (c.in-Some.ensures.some.first c.at.result.now)

pub returns-in-None : goal.returns-in-None
returns-in-None c = sym (c.in-None.ensures.none refl)
