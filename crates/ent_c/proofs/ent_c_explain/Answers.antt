use Rattle.std.proofs.Common.{inl, refl}
use Rattle.ent_c.proofs.ent_c_explain.Goals as goal

pub returns-in_default : goal.returns-in_default
returns-in_default c =
    inl (c.in_default.field-0.items, c.in_default.ensures.report, refl, refl, c.text.ensures)
