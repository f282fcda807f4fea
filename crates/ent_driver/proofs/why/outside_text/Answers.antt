use Rattle.std.proofs.Common.{subst, sym}
use Rattle.ent_driver.proofs.Outside.{IsOutside, stands_outside, told_inside}
use Rattle.ent_driver.proofs.why.outside_text.Goals as goal

pub unreachable-requires : goal.unreachable-requires
unreachable-requires c =
    told_inside c.in-Some.stands c.in_default-stands.not-Dormant c.in_default-stands.not-Finished
    (subst IsOutside (sym c.in-Some.ensures) (stands_outside c.args.core.now c.args.tx c.requires.outside))
