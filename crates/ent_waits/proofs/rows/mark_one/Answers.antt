use Rattle.std.proofs.Common.{refl}
use Rattle.ent_waits.specs.Waits.{nothing}
use Rattle.ent_waits.proofs.Holders.{not_one, one_marked}
use Rattle.ent_waits.proofs.rows.mark_one.Goals as goal

pub returns-in-Some-clause-marked : goal.returns-in-Some-clause-marked
returns-in-Some-clause-marked c =
    one_marked c.args.run.now c.args.tx c.args.row c.with_mark.result c.in-Some.place c.active_len-most.ensures.distinct
    c.in-Some.ensures.some c.with_mark.ensures

pub returns-in-None-clause-marked : goal.returns-in-None-clause-marked
returns-in-None-clause-marked c =
    not_one c.args.run.now c.args.tx c.args.row (c.in-None.ensures.none refl nothing)
