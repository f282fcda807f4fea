use Rattle.std.proofs.Common.{◌∙◌}
use Rattle.ent_run.proofs.Among.{any_placed}
use Rattle.ent_run.proofs.search.is_among_by_number.Goals as goal

pub returns : goal.returns
returns c =
    c.is_some.ensures
    ∙ any_placed c.args.members.now c.args.tx c.place_by_number.result c.place_by_number.ensures.some
    c.place_by_number.ensures.none
