use Rattle.std.proofs.Common.{◌∙◌}
use Rattle.ent_run.proofs.Among.{any_placed}
use Rattle.ent_run.proofs.search.is_among.Goals as goal

pub returns : goal.returns
returns c =
    c.is_some.ensures
    ∙ any_placed c.args.members.now c.args.tx c.place_of.result c.place_of.ensures.some c.place_of.ensures.none
