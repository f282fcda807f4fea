use Rattle.ent_picture.specs.Members.{started}
use Rattle.ent_picture.proofs.Rising.{same_as_named}
use Rattle.ent_picture.proofs.met.all_members.Goals as goal

pub returns-clause-exact : goal.returns-clause-exact
returns-clause-exact c =
    same_as_named c.each_once.result.items c.in_ok-started.field-0.items (started c.args.trace.now)
    c.in_ok-started.ensures c.each_once.ensures.exact
