use Rattle.std.proofs.Common.{List, subst}
use Rattle.ent_form.specs.declared.catalogue.TableSchema.{TableSchema}
use Rattle.ent_prepare.specs.Prepared.{IsPrepared}
use Rattle.ent_room.specs.Putting.{Puts}
use Rattle.ent_room.specs.Room.{Room}
use Rattle.ent_room.proofs.Arrivals.{put_waits}
use Rattle.ent_room.proofs.room.Room.put.Goals as goal

pub returns-in-Ok-take_in-clause-puts : goal.returns-in-Ok-take_in-clause-puts
returns-in-Ok-take_in-clause-puts c =
    let old = c.self.inside.admission in
    let script = c.in-Ok.script in
    let list = c.in-Ok-take_in.ensures.list in
    subst (λ (r : Room). Puts r.admission c.args.text.now c.args.variables.now c.args.stay
    c.take_in.new.self.admission.list)
    c.self.view_is
    (record {
      script = script;
      prepared = subst (λ (tables : List TableSchema). IsPrepared tables c.args.text.now c.args.variables.now script)
          c.self.invariant.0 c.in-Ok.ensures.ok;
      list = list;
      waits = put_waits script c.args.stay old.list c.take_in.new.self.admission.list list;
    })
