use Rattle.ent_core.specs.Pick.{NoneCanBePicked}
use Rattle.ent_protocol.specs.Event.{Pick}
use Rattle.ent_desk.proofs.Advancing.{broken_or_still, moved_in_run, stayed}
use Rattle.ent_desk.proofs.desk.Desk.pick_or_break.Goals as goal

pub returns-in-Some-clause-ok : goal.returns-in-Some-clause-ok
returns-in-Some-clause-ok g c =
    let old = c.args.self.now in
    moved_in_run (NoneCanBePicked old.core) Pick old c.pick.new.self c.in_ok-picked.field-0 c.in-Some.picked
    c.requires.nobody_moves c.in-Some.is c.in_ok-picked.ensures.ok

pub returns-clause-ok : goal.returns-clause-ok
returns-clause-ok g c =
    let old = c.args.self.now in
    let h = stayed (NoneCanBePicked old.core) Pick old c.pick.new.self c.in_ok-picked.field-0 c.in_default.is
    c.in_ok-picked.ensures.ok in
    broken_or_still old c.pick.new.self c.break_cycle.new.self c.break_cycle.result h.0 c.requires.nobody_moves h.1
    c.break_cycle.ensures.ok
