use Rattle.std.proofs.Common.{◌∙◌}
use Rattle.ent_lock.specs.Use.{AddsUses, key_of_number, keyed}
use Rattle.ent_run.specs.Locks.{Locks}
use Rattle.ent_members.specs.InRun.{AreByNumber}
use Rattle.ent_run.proofs.Locked.{granted, granted_by_number}
use Rattle.ent_run.proofs.OneMember.{on_ok_then}
use Rattle.ent_run.proofs.locks.lock.Goals as goal

pub returns-clause-ok : goal.returns-clause-ok
returns-clause-ok c =
    let old = c.args.locks.now in
    let new = c.grant.new.self in
    let tx = c.args.tx in
    on_ok_then c.grant.result (AddsUses old new tx (keyed key_of_number c.as_slice.result.now))
    (Locks tx c.args.asked.now old new)
    (granted old new tx c.args.asked.now c.as_slice.result.now (c.as_slice.ensures.value ∙ c.in_ok-uses.ensures))
    c.grant.ensures.ok

pub returns-clause-by_number : goal.returns-clause-by_number
returns-clause-by_number c =
    let old = c.args.locks.now in
    let new = c.grant.new.self in
    let tx = c.args.tx in
    on_ok_then c.grant.result (AddsUses old new tx (keyed key_of_number c.as_slice.result.now))
    (AreByNumber old → AreByNumber new) (granted_by_number old new tx c.as_slice.result.now) c.grant.ensures.ok
