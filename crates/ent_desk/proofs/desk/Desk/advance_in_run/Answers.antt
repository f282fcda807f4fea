use Rattle.std.proofs.Common.{ap}
use Rattle.ent_desk.specs.Seen.{DeskState, SessionState}
use Rattle.ent_desk.proofs.Advancing.{moves_in_run, rests_in_run, run_moved, run_still}
use Rattle.ent_desk.proofs.Keeping.{in_run_on, none_on}
use Rattle.ent_desk.proofs.Receiving.{receives_none}
use Rattle.ent_desk.proofs.desk.Desk.advance_in_run.Goals as goal

pub returns-in-Some-clause-ok : goal.returns-in-Some-clause-ok
returns-in-Some-clause-ok g c =
    let old = c.args.self.now in
    let new = c.move_in_run.new.self in
    moves_in_run old new c.in-Some.moved
    (run_moved old new c.in_ok-moved.field-0 c.in-Some.moved c.in-Some.is c.in_ok-moved.ensures.ok)

pub returns-in-Some-clause-events : goal.returns-in-Some-clause-events
returns-in-Some-clause-events g c =
    let old = c.args.self.now in
    let new = c.move_in_run.new.self in
    in_run_on c.in-Some.moved old new
    (moves_in_run old new c.in-Some.moved
    (run_moved old new c.in_ok-moved.field-0 c.in-Some.moved c.in-Some.is c.in_ok-moved.ensures.ok))

pub returns-clause-ok : goal.returns-clause-ok
returns-clause-ok g c =
    let old = c.args.self.now in
    let new = c.move_in_run.new.self in
    let h = run_still old new c.in_ok-moved.field-0 c.in_default.is c.in_ok-moved.ensures.ok in
    rests_in_run old new c.rest.result h.0 h.1 c.rest.ensures

pub returns-clause-events : goal.returns-clause-events
returns-clause-events g c =
    let old = c.args.self.now in
    let new = c.move_in_run.new.self in
    none_on old new (run_still old new c.in_ok-moved.field-0 c.in_default.is c.in_ok-moved.ensures.ok).0

pub returns-clause-receipts : goal.returns-clause-receipts
returns-clause-receipts g c =
    let old = c.args.self.now in
    let new = c.move_in_run.new.self in
    let h = run_still old new c.in_ok-moved.field-0 c.in_default.is c.in_ok-moved.ensures.ok in
    receives_none old.core new.core c.args.session.now.receipts c.move_in_run.new.session.receipts
    (ap (λ (d : DeskState). d.core.journal) h.0)
    (ap (λ (s : SessionState). s.receipts) (c.in_ok-moved.ensures.same c.in_default.is))
