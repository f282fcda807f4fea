use Rattle.std.proofs.Common.{◌∙◌, ap, subst, sym}
use Rattle.ent_desk.specs.Advance.{IsStill}
use Rattle.ent_desk.specs.Seen.{DeskState, SessionState}
use Rattle.ent_desk.proofs.Advancing.{behind, led_behind, moves_advance, run_moved, run_still}
use Rattle.ent_desk.proofs.Keeping.{advances_on}
use Rattle.ent_desk.proofs.Receiving.{receives_none}
use Rattle.ent_desk.proofs.desk.Desk.advance.Goals as goal

pub returns-in-Some-clause-ok : goal.returns-in-Some-clause-ok
returns-in-Some-clause-ok g c =
    let old = c.args.self.now in
    let new = c.move_in_run.new.self in
    moves_advance old new c.in-Some.moved
    (run_moved old new c.in_ok-moved.field-0 c.in-Some.moved c.in-Some.is c.in_ok-moved.ensures.ok)

pub returns-in-Some-clause-events : goal.returns-in-Some-clause-events
returns-in-Some-clause-events g c =
    let old = c.args.self.now in
    let new = c.move_in_run.new.self in
    advances_on c.in-Some.moved old new
    (moves_advance old new c.in-Some.moved
    (run_moved old new c.in_ok-moved.field-0 c.in-Some.moved c.in-Some.is c.in_ok-moved.ensures.ok))

pub end_or_start-requires-clause-still : goal.end_or_start-requires-clause-still
end_or_start-requires-clause-still g c κs within =
    let h = run_still c.args.self.now c.move_in_run.new.self c.in_ok-moved.field-0 c.in_default.is
    c.in_ok-moved.ensures.ok in
    subst (λ (d : DeskState). IsStill d.core) (sym h.0) h.1

pub returns-clause-ok : goal.returns-clause-ok
returns-clause-ok g c =
    let mid = c.move_in_run.new.self in
    let h = run_still c.args.self.now mid c.in_ok-moved.field-0 c.in_default.is c.in_ok-moved.ensures.ok in
    behind c.end_or_start.result c.args.self.now mid c.end_or_start.new.self h.0 c.end_or_start.ensures.ok

pub returns-clause-events : goal.returns-clause-events
returns-clause-events g c =
    let mid = c.move_in_run.new.self in
    let h = run_still c.args.self.now mid c.in_ok-moved.field-0 c.in_default.is c.in_ok-moved.ensures.ok in
    led_behind c.end_or_start.result c.args.self.now mid c.end_or_start.new.self h.0 c.end_or_start.ensures.ok
    c.end_or_start.ensures.err

pub returns-clause-receipts : goal.returns-clause-receipts
returns-clause-receipts g c =
    let mid = c.move_in_run.new.self in
    let h = run_still c.args.self.now mid c.in_ok-moved.field-0 c.in_default.is c.in_ok-moved.ensures.ok in
    receives_none c.args.self.now.core c.end_or_start.new.self.core c.args.session.now.receipts
    c.move_in_run.new.session.receipts
    (c.end_or_start.ensures.journal ∙ ap (λ (d : DeskState). d.core.journal) h.0)
    (ap (λ (s : SessionState). s.receipts) (c.in_ok-moved.ensures.same c.in_default.is))
