use Rattle.std.proofs.Common.{◌∙◌, ap, subst, sym}
use Rattle.ent_protocol.specs.Quiet.{CanMove, NoneIs}
use Rattle.ent_desk.specs.Seen.{DeskState, SessionState}
use Rattle.ent_desk.proofs.Advancing.{begun_first, behind_still, none_begun}
use Rattle.ent_desk.proofs.Receiving.{receives_none}
use Rattle.ent_desk.proofs.desk.Desk.move_in_run.Goals as goal

pub returns-in-Some-clause-ok : goal.returns-in-Some-clause-ok
returns-in-Some-clause-ok g c =
    begun_first c.args.self.now c.begin_first.new.self c.in_ok-begun.field-0 c.in-Some.begun c.in-Some.is
    c.in_ok-begun.ensures.ok

pub pick_or_break-requires-clause-nobody_moves : goal.pick_or_break-requires-clause-nobody_moves
pick_or_break-requires-clause-nobody_moves g c κs within =
    let h = none_begun c.args.self.now c.begin_first.new.self c.in_ok-begun.field-0 c.in_default.is
    c.in_ok-begun.ensures.ok in
    subst (λ (d : DeskState). NoneIs (CanMove d.core)) (sym h.0) h.1

pub returns-clause-ok : goal.returns-clause-ok
returns-clause-ok g c =
    let mid = c.begin_first.new.self in
    let h = none_begun c.args.self.now mid c.in_ok-begun.field-0 c.in_default.is
    c.in_ok-begun.ensures.ok in
    behind_still c.pick_or_break.result c.args.self.now mid c.pick_or_break.new.self h.0 c.pick_or_break.ensures.ok

pub returns-clause-receipts : goal.returns-clause-receipts
returns-clause-receipts g c =
    let mid = c.begin_first.new.self in
    let h = none_begun c.args.self.now mid c.in_ok-begun.field-0 c.in_default.is
    c.in_ok-begun.ensures.ok in
    receives_none c.args.self.now.core c.pick_or_break.new.self.core c.args.session.now.receipts
    c.begin_first.new.session.receipts
    (c.pick_or_break.ensures.journal ∙ ap (λ (d : DeskState). d.core.journal) h.0)
    (ap (λ (s : SessionState). s.receipts) (c.in_ok-begun.ensures.same c.in_default.is))
