use Rattle.std.proofs.Common.{length}
use Rattle.ent_report_reader.specs.View.{due_of}
use Rattle.std.proofs.lemmas.Result.{err_from_is_err_and}
use Rattle.ent_book.specs.Report.{line}
use Rattle.ent_history.specs.Opening.{OpeningRowStands}
use Rattle.ent_report_reader.specs.Reading.{IsRowLine}
use Rattle.ent_report_reader.proofs.Steps.{refused}
use Rattle.ent_report_reader.proofs.OpeningRows.{has_room, one_more, opening_row_has, room_left}
use Rattle.ent_report_reader.proofs.draft.Draft.opening_row.Goals as goal

pub returns-in_err-row : goal.returns-in_err-row
returns-in_err-row c =
    let p = err_from_is_err_and c.from_residual.result c.from_residual.ensures.1 in
    rw (p.1, p.2)
    (refused (Unit {0}) (IsRowLine c.args.text.now) (OpeningRowStands c.args.self.now (line c.args.text.now))
    c.args.self.now c.in_err-row.field-0.0 c.in_err-row.ensures
    (λ next stands. (stands.row, opening_row_has c.args.self.now c.args.text.now next stands)))

pub push_row-requires-clause-room : goal.push_row-requires-clause-room
push_row-requires-clause-room c =
    has_room (due_of c.self.inside.due) c.in-Some.more (length c.self.inside.opening.rows) c.in-Some.ensures.some
    c.self.invariant

pub invariant_of-self-2 : goal.invariant_of-self-2
invariant_of-self-2 c =
    let can = c.takes.ensures.0 c.if-not-takes.false in
    room_left (due_of c.self.inside.due) (due_of c.of_opening_rows.result) c.in-Some.more c.self.inside.opening
    c.push_row.new.self c.in-Some.ensures.some c.self.invariant
    (one_more c.self.inside.opening c.push_row.new.self can.create c.in_ok-row.row
    (c.in_ok-push_row.ensures.ok can.create can.last))
    c.of_opening_rows.ensures
