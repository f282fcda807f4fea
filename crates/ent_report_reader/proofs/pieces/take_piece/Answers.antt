use Rattle.std.proofs.Common.{ap, refl, subst, sym}
use Rattle.ent_book.specs.Report.{line}
use Rattle.ent_report_reader.specs.Taking.{TakesLine}
use Rattle.ent_report_reader.proofs.FirstPieces.{nothing_in_line, steps_by}
use Rattle.ent_report_reader.proofs.pieces.take_piece.Goals as goal

pub returns-in_default : goal.returns-in_default
returns-in_default c = (nothing_in_line c.args.draft.now c.args.text.now c.in_default.ensures.none, refl)

pub returns : goal.returns
returns c =
    let taken = subst (λ t. TakesLine c.args.draft.now t c.in_ok-line.field-0 c.line.new.self) c.as_bytes.ensures.value
    c.in_ok-line.ensures in
    let none = subst (λ b. TakesLine c.args.draft.now c.in-Some.first.now b c.line.new.self) c.if-branch.false taken in
    steps_by c.args.draft.now c.line.new.self _ c.args.text.now c.in-Some.first.now c.in-Some.behind.now
    c.take_script.result c.in-Some.ensures.some c.next_table_is_word.ensures none c.take_script.ensures
