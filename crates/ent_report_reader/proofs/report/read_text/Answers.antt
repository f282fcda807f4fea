use Rattle.std.proofs.Common.{◌+◌, ◌-◌, ap, arith}
use Rattle.ent_book.specs.Report2.{line_count}
use Rattle.ent_history.specs.Fault.{IsNoEnd}
use Rattle.ent_report_reader.proofs.WholeRead.{not_ended, some_left, told_whole}
use Rattle.ent_report_reader.proofs.Whole.{breaks_at, faulty_at}
use Rattle.ent_report_reader.proofs.report.read_text.Goals.{else-has_ended-via-then-has_ended+else-is_empty}
use Rattle.ent_report_reader.proofs.report.read_text.Goals.{else-has_ended-via-else-has_ended}
use Rattle.ent_report_reader.proofs.report.read_text.Goals as goal

pub returns-then-is_empty : goal.returns-then-is_empty
returns-then-is_empty c =
    told_whole c.args.text.now c.in_ok-draft.draft c.in_ok-draft.rest.now c.in_ok-draft.lines c.has_ended.result
    c.is_empty.result c.into_history.result c.in_ok-draft.ensures.stops c.in_ok-draft.ensures.lines
    c.has_ended.ensures c.if-has_ended.true c.is_empty.ensures c.if-is_empty.true c.into_history.ensures

pub returns-then-branch : goal.returns-then-branch
returns-then-branch c =
    let no_end : IsNoEnd c.in_ok-draft.draft c.in_ok-draft.rest.now =
    elim c.else-has_ended.branch [
      | else-has_ended-via-then-has_ended+else-is_empty w ↦
          some_left c.in_ok-draft.draft c.in_ok-draft.rest.now w.is_empty.result w.is_empty.ensures
          w.if-is_empty.false
      | else-has_ended-via-else-has_ended w ↦
          not_ended c.in_ok-draft.draft c.in_ok-draft.rest.now c.has_ended.result c.has_ended.ensures
          w.if-has_ended.false
    ] in
    breaks_at c.args.text.now c.in_ok-draft.draft c.in_ok-draft.rest.now (c.line_count-count.result + 1)
    c.in_ok-draft.ensures.stops no_end (c.in_ok-breaks_off.ensures.0 c.if-branch.true)
    (omega (arith, c.line_count-count.ensures, ap line_count c.as_bytes.ensures.value))

pub returns : goal.returns
returns c =
    let no_end : IsNoEnd c.in_ok-draft.draft c.in_ok-draft.rest.now =
    elim c.else-has_ended.branch [
      | else-has_ended-via-then-has_ended+else-is_empty w ↦
          some_left c.in_ok-draft.draft c.in_ok-draft.rest.now w.is_empty.result w.is_empty.ensures
          w.if-is_empty.false
      | else-has_ended-via-else-has_ended w ↦
          not_ended c.in_ok-draft.draft c.in_ok-draft.rest.now c.has_ended.result c.has_ended.ensures
          w.if-has_ended.false
    ] in
    faulty_at c.args.text.now c.in_ok-draft.draft c.in_ok-draft.rest.now
    (c.line_count-count.result - c.line_count.result + 1) c.in_ok-draft.ensures.stops no_end
    (λ breaks. let is = c.in_ok-breaks_off.ensures.1 breaks in let not = c.if-branch.false in cc)
    (omega (
      arith,
      c.line_count-count.ensures,
      c.line_count.ensures,
      ap line_count c.as_bytes.ensures.value,
      ap line_count c.as_bytes-2.ensures.value,
    ))
