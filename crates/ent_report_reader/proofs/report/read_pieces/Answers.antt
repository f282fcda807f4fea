use Rattle.std.proofs.Common.{◌<◌, ◌^◌, Some, None, arith, length, rules, subst, sym}
use Rattle.std.specs.Option.{option_copied}
use Rattle.ent_history.specs.Draft.{Draft}
use Rattle.ent_report_reader.specs.Located.{AreLinesOf}
use Rattle.ent_report_reader.specs.Steps.{Steps}
use Rattle.ent_report_reader.proofs.ScriptSteps.{count_le}
use Rattle.ent_report_reader.proofs.ThingLines.{noted_next}
use Rattle.ent_report_reader.proofs.Whole.{stops_at}
use Rattle.ent_report_reader.proofs.report.read_pieces.Goals as goal

pub lines_above-line-requires : goal.lines_above-line-requires
lines_above-line-requires c =
    let steps = subst (λ r. Steps c.loop-lines.draft c.take_piece.new.draft c.loop-lines.rest.now (option_copied r))
    c.in-Some.is c.in_ok-behind.ensures in
    (steps.piece, steps.parts)

pub overflow_add-line : goal.overflow_add-line
overflow_add-line c =
    let few = count_le c.args.text.now in
    let room : length c.args.text.now < 2 ^ 63 = first_of (omega arith, search rules, grind (arith, rules)) in
    record { fits = omega (arith, few, room, c.loop-lines.invariant.1.2, c.lines_above-line.ensures) }

pub loop-lines-preserved : goal.loop-lines-preserved
loop-lines-preserved c =
    let steps = subst (λ r. Steps c.loop-lines.draft c.take_piece.new.draft c.loop-lines.rest.now (option_copied r))
    c.in-Some.is c.in_ok-behind.ensures in (
      search rules,
      noted_next c.args.text.now c.loop-lines.draft c.take_piece.new.draft c.loop-lines.rest.now c.in-Some.behind.now
          c.loop-lines.lines c.note.new.lines c.loop-lines.line c.lines_above-line.result c.loop-lines.told
          c.counts-now.result c.loop-lines.invariant.1 steps c.counts-now.ensures c.in_ok-note.ensures
          c.lines_above-line.ensures,
    )

pub returns-clause-stops : goal.returns-clause-stops
returns-clause-stops c =
    let steps = subst (λ r. Steps c.loop-lines.draft c.take_piece.new.draft c.loop-lines.rest.now (option_copied r))
    c.in_default.is c.in_ok-behind.ensures in
    stops_at c.args.text.now c.loop-lines.draft c.take_piece.new.draft c.loop-lines.rest.now
    c.loop-lines.invariant.1.0 steps.0 steps.1

pub returns-clause-lines : goal.returns-clause-lines
returns-clause-lines c =
    let steps = subst (λ r. Steps c.loop-lines.draft c.take_piece.new.draft c.loop-lines.rest.now (option_copied r))
    c.in_default.is c.in_ok-behind.ensures in
    subst (λ (draft : Draft). AreLinesOf c.args.text.now draft.told c.loop-lines.lines) (sym steps.1)
    c.loop-lines.invariant.1.1
