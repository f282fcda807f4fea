use Rattle.std.proofs.Common.{◌++◌, arith, ap, refl, subst, sym}
use Rattle.ent_book.specs.Report2.{line_count}
use Rattle.ent_history.specs.Scripts.{ScriptStands}
use Rattle.ent_history.specs.Begins.{script_line}
use Rattle.ent_report_reader.specs.Scripts.{IsScriptLine}
use Rattle.ent_report_reader.proofs.ScriptSteps.{another_script, next_script, no_line, not_judged, not_read, too_few}
use Rattle.ent_report_reader.proofs.pieces.take_script.Goals as goal

pub returns-in-Err-Fault : goal.returns-in-Err-Fault
returns-in-Err-Fault c = (
  no_line c.args.draft.now c.args.first.now c.args.behind.now c.requires
      (λ count s. not_read (IsScriptLine c.args.draft.now c.as_bytes.result.now) c.in-Err-Fault.field-0
      c.in-Err-Fault.field-0-0 c.in-Err-Fault.field-0-is c.in-Err-Fault.ensures count
      (subst (λ t. IsScriptLine c.args.draft.now t count) (sym c.as_bytes.ensures.value) s)),
  refl,
)

pub returns-then-line_count-count : goal.returns-then-line_count-count
returns-then-line_count-count c =
    let said = subst (λ t. IsScriptLine c.args.draft.now t c.in-Ok.count) c.as_bytes.ensures.value c.in-Ok.ensures.0 in
    let same = ap line_count c.as_bytes-2.ensures.value in (
      too_few c.args.draft.now c.args.first.now c.args.behind.now c.in-Ok.count _ _ c.requires said
          c.front_lines.ensures
          (λ e. omega (arith, e, same, c.line_count.ensures, c.if-line_count-count.true)),
      refl,
    )

pub returns-in-Err-Fault-script : goal.returns-in-Err-Fault-script
returns-in-Err-Fault-script c =
    let said = subst (λ t. IsScriptLine c.args.draft.now t c.in-Ok.count) c.as_bytes.ensures.value c.in-Ok.ensures.0 in
    let same = ap line_count c.as_bytes-2.ensures.value in
    let draft = c.args.draft.now in
    let lines = c.front_lines.result.0.now in
    let none =
    not_judged (ScriptStands draft (script_line (next_script draft) (line_count lines) ++ lines)) draft
    c.script.new.self c.in-Err-Fault-script.field-0 c.in-Err-Fault-script.field-0-0 c.in-Err-Fault-script.field-0-is
    c.in-Err-Fault-script.ensures in (
      another_script draft c.args.first.now c.args.behind.now c.in-Ok.count lines _ c.requires said
          c.front_lines.ensures
          (omega (arith, same, c.line_count.ensures, c.if-line_count-count.false))
          none.0,
      none.1,
    )
