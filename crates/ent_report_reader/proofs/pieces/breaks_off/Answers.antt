use Rattle.std.proofs.Common.{subst, sym}
use Rattle.ent_report_reader.specs.Scripts.{IsScriptLine}
use Rattle.ent_report_reader.proofs.ScriptSteps.{breaks_by, never_breaks, not_read}
use Rattle.ent_report_reader.proofs.pieces.breaks_off.Goals as goal

pub returns-in-Err-Fault : goal.returns-in-Err-Fault
returns-in-Err-Fault c =
    never_breaks c.args.draft.now c.args.text.now c.in-Some.first.now c.in-Some.behind.now c.in-Some.ensures.some
    (λ count s. not_read (IsScriptLine c.args.draft.now c.as_bytes.result.now) c.in-Err-Fault.field-0
    c.in-Err-Fault.field-0-0 c.in-Err-Fault.field-0-is c.in-Err-Fault.ensures count
    (subst (λ t. IsScriptLine c.args.draft.now t count) (sym c.as_bytes.ensures.value) s))

pub returns : goal.returns
returns c =
    let said = subst (λ t. IsScriptLine c.args.draft.now t c.in-Ok.count) c.as_bytes.ensures.value c.in-Ok.ensures.0 in
    breaks_by c.args.draft.now c.args.text.now c.in-Some.first.now c.in-Some.behind.now _ _ c.in-Ok.count
    c.begins_script.result c.scripts_break_off_in_their_lines.ensures c.in-Some.ensures.some said c.front_lines.ensures
    c.begins_script.ensures
