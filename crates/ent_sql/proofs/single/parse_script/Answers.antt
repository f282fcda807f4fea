use Rattle.std.proofs.Common.{◌∙◌, [], Err, Result, ap, length, subst, sym}
use Rattle.ent_tree.specs.declared.script.Script.{Script}
use Rattle.ent_sql.specs.declared.fault.SqlFault.{SqlFault}
use Rattle.ent_value.specs.Refusal.{Refuses}
use Rattle.ent_value.specs.declared.refusal.Refusal.{Refusal}
use Rattle.ent_text.specs.declared.grammar_fault.GrammarFault.{GrammarFault}
use Rattle.ent_text.specs.Grammar.{reads_all}
use Rattle.ent_sql.specs.Scripts.{script}
use Rattle.ent_text.specs.Left.{IsFaultlessBefore}
use Rattle.ent_sql.specs.Fault.{place_of}
use Rattle.ent_sql.proofs.Exact.{script_up_to, script_fault_up_to, script_text_fault_first, faultless_before}
use Rattle.ent_sql.proofs.Foreseen.{script_next}
use Rattle.ent_sql.proofs.single.parse_script.Goals as goal

pub returns-in-Ok : goal.returns-in-Ok
returns-in-Ok c = script_up_to c.args.text.now c.of.result c.in-Ok.script c.of.ensures c.in-Ok.ensures

pub fault_from-requires : goal.fault_from-requires
fault_from-requires c =
    subst (IsFaultlessBefore c.args.text.now) (ap place_of (sym c.fault_of-found.ensures) ∙ sym c.place.ensures)
    (faultless_before script (script_next []) c.args.text.now c.of.result c.in-Err-Fault.fault c.of.ensures
    (subst (λ (e : Refusal GrammarFault). Refuses e (reads_all script (length c.args.text.now) c.of.result))
    c.in-Err-Fault.field-0-is c.in-Err-Fault.ensures))

pub returns-in-None : goal.returns-in-None
returns-in-None c =
    script_fault_up_to c.args.text.now c.of.result c.in-Err-Fault.fault c.of.ensures c.in-None.ensures.none
    (subst (λ (e : Refusal GrammarFault). Refuses e (reads_all script (length c.args.text.now) c.of.result))
    c.in-Err-Fault.field-0-is c.in-Err-Fault.ensures)
    ∙ ap (λ (f : SqlFault). let r : Result Script SqlFault = Err f in r) (sym c.fault_of-found.ensures)

pub returns-in-Some : goal.returns-in-Some
returns-in-Some c = script_text_fault_first c.args.text.now c.in-Some.earlier c.in-Some.ensures.some
