use Rattle.ent_form.specs.Form.{script_in}
use Rattle.ent_form.specs.ScriptFaults.{script_faults}
use Rattle.ent_form.proofs.FirstFault.{first_answered}
use Rattle.ent_form.proofs.ScriptHeads.{script_head}
use Rattle.ent_form.proofs.script.resolve.Goals as goal

pub returns-clause-fault : goal.returns-clause-fault
returns-clause-fault c =
    let tables = c.args.catalogue.now.tables in
    let script = c.args.script.now in
    first_answered (λ plain. plain) c.in_order.result (script_in tables script) (script_faults tables script)
    (script_head tables script) c.in_order.ensures
