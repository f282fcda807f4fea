use Rattle.std.proofs.Common.{◌≡◌, List, drop}
use Rattle.std.specs.Result.{result_err}
use Rattle.ent_form.specs.Form.{script_in}
use Rattle.ent_form.specs.OpeningFault.{Check, first_of}
use Rattle.ent_form.specs.declared.catalogue.TableSchema.{TableSchema}
use Rattle.ent_tree.specs.declared.script.Script.{Script}
use Rattle.ent_room.proofs.reading.scripts_fault.Given as goal

abbrev fault_in : List TableSchema → List Script → Check
fault_in tables scripts = first_of (λ script. result_err (script_in tables script)) scripts

-- the scripts that are left have the fault of all
abbrev pub invariant-loop-script : goal.invariant-loop-script
invariant-loop-script l =
    fault_in l.catalogue.tables (drop l.script-index l.scripts) ≡ fault_in l.catalogue.tables l.scripts
