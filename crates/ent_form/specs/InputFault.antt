-- The first fault of form of an input.
use Rattle.std.specs.Prelude.{List, Result, Ok}
use Rattle.std.specs.Result.{result_err}
use Rattle.ent_value.specs.Refusal.{◌>>=◌}
use Rattle.ent_tree.specs.declared.declaration.Opening.{Opening}
use Rattle.ent_tree.specs.declared.script.Script.{Script}
use Rattle.ent_semantics.specs.declared.operand.Known.{Known}
use Rattle.ent_semantics.specs.declared.statement.Statement.{Statement}
use Rattle.ent_form.specs.Catalogue.{schemas_of}
use Rattle.ent_form.specs.Form.{script_in}
use Rattle.ent_form.specs.OpeningFault.{Check, ◌before◌, first_of, opening_fault}
use Rattle.ent_form.specs.declared.fault.FormFault.{FormFault}

-- the statements of a script's form over the tables that an opening declares, or its first fault
abbrev pub form_over : Opening → Script → Result (List (Statement Known)) FormFault
form_over opening script = script_in (schemas_of opening.tables) script >>= λ plain. Ok plain.statements

-- the first fault of form of scripts over an opening
abbrev pub scripts_fault : Opening → List Script → Check
scripts_fault opening scripts = first_of (λ script. result_err (form_over opening script)) scripts

-- the first fault of form of an input: its opening's, else that of its scripts
abbrev pub input_fault : Opening → List Script → Check
input_fault opening scripts = opening_fault opening before scripts_fault opening scripts
