use Rattle.ent_form.proofs.Heads.{opening_head}
use Rattle.ent_form.proofs.ScriptHeads.{statement_head, script_head}
use Rattle.ent_form.proofs.fault_law.first_fault_is_first.Goals as goal

pub returns-clause-opening : goal.returns-clause-opening
returns-clause-opening c = opening_head

pub returns-clause-statement : goal.returns-clause-statement
returns-clause-statement c = statement_head

pub returns-clause-script : goal.returns-clause-script
returns-clause-script c = script_head
