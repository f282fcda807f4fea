use Rattle.ent_undo.proofs.Undoing.{slice_get-rolled_back}
use Rattle.ent_undo.proofs.History.{rolls_back_to_first_write, keeps_other_tables, undoes_writes, tells_once_noted}
use Rattle.ent_undo.proofs.History.{tells_once_forgotten, tells_once_rolled_back}
use Rattle.ent_undo.proofs.laws.log_tells_of_writes.Goals as goal

pub returns-clause-each_table : goal.returns-clause-each_table
returns-clause-each_table c = slice_get-rolled_back

pub returns-clause-first_write : goal.returns-clause-first_write
returns-clause-first_write c = rolls_back_to_first_write

pub returns-clause-other_tables : goal.returns-clause-other_tables
returns-clause-other_tables c = keeps_other_tables

pub returns-clause-undone : goal.returns-clause-undone
returns-clause-undone c = undoes_writes

pub returns-clause-noted : goal.returns-clause-noted
returns-clause-noted c = tells_once_noted

pub returns-clause-forgotten : goal.returns-clause-forgotten
returns-clause-forgotten c = tells_once_forgotten

pub returns-clause-rolled_back : goal.returns-clause-rolled_back
returns-clause-rolled_back c = tells_once_rolled_back
