use Rattle.ent_rel.proofs.RowByRow.{inserts_one, deletes_matches, replaces_matches, changes_rows}
use Rattle.ent_rel.proofs.laws.changes_by_row.Goals as goal

pub returns-clause-insertion : goal.returns-clause-insertion
returns-clause-insertion g c = inserts_one

pub returns-clause-deletion : goal.returns-clause-deletion
returns-clause-deletion g c = deletes_matches

pub returns-clause-replacement : goal.returns-clause-replacement
returns-clause-replacement g c = replaces_matches

pub returns-clause-change : goal.returns-clause-change
returns-clause-change g c = changes_rows
