use Rattle.ent_report_laws.proofs.Sound.{Laws}
use Rattle.ent_program_laws.proofs.Kept.{none_undeclared}
use Rattle.ent_program_laws.proofs.right_law.legal_books_keep_to_declared_tables.Goals as goal

pub returns : goal.returns
returns c book legal =
    let laws : Laws = record {
      first = c.first_fault_is_first.ensures.script;
      opens = c.resolved_scripts_keep_to_declared_tables.ensures.opens;
      within = c.resolved_scripts_keep_to_declared_tables.ensures.within;
    } in
    none_undeclared laws c.statements_keep_to_their_uses.ensures.changes book legal
