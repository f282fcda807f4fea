use Rattle.ent_report_laws.proofs.Sound.{Laws as Resolving}
use Rattle.ent_program_laws.proofs.Main.{Laws, tells_legal}
use Rattle.ent_program_laws.proofs.right_law.reports_of_legal_books_are_told.Goals as goal

pub returns : goal.returns
returns c book legal reported =
    let resolving : Resolving = record {
      first = c.first_fault_is_first.ensures.script;
      opens = c.resolved_scripts_keep_to_declared_tables.ensures.opens;
      within = c.resolved_scripts_keep_to_declared_tables.ensures.within;
    } in
    let laws : Laws = record {
      keeps = c.statements_keep_to_their_uses.ensures.changes;
      resolving = resolving;
      spelled = c.places_do_not_show.ensures;
      unplaced = c.legal_books_are_legal_without_places.ensures;
      unplaced_opened = c.faults_are_the_same_without_places.ensures.faultless_opening;
      unplaced_resolved = c.faults_are_the_same_without_places.ensures.faultless_script;
      unplaced_text = c.reports_are_the_same_without_places.ensures;
      over_told = c.books_over_told_openings_are_legal.ensures;
      told_resolved = λ opening script. c.scripts_have_the_same_faults.ensures _ _
          (c.told_openings_are_alike.ensures.tables opening) script;
      tellable = c.read_openings_can_be_told.ensures;
      told_tables = c.told_openings_hold_rows.ensures.tables;
      told_rows = c.told_openings_hold_rows.ensures.rows;
      rows = c.runs_answer_what_can_be_told.ensures.rows;
      answers = c.runs_answer_what_can_be_told.ensures.answers;
      read_views = c.read_views_can_be_told.ensures;
      shown = c.tables_can_be_told.ensures.shown;
      text = c.reports_tell_of_books.ensures;
      tells = c.reports_of_tellable_books_are_told.ensures;
    } in
    tells_legal laws book legal reported
