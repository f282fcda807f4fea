use Rattle.ent_program_laws.proofs.Finished.{Laws, finished_can_be_reported}
use Rattle.ent_headline.specs.Resolved.{resolved_forms}
use Rattle.ent_program_laws.proofs.finished_law.finished_books_can_be_reported.Goals as goal

pub returns : goal.returns
returns c text input book reads opened finished short =
    let laws : Laws = record {
      first = c.first_fault_is_first.ensures.script;
      resolved = c.submitted_forms_are_resolved.ensures resolved_forms;
      rise = c.joint_answers_come_by_number.ensures resolved_forms;
      runs = c.fates_count_runs.ensures resolved_forms;
      fates = c.finished_scripts_have_fates.ensures.book resolved_forms;
    } in
    finished_can_be_reported laws input book (c.read_openings_can_be_shown.ensures text input reads) opened
    (λ script there. c.read_scripts_can_be_printed.ensures.each text input script reads there)
    (c.read_scripts_can_be_printed.ensures.limit text input reads) finished short
