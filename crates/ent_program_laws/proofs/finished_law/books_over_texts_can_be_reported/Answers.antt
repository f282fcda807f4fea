use Rattle.ent_tree.specs.declared.script.Input.{Input}
use Rattle.ent_program_laws.proofs.Finished.{can_run}
use Rattle.ent_program_laws.proofs.finished_law.books_over_texts_can_be_reported.Goals as goal

pub returns : goal.returns
returns c text book reads opened faultless fates runs rising short =
    let input : Input = record { opening = book.opening; scripts = book.scripts } in
    record {
      opening = c.read_openings_can_be_shown.ensures text input reads;
      faultless = opened;
      few = c.read_scripts_can_be_printed.ensures.limit text input reads;
      scripts = can_run book.opening book.scripts faultless
          (λ script there. c.read_scripts_can_be_printed.ensures.each text input script reads there);
      fates = fates;
      runs = runs;
      rising = rising;
      short = short;
    }
