use Rattle.ent_report_laws.proofs.Sound.{Laws, sound_formed, told_opening_faultless, told_sound}
use Rattle.ent_report_laws.proofs.law.told_histories_are_formed.Goals as goal

pub returns-clause-formed : goal.returns-clause-formed
returns-clause-formed c text history tells =
    let laws : Laws = record {
      first = c.first_fault_is_first.ensures.script;
      opens = c.resolved_scripts_keep_to_declared_tables.ensures.opens;
      within = c.resolved_scripts_keep_to_declared_tables.ensures.within;
    } in
    sound_formed laws history (told_sound text history tells)

pub returns-clause-opening : goal.returns-clause-opening
returns-clause-opening c = told_opening_faultless

pub returns-clause-scripts : goal.returns-clause-scripts
returns-clause-scripts c text history tells = (told_sound text history tells).resolved
