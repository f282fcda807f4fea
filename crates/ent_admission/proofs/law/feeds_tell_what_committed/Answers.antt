use Rattle.ent_epoch.specs.Passed.{resolved_forms}
use Rattle.ent_admission.proofs.Told.{Laws, tells_what_committed}
use Rattle.ent_admission.proofs.law.feeds_tell_what_committed.Goals as goal

pub returns : goal.returns
returns c =
    let laws : Laws = record {
      goes_on = c.steps_go_on.ensures resolved_forms;
      grows = c.journals_grow_by_commits.ensures.one resolved_forms;
      legal = c.resolved_runs_are_legal.ensures;
      tables = c.groups_give_the_settled_tables.ensures.all;
      journal = c.groups_give_the_journal.ensures.since;
    } in
    tells_what_committed laws
