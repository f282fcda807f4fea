use Rattle.ent_semantics.specs.declared.book.Fated.{Fated}
use Rattle.ent_lists.specs.Elements.{contains_in, of_all}
use Rattle.ent_program_laws.specs.Reportable.{CountsRuns}
use Rattle.ent_program_laws.proofs.FinishedRuns.{Laws, fates_count}
use Rattle.ent_program_laws.proofs.finished_law.fates_count_runs.Goals as goal

pub returns : goal.returns
returns g c forms s most fated reached asked few there =
    let laws : Laws forms = record {
      goes_on = c.steps_go_on.ensures forms;
      led = c.events_lead_on.ensures.reached forms;
      own = c.attempts_stay_within.ensures.own forms;
      most = c.attempts_stay_within.ensures.bound forms;
    } in
    of_all (λ (f : Fated). CountsRuns most f.fate) s.fates fated (fates_count forms laws most s reached asked few)
    (contains_in s.fates fated there)
