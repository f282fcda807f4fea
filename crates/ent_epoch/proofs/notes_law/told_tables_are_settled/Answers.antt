use Rattle.std.proofs.Common.{◌≡◌, None, sym, subst, ◌∙◌}
use Rattle.ent_form.specs.OpeningFault.{opening_fault}
use Rattle.ent_form.specs.declared.fault.FormFault.{FormFault}
use Rattle.ent_sched.specs.Passed.{resolved_forms}
use Rattle.ent_protocol.specs.Event.{Event, Reply}
use Rattle.ent_protocol.specs.State.{State}
use Rattle.ent_protocol.specs.Step.{Step}
use Rattle.ent_tree.specs.declared.declaration.Opening.{Opening}
use Rattle.ent_epoch.proofs.Standing.{same_opening, settled_so}
use Rattle.ent_epoch.proofs.notes_law.told_tables_are_settled.Goals as goal

pub returns : goal.returns
returns c = λ telling core formed keeps all.
    let opens : (s : State) (event : Event) (reply : Reply FormFault) (new : State)
    → Step resolved_forms s event reply new → new.opening ≡ s.opening =
    λ s event reply new step. (c.steps_go_on.ensures resolved_forms s event reply new step).opening in
    let grows = c.journals_grow_by_commits.ensures.one resolved_forms in
    let first = keeps.first in
    let fine : opening_fault first.opening ≡ None =
    subst (λ (o : Opening). opening_fault o ≡ None) (same_opening opens grows telling core keeps) formed in
    keeps.told_to.tables
    ∙ sym (settled_so opens grows (c.journals_grow_by_commits.ensures.some resolved_forms)
    (c.only_commits_settle_tables.ensures.one resolved_forms) keeps.told first core
    (c.resolved_forms_are_faithful.ensures first.opening fine) keeps.reached keeps.through
    (sym all ∙ keeps.told_to.entries))
