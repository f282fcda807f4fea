use Rattle.std.proofs.Common.{◌≡◌, List, None, subst}
use Rattle.ent_form.specs.OpeningFault.{opening_fault}
use Rattle.ent_sched.specs.Passed.{resolved_forms}
use Rattle.ent_semantics.specs.Form.{Tables}
use Rattle.ent_protocol.specs.Reached.{settled}
use Rattle.ent_tree.specs.declared.declaration.Opening.{Opening}
use Rattle.ent_epoch.specs.Notes.{Note}
use Rattle.ent_epoch.specs.Publishing.{AreGroupsOf}
use Rattle.ent_epoch.proofs.Standing.{rest_tells, same_opening}
use Rattle.ent_epoch.proofs.notes_law.groups_tell_the_rest.Goals as goal

pub returns-clause-noted : goal.returns-clause-noted
returns-clause-noted c = λ tickets telling core groups formed keeps owned whole of.
    let first = keeps.first in
    let opened : core.opening ≡ first.opening =
    same_opening (λ s event reply new step. (c.steps_go_on.ensures resolved_forms s event reply new step).opening)
    (c.journals_grow_by_commits.ensures.one resolved_forms) telling core keeps in
    let fine : opening_fault first.opening ≡ None =
    subst (λ (o : Opening). opening_fault o ≡ None) opened formed in
    let from_first =
    subst (λ (notes : List Note). AreGroupsOf tickets first.opening core.journal (settled first) notes groups)
    (keeps.noted whole)
    (subst (λ (tables : Tables). AreGroupsOf tickets first.opening core.journal tables telling.notes.notes groups)
    keeps.told_to.tables
    (subst (λ (o : Opening). AreGroupsOf tickets o core.journal telling.tables telling.notes.notes groups) opened of))
    in
    let found =
    c.groups_of_notes_tell.ensures resolved_forms tickets first core keeps.told groups
    (c.resolved_forms_are_faithful.ensures first.opening fine) keeps.reached keeps.through from_first in
    record {
      first = first;
      told_to = keeps.told_to;
      behind = found.0;
      told = found.1;
      tables = found.2;
      journal = found.3;
      opening = found.4;
      owned = owned;
    }

pub returns-clause-in_one : goal.returns-clause-in_one
returns-clause-in_one c = λ tickets telling core group keeps owned of.
    rest_tells (λ s event reply new step. (c.steps_go_on.ensures resolved_forms s event reply new step).opening)
    (c.journals_grow_by_commits.ensures.one resolved_forms) telling core keeps tickets group owned of
