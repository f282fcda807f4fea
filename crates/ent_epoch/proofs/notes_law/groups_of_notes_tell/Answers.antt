use Rattle.std.proofs.Common.{suc, refl, sym, subst}
use Rattle.ent_tree.specs.declared.declaration.Opening.{Opening}
use Rattle.ent_protocol.specs.Reached.{LeadsTo, opened}
use Rattle.ent_epoch.proofs.Runs.{groups_tell, itself}
use Rattle.ent_epoch.proofs.notes_law.groups_of_notes_tell.Goals as goal

pub returns : goal.returns
returns c = λ forms tickets first last told groups faithful reached through of.
    let found = groups_tell forms tickets
    (λ s event reply new step. (c.steps_go_on.ensures forms s event reply new step).opening)
    (λ s event reply new reached step. (
      suc reached.0,
      subst (λ (o : Opening). LeadsTo forms (suc reached.0) (opened o) new)
          (sym (c.steps_go_on.ensures forms s event reply new step).opening) (s, event, reply, reached.1, step),
    ))
    (c.journals_grow_by_commits.ensures.one forms)
    (c.only_commits_settle_tables.ensures.one forms)
    told first last last.journal faithful reached through refl first groups (itself first) of in
    (found.0, found.1, found.2.tables, found.2.journal, found.2.opening)
