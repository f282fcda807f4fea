use Rattle.std.proofs.Common.{List, [], ◌∷◌, ◌++◌, ap, subst, ◌∙◌}
use Rattle.ent_protocol.specs.Reached.{named_tables, table_names}
use Rattle.ent_semantics.specs.Form.{Tables}
use Rattle.ent_feed.specs.declared.group.Group.{Group}
use Rattle.ent_feed.specs.Group.{changes_between}
use Rattle.ent_feed.specs.Tables.{rows_in}
use Rattle.ent_epoch.specs.Publishing.{IsGroupOfRest}
use Rattle.ent_epoch.specs.Telling.{Telling}
use Rattle.ent_epoch.proofs.telling.Telling.one_group.Goals as goal

pub returns-clause-group : goal.returns-clause-group
returns-clause-group c =
    let inside = c.self.inside in
    let source = c.args.source in
    let opening = source.opening.now in
    let names = table_names opening in
    let behind : Tables = rows_in c.args.behind.now in
    let group = c.in_ok-group.group in
    let of : IsGroupOfRest source.tickets.now opening source.journal.now inside.entries
    (rows_in inside.tables.items) behind group =
    record {
      commits = c.in_ok-group.ensures.commits;
      changes =
          c.in_ok-group.ensures.changes
          ∙ ap (λ (before : Tables). changes_between names (named_tables names before) (named_tables names behind))
          (ap rows_in c.as_slice.ensures.value);
    } in (
      group,
      c.in_ok-push.ensures.items ∙ ap (λ (front : List Group). front ++ group ∷ []) c.in_ok-groups.ensures.items,
      subst (λ (t : Telling). IsGroupOfRest source.tickets.now opening source.journal.now t.entries t.tables behind
          group) c.self.view_is of,
    )
