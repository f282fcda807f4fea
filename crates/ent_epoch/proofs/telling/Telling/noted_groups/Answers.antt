use Rattle.std.proofs.Common.{◌+◌, length, rules, arith, sym, ap, subst, ◌∙◌}
use Rattle.ent_feed.specs.Group.{AreNumbered}
use Rattle.ent_feed.specs.Tables.{rows_in}
use Rattle.ent_epoch.specs.Telling.{Telling}
use Rattle.ent_epoch.proofs.Groups.{as_many, none_ended}
use Rattle.ent_epoch.proofs.telling.Telling.noted_groups.Goals as goal

pub returns-clause-numbered : goal.returns-clause-numbered
returns-clause-numbered c =
    let source = c.args.source in
    let groups = c.in_ok-groups.groups.items in
    let notes = c.as_slice-2.result.now in
    let many = as_many source.tickets.now source.opening.now source.journal.now (rows_in c.as_slice.result.now) notes
    groups c.in_ok-groups.ensures.told in
    subst (λ n. AreNumbered c.args.number groups (c.args.number + n)) (sym many) c.in_ok-groups.ensures.numbered

pub returns-clause-fits : goal.returns-clause-fits
returns-clause-fits c =
    let source = c.args.source in
    let groups = c.in_ok-groups.groups.items in
    let notes = c.as_slice-2.result.now in
    let many = as_many source.tickets.now source.opening.now source.journal.now (rows_in c.as_slice.result.now) notes
    groups c.in_ok-groups.ensures.told in
    search (rules, arith)

pub returns-clause-due : goal.returns-clause-due
returns-clause-due c =
    let source = c.args.source in
    let groups = c.in_ok-groups.groups.items in
    let notes = c.as_slice-2.result.now in
    as_many source.tickets.now source.opening.now source.journal.now (rows_in c.as_slice.result.now) notes
    groups c.in_ok-groups.ensures.told
    ∙ ap length c.as_slice-2.ensures.value ∙ ap (λ (t : Telling). length t.notes.notes) c.self.view_is

pub returns-clause-ended : goal.returns-clause-ended
returns-clause-ended c =
    let source = c.args.source in
    none_ended source.tickets.now source.opening.now source.journal.now (rows_in c.as_slice.result.now)
    c.as_slice-2.result.now c.in_ok-groups.groups.items c.in_ok-groups.ensures.told
