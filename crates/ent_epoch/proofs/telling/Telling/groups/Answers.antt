use Rattle.std.proofs.Common.{◌≡◌, ◌≤◌, All, IfOk, List, Result, Ok, Err, length, sym, ap, subst, ◌∙◌}
use Rattle.std.specs.List.{IsDistinct}
use Rattle.ent_protocol.specs.Reached.{settled, table_names}
use Rattle.ent_semantics.specs.Database.{same_name}
use Rattle.ent_semantics.specs.Form.{Tables}
use Rattle.ent_semantics.specs.declared.book.Entry.{Entry}
use Rattle.ent_tree.specs.declared.declaration.Opening.{Opening}
use Rattle.ent_feed.specs.declared.group.Group.{Group}
use Rattle.ent_feed.specs.Tables.{rows_in}
use Rattle.ent_epoch.specs.Notes.{Note}
use Rattle.ent_epoch.specs.Publishing.{IsGroupOfRest}
use Rattle.ent_epoch.specs.Telling.{Telling, TellsRest}
use Rattle.ent_epoch.proofs.telling.Telling.groups.Goals as goal

pub noted_groups-requires-clause-distinct : goal.noted_groups-requires-clause-distinct
noted_groups-requires-clause-distinct c =
    let can = c.what_is_told_stands.ensures c.args.self.now c.args.core.now c.is_reached.ensures.formed
    c.requires.keeps_up in
    subst (λ (o : Opening). IsDistinct same_name (table_names o)) (sym c.opening.ensures) can.distinct

pub noted_groups-requires-clause-tables : goal.noted_groups-requires-clause-tables
noted_groups-requires-clause-tables c =
    let can = c.what_is_told_stands.ensures c.args.self.now c.args.core.now c.is_reached.ensures.formed
    c.requires.keeps_up in
    can.tables ∙ ap (λ (o : Opening). length o.tables) (sym c.opening.ensures)

pub noted_groups-requires-clause-notes : goal.noted_groups-requires-clause-notes
noted_groups-requires-clause-notes c =
    let telling = c.args.self.now in
    let can = c.what_is_told_stands.ensures telling c.args.core.now c.is_reached.ensures.formed c.requires.keeps_up in
    let whole = ap (λ (t : Telling). t.notes.is_whole) (sym c.self.view_is) ∙ c.if-self.true in
    subst (λ (o : Opening). All (λ (note : Note). length note.tables ≡ length o.tables) telling.notes.notes)
    (sym c.opening.ensures) (can.notes whole)

pub one_group-requires-clause-distinct : goal.one_group-requires-clause-distinct
one_group-requires-clause-distinct c =
    let can = c.what_is_told_stands.ensures c.args.self.now c.args.core.now c.is_reached.ensures.formed
    c.requires.keeps_up in
    subst (λ (o : Opening). IsDistinct same_name (table_names o)) (sym c.opening.ensures) can.distinct

pub one_group-requires-clause-tables : goal.one_group-requires-clause-tables
one_group-requires-clause-tables c =
    let can = c.what_is_told_stands.ensures c.args.self.now c.args.core.now c.is_reached.ensures.formed
    c.requires.keeps_up in
    can.tables ∙ ap (λ (o : Opening). length o.tables) (sym c.opening.ensures)

pub one_group-requires-clause-entries : goal.one_group-requires-clause-entries
one_group-requires-clause-entries c =
    let telling = c.args.self.now in
    let can = c.what_is_told_stands.ensures telling c.args.core.now c.is_reached.ensures.formed c.requires.keeps_up in
    subst (λ (journal : List Entry). telling.entries ≤ length journal) (sym c.journal.ensures) can.entries

if_ok : {T E : Type 0} {P Q : T → Type 0} (r : Result T E) → ((x : T) → P x → Q x) → IfOk r P → IfOk r Q
if_ok (Ok x) f h = f x h
if_ok (Err e) f h = tt

pub returns-in_ok-behind-clause-told : goal.returns-in_ok-behind-clause-told
returns-in_ok-behind-clause-told c =
    let telling = c.args.self.now in
    let s = c.args.core.now in
    let tickets = c.args.tickets.now in
    let tables : rows_in c.as_slice.result.now ≡ settled s =
    ap rows_in c.as_slice.ensures.value ∙ c.in_ok-behind.ensures in
    if_ok c.one_group.result
    (λ groups made.
    let group = made.0 in
    let of : IsGroupOfRest tickets s.opening s.journal telling.entries telling.tables (settled s) group =
    subst (λ (o : Opening). IsGroupOfRest tickets o s.journal telling.entries telling.tables (settled s) group)
    c.opening.ensures
    (subst (λ (journal : List Entry). IsGroupOfRest tickets c.opening.result.now journal telling.entries
    telling.tables (settled s) group) c.journal.ensures
    (subst (λ (ts : Tables). IsGroupOfRest tickets c.opening.result.now c.journal.result.now telling.entries
    telling.tables ts group) tables made.2)) in
    subst (λ (gs : List Group). TellsRest tickets telling s gs) (sym made.1)
    (c.groups_tell_the_rest.ensures.in_one tickets telling s group c.requires.keeps_up c.requires.tickets of))
    c.one_group.ensures.group
