use Rattle.std.proofs.Common.{◌≡◌, ℕ, All, ◌+◌, ◌<◌, ◌≤◌, ◌∷◌, [], List, drop, length, ap, sym, subst, ◌∙◌, arith}
use Rattle.std.proofs.lemmas.List.Elements.{All-append, All-cons, All-nil}
use Rattle.ent_feed.specs.declared.group.Group.{Group}
use Rattle.ent_feed.specs.Group.{AreNumbered}
use Rattle.ent_epoch.specs.Notes.{Note}
use Rattle.ent_feed.specs.Tables.{rows_in}
use Rattle.ent_epoch.proofs.Groups.{all_made, one_more, same_length}
use Rattle.ent_feed.proofs.Listed.{element_next, nothing_left}
use Rattle.ent_feed.proofs.Numbers.{numbered_more}
use Rattle.ent_epoch.proofs.publishing.GroupSource.groups_of.Goals as goal

abbrev Has : ℕ → Group → Type 0
Has epoch group = group.epoch ≡ epoch

pub loop-note-preserved : goal.loop-note-preserved
loop-note-preserved c =
    let i = c.loop-note.note-index in
    let notes = c.args.notes.now in
    let note = c.note-item.result in
    let group = c.in_ok-group.group in
    let before = c.loop-note.invariant in
    let source = c.args.self in
    let within : i < length notes = omega arith in
    let is = element_next notes i note within c.note-item.is in
    let many : length note.tables ≡ length source.opening.now.tables =
    ap (λ (n : Note). length n.tables) c.note-item.is ∙ c.requires.len_behind i note within in
    record {
      next = omega (arith, before.next);
      begun =
          one_more source.tickets.now source.opening.now source.journal.now (rows_in c.args.before.now) notes
          (rows_in c.loop-note.tables.now) (rows_in c.tables-tables.result.now) (drop i notes) (drop (i + 1) notes) note
          c.loop-note.groups.items c.push.new.self.items group is c.in_ok-push.ensures.items c.tables-tables.ensures
          c.in_ok-group.ensures.told before.begun;
      numbered =
          subst (λ (groups : List Group). AreNumbered c.args.number groups (c.loop-note.next + 1))
          (sym c.in_ok-push.ensures.items)
          (numbered_more c.args.number c.loop-note.next c.loop-note.groups.items group before.numbered
          c.in_ok-group.ensures.numbered);
      epochs =
          subst (λ (groups : List Group). All (Has source.epoch) groups) (sym c.in_ok-push.ensures.items)
          (All-append (Has source.epoch) c.loop-note.groups.items (group ∷ []) before.epochs
          (All-cons (Has source.epoch) group [] c.in_ok-group.ensures.epoch (All-nil (Has source.epoch))));
      len = same_length c.tables-tables.result.now note.tables c.tables-tables.ensures ∙ many;
    }

pub returns-clause-told : goal.returns-clause-told
returns-clause-told c =
    let i = c.loop-note.note-index in
    let notes = c.args.notes.now in
    let source = c.args.self in
    let past : length notes ≤ i = omega arith in
    all_made source.tickets.now source.opening.now source.journal.now (rows_in c.args.before.now) notes
    (rows_in c.loop-note.tables.now) (drop i notes) c.loop-note.groups.items (nothing_left notes i past)
    c.loop-note.invariant.begun
