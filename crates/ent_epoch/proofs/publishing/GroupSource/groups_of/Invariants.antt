use Rattle.std.proofs.Common.{◌≡◌, ◌+◌, All, drop, length}
use Rattle.ent_feed.specs.Group.{AreNumbered}
use Rattle.ent_feed.specs.Tables.{rows_in}
use Rattle.ent_epoch.proofs.Groups.{AreBegun}
use Rattle.ent_epoch.proofs.publishing.GroupSource.groups_of.Given as goal

-- the groups so far are those of the notes so far
abbrev pub invariant-loop-note : goal.invariant-loop-note
invariant-loop-note l = record {
  next : l.next ≡ l.number + l.note-index;
  begun :
      AreBegun l.self.tickets.now l.self.opening.now l.self.journal.now (rows_in l.before) l.notes (rows_in l.tables)
      (drop l.note-index l.notes) l.groups.items;
  numbered : AreNumbered l.number l.groups.items l.next;
  epochs : All (λ group. group.epoch ≡ l.self.epoch) l.groups.items;
  len : length l.tables ≡ length l.self.opening.now.tables;
}
