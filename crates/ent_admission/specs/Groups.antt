-- Groups that come to the feed, and what they tell.
use Rattle.std.specs.Prelude.{◌≡◌, List, ◌++◌, take}
use Rattle.ent_epoch.specs.Epoch.{Epoch}
use Rattle.ent_feed.specs.Feed.{Feed}
use Rattle.ent_feed.specs.Group.{AreNumbered, after_groups}
use Rattle.ent_feed.specs.Telling.{all_commits, commits_of}
use Rattle.ent_feed.specs.declared.group.Group.{Group}
use Rattle.ent_protocol.specs.Reached.{named_tables, table_names}
use Rattle.ent_semantics.specs.Database.{Database, opening_database}
use Rattle.ent_semantics.specs.declared.book.Entry.{Entry}
use Rattle.ent_admission.specs.Admission.{Admission}

-- groups came behind those that are kept, and are counted on
pub record Appends (old new : Feed) : Type 0 where
  pub groups : List Group
  pub kept : new.groups ≡ old.groups ++ groups
  pub numbered : AreNumbered old.next groups new.next

-- the entries of the journal that are told
abbrev pub told_journal : Epoch → List Entry
told_journal epoch = take epoch.telling.entries epoch.core.journal

-- the settled tables that are told, under their names
abbrev pub told_database : Epoch → Database
told_database epoch = named_tables (table_names epoch.core.opening) epoch.telling.tables

-- From the one to the other these groups came to the feed, counted on, of which it keeps the last, behind those that it
-- had. One after the other they take the tables of the opening to the settled ones that are told, and their commits are
-- the entries of the journal that are told, in order, each once.
pub record HasTold (first last : Admission) : Type 0 where
  pub groups : List Group
  pub numbered : AreNumbered first.feed.next groups last.feed.next
  pub settled : List Group
  pub kept : settled ++ last.feed.groups ≡ first.feed.groups ++ groups
  pub tables : after_groups groups (opening_database last.epoch.core.opening) ≡ told_database last.epoch
  pub commits : all_commits groups ≡ commits_of last.epoch.tickets 1 (told_journal last.epoch)
