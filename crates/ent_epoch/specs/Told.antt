-- Groups that tell of an epoch from its beginning on.
use Rattle.std.specs.Prelude.{◌≡◌, ◌≤◌, ℕ, List, ◌++◌, length, take}
use Rattle.ent_tree.specs.declared.declaration.Opening.{Opening}
use Rattle.ent_semantics.specs.declared.book.Entry.{Entry}
use Rattle.ent_protocol.specs.Reached.{named_tables, opened, table_names}
use Rattle.ent_feed.specs.declared.group.Group.{Group}
use Rattle.ent_feed.specs.Group.{after_groups}
use Rattle.ent_feed.specs.Telling.{all_commits, commits_of, settled_database}
use Rattle.ent_epoch.specs.Telling.{HaveTickets}
use Rattle.ent_epoch.specs.Epoch.{Epoch}

-- An epoch goes on, and no more of it is told: tickets and entries of the journal may come behind others.
pub record GoesOnUntold (old new : Epoch) : Type 0 where
  pub opening : new.core.opening ≡ old.core.opening
  pub more : List ℕ
  pub tickets : new.tickets ≡ old.tickets ++ more
  pub added : List Entry
  pub journal : new.core.journal ≡ old.core.journal ++ added
  pub told_entries : new.telling.entries ≡ old.telling.entries
  pub told_tables : new.telling.tables ≡ old.telling.tables

-- Groups tell, since the opening, exactly what of an epoch is told. Applied one after the other to the opening's tables
-- they give the settled tables that are told; and their commits are the entries that are told, in order, each once,
-- under the tickets of their transactions.
pub record AreToldOf (opening : Opening) (epoch : Epoch) (groups : List Group) : Type 0 where
  pub over : epoch.core.opening ≡ opening
  pub within : epoch.telling.entries ≤ length epoch.core.journal
  pub owned : HaveTickets epoch.tickets (take epoch.telling.entries epoch.core.journal)
  pub tables : after_groups groups (settled_database (opened opening))
      ≡ named_tables (table_names opening) epoch.telling.tables
  pub commits : all_commits groups
      ≡ commits_of epoch.tickets 1 (take epoch.telling.entries epoch.core.journal)
