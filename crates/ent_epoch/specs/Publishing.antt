-- Groups that are made of what was noted.
use Rattle.std.specs.Prelude.{◌≡◌, ℕ, suc, List, [], ◌∷◌, drop, map, unwrap_or}
use Rattle.ent_tree.specs.declared.declaration.Opening.{Opening}
use Rattle.ent_book.specs.Report.{entry_answers}
use Rattle.ent_semantics.specs.Form.{Tables}
use Rattle.ent_semantics.specs.Serial.{numbered}
use Rattle.ent_semantics.specs.declared.book.Entry.{Entry}
use Rattle.ent_protocol.specs.Reached.{named_tables, table_names}
use Rattle.ent_feed.specs.declared.group.Commit.{Commit}
use Rattle.ent_feed.specs.declared.group.Group.{Group}
use Rattle.ent_feed.specs.Group.{changes_between}
use Rattle.ent_feed.specs.Telling.{commits_of}
use Rattle.ent_epoch.specs.Notes.{Note}

-- the commit of a number and a transaction, as the journal has it
abbrev pub commit_at : List ℕ → List Entry → ℕ × ℕ → Commit
commit_at tickets journal one =
    record {
      ticket = unwrap_or (numbered tickets one.1) 0;
      number = one.0;
      answers = entry_answers (numbered journal one.0);
    }

-- a group tells of what was noted, and of what changed in the tables since
pub record IsGroupOf (tickets : List ℕ) (opening : Opening) (journal : List Entry) (before : Tables) (note : Note)
    (group : Group) : Type 0 where
  pub commits : group.commits ≡ map (commit_at tickets journal) note.entries
  pub changes : group.changes
      ≡ changes_between (table_names opening) (named_tables (table_names opening) before)
      (named_tables (table_names opening) note.tables)
  pub ended : group.ended ≡ []

-- one group for each note, in order
abbrev pub AreGroupsOf : List ℕ → Opening → List Entry → Tables → List Note → List Group → Type 0
AreGroupsOf tickets opening journal before [] [] = Unit {0}
AreGroupsOf tickets opening journal before [] (group ∷ groups) = ⊥
AreGroupsOf tickets opening journal before (note ∷ notes) [] = ⊥
AreGroupsOf tickets opening journal before (note ∷ notes) (group ∷ groups) =
    IsGroupOf tickets opening journal before note group
    × AreGroupsOf tickets opening journal note.tables notes groups

-- a group tells of all entries of the journal behind so many, and of what changed in the tables since
pub record IsGroupOfRest (tickets : List ℕ) (opening : Opening) (journal : List Entry) (told : ℕ)
    (before after : Tables) (group : Group) : Type 0 where
  pub commits : group.commits ≡ commits_of tickets (suc told) (drop told journal)
  pub changes : group.changes
      ≡ changes_between (table_names opening) (named_tables (table_names opening) before)
      (named_tables (table_names opening) after)
