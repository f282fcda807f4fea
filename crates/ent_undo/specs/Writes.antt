-- Histories of writes to tables, and what an undo log tells of them.
use Rattle.std.specs.Prelude.{◌≡◌, ℕ, ◌==◌, not, if◌then◌else◌, List, [], ◌∷◌, ◌++◌, filter, All, AllPairs, IsTrue}
use Rattle.std.specs.Prelude.{IsFalse}
use Rattle.std.specs.List.{slice_get}
use Rattle.std.specs.Option.{option_map}
use Rattle.ent_rel.specs.Relation.{Relation}
use Rattle.ent_undo.specs.Change.{Change, is_among, is_of, of_others, before_first_change, put_back, rolled_back}

-- the table that stands at each index
abbrev pub Tables : Type 0
Tables = ℕ → Relation

-- a transaction puts a table at an index
pub record Write : Type 0 where
  pub tx : ℕ
  pub table : ℕ
  pub after : Relation

abbrev pub after_write : Tables → Write → Tables
after_write tables write table = if write.table == table then write.after else tables table

-- the tables after writes, one after another
abbrev pub after_writes : Tables → List Write → Tables
after_writes tables [] = tables
after_writes tables (write ∷ later) = after_writes (after_write tables write) later

abbrev pub change_by : Tables → Write → Change
change_by tables write = record { tx = write.tx; table = write.table; before = tables write.table }

-- each write as the change of a table that stood so then
abbrev pub changes_by : Tables → List Write → List Change
changes_by tables [] = []
changes_by tables (write ∷ later) = change_by tables write ∷ changes_by (after_write tables write) later

-- the writes by others than these transactions
abbrev pub writes_of_others : List ℕ → List Write → List Write
writes_of_others members writes = filter (λ write. not (is_among members write.tx)) writes

-- Of these transactions the log holds just the changes that they made by a history of writes, in their order.
abbrev pub TellsOf : List ℕ → List Change → Tables → List Write → Type 0
TellsOf members log opening writes = filter (is_of members) log ≡ filter (is_of members) (changes_by opening writes)

-- none of these transactions writes the table
abbrev pub NoneWrites : List ℕ → List Write → ℕ → Type 0
NoneWrites members writes table = All (λ write. write.table ≡ table → IsFalse (is_among members write.tx)) writes

-- once one of these transactions wrote a table, nobody else writes it
abbrev pub NobodyElseWrites : List ℕ → List Write → Type 0
NobodyElseWrites members writes =
    AllPairs (λ earlier later. IsTrue (is_among members earlier.tx) → later.table ≡ earlier.table
    → IsTrue (is_among members later.tx)) writes

-- Each table of those that are rolled back is as before its first change.
abbrev pub RollsBackEach : Type 0
RollsBackEach = (members : List ℕ) (log : List Change) (tables : List Relation) (table : ℕ)
    → slice_get (rolled_back members log tables) table
    ≡ option_map (before_first_change members log table) (slice_get tables table)

-- A rollback puts the changes of these transactions back, the newest first.
abbrev pub RollsBackNewestFirst : Type 0
RollsBackNewestFirst = (members : List ℕ) (log : List Change) (tables : List Relation)
    → rolled_back members log tables ≡ put_back (filter (is_of members) log) tables

-- A table that one of these transactions wrote is rolled back to what stood before the first of their writes of it.
abbrev pub RollsBackToFirstWrite : Type 0
RollsBackToFirstWrite =
    (members : List ℕ) (log : List Change) (opening : Tables)
    (earlier later : List Write) (first : Write) (present : Relation)
    → TellsOf members log opening (earlier ++ first ∷ later)
    → IsTrue (is_among members first.tx)
    → NoneWrites members earlier first.table
    → before_first_change members log first.table present ≡ after_writes opening earlier first.table

-- A table that none of them wrote stays.
abbrev pub KeepsOtherTables : Type 0
KeepsOtherTables =
    (members : List ℕ) (log : List Change) (opening : Tables) (writes : List Write) (table : ℕ) (present : Relation)
    → TellsOf members log opening writes
    → NoneWrites members writes table
    → before_first_change members log table present ≡ present

-- Where nobody else wrote a table since, all tables are as though these transactions had written nothing.
abbrev pub UndoesWrites : Type 0
UndoesWrites = (members : List ℕ) (log : List Change) (opening : Tables) (writes : List Write) (table : ℕ)
    → TellsOf members log opening writes
    → NobodyElseWrites members writes
    → before_first_change members log table (after_writes opening writes table)
    ≡ after_writes opening (writes_of_others members writes) table

-- A log that notes each write, with the table as it stands, tells of the longer history.
abbrev pub TellsOnceNoted : Type 0
TellsOnceNoted = (members : List ℕ) (log : List Change) (opening : Tables) (writes : List Write) (write : Write)
    → TellsOf members log opening writes
    → TellsOf members (log ++ change_by (after_writes opening writes) write ∷ []) opening (writes ++ write ∷ [])

-- no transaction is among both
abbrev pub AreApart : List ℕ → List ℕ → Type 0
AreApart left right = (tx : ℕ) → IsTrue (is_among left tx) → IsFalse (is_among right tx)

-- A log that has forgotten others still tells of these transactions.
abbrev pub TellsOnceForgotten : Type 0
TellsOnceForgotten = (members gone : List ℕ) (log : List Change) (opening : Tables) (writes : List Write)
    → AreApart members gone
    → TellsOf members log opening writes
    → TellsOf members (of_others gone log) opening writes

-- After a rollback, when nobody else wrote these tables since, it tells of the history without the writes that were
-- taken back, also of those transactions themselves, which may write again.
abbrev pub TellsOnceRolledBack : Type 0
TellsOnceRolledBack = (members gone : List ℕ) (log : List Change) (opening : Tables) (writes : List Write)
    → NobodyElseWrites gone writes
    → TellsOf members log opening writes
    → TellsOf members (of_others gone log) opening (writes_of_others gone writes)
