-- The settled database in other words: each table as it stood before the first change of it by a member without a
-- fate, and as it stands where there was no such change.
use Rattle.std.specs.Prelude.{ℕ, Bool, not, ◌==◌, ◌&&◌, List, [], ◌∷◌, map, reverse}
use Rattle.std.specs.List.{enumerate_from, filter, list_any}
use Rattle.ent_semantics.specs.Database.{Rows}
use Rattle.ent_semantics.specs.declared.book.Fated.{Fated}
use Rattle.ent_semantics.specs.Form.{Tables}
use Rattle.ent_protocol.specs.State.{State, Change}
use Rattle.ent_protocol.specs.Tidy.{is_member}

-- a transaction has a fate
abbrev pub has_fate : State → ℕ → Bool
has_fate s tx = list_any (λ (fated : Fated). fated.tx == tx) s.fates

-- a member without a fate changed this table
abbrev pub is_open_change : State → ℕ → Change → Bool
is_open_change s table change = is_member s change.tx && (not (has_fate s change.tx) && (change.table == table))

-- the changes of a table by members without a fate, the oldest first
abbrev pub open_changes : State → ℕ → List Change
open_changes s table = reverse (filter (is_open_change s table) s.changes)

-- the rows before the first of some changes, and the present ones where there is none
abbrev pub rows_before : List Change → Rows → Rows
rows_before [] present = present
rows_before (first ∷ later) present = first.before

-- each table, by its number and its present rows
abbrev pub tables_before_changes : State → Tables
tables_before_changes s = map (λ p. rows_before (open_changes s p.0) p.1) (enumerate_from 0 s.tables)
