-- Tables, and what is noted of changes of them.
use Rattle.std.specs.Prelude.{◌≡◌, ◌⊎◌, ◌==◌, ◌&&◌, ℕ, Bool, true, false, List, ◌∷◌, ◌++◌, slice_index_or}
use Rattle.std.specs.List.{list_any}
use Rattle.ent_lists.specs.Sets as set
use Rattle.ent_semantics.specs.Database.{Rows}
use Rattle.ent_protocol.specs.Event.{Reply}
use Rattle.ent_protocol.specs.Event as replies
use Rattle.ent_protocol.specs.Rollback.{group_members, is_among}
use Rattle.ent_protocol.specs.State.{State, Change}

-- the rows of the table of a number
abbrev pub rows_at : State → ℕ → Rows
rows_at s table = slice_index_or s.tables table set.empty

-- one of a group changed this table
abbrev pub is_change_of : State → ℕ → ℕ → Change → Bool
is_change_of s group table change = is_among (group_members s group) change.tx && (change.table == table)

-- the first change that a group made of a table: no older one is of theirs
pub record IsFirstChange (s : State) (group table : ℕ) (change : Change) : Type 0 where
  pub newer : List Change
  pub older : List Change
  pub is_there : s.changes ≡ newer ++ change ∷ older
  pub own : is_change_of s group table change ≡ true
  pub first : list_any (is_change_of s group table) older ≡ false

abbrev pub HasNotChanged : State → ℕ → ℕ → Type 0
HasNotChanged s group table = list_any (is_change_of s group table) s.changes ≡ false

-- members are rolled back
abbrev pub rolls_back : {F : Type 0} → Reply F → Bool
rolls_back (replies.RolledBack group) = true
rolls_back (replies.Failed failure group) = true
rolls_back (replies.Broken cycle group) = true
rolls_back (replies.Ended members) = true
rolls_back other = false

-- a table stays, or it is noted how it stood
abbrev pub IsNoted : State → State → ℕ → Type 0
IsNoted s new table =
    (rows_at new table ≡ rows_at s table)
    ⊎ ((tx : ℕ) × (new.changes ≡ record { tx = tx; table = table; before = rows_at s table } ∷ s.changes))
