-- Groups of a feed: what they change, and how they follow each other.
use Rattle.std.specs.Prelude.{◌≡◌, ℕ, suc, ◌==◌, ◌||◌, Bool, not, List, [], ◌∷◌, map, length, if◌then◌else◌}
use Rattle.std.specs.List.{filter}
use Rattle.ent_rel.specs.Change.{changed_rows}
use Rattle.ent_rel.specs.declared.change.Delta.{Delta}
use Rattle.ent_semantics.specs.Database.{Database, Name, Rows, same_name}
use Rattle.ent_feed.specs.declared.group.Group.{Group}
use Rattle.ent_feed.specs.declared.group.TableChange.{TableChange}
use Rattle.ent_feed.specs.NetChange.{net_change}

-- ---- changes of tables, by name

-- the net change of the table of a name
abbrev pub change_of : Database → Database → Name → TableChange
change_of before after name = record { table = name; delta = net_change (before name) (after name) }

-- a row went or came
abbrev pub has_rows : Delta → Bool
has_rows delta = not (length delta.removed == 0) || not (length delta.added == 0)

-- the net changes of the tables of these names, in this order, without those in which nothing changed
abbrev pub changes_between : List Name → Database → Database → List TableChange
changes_between names before after = filter (λ change. has_rows change.delta) (map (change_of before after) names)

-- the rows after a change
abbrev pub with_delta : Delta → Rows → Rows
with_delta delta rows = changed_rows rows delta.removed delta.added

-- the rows of a table after the first of these changes that is of it
abbrev pub rows_after : List TableChange → Name → Rows → Rows
rows_after [] name rows = rows
rows_after (change ∷ more) name rows =
    if same_name change.table name then with_delta change.delta rows else rows_after more name rows

-- a database after changes of some of its tables
abbrev pub after_changes : List TableChange → Database → Database
after_changes changes database name = rows_after changes name (database name)

-- ---- groups

-- a database after the changes of groups, one group after the other
abbrev pub after_groups : List Group → Database → Database
after_groups [] database = database
after_groups (group ∷ more) database = after_groups more (after_changes group.changes database)

-- the groups count on from one number, up to the one before another
abbrev pub AreNumbered : ℕ → List Group → ℕ → Type 0
AreNumbered first [] next = first ≡ next
AreNumbered first (group ∷ more) next = (group.number ≡ first) × AreNumbered (suc first) more next
