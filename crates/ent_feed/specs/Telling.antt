-- Groups that tell of the commits of a core.
use Rattle.std.specs.Prelude.{◌≡◌, ℕ, suc, List, [], ◌∷◌, ◌++◌, length, unwrap_or}
use Rattle.std.specs.List.{flat_map}
use Rattle.ent_semantics.specs.Database.{Database}
use Rattle.ent_semantics.specs.Serial.{numbered}
use Rattle.ent_semantics.specs.declared.book.Entry.{Entry}
use Rattle.ent_protocol.specs.Reached.{named_tables, settled, table_names}
use Rattle.ent_protocol.specs.State.{State}
use Rattle.ent_feed.specs.declared.group.Commit.{Commit}
use Rattle.ent_feed.specs.declared.group.Group.{Group}
use Rattle.ent_feed.specs.Group.{changes_between}

-- the settled tables of a state, under their names
abbrev pub settled_database : State → Database
settled_database s = named_tables (table_names s.opening) (settled s)

-- entries of the journal as commits, the first of which has this number; the tickets stand by transaction, from 1
abbrev pub commits_of : List ℕ → ℕ → List Entry → List Commit
commits_of tickets number [] = []
commits_of tickets number (entry ∷ more) =
    record { ticket = unwrap_or (numbered tickets entry.tx) 0; number = number; answers = entry.answers }
    ∷ commits_of tickets (suc number) more

-- From one state to a later one of the same opening, some entries came to the journal. The group tells of each of them,
-- and of what changed in the settled tables.
pub record Tells (tickets : List ℕ) (before : State) (group : Group) (behind : State) : Type 0 where
  pub opening : behind.opening ≡ before.opening
  pub entries : List Entry
  pub journal : behind.journal ≡ before.journal ++ entries
  pub commits : group.commits ≡ commits_of tickets (suc (length before.journal)) entries
  pub changes : group.changes
      ≡ changes_between (table_names before.opening) (settled_database before) (settled_database behind)

-- each group tells of what happened from the state that the one before led to
abbrev pub AreTold : List ℕ → State → List Group → State → Type 0
AreTold tickets first [] last = last ≡ first
AreTold tickets first (group ∷ more) last =
    (behind : State) × Tells tickets first group behind × AreTold tickets behind more last

-- the commits of groups, one group after the other
abbrev pub all_commits : List Group → List Commit
all_commits groups = flat_map (λ group. group.commits) groups
