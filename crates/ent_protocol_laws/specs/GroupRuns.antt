-- What the members of a group did, run alone from the settled database.
use Rattle.std.specs.Prelude.{◌≡◌, true, false, ℕ, List, map, Contains}
use Rattle.std.specs.List.{AllByRecursion, filter}
use Rattle.ent_semantics.specs.Database.{Name, Database}
use Rattle.ent_form.specs.Tables.{database_of}
use Rattle.ent_protocol.specs.Member.{is_of}
use Rattle.ent_protocol.specs.Reached.{settled}
use Rattle.ent_protocol.specs.State.{State, Member, members}
use Rattle.ent_protocol_laws.specs.Faithful.{table_number, is_used, is_owned}
use Rattle.ent_protocol_laws.specs.History.{History, Replays, AreSerial}
use Rattle.ent_protocol_laws.specs.SerialState.{Follows, IsWhole}

-- a member uses the table of a name, or uses it exclusively
abbrev pub HasUsed : State → Member → Name → Type 0
HasUsed s member name = is_used member.uses (table_number s.opening.tables name) ≡ true

abbrev pub NotOwned : State → Member → Name → Type 0
NotOwned s member name = is_owned member.uses (table_number s.opening.tables name) ≡ false

-- the present rows of a table, and its settled ones
abbrev pub present_database : State → Database
present_database s = database_of s.opening.tables s.tables

abbrev pub settled_database : State → Database
settled_database s = database_of s.opening.tables (settled s)

-- What a member did, run alone from a database, gives its answers and what is bound; and each table that it uses stands
-- now as that run leaves it.
pub record RunsFrom (s : State) (start : Database) (member : Member) : Type 0 where
  pub history : History
  pub own : history.member ≡ member
  pub follows : Follows s.submitted history
  pub last : Database
  pub replays : Replays s.opening.tables history start last
  pub present : (name : Name) → HasUsed s member name → present_database s name ≡ last name

-- The prepared members of a group run one after the other from the settled database, in their order, and each other
-- member of it runs from where they end.
pub record GroupRuns (s : State) (group : ℕ) : Type 0 where
  pub prepared : List History
  pub of_prepared : map (λ history. history.member) prepared ≡ filter (is_of group) s.prepared
  pub whole : AllByRecursion (IsWhole s.submitted) prepared
  pub start : Database
  pub runs : AreSerial s.opening.tables prepared (settled_database s) start
  pub others : (member : Member) → Contains s.active member → member.group ≡ group → RunsFrom s start member
  -- a table that the group uses, and no unprepared member of it exclusively, stands as its prepared members left it
  pub present : (user : Member) (name : Name) → Contains (members s) user → user.group ≡ group
      → HasUsed s user name
      → ((member : Member) → Contains s.active member → member.group ≡ group → NotOwned s member name)
      → present_database s name ≡ start name

-- a table that nobody uses exclusively is the settled one
abbrev pub UnownedIsSettled : State → Type 0
UnownedIsSettled s =
    (name : Name) → ((member : Member) → Contains (members s) member → NotOwned s member name)
    → present_database s name ≡ settled_database s name
