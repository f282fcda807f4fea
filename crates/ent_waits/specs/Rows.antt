-- Whom each member waits for, as rows of marks: the row of the one at a place has marks at the places of others.
use Rattle.std.specs.Prelude.{◌≡◌, ℕ, ◌<◌, ◌==◌, Bool, true, List}
use Rattle.std.specs.Prelude.{[], ◌∷◌, ◌++◌, length, slice_index_or, Contains, None}
use Rattle.std.specs.Prelude.{IfSome}
use Rattle.std.specs.List.{list_any}
use Rattle.ent_group.specs.Marks.{IsMarked, has_mark}
use Rattle.ent_group.specs.Reach.{IsAt}
use Rattle.ent_run.specs.Run.{Run, with_run}
use Rattle.ent_run.specs.Waits.{is_awaited, waits_over}
use Rattle.ent_protocol.specs.State.{Member, Use}
use Rattle.ent_protocol.specs.Uses.{exclusive, not_passed, uses_conflict}
use Rattle.ent_waits.specs.Waits.{nothing}
use Rattle.ent_waits.specs.declared.changers.ChangersRow.{ChangersRow}
use Rattle.ent_waits.specs.declared.changers.GroupRow.{GroupRow}
use Rattle.ent_waits.specs.declared.rows.Askers.{Askers}
use Rattle.ent_waits.specs.declared.rows.MarkedGroups.{MarkedGroups}

-- both have a place, and the row of the one has a mark at the place of the other
pub record IsMarkedPair (numbers rows : List ℕ) (pair : ℕ × ℕ) : Type 0 where
  pub waiter : ℕ
  pub awaited : ℕ
  pub waits : IsAt numbers pair.0 waiter
  pub other : IsAt numbers pair.1 awaited
  pub marked : IsMarked rows waiter awaited

-- a member stands at a place of a list
abbrev pub StandsAt : List Member → ℕ → Member → Type 0
StandsAt members place member = (place < length members) × (slice_index_or members place member ≡ member)

-- a row has a mark at the place of each that passes a test
abbrev pub MarksAll : List Member → (Member → Bool) → ℕ → Type 0
MarksAll members test row =
    (place : ℕ) (member : Member) → StandsAt members place member → test member ≡ true → has_mark row place ≡ true

-- a row has the marks of another
abbrev pub HasMarksOf : ℕ → ℕ → Type 0
HasMarksOf new old = (place : ℕ) → has_mark old place ≡ true → has_mark new place ≡ true

-- a member of the run, prepared or not
abbrev pub IsMember : Run → Member → Type 0
IsMember run member = Contains (run.prepared ++ run.active) member

-- a row has a mark at the member of a number, unless it is prepared
abbrev pub MarksOne : Run → ℕ → ℕ → Type 0
MarksOne run tx row = MarksAll run.active (λ other. tx == other.tx) row

-- a row has marks at the members of a group, save the prepared ones
abbrev pub MarksGroup : Run → ℕ → ℕ → Type 0
MarksGroup run group row =
    (member : Member) → IsMember run member → member.group ≡ group → MarksOne run member.tx row

-- the same of the group of the member of a number
abbrev pub MarksGroupOf : Run → ℕ → ℕ → Type 0
MarksGroupOf run tx row = (member : Member) → IsMember run member → member.tx ≡ tx → MarksGroup run member.group row

-- the group that was marked last in a row has its marks there
abbrev pub HasLast : Run → MarkedGroups → Type 0
HasLast run marked = IfSome marked.last (λ group. MarksGroup run group marked.row)

-- a member is of those who ask: of their group, and the only one if they are one
abbrev pub IsOf : Askers → Member → Type 0
IsOf askers asker = (askers.group ≡ asker.group) × IfSome askers.only (λ tx. tx ≡ asker.tx)

-- some of those who ask don't pass a member
abbrev pub IsNotPassed : Run → Askers → Member → Type 0
IsNotPassed run askers holder =
    (asker : Member) × IsOf askers asker × Contains (not_passed (with_run run nothing) asker) holder

-- a row has the marks of those for whom others wait who ask, with a member blocking them, where some don't pass it
abbrev pub MarksOver : Run → Askers → Member → ℕ → Type 0
MarksOver run askers holder row =
    IsNotPassed run askers holder → MarksAll run.active (λ other. waits_over askers.group other holder) row

-- the same of each member that holds a use in conflict with one that is asked for
abbrev pub MarksInConflict : Run → Askers → Use → ℕ → Type 0
MarksInConflict run askers asked row =
    (holder : Member) → list_any (uses_conflict asked) holder.uses ≡ true → MarksOver run askers holder row

-- a row has the marks of those for whom any of these waits who ask for uses
abbrev pub IsRowOf : Run → Askers → List Use → ℕ → Type 0
IsRowOf run askers asked row =
    (asker : Member) → IsOf askers asker → MarksAll run.active (is_awaited (with_run run nothing) asker asked) row

-- a row has the marks of those for whom any member waits that asks for uses
abbrev pub IsRowOfAny : Run → List Use → ℕ → Type 0
IsRowOfAny run asked row = (asker : Member) → MarksAll run.active (is_awaited (with_run run nothing) asker asked) row

-- a row has the marks of those for whom any member of the group waits that changes a table
abbrev pub IsOfGroup : Run → ℕ → GroupRow → Type 0
IsOfGroup run table own = IsRowOf run (record { group = own.group; only = None }) (exclusive table ∷ []) own.row

-- the one row is of whoever changes the table, the other of those of a group who do
abbrev pub IsOfChangers : Run → ChangersRow → Type 0
IsOfChangers run known =
    IsRowOfAny run (exclusive known.table ∷ []) known.row × IfSome known.of_group (IsOfGroup run known.table)
