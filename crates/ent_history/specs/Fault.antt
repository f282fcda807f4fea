-- The line at which a text isn't the report that its lines above begin: the first that can't stand there, or the one
-- that is missing.
use Rattle.std.specs.Prelude.{◌≡◌, ◌≢◌, ◌⊎◌, ◌+◌, ℕ, List, [], ◌++◌, take}
use Rattle.std.specs.Str.{IsUtf8, IsValidUpTo}
use Rattle.ent_book.specs.Report2.{line_count}
use Rattle.ent_history.specs.Draft.{Draft, Ended, blank}
use Rattle.ent_history.specs.Scripts.{ScriptBreaksOff}
use Rattle.ent_history.specs.Stands.{Stands, AllStand, whole}

-- nothing that can stand there begins this rest of a text
abbrev pub NothingStands : Draft → List ℕ → Type 0
NothingStands draft rest =
    (text more : List ℕ) (next : Draft) → rest ≡ text ++ more → Stands draft text next → ⊥

-- the report isn't complete, or something stands below its end
abbrev pub IsNoEnd : Draft → List ℕ → Type 0
IsNoEnd draft rest = (draft.due ≡ Ended) → rest ≢ []

-- A text, of which all pieces stand up to a rest of which nothing does.
pub record Stops (text : List ℕ) : Type 0 where
  pub pieces : List (List ℕ)
  pub rest : List ℕ
  pub draft : Draft
  pub parts : text ≡ whole pieces ++ rest
  pub stand : AllStand blank pieces draft
  pub no_end : IsNoEnd draft rest
  pub nothing : NothingStands draft rest

-- Where the text breaks off inside a script, the line behind its last one is missing; else the line behind the pieces
-- that stand can't stand there, or is missing.
abbrev pub FaultAt : (text : List ℕ) → Stops text → ℕ → Type 0
FaultAt text stops number =
    (ScriptBreaksOff stops.draft stops.rest × (number ≡ line_count text + 1))
    ⊎ ((ScriptBreaksOff stops.draft stops.rest → ⊥) × (number ≡ line_count (whole stops.pieces) + 1))

-- the line of the first fault of form, in a text of whole characters
abbrev pub HasFormFault : List ℕ → ℕ → Type 0
HasFormFault text number = (stops : Stops text) × FaultAt text stops number

-- the text isn't UTF-8, and this is the line of its first bad byte
pub record HasBadByte (text : List ℕ) (number : ℕ) : Type 0 where
  pub bad : ¬ (IsUtf8 text)
  pub place : ℕ
  pub up_to : IsValidUpTo text place
  pub line_is : number ≡ line_count (take place text) + 1

-- The line at which a text isn't a report: that of its first bad byte, whatever stands above it, else that of its first
-- fault of form.
abbrev pub IsNoReport : List ℕ → ℕ → Type 0
IsNoReport text number = HasBadByte text number ⊎ (IsUtf8 text × HasFormFault text number)
