-- What is told of a core without an event: where transactions stand, and what it holds.
use Rattle.std.specs.Prelude.{◌==◌, ℕ, List, [], ◌∷◌, ◌++◌, map, Option, Some, None, if◌then◌else◌}
use Rattle.std.specs.List.{filter}
use Rattle.ent_semantics.specs.declared.answer.Answer.{Answer}
use Rattle.ent_semantics.specs.declared.book.Entry.{Entry}
use Rattle.ent_semantics.specs.declared.book.Fate.{Fate}
use Rattle.ent_semantics.specs.Database.{Name, Rows, same_name}
use Rattle.ent_semantics.specs.Serial.{numbered}
use Rattle.ent_semantics.specs.Form.{Tables}
use Rattle.ent_protocol.specs.Member.{Next, Ordinary, Asks, Commits, RollsBack, next_of, is_tx, is_lent}
use Rattle.ent_protocol.specs.Reached.{table_names}
use Rattle.ent_protocol.specs.Rollback.{group_numbers}
use Rattle.ent_protocol.specs.Run.{numbers_of}
use Rattle.ent_protocol.specs.State.{State, Member, members, first_of}
use Rattle.ent_protocol.specs.State as states

-- ---- where a transaction stands

-- what a member that is ready begins next
pub data Turn : Type 0 where
  Statement : Turn
  Commit : Turn
  Rollback : Turn

pub data Standing : Type 0 where
  -- in no run, after so many
  Dormant : (runs : ℕ) → Standing
  Ready : (turn : Turn) → Standing
  -- its statement's job is lent
  Out : Standing
  Posted : Standing
  Prepared : Standing
  Finished : (fate : Fate) → Standing

abbrev pub turn_of : Next → Turn
turn_of (Ordinary statement) = Statement
turn_of (Asks statement) = Statement
turn_of Commits = Commit
turn_of RollsBack = Rollback

-- where a member stands that isn't prepared
abbrev pub active_standing : State → Member → Standing
active_standing s member =
    if member.posted then Posted else (if is_lent s member.tx then Out else Ready (turn_of (next_of s member)))

-- by its fate, else as it is dormant, else as a member; a number that no script has stands nowhere
abbrev pub standing : State → ℕ → Option Standing
standing s tx =
    first_of (map (λ fated. Finished fated.fate) (filter (λ fated. fated.tx == tx) s.fates)
    ++ map (λ dormant. Dormant dormant.runs) (filter (λ dormant. dormant.tx == tx) s.dormant)
    ++ map (λ member. Prepared) (filter (is_tx tx) s.prepared)
    ++ map (active_standing s) (filter (is_tx tx) s.active))

-- ---- members

-- the members of the run, by number
abbrev pub running_members : State → List ℕ
running_members s = numbers_of (members s)

-- the member of a number, prepared or not
abbrev pub member_of : State → ℕ → Option Member
member_of s tx = first_of (filter (is_tx tx) (members s))

-- the group of a member, by number; none where it is no member
abbrev pub group_of : State → ℕ → List ℕ
group_of s tx = group_with (member_of s tx)
  where
    group_with : Option Member → List ℕ
    group_with (Some member) = group_numbers s member.group
    group_with None = []

-- the answers of a member's statements so far; none where it is no member
abbrev pub answers_of : State → ℕ → List Answer
answers_of s tx = answers_with (member_of s tx)
  where
    answers_with : Option Member → List Answer
    answers_with (Some member) = member.answers
    answers_with None = []

-- ---- lists and tables

-- the transaction at a place of the dormant list, from 1
abbrev pub dormant_at : State → ℕ → Option states.Dormant
dormant_at s place = numbered s.dormant place

-- the journal's entry of a number, from 1
abbrev pub entry_at : State → ℕ → Option Entry
entry_at s number = numbered s.journal number

-- the rows of the first table of a name
abbrev pub rows_under : List Name → Tables → Name → Option Rows
rows_under [] tables name = None
rows_under (first ∷ names) [] name = None
rows_under (first ∷ names) (rows ∷ tables) name =
    if same_name first name then Some rows else rows_under names tables name

-- the present rows of the table of a name, where one is declared
abbrev pub present_rows : State → Name → Option Rows
present_rows s name = rows_under (table_names s.opening) s.tables name
