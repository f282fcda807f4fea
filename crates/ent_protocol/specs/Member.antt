-- Where members stand: their next statements, what of them is in the pool, and whose jobs are lent.
use Rattle.std.specs.Prelude.{ℕ, Bool, true, false, ◌==◌, List, [], ◌∷◌, map, Option, Some, None}
use Rattle.std.specs.Prelude.{slice_index_or}
use Rattle.std.specs.List.{filter, flat_map, list_any}
use Rattle.ent_lists.specs.Sets as set
use Rattle.ent_value.specs.declared.value.Kind.{Kind}
use Rattle.ent_value.specs.declared.value.Value.{Value}
use Rattle.ent_tree.specs.declared.declaration.Create.{Create}
use Rattle.ent_tree.specs.declared.script.End.{End}
use Rattle.ent_tree.specs.declared.script.End.TheVariants.{Commit, Rollback}
use Rattle.ent_semantics.specs.Database.{Environment, nothing_bound, with_values}
use Rattle.ent_semantics.specs.Serial.{numbered}
use Rattle.ent_semantics.specs.Closing.{closed}
use Rattle.ent_semantics.specs.Form.{Tables}
use Rattle.ent_semantics.specs.declared.entangled.Entangled.{Entangled}
use Rattle.ent_semantics.specs.declared.operand.Known.{Known}
use Rattle.ent_semantics.specs.declared.statement.Statement.{Statement}
use Rattle.ent_semantics.specs.declared.statement.Statement.TheVariants as statements
use Rattle.ent_semantics.specs.Pool.{Posted}
use Rattle.ent_protocol.specs.Job.{Job, Work, One, Joint, Numbered}
use Rattle.ent_protocol.specs.State.{State, Submitted, Member, Use, first_of}

-- what comes next in a script, closed under what is bound
pub data Next : Type 0 where
  Ordinary : (statement : Statement Value) → Next
  Asks : (statement : Entangled Value) → Next
  Commits : Next
  RollsBack : Next

abbrev pub statement_next : Statement Value → Next
statement_next (statements.Entangled entangled) = Asks entangled
statement_next other = Ordinary other

abbrev pub end_next : End → Next
end_next Commit = Commits
end_next Rollback = RollsBack

abbrev pub environment_of : Member → Environment
environment_of member = with_values nothing_bound member.bound

-- the statement at the member's place, or the end of its script
abbrev pub next_in : Option Submitted → Member → Next
next_in None member = RollsBack
next_in (Some submitted) member = at_place (numbered submitted.form member.place)
  where
    at_place : Option (Statement Known) → Next
    at_place (Some statement) = statement_next (closed (environment_of member) statement)
    at_place None = end_next submitted.script.end

abbrev pub next_of : State → Member → Next
next_of s member = next_in (numbered s.submitted member.tx) member

-- ---- who is who

abbrev pub is_tx : ℕ → Member → Bool
is_tx tx member = member.tx == tx

abbrev pub is_of : ℕ → Member → Bool
is_of group member = member.group == group

-- the member of a number that isn't prepared
abbrev pub active_member : State → ℕ → Option Member
active_member s tx = first_of (filter (is_tx tx) s.active)

abbrev pub is_prepared : State → ℕ → Bool
is_prepared s tx = list_any (is_tx tx) s.prepared

-- ---- the pool

-- a member's statement as it is posted
abbrev pub posted_as : Member → Entangled Value → Posted
posted_as member statement =
    record { tx = member.tx; attempt = member.attempt; place = member.place; statement = statement }

-- a posted member's statement
abbrev pub posted_by : State → Member → List Posted
posted_by s member = asked member.posted (next_of s member)
  where
    asked : Bool → Next → List Posted
    asked true (Asks statement) = posted_as member statement ∷ []
    asked posted next = []

abbrev pub pool : State → List Posted
pool s = flat_map (posted_by s) s.active

-- ---- jobs

abbrev pub is_single_of : ℕ → Job → Bool
is_single_of tx job = work_of job.work
  where
    work_of : Work → Bool
    work_of (One single) = single.tx == tx
    work_of (Joint pool) = false

-- a job of one of the member's statements is lent
abbrev pub is_lent : State → ℕ → Bool
is_lent s tx = list_any (is_single_of tx) s.lent

-- the kinds of the columns of the table of a number, as it is declared
abbrev pub declared_kinds : List Create → ℕ → List Kind
declared_kinds declared table =
    slice_index_or (map (λ create. map (λ column. column.kind) create.columns) declared) table []

-- the tables of some uses as they stand
abbrev pub seen_now : List Create → Tables → List Use → List Numbered
seen_now declared tables uses =
    map (λ own. record {
      table = own.table;
      kinds = declared_kinds declared own.table;
      rows = slice_index_or tables own.table set.empty;
    }) uses
