-- The present tables are always a serial state.
use Rattle.std.specs.Prelude.{◌≡◌, ◌≢◌, ◌↔◌, suc, List, [], ◌++◌, map, length, take, Some, Contains, AllPairs}
use Rattle.std.specs.List.{AllByRecursion}
use Rattle.ent_tree.specs.declared.script.End.TheVariants.{Commit}
use Rattle.ent_tree.specs.declared.script.Statement.TheVariants as statements
use Rattle.ent_tree.specs.declared.script.Statement.{Statement}
use Rattle.ent_semantics.specs.Database.{opening_database}
use Rattle.ent_semantics.specs.Serial.{Operation, numbered}
use Rattle.ent_form.specs.Tables.{database_of}
use Rattle.ent_protocol.specs.Commit.{entry_of}
use Rattle.ent_protocol.specs.Reached.{settled}
use Rattle.ent_protocol.specs.State.{State, Submitted, Member}
use Rattle.ent_protocol_laws.specs.History.{History, AreSerial}

-- the oracle answers entangled statements alone
abbrev pub IsOracled : Operation → Type 0
IsOracled operation = by_statement operation.statement
  where
    by_statement : Statement → Type 0
    by_statement (statements.Entangled entangled) = Unit {0}
    by_statement other = operation.valuation ≡ []

-- what was done is the beginning of a member's own script
pub record Follows (all : List Submitted) (history : History) : Type 0 where
  pub own : Submitted
  pub submitted : numbered all history.member.tx ≡ Some own
  pub beginning : map (λ operation. operation.statement) history.operations
      ≡ take (length history.operations) own.script.statements
  pub place : history.member.place ≡ suc (length history.operations)
  pub oracled : AllByRecursion IsOracled history.operations

-- it is the whole script, which ends with COMMIT
pub record IsWhole (all : List Submitted) (history : History) : Type 0 where
  pub own : Submitted
  pub submitted : numbered all history.member.tx ≡ Some own
  pub whole : map (λ operation. operation.statement) history.operations ≡ own.script.statements
  pub commits : own.script.end ≡ Commit
  pub oracled : AllByRecursion IsOracled history.operations

-- The committed transactions in journal order give the settled database; from there the prepared members, and then the
-- others in some order, give the present tables. Each of these runs is of another member, so nobody runs twice.
pub record IsSerialState (s : State) : Type 0 where
  pub committed : List History
  pub prepared : List History
  pub others : List History
  pub journal : map (λ history. entry_of history.member) committed ≡ s.journal
  pub of_prepared : map (λ history. history.member) prepared ≡ s.prepared
  pub of_others : (member : Member) → Contains (map (λ history. history.member) others) member
      ↔ Contains s.active member
  pub distinct : AllPairs (λ (one other : History). one.member.tx ≢ other.member.tx) (prepared ++ others)
  pub settles : AreSerial s.opening.tables committed (opening_database s.opening)
      (database_of s.opening.tables (settled s))
  pub stands : AreSerial s.opening.tables (prepared ++ others) (database_of s.opening.tables (settled s))
      (database_of s.opening.tables s.tables)
  pub whole : AllByRecursion (IsWhole s.submitted) (committed ++ prepared)
  pub follow : AllByRecursion (Follows s.submitted) others
