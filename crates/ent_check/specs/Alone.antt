-- A transaction that is run alone: what is asked of it, what is found and what it leaves.
use Rattle.std.specs.Prelude.{◌≡◌, ℕ, suc, List, [], ◌∷◌, ◌++◌, map, Option, None, Some}
use Rattle.ent_tree.specs.declared.declaration.Create.{Create}
use Rattle.ent_tree.specs.declared.script.Script.{Script}
use Rattle.ent_tree.specs.declared.script.Statement.{Statement}
use Rattle.ent_rel.specs.Relation.{Relation}
use Rattle.ent_ordinary.specs.Tables.{kinds_in, rows_in}
use Rattle.ent_semantics.specs.Database.{Database, nothing_bound}
use Rattle.ent_semantics.specs.Serial.{Run, read_views}
use Rattle.ent_form.specs.Catalogue.{schemas_of}
use Rattle.ent_form.specs.ScriptFaults.{script_faults}
use Rattle.ent_form.specs.declared.catalogue.TableSchema.{TableSchema}
use Rattle.ent_form.specs.Tables.{HaveDistinctColumns}
use Rattle.ent_form.specs.TableKinds.{AreKinded, column_kinds}
use Rattle.ent_history.specs.declared.history.Told.{Told}
use Rattle.ent_history.specs.Account.{Account}
use Rattle.ent_history.specs.Placed.{Placed, member_at}
use Rattle.ent_history.specs.Replay.{account_operations, account_run, operations_findings}
use Rattle.ent_history.specs.Replay.{replay_findings, told_end, told_read_views}
use Rattle.ent_history.specs.Verdict.{first_of}
use Rattle.ent_history.specs.declared.finding.Finding.{Finding}
use Rattle.ent_check.specs.Closed.{IsSeated}
use Rattle.ent_check.specs.Offers.{offer_of}
use Rattle.ent_check.specs.declared.offer.StatementOffer.{StatementOffer}

-- a script has no fault of form
abbrev pub IsResolved : List Create → Script → Type 0
IsResolved creates script = script_faults (schemas_of creates) script ≡ []

-- tables have the kinds of their columns, and so have their rows
pub record StandAsDeclared (creates : List Create) (tables : List Relation) : Type 0 where
  pub kinds : kinds_in tables ≡ map column_kinds (schemas_of creates)
  pub rows : AreKinded (schemas_of creates) (rows_in tables)

-- the entangled ones of statements, the first having this place, are members
abbrev pub AreSeated : List Placed → ℕ → ℕ → List Statement → Type 0
AreSeated members tx place [] = Unit {0}
AreSeated members tx place (statement ∷ more) =
    IsSeated (member_at members tx place) statement × AreSeated members tx (suc place) more

abbrev pub account_at : ℕ → Script → Told → Account
account_at tx script told = record { tx = tx; script = script; fate = told.fate; answers = told.answers }

-- What is found first of a transaction, and what it leaves where nothing is: the database, and offers behind those
-- before.
pub record IsReplayed (creates : List Create) (members : List Placed) (account : Account) (before : Database)
    (finding : Option Finding) (after : Database) (offers made : List StatementOffer) : Type 0 where
  pub found : finding ≡ first_of (operations_findings creates members account.tx 1
      (account_operations creates members account) account.answers before nothing_bound)
  pub left : finding ≡ None
      → (run : Run) × (account_run creates members account before ≡ Some run) × (run.database ≡ after)
  pub offered : finding ≡ None → made ≡ offers ++ map offer_of
      (read_views creates account.tx 1 (account_operations creates members account) before nothing_bound)

-- tables are declared so, no table having two columns of one name
pub record AreDeclaredWell (creates : List Create) (schemas : List TableSchema) : Type 0 where
  pub schemas_are : schemas ≡ schemas_of creates
  pub distinct : HaveDistinctColumns creates

-- the entangled statements of a transaction are members
abbrev pub IsSeatedWhole : List Placed → Account → Type 0
IsSeatedWhole members account = AreSeated members account.tx 1 account.script.statements

-- What is found first of transactions that are run one after the other, and what they leave where nothing is.
pub record AreReplayed (creates : List Create) (members : List Placed) (turns : List Account) (before : Database)
    (finding : Option Finding) (after : Database) (offers made : List StatementOffer) : Type 0 where
  pub found : finding ≡ first_of (replay_findings creates members turns before)
  pub left : finding ≡ None → told_end creates members turns before ≡ Some after
  pub offered : finding ≡ None → made ≡ offers ++ map offer_of (told_read_views creates members turns before)
