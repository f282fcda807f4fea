-- What is found of a statement is what is found of its form, closed.
use Rattle.std.specs.Prelude.{◌≡◌, ℕ, Bool, List, [], ◌++◌, cond, map, Option, None, Result, slice_get}
use Rattle.std.specs.List.{flat_map}
use Rattle.ent_value.specs.declared.value.Value.{Value}
use Rattle.ent_tree.specs.declared.declaration.Create.{Create}
use Rattle.ent_tree.specs.declared.script.Statement.{Statement as TreeStatement}
use Rattle.ent_semantics.specs.declared.answer.Answer.{Answer}
use Rattle.ent_semantics.specs.declared.answer.Failure.{Failure}
use Rattle.ent_semantics.specs.Database.{Database, Environment}
use Rattle.ent_semantics.specs.Effect.{Effect}
use Rattle.ent_semantics.specs.Entangled.{Valuation}
use Rattle.ent_semantics.specs.Serial.{Operation, is_entangled, seen}
use Rattle.ent_semantics.specs.Statement.{statement_meaning}
use Rattle.ent_semantics.specs.Form.{Tables, closed_worth, form_meaning}
use Rattle.ent_semantics.specs.declared.statement.Statement.{Statement}
use Rattle.ent_form.specs.Catalogue.{schemas_of}
use Rattle.ent_form.specs.Kinds.{Bound}
use Rattle.ent_form.specs.TableKinds.{AreKinded, HasKinds}
use Rattle.ent_form.specs.Tables.{database_of}
use Rattle.ent_history.specs.Journal.{unless}
use Rattle.ent_history.specs.Placed.{Placed, grounding_of, member_at}
use Rattle.ent_history.specs.Replay.{is_answered, ungrounded}
use Rattle.ent_history.specs.Verdict.{first_of}
use Rattle.ent_history.specs.declared.finding.Finding.{Finding}
use Rattle.ent_history.specs.declared.finding.Rule.TheVariants as rules
use Rattle.ent_history.specs.declared.finding.Thing.TheVariants as things
use Rattle.ent_check.specs.Offers.{offer_of}
use Rattle.ent_check.specs.declared.offer.StatementOffer.{StatementOffer}
use Rattle.ent_check.specs.Closed.{Leaves, closed_findings, closed_offers, grounding_in}

module _ (creates : List Create) (members : List Placed) (tx place : ℕ) where
  -- the oracle's answer to a statement
  abbrev pub told_valuation : TreeStatement → Valuation
  told_valuation tree = cond (is_entangled tree) (grounding_of (member_at members tx place)) []

  abbrev pub operation_of : TreeStatement → Operation
  operation_of tree = record { statement = tree; valuation = told_valuation tree }

  abbrev pub tree_meaning : TreeStatement → Database → Environment → Result (Effect Database) Failure
  tree_meaning tree database environment =
      statement_meaning creates tree (told_valuation tree) database environment

  abbrev pub answer_unless : Bool → List Finding
  answer_unless holds = unless holds rules.Answer (things.Answer tx place)

  -- what is found of a statement alone
  abbrev pub tree_findings : TreeStatement → List Answer → Database → Environment → List Finding
  tree_findings tree answers database environment =
      flat_map (ungrounded creates members) (seen tx place (operation_of tree) database environment)
      ++ answer_unless (is_answered (tree_meaning tree database environment) answers)

  abbrev pub tree_offers : TreeStatement → Database → Environment → List StatementOffer
  tree_offers tree database environment = map offer_of (seen tx place (operation_of tree) database environment)

  module _ (bound after : Bound) (tree : TreeStatement) (statement : Statement Value) (answers : List Answer)
      (tables : Tables) (environment : Environment) where
    abbrev pub seat : Option Placed
    seat = member_at members tx place

    abbrev pub found_closed : List Finding
    found_closed = closed_findings tx place seat statement (slice_get answers 0) tables environment

    abbrev pub closed_meaning : Result (Effect Tables) Failure
    closed_meaning = form_meaning closed_worth statement (grounding_in seat statement) tables environment

    -- what is found of the statement is what is found of its form, and it leaves and offers the same
    pub record IsAlike : Type 0 where
      pub found : first_of (tree_findings tree answers (database_of creates tables) environment)
          ≡ first_of found_closed
      pub left : first_of found_closed ≡ None → (later : Tables) (environment' : Environment)
          → Leaves closed_meaning later environment'
          → Leaves (tree_meaning tree (database_of creates tables) environment) (database_of creates later)
          environment'
      pub rows : first_of found_closed ≡ None → (later : Tables) (environment' : Environment)
          → Leaves closed_meaning later environment' → AreKinded (schemas_of creates) later
      pub binds : first_of found_closed ≡ None → (later : Tables) (environment' : Environment)
          → Leaves closed_meaning later environment' → HasKinds after environment'
      pub offers : first_of found_closed ≡ None
          → closed_offers tx place seat statement ≡ tree_offers tree (database_of creates tables) environment
