-- The rules of groundings and answers: transactions run alone, in the order of their commits, and each entangled
-- statement has the grounding that is told.
use Rattle.std.specs.Prelude.{ℕ, suc, Bool, false, List, [], ◌∷◌, ◌++◌, Option, Some, None, Result, Ok, Err}
use Rattle.std.specs.List.{flat_map}
use Rattle.std.specs.Option.{option_and_then}
use Rattle.ent_tree.specs.declared.declaration.Create.{Create}
use Rattle.ent_semantics.specs.declared.answer.Answer.{Answer}
use Rattle.ent_semantics.specs.declared.answer.Failure.{Failure}
use Rattle.ent_semantics.specs.Database.{Database, Environment, nothing_bound}
use Rattle.ent_semantics.specs.Effect.{Effect}
use Rattle.ent_semantics.specs.Entangled.{is_grounding}
use Rattle.ent_semantics.specs.Serial.{Operation, Run, ReadView, run, seen, seen_from, read_views}
use Rattle.ent_semantics.specs.Statement.{statement_meaning}
use Rattle.ent_history.specs.Account.{Account}
use Rattle.ent_history.specs.Alike.{same_answer}
use Rattle.ent_history.specs.Journal.{unless}
use Rattle.ent_history.specs.Placed.{Placed, member_at, told_operations}
use Rattle.ent_history.specs.declared.finding.Finding.{Finding}
use Rattle.ent_history.specs.declared.finding.Rule.TheVariants as rules
use Rattle.ent_history.specs.declared.finding.Thing.TheVariants as things

-- an answer is what a statement came to
abbrev pub is_answered : Result (Effect Database) Failure → List Answer → Bool
is_answered (Ok effect) [] = false
is_answered (Ok effect) (answer ∷ more) = same_answer effect.answer answer
is_answered (Err failure) answers = false

-- the answers behind the first
abbrev pub later : List Answer → List Answer
later [] = []
later (answer ∷ more) = more

-- goes on with the effect of a statement; after a failure nothing is found
abbrev pub found_after : Result (Effect Database) Failure → (Database → Environment → List Finding) → List Finding
found_after (Ok effect) more = more effect.database effect.environment
found_after (Err failure) more = []

-- goes on from what a transaction leaves
abbrev pub found_from : Option Run → (Database → List Finding) → List Finding
found_from (Some run) more = more run.database
found_from None more = []

-- the grounding that is told where a member stands isn't one
abbrev pub ground_finding : Option Placed → Bool → List Finding
ground_finding None holds = []
ground_finding (Some one) holds = unless holds rules.Ground (things.Member one.joint one.number)

module _ (declared : List Create) (members : List Placed) where
  -- the grounding of an entangled statement isn't one over the database that it sees
  abbrev pub ungrounded : ReadView → List Finding
  ungrounded read_view =
      ground_finding (member_at members read_view.tx read_view.place)
      (is_grounding declared read_view.database read_view.environment read_view.entangled read_view.valuation)

  -- statements with their answers, the first having this place
  abbrev pub operations_findings : ℕ → ℕ → List Operation → List Answer → Database → Environment → List Finding
  operations_findings tx place [] answers database environment = []
  operations_findings tx place (operation ∷ more) answers database environment =
      let meaning = statement_meaning declared operation.statement operation.valuation database environment in
      flat_map ungrounded (seen tx place operation database environment)
      ++ (unless (is_answered meaning answers) rules.Answer (things.Answer tx place)
      ++ found_after meaning (operations_findings tx (suc place) more (later answers)))

  abbrev pub account_operations : Account → List Operation
  account_operations account = told_operations members account.tx 1 account.script.statements

  -- a transaction alone
  abbrev pub account_run : Account → Database → Option Run
  account_run account database = run declared (account_operations account) database nothing_bound

  -- transactions one after the other
  abbrev pub replay_findings : List Account → Database → List Finding
  replay_findings [] database = []
  replay_findings (account ∷ more) database =
      operations_findings account.tx 1 (account_operations account) account.answers database nothing_bound
      ++ found_from (account_run account database) (replay_findings more)

  -- what their entangled statements see
  abbrev pub told_read_views : List Account → Database → List ReadView
  told_read_views [] database = []
  told_read_views (account ∷ more) database =
      read_views declared account.tx 1 (account_operations account) database nothing_bound
      ++ seen_from (account_run account database) (told_read_views more)

  -- the database that they leave
  abbrev pub told_end : List Account → Database → Option Database
  told_end [] database = Some database
  told_end (account ∷ more) database =
      option_and_then (λ run. told_end more run.database) (account_run account database)
