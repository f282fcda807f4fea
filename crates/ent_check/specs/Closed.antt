-- What is found of a closed statement over tables, and what it leaves.
use Rattle.std.specs.Prelude.{◌≡◌, ℕ, Bool, true, false, List, [], ◌∷◌, ◌++◌, Option, Some, None, Result, Ok, Err}
use Rattle.std.specs.Prelude.{is_some}
use Rattle.ent_value.specs.declared.value.Value.{Value}
use Rattle.ent_tree.specs.declared.script.Statement.{Statement as TreeStatement}
use Rattle.ent_tree.specs.declared.script.Statement.TheVariants as trees
use Rattle.ent_semantics.specs.declared.answer.Answer.{Answer}
use Rattle.ent_semantics.specs.declared.answer.Failure.{Failure}
use Rattle.ent_semantics.specs.Database.{Environment}
use Rattle.ent_semantics.specs.Effect.{Effect}
use Rattle.ent_semantics.specs.Entangled.{Valuation}
use Rattle.ent_semantics.specs.Form.{Tables, closed_worth, form_heads, form_meaning, form_posts, is_form_grounding}
use Rattle.ent_semantics.specs.declared.statement.Statement.{Statement}
use Rattle.ent_semantics.specs.declared.statement.Statement.TheVariants as statements
use Rattle.ent_history.specs.Alike.{same_answer}
use Rattle.ent_history.specs.Journal.{unless}
use Rattle.ent_history.specs.Placed.{Placed, grounding_of}
use Rattle.ent_history.specs.Replay.{ground_finding}
use Rattle.ent_history.specs.declared.finding.Finding.{Finding}
use Rattle.ent_history.specs.declared.finding.Rule.TheVariants as rules
use Rattle.ent_history.specs.declared.finding.Thing.TheVariants as things
use Rattle.ent_ordinary.specs.Worth.{itself}
use Rattle.ent_check.specs.declared.offer.StatementOffer.{StatementOffer}

-- an entangled statement has a seat
abbrev pub HasSeat : Option Placed → Statement Value → Type 0
HasSeat seat (statements.Entangled entangled) = is_some seat ≡ true
HasSeat seat other = Unit {0}

-- a statement that is entangled is a member
abbrev pub IsSeated : Option Placed → TreeStatement → Type 0
IsSeated seat (trees.Entangled entangled) = is_some seat ≡ true
IsSeated seat other = Unit {0}

-- ---- what it comes to

-- the answer of a statement, unless it fails
abbrev pub answer_in : {D : Type 0} → Result (Effect D) Failure → Option Answer
answer_in (Ok effect) = Some effect.answer
answer_in (Err failure) = None

-- a statement comes to the answer that is told
abbrev pub is_told : Option Answer → Option Answer → Bool
is_told (Some answer) (Some told) = same_answer answer told
is_told (Some answer) None = false
is_told None told = false

-- a statement leaves this database and this environment
abbrev pub Leaves : {D : Type 0} → Result (Effect D) Failure → D → Environment → Type 0
Leaves (Ok effect) database environment = (effect.database ≡ database) × (effect.environment ≡ environment)
Leaves (Err failure) database environment = ⊥

-- ---- what is found of it

-- the grounding under which a statement is answered: an entangled one has that of its seat, others have none
abbrev pub grounding_in : Option Placed → Statement Value → Valuation
grounding_in seat (statements.Entangled entangled) = grounding_of seat
grounding_in seat other = []

module _ (tx place : ℕ) (seat : Option Placed) (statement : Statement Value) (tables : Tables)
    (environment : Environment) where
  abbrev pub meaning : Result (Effect Tables) Failure
  meaning = form_meaning closed_worth statement (grounding_in seat statement) tables environment

  -- the answer that is told isn't the statement's
  abbrev pub answer_findings : Option Answer → List Finding
  answer_findings told = unless (is_told (answer_in meaning) told) rules.Answer (things.Answer tx place)

-- the grounding of an entangled statement isn't one over the tables
abbrev pub seat_findings : Option Placed → Statement Value → Tables → List Finding
seat_findings seat (statements.Entangled entangled) tables =
    ground_finding seat (is_form_grounding itself tables entangled (grounding_of seat))
seat_findings seat other tables = []

-- of a statement with its seat and the answer that is told
abbrev pub closed_findings : ℕ → ℕ → Option Placed → Statement Value → Option Answer → Tables → Environment
    → List Finding
closed_findings tx place seat statement told tables environment =
    seat_findings seat statement tables ++ answer_findings tx place seat statement tables environment told

-- what an entangled statement offers and demands; others offer nothing
abbrev pub closed_offers : ℕ → ℕ → Option Placed → Statement Value → List StatementOffer
closed_offers tx place seat (statements.Entangled entangled) =
    record {
      tx = tx;
      place = place;
      heads = form_heads itself entangled (grounding_of seat);
      posts = form_posts itself entangled (grounding_of seat);
    }
    ∷ []
closed_offers tx place seat other = []
