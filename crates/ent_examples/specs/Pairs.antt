-- Two pairs of partners, the second of which commits first, event by event.
use Rattle.std.specs.Prelude.{◌≡◌, List, [], ◌∷◌, Ok}
use Rattle.ent_value.specs.declared.value.Value.{Value}
use Rattle.ent_tree.specs.declared.script.Statement.{Statement}
use Rattle.ent_semantics.specs.declared.operand.Known.{Known}
use Rattle.ent_semantics.specs.declared.statement.Statement.{Statement as FormStatement}
use Rattle.ent_semantics.specs.declared.statement.Statement.TheVariants as forms
use Rattle.ent_protocol.specs.Event.{Event, Reply}
use Rattle.ent_protocol.specs.Event as events
use Rattle.ent_protocol.specs.Run.{Forms}
use Rattle.ent_examples.specs.Partners.{partners_opening, committing_script, asks, Mickey, Minnie}
use Rattle.ent_examples.specs.Partners.{pair_job, pair_done}

-- SELECT own, fno AS @f INTO ANSWER R .., and no other statement
abbrev pub asks_form : Value → Value → List (FormStatement Known)
asks_form own partner = forms.Entangled (asks own partner) ∷ []

-- some scripts that resolve to it
pub record Askers {F : Type 0} (resolved : Forms F) : Type 0 where
  pub first : List Statement
  pub first_is : resolved.resolve partners_opening (committing_script first) ≡ Ok (asks_form Mickey Minnie)
  pub second : List Statement
  pub second_is : resolved.resolve partners_opening (committing_script second) ≡ Ok (asks_form Minnie Mickey)

-- The first pair is answered, then the second one; the second pair commits, and then the first one.
abbrev pub pairs_commit : {F : Type 0} {resolved : Forms F} → Askers resolved → List (Event × Reply F)
pairs_commit askers =
    (events.Submit (committing_script askers.first), events.Submitted 1)
    ∷ (events.Submit (committing_script askers.second), events.Submitted 2)
    ∷ (events.Submit (committing_script askers.first), events.Submitted 3)
    ∷ (events.Submit (committing_script askers.second), events.Submitted 4)
    ∷ (events.StartRun, events.Started (1 ∷ 2 ∷ 3 ∷ 4 ∷ []))
    ∷ (events.Begin 1, events.Posted)
    ∷ (events.Begin 2, events.Posted)
    ∷ (events.Pick, events.Lent (pair_job 1 2))
    ∷ (events.JoinAnswer (pair_done 1 2), events.Answered)
    ∷ (events.Begin 3, events.Posted)
    ∷ (events.Begin 4, events.Posted)
    ∷ (events.Pick, events.Lent (pair_job 3 4))
    ∷ (events.JoinAnswer (pair_done 3 4), events.Answered)
    ∷ (events.Begin 3, events.Prepared)
    ∷ (events.Begin 4, events.Committed ((1, 3) ∷ (2, 4) ∷ []))
    ∷ (events.Begin 1, events.Prepared)
    ∷ (events.Begin 2, events.Committed ((3, 1) ∷ (4, 2) ∷ []))
    ∷ []
