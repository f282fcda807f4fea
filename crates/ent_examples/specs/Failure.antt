-- A statement of one fails, and its group goes with it: the partner, prepared already, has another run.
use Rattle.std.specs.Prelude.{pos, List, [], ◌∷◌, codes}
use Rattle.ent_value.specs.declared.value.Value.{Value}
use Rattle.ent_value.specs.declared.value.Value.TheVariants.{Int}
use Rattle.ent_tree.specs.declared.operand.Expression.TheVariants.{Sum}
use Rattle.ent_tree.specs.declared.script.End.TheVariants.{Commit}
use Rattle.ent_semantics.specs.declared.operand.Known.TheVariants as known
use Rattle.ent_semantics.specs.declared.statement.Statement.{Statement}
use Rattle.ent_semantics.specs.declared.statement.Statement.TheVariants as forms
use Rattle.ent_semantics.specs.declared.answer.Failure.TheVariants.{Overflow}
use Rattle.ent_protocol.specs.Event.{Event, Reply}
use Rattle.ent_protocol.specs.Event as events
use Rattle.ent_protocol.specs.Job.{Job, One, Done, Fault}
use Rattle.ent_protocol.specs.Run.{Forms}
use Rattle.ent_examples.specs.HeldBack.{mickey, minnie, two_friends}
use Rattle.ent_examples.specs.Scripts.{ScriptOf, asks_form, script}
use Rattle.ent_examples.specs.Wish.{joint_job, joint_done}

-- SET @d = 9223372036854775807 + 1
abbrev pub sets_too_much : {K : Type 0} → (Value → K) → Statement K
sets_too_much known = forms.Set (codes "d") (Sum (known (Int (pos 9223372036854775807))) (known (Int (pos 1))))

abbrev pub set_job : Job
set_job =
    record {
      work = One (record { tx = 1; attempt = 1; place = 2; statement = sets_too_much (λ value. value) });
      tables = [];
    }

abbrev pub set_done : Done
set_done = record { job = set_job; outcome = Fault Overflow }

module _ {F : Type 0} {resolved : Forms F}
    (one : ScriptOf resolved 8 (asks_form mickey ∷ sets_too_much known.Constant ∷ []) Commit)
    (two : ScriptOf resolved 2 (asks_form minnie ∷ []) Commit) where
  -- the two are answered, and the first one's SET fails
  abbrev pub set_fails : List (Event × Reply F)
  set_fails =
      (events.Submit (script one), events.Submitted 1)
      ∷ (events.Submit (script two), events.Submitted 2)
      ∷ (events.StartRun, events.Started (1 ∷ 2 ∷ []))
      ∷ (events.Begin 1, events.Posted)
      ∷ (events.Begin 2, events.Posted)
      ∷ (events.Pick, events.Lent (joint_job two_friends))
      ∷ (events.JoinAnswer (joint_done two_friends), events.Answered)
      ∷ (events.Begin 2, events.Prepared)
      ∷ (events.Begin 1, events.Lent set_job)
      ∷ (events.Finish set_done, events.Failed Overflow (1 ∷ 2 ∷ []))
      ∷ []

-- the second has one run more, in which nobody answers it
abbrev pub partner_gives_up : {F : Type 0} → List (Event × Reply F)
partner_gives_up =
    (events.EndRun, events.Ended [])
    ∷ (events.StartRun, events.Started (2 ∷ []))
    ∷ (events.Begin 2, events.Posted)
    ∷ (events.EndRun, events.Ended (2 ∷ []))
    ∷ []
