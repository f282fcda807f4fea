-- A run can't end while something can happen: each reason that it is refused for.
use Rattle.std.specs.Prelude.{List, [], ◌∷◌, codes}
use Rattle.ent_tree.specs.declared.operand.Comparison.TheVariants.{Equal}
use Rattle.ent_tree.specs.declared.script.End.TheVariants.{Commit}
use Rattle.ent_semantics.specs.declared.operand.Known.{Known}
use Rattle.ent_semantics.specs.declared.operand.Known.TheVariants as known
use Rattle.ent_semantics.specs.declared.operand.Operand.TheVariants as operands
use Rattle.ent_semantics.specs.declared.statement.Statement.{Statement}
use Rattle.ent_semantics.specs.declared.statement.Statement.TheVariants as forms
use Rattle.ent_protocol.specs.Event.{Event, Reply, JobOut, CanBegin, Untried, Cycle}
use Rattle.ent_protocol.specs.Event as events
use Rattle.ent_protocol.specs.Run.{Forms}
use Rattle.ent_examples.specs.HeldBack.{mickey, minnie, two_friends}
use Rattle.ent_examples.specs.Scripts.{ScriptOf, asks_form, script}
use Rattle.ent_examples.specs.Wish.{joint_job, joint_done}

-- DELETE FROM Flights WHERE fno = @f
abbrev pub deletes_form : Statement Known
deletes_form =
    forms.Delete 0 (record {
      left = operands.Column 0;
      comparison = Equal;
      right = operands.Known (known.HostVariable (codes "f"));
    } ∷ [])

module _ {F : Type 0} {resolved : Forms F} (one : ScriptOf resolved 8 (asks_form mickey ∷ deletes_form ∷ []) Commit)
    (two : ScriptOf resolved 8 (asks_form minnie ∷ deletes_form ∷ []) Commit) where
  -- nobody began yet; both are posted; their job is out
  abbrev pub is_busy : List (Event × Reply F)
  is_busy =
      (events.Submit (script one), events.Submitted 1)
      ∷ (events.Submit (script two), events.Submitted 2)
      ∷ (events.EndRun, events.NotNow)
      ∷ (events.StartRun, events.Started (1 ∷ 2 ∷ []))
      ∷ (events.StartRun, events.NotNow)
      ∷ (events.EndRun, events.Busy (CanBegin 1))
      ∷ (events.Begin 1, events.Posted)
      ∷ (events.Begin 2, events.Posted)
      ∷ (events.EndRun, events.Busy (Untried 1))
      ∷ (events.Pick, events.Lent (joint_job two_friends))
      ∷ (events.EndRun, events.Busy (JobOut 1))
      ∷ (events.JoinAnswer (joint_done two_friends), events.Answered)
      ∷ []

-- each waits for the other, whose entangled statement has read what it would delete
abbrev pub cycle_stands : {F : Type 0} → List (Event × Reply F)
cycle_stands =
    (events.Begin 1, events.Blocked 2)
    ∷ (events.Begin 2, events.Blocked 1)
    ∷ (events.EndRun, events.Busy (Cycle (2 ∷ 1 ∷ [])))
    ∷ (events.BreakCycle, events.Broken (2 ∷ 1 ∷ []) (1 ∷ 2 ∷ []))
    ∷ (events.EndRun, events.Ended [])
    ∷ []
