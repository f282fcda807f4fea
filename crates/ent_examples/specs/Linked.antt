-- Three are linked by two joint answers, and one of them rolls all three back.
use Rattle.std.specs.Prelude.{pos, List, [], ◌∷◌, codes}
use Rattle.ent_lists.specs.Sets as set
use Rattle.ent_value.specs.declared.value.Kind.TheVariants as kinds
use Rattle.ent_value.specs.declared.value.Value.{Value}
use Rattle.ent_value.specs.declared.value.Value.TheVariants.{Int, Text}
use Rattle.ent_tree.specs.declared.operand.Expression.{Expression}
use Rattle.ent_tree.specs.declared.operand.Expression.TheVariants.{Single}
use Rattle.ent_tree.specs.declared.script.End.TheVariants.{Commit, Rollback}
use Rattle.ent_semantics.specs.declared.operand.Known.{Known}
use Rattle.ent_semantics.specs.declared.operand.Known.TheVariants as known
use Rattle.ent_semantics.specs.declared.operand.Operand.{Operand}
use Rattle.ent_semantics.specs.declared.operand.Operand.TheVariants as operands
use Rattle.ent_semantics.specs.declared.statement.Statement.{Statement}
use Rattle.ent_semantics.specs.declared.statement.Statement.TheVariants as forms
use Rattle.ent_protocol.specs.Event.{Event, Reply}
use Rattle.ent_protocol.specs.Event as events
use Rattle.ent_protocol.specs.Job.{Job, One, Done, Changed, applied}
use Rattle.ent_protocol.specs.Run.{Forms}
use Rattle.ent_examples.specs.Partners.{flight_122, booking_job, booking_done, counts_1}
use Rattle.ent_examples.specs.Grown.{A_for_B, B_for_A, A_and_B}
use Rattle.ent_examples.specs.Scripts.{ScriptOf, asks_form, books_form, script}
use Rattle.ent_examples.specs.Wish.{Wish, Friend, in_S, first_asks, joint_job, joint_done}

-- B asks for C by its second statement, and C for B by its first
abbrev pub B_for_C : Wish
B_for_C = in_S (codes "B") (codes "C")

abbrev pub C_for_B : Wish
C_for_B = in_S (codes "C") (codes "B")

abbrev pub B_and_C : List Friend
B_and_C = record { tx = 2; attempt = 1; place = 2; wish = B_for_C } ∷ first_asks 3 C_for_B ∷ []

abbrev pub A : Value
A = Text (codes "A")

-- UPDATE Bookings SET fno = 136
abbrev pub sets_136 : {K : Type 0} → (Value → K) → List (Expression (Operand K))
sets_136 known = Single (operands.Column 0) ∷ Single (operands.Known (known (Int (pos 136)))) ∷ []

abbrev pub updates_form : Statement Known
updates_form = forms.Update 1 (sets_136 known.Constant) []

-- it sees the booking of A
abbrev pub update_job : Job
update_job =
    record {
      work = One (record {
        tx = 3;
        attempt = 1;
        place = 2;
        statement = forms.Update 1 (sets_136 (λ value. value)) [];
      });
      tables = record {
        table = 1;
        kinds = kinds.Text ∷ kinds.Int ∷ [];
        rows = applied [] ((A ∷ flight_122 ∷ []) ∷ []) set.empty;
      } ∷ [];
    }

abbrev pub update_done : Done
update_done =
    record {
      job = update_job;
      outcome = Changed 1 ((A ∷ flight_122 ∷ []) ∷ []) ((A ∷ Int (pos 136) ∷ []) ∷ []);
    }

module _ {F : Type 0} {resolved : Forms F}
    (one : ScriptOf resolved 2 (asks_form A_for_B ∷ books_form (codes "A") ∷ []) Commit)
    (two : ScriptOf resolved 2 (asks_form B_for_A ∷ asks_form B_for_C ∷ []) Commit)
    (three : ScriptOf resolved 8 (asks_form C_for_B ∷ updates_form ∷ []) Rollback) where
  -- A and B are answered, and A books
  abbrev pub first_link : List (Event × Reply F)
  first_link =
      (events.Submit (script one), events.Submitted 1)
      ∷ (events.Submit (script two), events.Submitted 2)
      ∷ (events.Submit (script three), events.Submitted 3)
      ∷ (events.StartRun, events.Started (1 ∷ 2 ∷ 3 ∷ []))
      ∷ (events.Begin 1, events.Posted)
      ∷ (events.Begin 2, events.Posted)
      ∷ (events.Begin 3, events.Posted)
      ∷ (events.Pick, events.Lent (joint_job A_and_B))
      ∷ (events.JoinAnswer (joint_done A_and_B), events.Answered)
      ∷ (events.Begin 1, events.Lent (booking_job 1 A set.empty))
      ∷ (events.Finish (booking_done 1 A set.empty), counts_1)
      ∷ []

-- B and C are answered; C passes the lock of A, which is prepared, changes its row, and rolls back
abbrev pub second_link : {F : Type 0} → List (Event × Reply F)
second_link =
    (events.Begin 2, events.Posted)
    ∷ (events.Pick, events.Lent (joint_job B_and_C))
    ∷ (events.JoinAnswer (joint_done B_and_C), events.Answered)
    ∷ (events.Begin 1, events.Prepared)
    ∷ (events.Begin 3, events.Lent update_job)
    ∷ (events.Finish update_done, counts_1)
    ∷ (events.Begin 3, events.RolledBack (1 ∷ 2 ∷ 3 ∷ []))
    ∷ []
