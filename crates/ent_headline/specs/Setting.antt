-- A script that binds a host variable and commits, event by event: BEGIN TRANSACTION; SET @x = 1; COMMIT;
use Rattle.std.specs.Prelude.{pos, List, [], ◌∷◌, codes}
use Rattle.ent_value.specs.declared.value.Value.{Value}
use Rattle.ent_value.specs.declared.value.Value.TheVariants.{Int}
use Rattle.ent_tree.specs.declared.declaration.Opening.{Opening}
use Rattle.ent_tree.specs.declared.operand.Expression.TheVariants.{Single}
use Rattle.ent_tree.specs.declared.operand.ValueSpecification.TheVariants as specifications
use Rattle.ent_tree.specs.declared.script.End.TheVariants.{Commit}
use Rattle.ent_tree.specs.declared.script.Script.{Script}
use Rattle.ent_tree.specs.declared.script.Statement.TheVariants as statements
use Rattle.ent_semantics.specs.declared.answer.Answer.TheVariants as answers
use Rattle.ent_semantics.specs.declared.statement.Statement.TheVariants as forms
use Rattle.ent_form.specs.declared.fault.FormFault.{FormFault}
use Rattle.ent_protocol.specs.Event.{Event, Reply}
use Rattle.ent_protocol.specs.Event as events
use Rattle.ent_protocol.specs.Job.{Job, Done, One, Bound}

-- no table
abbrev pub bare_opening : Opening
bare_opening = record { tables = []; rows = [] }

abbrev pub one : Value
one = Int (pos 1)

abbrev pub setter : Script
setter =
    record {
      within = 1;
      statements = statements.Set (record {
        variable = record { name = codes "x"; place = 0 };
        expression = Single (specifications.Literal (record { value = one; place = 0 }));
      }) ∷ [];
      end = Commit;
    }

-- the job of its statement, which uses no table
abbrev pub setting_job : Job
setting_job =
    record {
      work = One (record { tx = 1; attempt = 1; place = 1; statement = forms.Set (codes "x") (Single one) });
      tables = [];
    }

abbrev pub setting_done : Done
setting_done = record { job = setting_job; outcome = Bound one }

abbrev pub setter_commits : List (Event × Reply FormFault)
setter_commits =
    (events.Submit setter, events.Submitted 1)
    ∷ (events.StartRun, events.Started (1 ∷ []))
    ∷ (events.Begin 1, events.Lent setting_job)
    ∷ (events.Finish setting_done, events.Stepped (answers.Value one))
    ∷ (events.Begin 1, events.Committed ((1, 1) ∷ []))
    ∷ []
