-- Two writers who take the same two tables in turn, event by event.
use Rattle.std.specs.Prelude.{ℕ, pos, List, [], ◌∷◌, map, codes, Ok}
use Rattle.std.specs.List.{flat_map}
use Rattle.ent_value.specs.declared.value.Kind.TheVariants as kinds
use Rattle.ent_value.specs.declared.value.Value.TheVariants.{Int}
use Rattle.ent_tree.specs.declared.declaration.Create.{Create}
use Rattle.ent_tree.specs.declared.declaration.Opening.{Opening}
use Rattle.ent_tree.specs.declared.operand.Identifier.{Identifier}
use Rattle.ent_tree.specs.declared.operand.ValueSpecification.{ValueSpecification}
use Rattle.ent_tree.specs.declared.operand.ValueSpecification.TheVariants as specifications
use Rattle.ent_tree.specs.declared.script.End.TheVariants.{Commit}
use Rattle.ent_tree.specs.declared.script.Script.{Script}
use Rattle.ent_tree.specs.declared.script.Statement.{Statement}
use Rattle.ent_tree.specs.declared.script.Statement.TheVariants as statements
use Rattle.ent_semantics.specs.declared.answer.Answer.TheVariants as answers
use Rattle.ent_semantics.specs.declared.operand.Known.{Known}
use Rattle.ent_semantics.specs.declared.operand.Known.TheVariants as known
use Rattle.ent_semantics.specs.declared.statement.Statement.{Statement as FormStatement}
use Rattle.ent_semantics.specs.declared.statement.Statement.TheVariants as forms
use Rattle.ent_protocol.specs.Event.{Event, Reply}
use Rattle.ent_protocol.specs.Event as events
use Rattle.ent_protocol.specs.Job.{Job, One, Done, Changed}
use Rattle.ent_protocol.specs.Reached.{table_names}
use Rattle.ent_protocol.specs.Run.{Forms}
use Rattle.ent_lists.specs.Sets as set
use Rattle.ent_semantics.specs.Database.{Name, index_of}

-- ---- scripts of INSERTs, resolved

abbrev pub known_of : ValueSpecification → Known
known_of (specifications.Literal literal) = known.Constant literal.value
known_of (specifications.HostVariable variable) = known.HostVariable variable.name

abbrev pub insert_form : List Name → Statement → List (FormStatement Known)
insert_form names (statements.Insert insert) =
    forms.Insert (index_of names insert.table.name) (map known_of insert.values) ∷ []
insert_form names other = []

abbrev pub insert_forms : Forms ℕ
insert_forms =
    record { resolve = λ opening script. Ok (flat_map (insert_form (table_names opening)) script.statements) }

-- ---- the input: CREATE TABLE A (x INT); CREATE TABLE B (x INT);

abbrev pub named : Name → Identifier
named name = record { name = name; place = 0 }

abbrev pub one_column : Name → Create
one_column name = record { name = named name; columns = record { name = named (codes "x"); kind = kinds.Int } ∷ [] }

abbrev pub writers_opening : Opening
writers_opening = record { tables = one_column (codes "A") ∷ one_column (codes "B") ∷ []; rows = [] }

abbrev pub insert : Name → ℕ → Statement
insert table number =
    statements.Insert (record {
      table = named table;
      place = 0;
      values = specifications.Literal (record { value = Int (pos number); place = 0 }) ∷ [];
    })

-- BEGIN TRANSACTION; INSERT INTO first VALUES (number); INSERT INTO second VALUES (number); COMMIT;
abbrev pub writer : ℕ → Name → Name → Script
writer number first second =
    record { within = 8; statements = insert first number ∷ insert second number ∷ []; end = Commit }

-- ---- jobs and results

-- a transaction's INSERT of its number into a table that has no row
abbrev pub job : ℕ → ℕ → ℕ → Job
job tx place table =
    record {
      work = One (record {
        tx = tx;
        attempt = 1;
        place = place;
        statement = forms.Insert table (Int (pos tx) ∷ []);
      });
      tables = record { table = table; kinds = kinds.Int ∷ []; rows = set.empty } ∷ [];
    }

-- the row is new
abbrev pub done : ℕ → ℕ → ℕ → Done
done tx place table =
    record { job = job tx place table; outcome = Changed 1 [] ((Int (pos tx) ∷ []) ∷ []) }

abbrev pub count_1 : Reply ℕ
count_1 = events.Stepped (answers.Count 1)

-- The first takes A, the second B; then each waits for the other. The greater one is rolled back, and the other goes
-- on.
abbrev pub two_writers : List (Event × Reply ℕ)
two_writers =
    (events.Submit (writer 1 (codes "A") (codes "B")), events.Submitted 1)
    ∷ (events.Submit (writer 2 (codes "B") (codes "A")), events.Submitted 2)
    ∷ (events.StartRun, events.Started (1 ∷ 2 ∷ []))
    ∷ (events.Begin 1, events.Lent (job 1 1 0))
    ∷ (events.Finish (done 1 1 0), count_1)
    ∷ (events.Begin 2, events.Lent (job 2 1 1))
    ∷ (events.Finish (done 2 1 1), count_1)
    ∷ (events.Begin 1, events.Blocked 2)
    ∷ (events.Begin 2, events.Blocked 1)
    ∷ (events.BreakCycle, events.Broken (2 ∷ 1 ∷ []) (2 ∷ []))
    ∷ (events.Begin 1, events.Lent (job 1 2 1))
    ∷ (events.Finish (done 1 2 1), count_1)
    ∷ (events.Begin 1, events.Committed ((1, 1) ∷ []))
    ∷ []
