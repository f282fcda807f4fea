-- Two partners who fly together, and a reader of their bookings, event by event.
use Rattle.std.specs.Prelude.{◌≡◌, ℕ, pos, List, [], ◌∷◌, codes, Some, Ok}
use Rattle.ent_lists.specs.Sets as set
use Rattle.ent_value.specs.declared.value.Kind.{Kind}
use Rattle.ent_value.specs.declared.value.Kind.TheVariants as kinds
use Rattle.ent_value.specs.declared.value.Value.{Value}
use Rattle.ent_value.specs.declared.value.Value.TheVariants.{Int, Text}
use Rattle.ent_tree.specs.declared.declaration.Column.{Column}
use Rattle.ent_tree.specs.declared.declaration.Opening.{Opening}
use Rattle.ent_tree.specs.declared.declaration.OpeningRow.{OpeningRow}
use Rattle.ent_tree.specs.declared.operand.Comparison.TheVariants.{Equal}
use Rattle.ent_tree.specs.declared.script.End.TheVariants.{Commit}
use Rattle.ent_tree.specs.declared.script.Script.{Script}
use Rattle.ent_tree.specs.declared.script.Statement.{Statement}
use Rattle.ent_semantics.specs.declared.answer.Answer.TheVariants as answers
use Rattle.ent_semantics.specs.Database.{Name, Rows, nothing_bound, opening_database}
use Rattle.ent_semantics.specs.Closing.{closed_entangled}
use Rattle.ent_semantics.specs.declared.entangled.Atom.{Atom}
use Rattle.ent_semantics.specs.declared.entangled.Entangled.{Entangled}
use Rattle.ent_semantics.specs.declared.entangled.Term.TheVariants as terms
use Rattle.ent_semantics.specs.declared.operand.Known.{Known}
use Rattle.ent_semantics.specs.declared.operand.Known.TheVariants as known
use Rattle.ent_semantics.specs.declared.operand.Operand.TheVariants as operands
use Rattle.ent_semantics.specs.declared.statement.Statement.{Statement as FormStatement}
use Rattle.ent_semantics.specs.declared.statement.Statement.TheVariants as forms
use Rattle.ent_semantics.specs.Pool.{Posted}
use Rattle.ent_protocol.specs.Event.{Event, Reply}
use Rattle.ent_protocol.specs.Event as events
use Rattle.ent_protocol.specs.Job.{Job, One, Joint, Done, Changed, Choice, applied}
use Rattle.ent_protocol.specs.Run.{Forms}
use Rattle.ent_examples.specs.Writers.{named}

-- ---- the input

abbrev pub Mickey : Value
Mickey = Text (codes "Mickey")

abbrev pub Minnie : Value
Minnie = Text (codes "Minnie")

abbrev pub LA : Value
LA = Text (codes "LA")

abbrev pub flight_122 : Value
flight_122 = Int (pos 122)

abbrev pub column : Name → Kind → Column
column name kind = record { name = named name; kind = kind }

abbrev pub flight : Value → Value → OpeningRow
flight number destination =
    record {
      table = named (codes "Flights");
      place = 0;
      values = record { value = number; place = 0 } ∷ record { value = destination; place = 0 } ∷ [];
    }

-- CREATE TABLE Flights (fno INT, dest TEXT); CREATE TABLE Bookings (who TEXT, fno INT); two flights go to LA
abbrev pub partners_opening : Opening
partners_opening =
    record {
      tables = record {
        name = named (codes "Flights");
        columns = column (codes "fno") kinds.Int ∷ column (codes "dest") kinds.Text ∷ [];
      } ∷ record {
        name = named (codes "Bookings");
        columns = column (codes "who") kinds.Text ∷ column (codes "fno") kinds.Int ∷ [];
      } ∷ [];
      rows = flight flight_122 LA ∷ flight (Int (pos 123)) LA ∷ flight (Int (pos 136)) (Text (codes "Paris")) ∷ [];
    }

-- a script of some statements that ends with COMMIT
abbrev pub committing_script : List Statement → Script
committing_script statements = record { within = 8; statements = statements; end = Commit }

-- ---- its scripts, resolved

-- R(name, fno)
abbrev pub flies_as : Value → Atom Known
flies_as name =
    record { relation = codes "R"; terms = terms.Known (known.Constant name) ∷ terms.Variable 0 ∷ [] }

-- SELECT own, fno AS @f INTO ANSWER R WHERE (fno) IN (SELECT fno FROM Flights WHERE dest = 'LA')
-- AND (partner, fno) IN ANSWER R CHOOSE 1
abbrev pub asks : Value → Value → Entangled Known
asks own partner =
    record {
      variables = kinds.Int ∷ [];
      posts = flies_as partner ∷ [];
      heads = flies_as own ∷ [];
      atoms = record {
        terms = terms.Variable 0 ∷ [];
        select = record {
          sources = 0 ∷ [];
          items = operands.Column 0 ∷ [];
          tests = record {
            left = operands.Column 1;
            comparison = Equal;
            right = operands.Known (known.Constant LA);
          } ∷ [];
        };
      } ∷ [];
      tests = [];
      binds = record { variable = codes "f"; term = terms.Variable 0 } ∷ [];
    }

-- .. ; INSERT INTO Bookings VALUES (own, @f)
abbrev pub flies_form : Value → Value → List (FormStatement Known)
flies_form own partner =
    forms.Entangled (asks own partner)
    ∷ forms.Insert 1 (known.Constant own ∷ known.HostVariable (codes "f") ∷ []) ∷ []

-- SELECT * FROM Bookings
abbrev pub reads_form : List (FormStatement Known)
reads_form =
    forms.Select (record { sources = 1 ∷ []; items = operands.Column 0 ∷ operands.Column 1 ∷ []; tests = [] }) ∷ []

-- some scripts that resolve to these statements
pub record Partners {F : Type 0} (resolved : Forms F) : Type 0 where
  pub first : List Statement
  pub first_is : resolved.resolve partners_opening (committing_script first) ≡ Ok (flies_form Mickey Minnie)
  pub second : List Statement
  pub second_is : resolved.resolve partners_opening (committing_script second) ≡ Ok (flies_form Minnie Mickey)
  pub reader : List Statement
  pub reader_is : resolved.resolve partners_opening (committing_script reader) ≡ Ok reads_form

-- ---- jobs and results

abbrev pub query : ℕ → Value → Value → Posted
query tx own partner =
    record { tx = tx; attempt = 1; place = 1; statement = closed_entangled nothing_bound (asks own partner) }

-- two transactions that ask for each other
abbrev pub pair : ℕ → ℕ → List Posted
pair one two = query one Mickey Minnie ∷ query two Minnie Mickey ∷ []

abbrev pub pair_job : ℕ → ℕ → Job
pair_job one two =
    record {
      work = Joint (pair one two);
      tables = record {
        table = 0;
        kinds = kinds.Int ∷ kinds.Text ∷ [];
        rows = opening_database partners_opening (codes "Flights");
      } ∷ [];
    }

-- both take flight 122, the least that goes to LA
abbrev pub pair_done : ℕ → ℕ → Done
pair_done one two =
    record { job = pair_job one two; outcome = Choice (Some ((flight_122 ∷ []) ∷ (flight_122 ∷ []) ∷ [])) }

-- a partner's INSERT into bookings of these rows
abbrev pub booking_job : ℕ → Value → Rows → Job
booking_job tx own rows =
    record {
      work = One (record {
        tx = tx;
        attempt = 1;
        place = 2;
        statement = forms.Insert 1 (own ∷ flight_122 ∷ []);
      });
      tables = record { table = 1; kinds = kinds.Text ∷ kinds.Int ∷ []; rows = rows } ∷ [];
    }

abbrev pub booking_done : ℕ → Value → Rows → Done
booking_done tx own rows =
    record { job = booking_job tx own rows; outcome = Changed 1 [] ((own ∷ flight_122 ∷ []) ∷ []) }

-- the bookings once the first partner's is in
abbrev pub first_booked : Rows
first_booked = applied [] ((Mickey ∷ flight_122 ∷ []) ∷ []) set.empty

abbrev pub counts_1 : {F : Type 0} → Reply F
counts_1 = events.Stepped (answers.Count 1)

-- The partners are answered together; the first books and asks to commit; the reader is blocked by it, and the second
-- one passes it, since they are of one group; then both commit.
abbrev pub partners_pass : {F : Type 0} {resolved : Forms F} → Partners resolved → List (Event × Reply F)
partners_pass partners =
    (events.Submit (committing_script partners.first), events.Submitted 1)
    ∷ (events.Submit (committing_script partners.second), events.Submitted 2)
    ∷ (events.Submit (committing_script partners.reader), events.Submitted 3)
    ∷ (events.StartRun, events.Started (1 ∷ 2 ∷ 3 ∷ []))
    ∷ (events.Begin 1, events.Posted)
    ∷ (events.Begin 2, events.Posted)
    ∷ (events.Pick, events.Lent (pair_job 1 2))
    ∷ (events.JoinAnswer (pair_done 1 2), events.Answered)
    ∷ (events.Begin 1, events.Lent (booking_job 1 Mickey set.empty))
    ∷ (events.Finish (booking_done 1 Mickey set.empty), counts_1)
    ∷ (events.Begin 1, events.Prepared)
    ∷ (events.Begin 3, events.Blocked 1)
    ∷ (events.Begin 2, events.Lent (booking_job 2 Minnie first_booked))
    ∷ (events.Finish (booking_done 2 Minnie first_booked), counts_1)
    ∷ (events.Begin 3, events.Blocked 1)
    ∷ (events.Begin 2, events.Committed ((1, 1) ∷ (2, 2) ∷ []))
    ∷ []
