-- What statements leave and answer, whatever holds the tables.
use Rattle.std.specs.Prelude.{ℕ, Bool, List, Option, Some, None, Result, Ok, Err, nat_le, if◌then◌else◌}
use Rattle.ent_lists.specs.Sets as set
use Rattle.ent_value.specs.declared.limits.TheConstants.{MOST_ROWS}
use Rattle.ent_value.specs.declared.value.Value.{Value}
use Rattle.ent_semantics.specs.declared.answer.Answer.{Answer}
use Rattle.ent_semantics.specs.declared.answer.Answer.TheVariants as answers
use Rattle.ent_semantics.specs.declared.answer.Fact.{Fact}
use Rattle.ent_semantics.specs.declared.answer.Failure.{Failure}
use Rattle.ent_semantics.specs.declared.answer.Failure.TheVariants.{Overflow, TableFull}
use Rattle.ent_semantics.specs.Database.{Name, Rows, Environment, Table, with_value, with_values}
use Rattle.ent_semantics.specs.Change.{matched, unmatched, updated}

-- what a statement leaves and answers
pub record Effect (D : Type 0) : Type 0 where
  pub database : D
  pub environment : Environment
  pub answer : Answer

-- from a database and an environment to those after it and an answer, or to a failure
abbrev pub Meaning : Type 0 → Type 0
Meaning D = D → Environment → Result (Effect D) Failure

module _ {D : Type 0} where
  -- nothing changes but the answer
  abbrev pub answered : Answer → Meaning D
  answered answer database environment =
      Ok (record { database = database; environment = environment; answer = answer })

  -- A table gets other rows, and count answers how many it concerned; a table of too many rows is a failure.
  abbrev pub changed : Table D → ℕ → Rows → Meaning D
  changed table count rows database environment =
      if nat_le (set.len rows) MOST_ROWS
      then Ok (record {
        database = table.replaced database rows;
        environment = environment;
        answer = answers.Count count;
      })
      else Err TableFull

  -- goes on with what is there; what is beyond 64 bits is a failure
  abbrev pub or_overflow : {A : Type 0} → Option A → (A → Meaning D) → Meaning D
  or_overflow (Some x) more = more x
  or_overflow None more = λ database environment. Err Overflow

  -- INSERT: the union with one row, and whether the row was new
  abbrev pub insertion : Table D → List Value → Meaning D
  insertion table row database environment =
      let rows = table.rows database in
      changed table (if set.contains rows row then 0 else 1) (set.insert rows row) database environment

  -- DELETE: the rows that don't match, and how many did
  abbrev pub deletion : Table D → (List Value → Bool) → Meaning D
  deletion table matches database environment =
      let rows = table.rows database in
      Ok (record {
        database = table.replaced database (unmatched matches rows);
        environment = environment;
        answer = answers.Count (set.len (matched matches rows));
      })

  -- UPDATE: each row that matches gives way to its image; a sum beyond 64 bits comes before a full table
  abbrev pub replacement : Table D → (List Value → Bool) → (List Value → Option (List Value)) → Meaning D
  replacement table matches image database environment =
      let rows = table.rows database in
      or_overflow (updated matches image rows) (changed table (set.len (matched matches rows))) database environment

  -- SET: the host variable is bound to the value
  abbrev pub setting : Name → Option Value → Meaning D
  setting variable value =
      or_overflow value (λ value database environment.
      Ok (record {
        database = database;
        environment = with_value environment variable value;
        answer = answers.Value value;
      }))

  -- SELECT: its rows, ascending
  abbrev pub shown : Rows → Meaning D
  shown rows = answered (answers.Rows (set.ascending rows))

  -- an entangled statement under a valuation: its heads, and what it binds
  abbrev pub heads_given : List Fact → List (Name × Value) → Meaning D
  heads_given heads bound database environment =
      Ok (record {
        database = database;
        environment = with_values environment bound;
        answer = answers.Heads heads;
      })
