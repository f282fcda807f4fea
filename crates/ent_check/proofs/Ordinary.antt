-- An ordinary statement over the tables that it names, and what it makes of all tables.
use Rattle.std.proofs.Common.{◌≡◌, ◌<◌, ℕ, zero, suc, List, [], ◌∷◌, map, length, refl, sym, ap, Result, Ok, Err}
use Rattle.std.proofs.Common.{◌∙◌, subst, true, false, cond, Option, Some, None}
use Rattle.std.specs.Prelude.{nat_le, slice_get, slice_index_or, slice_set}
use Rattle.std.specs.List.{AllByRecursion}
use Rattle.std.proofs.lemmas.List.{map-set}
use Rattle.ent_lists.specs.Sets as set
use Rattle.ent_lists.proofs.Lists.{got_mapped}
use Rattle.ent_value.specs.declared.limits.TheConstants.{MOST_ROWS}
use Rattle.ent_value.specs.declared.value.Kind.{Kind}
use Rattle.ent_value.specs.declared.value.Value.{Value}
use Rattle.ent_rel.specs.Change.{changed_rows}
use Rattle.ent_rel.specs.Relation.{Relation}
use Rattle.ent_rel.specs.declared.change.Delta.{Delta}
use Rattle.ent_semantics.specs.Database.{Environment, Rows, Table}
use Rattle.ent_semantics.specs.Effect.{Effect, changed, or_overflow}
use Rattle.ent_semantics.specs.Change.{all_there, matched, updated}
use Rattle.ent_semantics.specs.Selection.{meets}
use Rattle.ent_semantics.specs.Term.{expression_value}
use Rattle.ent_semantics.specs.declared.answer.Answer.{Answer}
use Rattle.ent_semantics.specs.declared.answer.Answer.TheVariants as answers
use Rattle.ent_semantics.specs.declared.answer.Failure.{Failure}
use Rattle.ent_semantics.specs.declared.answer.Failure.TheVariants.{TableFull}
use Rattle.ent_semantics.specs.Form.{Tables, closed_worth, form_meaning, operand_worth, table_numbered}
use Rattle.ent_semantics.specs.FormKinds.{Fits, tables_named}
use Rattle.ent_semantics.specs.declared.statement.Statement.{Statement}
use Rattle.ent_semantics.specs.declared.statement.Statement.TheVariants as statements
use Rattle.ent_semantics.proofs.Replied.{rows_are_no_count}
use Rattle.ent_ordinary.specs.Change.{IsApplicable}
use Rattle.ent_ordinary.specs.Meant.{CanBeApplied, IsMeant, changed_number, effect_of}
use Rattle.ent_ordinary.specs.declared.outcome.Outcome.{Outcome}
use Rattle.ent_ordinary.specs.declared.outcome.Outcome.TheVariants as outcomes
use Rattle.ent_ordinary.specs.Tables.{kinds_in, no_table, rows_in}
use Rattle.ent_check.proofs.Places.{rows_of_numbers, rows_at}
use Rattle.ent_check.specs.Sorts.{IsOrdinary, IsSet}

-- ---- tables under their numbers

abbrev pub tables_at : List Relation → List ℕ → List Relation
tables_at tables numbers = map (λ number. slice_index_or tables number no_table) numbers

-- ---- sorts of statements

pub fits_ordinary : (kinds : List (List Kind)) (statement : Statement Value) → Fits kinds statement
    → IsOrdinary statement
fits_ordinary kinds (statements.Select select) fits = tt
fits_ordinary kinds (statements.Entangled entangled) fits = absurd fits
fits_ordinary kinds (statements.Insert table values) fits = tt
fits_ordinary kinds (statements.Delete table tests) fits = tt
fits_ordinary kinds (statements.Update table image tests) fits = tt
fits_ordinary kinds (statements.Set variable expression) fits = tt

-- the answer that a statement came to, a count where it failed
abbrev Said : Type 0
Said = Result (Effect Tables) Failure

abbrev answer_or_count : Said → Answer
answer_or_count (Ok effect) = effect.answer
answer_or_count (Err failure) = answers.Count 0

abbrev NoValue : Answer → Type 0
NoValue (answers.Count count) = Unit {0}
NoValue (answers.Value value) = ⊥
NoValue (answers.Rows rows) = Unit {0}
NoValue (answers.Heads heads) = Unit {0}

-- what a statement's outcome says of all tables
pub meant_so : (statement : Statement Value) (tables named : List Relation) (environment : Environment)
    (field outcome : Outcome) → named ≡ tables_at tables (tables_named statement) → field ≡ outcome
    → IsMeant statement (rows_in named) field
    → form_meaning closed_worth statement [] (rows_in tables) environment
    ≡ effect_of statement outcome (rows_in tables) environment
meant_so statement tables named environment field outcome are same is =
    is (rows_in tables) environment [] (sym (ap rows_in are ∙ rows_of_numbers tables (tables_named statement)))
    ∙ ap (λ (o : Outcome). effect_of statement o (rows_in tables) environment) same

abbrev pub effect_at : Tables → Environment → Answer → Result (Effect Tables) Failure
effect_at database environment answer =
    Ok (record { database = database; environment = environment; answer = answer })

pub same_effect : (first second : Tables) (environment environment' : Environment) (answer : Answer)
    → first ≡ second → environment ≡ environment'
    → effect_at first environment answer ≡ effect_at second environment' answer
same_effect first second environment environment' answer d e = λ i. effect_at (d i) (e i) answer

pub applied_so : (named : List Relation) (field : Outcome) (count : ℕ) (delta : Delta)
    → field ≡ outcomes.Changed count delta → CanBeApplied named field
    → (table : Relation) × (named ≡ table ∷ []) × IsApplicable table delta
applied_so named field count delta same can = subst (CanBeApplied named) same can

-- ---- a change

-- A statement that tells of a change names the table that it changes, and no other.
pub one_table : (statement : Statement Value) (tables : List Relation) (environment : Environment) (count : ℕ)
    (delta : Delta) (kinds : List (List Kind)) → Fits kinds statement
    → form_meaning closed_worth statement [] (rows_in tables) environment
    ≡ effect_of statement (outcomes.Changed count delta) (rows_in tables) environment
    → (table : Relation) → tables_at tables (tables_named statement) ≡ table ∷ []
    → tables_named statement ≡ changed_number statement ∷ []
one_table (statements.Select select) tables environment count delta kinds fits is table one =
    absurd (rows_are_no_count _ count (ap answer_or_count is))
one_table (statements.Entangled entangled) tables environment count delta kinds fits is table one = absurd fits
one_table (statements.Insert number values) tables environment count delta kinds fits is table one = refl
one_table (statements.Delete number tests) tables environment count delta kinds fits is table one = refl
one_table (statements.Update number image tests) tables environment count delta kinds fits is table one = refl
one_table (statements.Set variable expression) tables environment count delta kinds fits is table one = absurd cc

one_relation : (x y : Relation) → x ∷ [] ≡ y ∷ [] → x ≡ y
one_relation x y is = ap (λ tables. slice_index_or tables 0 x) is

pub change_there : (many : ℕ) (statement : Statement Value)
    → tables_named statement ≡ changed_number statement ∷ []
    → AllByRecursion (λ number. number < many) (tables_named statement) → changed_number statement < many
change_there many statement named all =
    let P : List ℕ → Type 0 = λ numbers. AllByRecursion (λ number. number < many) numbers in
    (subst P named all).0

pub change_applies : (statement : Statement Value) (tables : List Relation) (delta : Delta)
    → tables_named statement ≡ changed_number statement ∷ [] → (table : Relation)
    → tables_at tables (tables_named statement) ≡ table ∷ [] → IsApplicable table delta
    → IsApplicable (slice_index_or tables (changed_number statement) no_table) delta
change_applies statement tables delta named table one is =
    let same : slice_index_or tables (changed_number statement) no_table ≡ table =
    one_relation _ table (sym (ap (tables_at tables) named) ∙ one) in
    subst (λ (relation : Relation). IsApplicable relation delta) (sym same) is

-- ---- a value

changed_no_value : (table : Table Tables) (count : ℕ) (rows : Rows) (tables : Tables) (environment : Environment)
    → NoValue (answer_or_count (changed table count rows tables environment))
changed_no_value table count rows tables environment =
    elim (nat_le (set.len rows) MOST_ROWS) as (λ b. NoValue (answer_or_count (cond b
    (Ok (record {
      database = table.replaced tables rows;
      environment = environment;
      answer = answers.Count count;
    }))
    (Err TableFull)))) [ true ↦ tt | false ↦ tt ]

or_no_value : (rows : Option Rows) (table : Table Tables) (count : ℕ) (tables : Tables) (environment : Environment)
    → NoValue (answer_or_count (or_overflow rows (changed table count) tables environment))
or_no_value (Some rows) table count tables environment = changed_no_value table count rows tables environment
or_no_value None table count tables environment = tt

no_value : (statement : Statement Value) (tables : Tables) (environment : Environment) (value : Value)
    → NoValue (answer_or_count (form_meaning closed_worth statement [] tables environment))
    → form_meaning closed_worth statement [] tables environment
    ≡ effect_of statement (outcomes.Value value) tables environment
    → ⊥
no_value statement tables environment value none is = subst NoValue (ap answer_or_count is) none

-- a statement that tells of a value is a SET
pub is_set : (statement : Statement Value) (tables : Tables) (environment : Environment) (value : Value)
    (kinds : List (List Kind)) → Fits kinds statement
    → form_meaning closed_worth statement [] tables environment
    ≡ effect_of statement (outcomes.Value value) tables environment
    → IsSet statement
is_set (statements.Select select) tables environment value kinds fits is =
    absurd (no_value (statements.Select select) tables environment value tt is)
is_set (statements.Entangled entangled) tables environment value kinds fits is = absurd fits
is_set (statements.Insert number values) tables environment value kinds fits is =
    let rows = slice_index_or tables number set.empty in
    let row = map (closed_worth environment) values in
    absurd (no_value (statements.Insert number values) tables environment value
    (changed_no_value (table_numbered number) (cond (set.contains rows row) 0 1) (set.insert rows row) tables
    environment) is)
is_set (statements.Delete number tests) tables environment value kinds fits is =
    absurd (no_value (statements.Delete number tests) tables environment value tt is)
is_set (statements.Update number image tests) tables environment value kinds fits is =
    let worth = operand_worth (closed_worth environment) in
    let matches = meets worth tests in
    let rows = slice_index_or tables number set.empty in
    absurd (no_value (statements.Update number image tests) tables environment value
    (or_no_value (updated matches (λ row. all_there (map (expression_value (worth row)) image)) rows)
    (table_numbered number) (set.len (matched matches rows)) tables environment) is)
is_set (statements.Set variable expression) tables environment value kinds fits is = tt

-- ---- a change is made

set_there : {A : Type 0} (xs : List A) (i : ℕ) (x : A) → slice_get xs i ≡ Some x → slice_set xs i x ≡ xs
set_there [] i x is = refl
set_there (y ∷ xs) zero x is = let e : y ≡ x = cc in ap (λ z. z ∷ xs) (sym e)
set_there (y ∷ xs) (suc i) x is = ap (λ zs. y ∷ zs) (set_there xs i x is)

module _ (tables : List Relation) (number : ℕ) (after : Relation) (removed added : List (List Value)) where
  abbrev before : Relation
  before = slice_index_or tables number no_table

  pub set_rows : after.rows ≡ changed_rows before.rows removed added
      → rows_in (slice_set tables number after)
      ≡ slice_set (rows_in tables) number
      (changed_rows (slice_index_or (rows_in tables) number set.empty) removed added)
  set_rows is =
      map-set (λ (t : Relation). t.rows) tables number after
      ∙ ap (λ (rows : Rows). slice_set (rows_in tables) number rows)
      (is ∙ ap (λ (rows : Rows). changed_rows rows removed added) (rows_at tables number))

  pub set_kinds : number < length tables → after.kinds ≡ before.kinds
      → kinds_in (slice_set tables number after) ≡ kinds_in tables
  set_kinds there is =
      map-set (λ (t : Relation). t.kinds) tables number after
      ∙ ap (λ (kinds : List Kind). slice_set (kinds_in tables) number kinds) is
      ∙ set_there (kinds_in tables) number before.kinds
      (got_mapped (λ (t : Relation). t.kinds) tables number no_table there)
