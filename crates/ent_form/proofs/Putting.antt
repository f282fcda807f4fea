-- Other rows under a name are other rows at its number.
use Rattle.std.proofs.Common.{◌≡◌, ℕ, suc, ◌+◌, Bool, true, false, List, [], ◌∷◌, Some, Result, Ok}
use Rattle.std.proofs.Common.{Err, Option, None, refl, sym, ap, ◌∙◌, arith}
use Rattle.std.specs.Prelude.{nat_le, slice_set, if◌then◌else◌}
use Rattle.ent_lists.specs.Sets as set
use Rattle.ent_value.specs.declared.limits.TheConstants.{MOST_ROWS}
use Rattle.ent_value.specs.declared.value.Value.{Value}
use Rattle.ent_tree.specs.declared.declaration.Create.{Create}
use Rattle.ent_semantics.specs.Form.{Tables, table_numbered}
use Rattle.ent_semantics.specs.declared.answer.Answer.TheVariants as answers
use Rattle.ent_semantics.specs.declared.answer.Failure.{Failure}
use Rattle.ent_semantics.specs.declared.answer.Failure.TheVariants.{TableFull}
use Rattle.ent_semantics.specs.Change.{matched, unmatched, updated}
use Rattle.ent_semantics.specs.Database.{Name, Rows, Database, Environment, same_name, with_rows, table_named}
use Rattle.ent_semantics.specs.Effect.{Effect, changed, or_overflow, insertion, deletion, replacement}
use Rattle.ent_semantics.specs.Names.{equal_names, names_turned}
use Rattle.ent_form.specs.declared.catalogue.TableSchema.{TableSchema}
use Rattle.ent_form.specs.Catalogue.{table_schema, schemas_of, table_from}
use Rattle.ent_form.specs.Tables.{database_of, AreWide, effect_of}
use Rattle.ent_form.proofs.Sources.{Told, told}

-- what is put under a name stands at its number
abbrev Put : List Create → Tables → Name → ℕ → Type 0
Put creates tables name number =
    (new : Rows) (other : Name)
    → with_rows (database_of creates tables) name new other ≡ database_of creates (slice_set tables number new) other

put_here : (create : Create) (more : List Create) (rows : Rows) (tables : Tables) (name : Name)
    → same_name create.name.name name ≡ true → Put (create ∷ more) (rows ∷ tables) name 0
put_here create more rows tables name e new other =
    let same : same_name other name ≡ same_name create.name.name other =
    ap (same_name other) (sym (equal_names create.name.name name e)) ∙ names_turned other create.name.name in
    ap (λ (b : Bool). if b then new else (if same_name create.name.name other then rows else rest)) same
    ∙ elim (same_name create.name.name other) as (λ b. (if b then new else (if b then rows else rest))
    ≡ (if b then new else rest)) [
      | true ↦ refl
      | false ↦ refl
    ]
  where
    rest : Rows
    rest = database_of more tables other

put_later : (create : Create) (more : List Create) (rows : Rows) (tables : Tables) (name : Name) (number : ℕ)
    → same_name create.name.name name ≡ false → Put more tables name number
    → Put (create ∷ more) (rows ∷ tables) name (suc number)
put_later create more rows tables name number e behind new other =
    elim (same_name create.name.name other) as (λ b. same_name create.name.name other ≡ b
    → (if same_name other name then new else (if b then rows else database_of more tables other))
    ≡ (if b then rows else database_of more (slice_set tables number new) other)) [
      | true ↦ λ same.
          let differs : same_name other name ≡ false = ap (λ x. same_name x name)
          (sym (equal_names create.name.name other same)) ∙ e in
          ap (λ (b : Bool). if b then new else rows) differs
      | false ↦ λ _. behind new other
    ] refl

some_first : (x y : ℕ × TableSchema) → Some x ≡ Some y → x.0 ≡ y.0
some_first x y e = ap (λ (pair : ℕ × TableSchema). pair.0) (same x y e)
  where
    same : (x y : ℕ × TableSchema) → Some x ≡ Some y → x ≡ y
    same x y e = cc

pub put_at : (creates : List Create) (tables : Tables) (name : Name) (first : ℕ) (found : ℕ × TableSchema)
    → AreWide creates tables → table_from first (schemas_of creates) name ≡ Some found
    → (number : ℕ) × (found.0 ≡ first + number) × Put creates tables name number
put_at [] [] name first found wide e = cc
put_at [] (rows ∷ tables) name first found wide e = absurd wide
put_at (create ∷ more) [] name first found wide e = absurd wide
put_at (create ∷ more) (rows ∷ tables) name first found wide e =
    elim (same_name create.name.name name) as (λ b. same_name create.name.name name ≡ b
    → (if b then Some (first, table_schema create) else table_from (suc first) (schemas_of more) name) ≡ Some found
    → (number : ℕ) × (found.0 ≡ first + number) × Put (create ∷ more) (rows ∷ tables) name number) [
      | true ↦ λ same here.
          let is : first ≡ found.0 = some_first (first, table_schema create) found here in
          (0, (omega arith), put_here create more rows tables name same)
      | false ↦ λ other later.
          let w = put_at more tables name (suc first) found wide.1 later in
          (suc w.0, (let c = w.1 in omega arith), put_later create more rows tables name w.0 other w.2)
    ] refl e

-- ---- effects

module _ (creates : List Create) (tables : Tables) (name : Name) (number : ℕ) (put : Put creates tables name number)
    (environment : Environment) where
  changed_same : (count : ℕ) (rows : Rows)
      → changed (table_named name) count rows (database_of creates tables) environment
      ≡ effect_of creates (changed (table_numbered number) count rows tables environment)
  changed_same count rows =
      elim (nat_le (set.len rows) MOST_ROWS) as (λ b.
      choose b (with_rows (database_of creates tables) name rows) ≡ effect_of creates (pick b)) [
        | true ↦ put_there
        | false ↦ refl
      ]
    where
      choose : Bool → Database → Result (Effect Database) Failure
      choose b database =
          if b
          then Ok (record { database = database; environment = environment; answer = answers.Count count })
          else Err TableFull

      pick : Bool → Result (Effect Tables) Failure
      pick b =
          let left = slice_set tables number rows in
          if b
          then Ok (record { database = left; environment = environment; answer = answers.Count count })
          else Err TableFull

      put_there : choose true (with_rows (database_of creates tables) name rows) ≡ effect_of creates (pick true)
      put_there = λ i. choose true (λ other. put rows other i)

  pub insertion_same : (row : List Value)
      → database_of creates tables name ≡ (table_numbered number).rows tables
      → insertion (table_named name) row (database_of creates tables) environment
      ≡ effect_of creates (insertion (table_numbered number) row tables environment)
  insertion_same row e =
      ap (λ rows. changed (table_named name) (if set.contains rows row then 0 else 1) (set.insert rows row)
      (database_of creates tables) environment) e
      ∙ changed_same _ _

  pub deletion_same : (matches : List Value → Bool)
      → database_of creates tables name ≡ (table_numbered number).rows tables
      → deletion (table_named name) matches (database_of creates tables) environment
      ≡ effect_of creates (deletion (table_numbered number) matches tables environment)
  deletion_same matches e =
      ap (λ (rows : Rows). left (with_rows (database_of creates tables) name (unmatched matches rows)) rows) e
      ∙ (λ i. left (λ other. put (unmatched matches ((table_numbered number).rows tables)) other i)
      ((table_numbered number).rows tables))
    where
      left : Database → Rows → Result (Effect Database) Failure
      left database rows =
          Ok (record {
            database = database;
            environment = environment;
            answer = answers.Count (set.len (matched matches rows));
          })

  pub replacement_same : (matches : List Value → Bool) (image : List Value → Option (List Value))
      → database_of creates tables name ≡ (table_numbered number).rows tables
      → replacement (table_named name) matches image (database_of creates tables) environment
      ≡ effect_of creates (replacement (table_numbered number) matches image tables environment)
  replacement_same matches image e =
      ap (λ (rows : Rows). or_overflow (updated matches image rows)
      (changed (table_named name) (set.len (matched matches rows))) (database_of creates tables) environment) e
      ∙ going_on (updated matches image ((table_numbered number).rows tables))
      (set.len (matched matches ((table_numbered number).rows tables)))
    where
      going_on : (there : Option Rows) (count : ℕ)
          → or_overflow there (changed (table_named name) count) (database_of creates tables) environment
          ≡ effect_of creates (or_overflow there (changed (table_numbered number) count) tables environment)
      going_on None count = refl
      going_on (Some rows) count = changed_same count rows

-- ---- a table that is found

-- where it stands, how it is put there, and the rows that the database has of it
pub record PutTable (creates : List Create) (tables : Tables) (name : Name) (found : ℕ × TableSchema) : Type 0 where
  pub here : Told creates tables name 0 found
  pub put : (number : ℕ) × (found.0 ≡ 0 + number) × Put creates tables name number
  pub place : put.0 ≡ found.0
  pub rows : database_of creates tables name ≡ (table_numbered put.0).rows tables

pub put_table : (creates : List Create) (tables : Tables) (name : Name) (found : ℕ × TableSchema)
    → AreWide creates tables → table_from 0 (schemas_of creates) name ≡ Some found
    → PutTable creates tables name found
put_table creates tables name found wide there =
    let here = told creates tables name 0 found wide there in
    let put = put_at creates tables name 0 found wide there in
    let number : here.number ≡ found.0 = let c = here.counted in omega arith in
    let place : put.0 ≡ found.0 = let c = put.1 in omega arith in
    record {
      here = here;
      put = put;
      place = place;
      rows = here.rows ∙ ap (λ (n : ℕ). (table_numbered n).rows tables) (number ∙ sym place);
    }
