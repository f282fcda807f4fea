-- A form that fits the widths of its table leaves tables of their widths.
use Rattle.std.proofs.Common.{◌≡◌, ℕ, suc, ◌<◌, Bool, true, false, not, List, [], ◌∷◌, length, map, Option}
use Rattle.std.proofs.Common.{Some, None, Result, Ok, Err, refl, sym, ap, subst, ◌∙◌}
use Rattle.std.specs.Prelude.{is_some, nat_le, slice_index_or, slice_set, IfOk, if◌then◌else◌}
use Rattle.std.specs.List.{AllByRecursion, list_all, filter_map, cons_option}
use Rattle.std.specs.Option.{option_map}
use Rattle.std.proofs.lemmas.List.{length-map}
use Rattle.ent_lists.specs.Sets as set
use Rattle.ent_value.specs.declared.limits.TheConstants.{MOST_ROWS}
use Rattle.ent_value.specs.declared.value.Value.{Value}
use Rattle.ent_tree.specs.declared.declaration.Create.{Create}
use Rattle.ent_tree.specs.declared.operand.Expression.{Expression}
use Rattle.ent_semantics.specs.Form.{Tables, known_worth, operand_worth, table_numbered, form_meaning}
use Rattle.ent_semantics.specs.declared.operand.Known.{Known}
use Rattle.ent_semantics.specs.declared.operand.Operand.{Operand}
use Rattle.ent_semantics.specs.declared.statement.Statement.{Statement}
use Rattle.ent_semantics.specs.declared.statement.Statement.TheVariants as statements
use Rattle.ent_semantics.specs.declared.answer.Answer.TheVariants as answers
use Rattle.ent_semantics.specs.declared.answer.Failure.{Failure}
use Rattle.ent_semantics.specs.declared.answer.Failure.TheVariants.{TableFull}
use Rattle.ent_semantics.specs.Change.{all_there, matched, unmatched, updated}
use Rattle.ent_semantics.specs.Database.{Rows, Environment, with_value}
use Rattle.ent_semantics.specs.Effect.{Effect, changed}
use Rattle.ent_semantics.specs.Entangled.{Valuation}
use Rattle.ent_semantics.specs.Selection.{meets}
use Rattle.ent_semantics.specs.Term.{expression_value}
use Rattle.ent_semantics.proofs.EachRow.{EachRow, of_ascending, to_ascending, each_inserted, each_all_inserted}
use Rattle.ent_semantics.proofs.EachRow.{each_retained}
use Rattle.ent_form.specs.Tables.{AreWide}
use Rattle.ent_form.proofs.Kept.{over_overflow}
use Rattle.ent_headline.proofs.Numbers.{width_numbered, wide_at, wide_with}

-- ---- images

one_list : {A : Type 0} (x y : List A) → Some x ≡ Some y → x ≡ y
one_list x y e = cc

pub all_there_long : {A : Type 0} (xs : List (Option A)) (values : List A) → all_there xs ≡ Some values
    → length values ≡ length xs
all_there_long [] values e = ap length (sym (one_list [] values e))
all_there_long (None ∷ xs) values e = cc
all_there_long {A} (Some x ∷ xs) values e = by (all_there xs) (all_there_long xs) e
  where
    by : (more : Option (List A)) → ((others : List A) → more ≡ Some others → length others ≡ length xs)
        → option_map (λ values. x ∷ values) more ≡ Some values → length values ≡ suc (length xs)
    by None rest e = cc
    by (Some others) rest e = ap length (sym (one_list (x ∷ others) values e)) ∙ ap suc (rest others refl)

-- rows of this many values, whatever they stand in
abbrev Wide : ℕ → List Value → Type 0
Wide width row = length row ≡ width

-- ---- rows of one table

module _ (width : ℕ) (image : List Value → Option (List Value))
    (long : (row values : List Value) → image row ≡ Some values → length values ≡ width) where
  images_wide : (rows : List (List Value)) → AllByRecursion (Wide width) (filter_map image rows)
  images_wide [] = tt
  images_wide (row ∷ rows) =
      let rest = images_wide rows in
      elim (image row) as (λ there. image row ≡ there
      → AllByRecursion (Wide width) (cons_option there (filter_map image rows))) [
        | None ↦ λ _. rest
        | Some values ↦ λ is. (long row values is, rest)
      ] refl

  chosen : (enough : Bool) (rows after : Rows) → EachRow (Wide width) rows
      → (if enough then Some rows else None) ≡ Some after → EachRow (Wide width) after
  chosen true rows after h e = let same : rows ≡ after = cc in subst (EachRow (Wide width)) same h
  chosen false rows after h e = cc

  updated_wide : (matches : List Value → Bool) (rows after : Rows) → EachRow (Wide width) rows
      → updated matches image rows ≡ Some after → EachRow (Wide width) after
  updated_wide matches rows after h e =
      let old = set.ascending (matched matches rows) in
      let left = unmatched matches rows in
      chosen (list_all (λ row. is_some (image row)) old) (set.insert_all left (filter_map image old)) after
      (each_all_inserted (Wide width) left (filter_map image old)
      (each_retained (Wide width) rows (λ row. not (matches row)) h) (images_wide old)) e

-- ---- tables

-- a table is declared, and a row that is made for it has a value for each of its columns
pub record FitsTable (creates : List Create) (table values : ℕ) : Type 0 where
  pub declared : table < length creates
  pub width : values ≡ width_numbered creates table

-- a form changes a declared table alone, by rows of its width
abbrev pub FitsWidth : List Create → Statement Known → Type 0
FitsWidth creates (statements.Select select) = Unit {0}
FitsWidth creates (statements.Entangled entangled) = Unit {0}
FitsWidth creates (statements.Insert table values) = FitsTable creates table (length values)
FitsWidth creates (statements.Delete table tests) = table < length creates
FitsWidth creates (statements.Update table image tests) = FitsTable creates table (length image)
FitsWidth creates (statements.Set variable expression) = Unit {0}

module _ (creates : List Create) (tables : Tables) (environment : Environment) (wide : AreWide creates tables) where
  abbrev Keeps : Effect Tables → Type 0
  Keeps effect = AreWide creates effect.database

  abbrev rows_of : ℕ → Rows
  rows_of table = slice_index_or tables table set.empty

  there : (table : ℕ) → table < length creates → EachRow (Wide (width_numbered creates table)) (rows_of table)
  there table below = of_ascending (Wide (width_numbered creates table)) (rows_of table)
      (wide_at creates tables table wide below)

  put : (table : ℕ) (rows : Rows) → table < length creates → EachRow (Wide (width_numbered creates table)) rows
      → AreWide creates (slice_set tables table rows)
  put table rows below h =
      wide_with creates tables table rows wide below (to_ascending (Wide (width_numbered creates table)) rows h)

  changed_kept : (table count : ℕ) (rows : Rows) → table < length creates
      → EachRow (Wide (width_numbered creates table)) rows
      → IfOk (changed (table_numbered table) count rows tables environment) Keeps
  changed_kept table count rows below h =
      elim (nat_le (set.len rows) MOST_ROWS) as (λ b. IfOk (pick b) Keeps) [
        | true ↦ put table rows below h
        | false ↦ tt
      ]
    where
      pick : Bool → Result (Effect Tables) Failure
      pick b =
          let left = slice_set tables table rows in
          if b
          then Ok (record { database = left; environment = environment; answer = answers.Count count })
          else Err TableFull

  image_long : (table : ℕ) (image : List (Expression (Operand Known))) → length image ≡ width_numbered creates table
      → (row values : List Value)
      → all_there (map (expression_value (operand_worth (known_worth environment) row)) image) ≡ Some values
      → length values ≡ width_numbered creates table
  image_long table image long row values is =
      all_there_long (map (expression_value (operand_worth (known_worth environment) row)) image) values is
      ∙ length-map image (expression_value (operand_worth (known_worth environment) row)) ∙ long

  pub widths_kept : (form : Statement Known) (valuation : Valuation) → FitsWidth creates form
      → IfOk (form_meaning known_worth form valuation tables environment) Keeps
  widths_kept (statements.Select select) valuation fits = wide
  widths_kept (statements.Entangled entangled) valuation fits = wide
  widths_kept (statements.Insert table values) valuation fits =
      let row = map (known_worth environment) values in
      changed_kept table (if set.contains (rows_of table) row then 0 else 1) (set.insert (rows_of table) row)
      fits.declared
      (each_inserted (Wide (width_numbered creates table)) (rows_of table) row (there table fits.declared)
      (length-map values (known_worth environment) ∙ fits.width))
  widths_kept (statements.Delete table tests) valuation fits =
      let matches = meets (operand_worth (known_worth environment)) tests in
      put table (unmatched matches (rows_of table)) fits
      (each_retained (Wide (width_numbered creates table)) (rows_of table) (λ row. not (matches row))
      (there table fits))
  widths_kept (statements.Update table image tests) valuation fits =
      let matches = meets (operand_worth (known_worth environment)) tests in
      let image_of : List Value → Option (List Value) =
      λ row. all_there (map (expression_value (operand_worth (known_worth environment) row)) image) in
      over_overflow (updated matches image_of (rows_of table))
      (changed (table_numbered table) (set.len (matched matches (rows_of table)))) tables environment Keeps
      (λ after is. changed_kept table (set.len (matched matches (rows_of table))) after fits.declared
      (updated_wide (width_numbered creates table) image_of (image_long table image fits.width) matches
      (rows_of table) after (there table fits.declared) is))
  widths_kept (statements.Set variable expression) valuation fits =
      over_overflow (expression_value (known_worth environment) expression)
      (λ value database environment. Ok (record {
        database = database;
        environment = with_value environment variable value;
        answer = answers.Value value;
      })) tables environment Keeps (λ value _. wide)
