-- The first fault of rows is that of the first row that has one, and stands at the number of that row.
use Rattle.std.proofs.Common.{◌≡◌, ◌∙◌, ◌+◌, ◌==◌, ℕ, suc, Bool, true, false, List, [], ◌∷◌, ◌++◌, length, map}
use Rattle.std.proofs.Common.{Option, Some, None, refl, sym, ap, arith}
use Rattle.std.specs.Prelude.{if◌then◌else◌}
use Rattle.ent_value.specs.Kinds.{same_kind}
use Rattle.ent_value.specs.Value.{kind_of}
use Rattle.ent_value.specs.declared.value.Value.{Value}
use Rattle.ent_form.specs.Catalogue.{table_named}
use Rattle.ent_form.specs.Fault.{place_of}
use Rattle.ent_form.specs.OpeningFault.{Check, ◌before◌, first_of, literals_fault, opening_row_fault, row_fault}
use Rattle.ent_form.specs.OpeningFault.{where_there}
use Rattle.ent_form.specs.declared.catalogue.ColumnSchema.{ColumnSchema}
use Rattle.ent_form.specs.declared.catalogue.TableSchema.{TableSchema}
use Rattle.ent_form.specs.declared.fault.FormFault.{FormFault}
use Rattle.ent_form.specs.declared.fault.FormFault.TheVariants.{Arity, NoTable, WrongKind}
use Rattle.ent_prepare.specs.Given.{IsOfFirst, literal_at, opening_row, opening_rows, rows_fault}
use Rattle.ent_prepare.specs.declared.row.GivenRow.{GivenRow}

-- ---- a fault of the row of a number stands there

abbrev place_in : Check → ℕ
place_in None = 0
place_in (Some fault) = place_of fault

module _ (number : ℕ) (fault : FormFault) where
  -- one of two checks found it
  of_both : (here : FormFault) → place_of here ≡ number → (fits : Bool) (rest : Check)
      → ((if fits then None else Some here) before rest) ≡ Some fault
      → (rest ≡ Some fault → place_of fault ≡ number) → place_of fault ≡ number
  of_both here at true rest e more = more e
  of_both here at false rest e more = sym (ap place_in e) ∙ at

  literals_place : (columns : List ColumnSchema) (values : List Value)
      → literals_fault columns (map (literal_at number) values) ≡ Some fault → place_of fault ≡ number
  literals_place [] values e = absurd cc
  literals_place (column ∷ columns) [] e = absurd cc
  literals_place (column ∷ columns) (value ∷ values) e =
      of_both (WrongKind number) refl (same_kind column.kind (kind_of value))
      (literals_fault columns (map (literal_at number) values)) e (literals_place columns values)

  row_place : (table : TableSchema) (row : GivenRow) → row_fault table (opening_row number row) ≡ Some fault
      → place_of fault ≡ number
  row_place table row e =
      of_both (Arity number) refl (length (map (literal_at number) row.values) == length table.columns)
      (literals_fault table.columns (map (literal_at number) row.values)) e (literals_place table.columns row.values)

  found_place : (row : GivenRow) (found : Option (ℕ × TableSchema))
      → where_there found (NoTable number) (λ found. row_fault found.1 (opening_row number row)) ≡ Some fault
      → place_of fault ≡ number
  found_place row None e = sym (ap place_in e)
  found_place row (Some found) e = row_place found.1 row e

  given_place : (tables : List TableSchema) (row : GivenRow)
      → opening_row_fault tables (opening_row number row) ≡ Some fault → place_of fault ≡ number
  given_place tables row e = found_place row (table_named tables row.table) e

-- ---- the first row

module _ (tables : List TableSchema) (fault : FormFault) where
  abbrev check : ℕ → GivenRow → Check
  check number row = opening_row_fault tables (opening_row number row)

  abbrev fault_from : ℕ → List GivenRow → Check
  fault_from number rows = first_of (opening_row_fault tables) (opening_rows number rows)

  -- of rows that are numbered from a number on
  record IsFrom (number : ℕ) (rows : List GivenRow) : Type 0 where
    pub earlier : List GivenRow
    pub row : GivenRow
    pub later : List GivenRow
    pub all : earlier ++ row ∷ later ≡ rows
    pub clean : fault_from number earlier ≡ None
    pub faulty : check (number + length earlier) row ≡ Some fault

  first_from : (number : ℕ) (rows : List GivenRow) → fault_from number rows ≡ Some fault → IsFrom number rows
  first_from number [] e = absurd cc
  first_from number (row ∷ more) e = by (check number row) refl e (first_from (suc number) more)
    where
      by : (here : Check) → check number row ≡ here → (here before fault_from (suc number) more) ≡ Some fault
          → (fault_from (suc number) more ≡ Some fault → IsFrom (suc number) more) → IsFrom number (row ∷ more)
      by (Some one) is e rest =
          let same : number + 0 ≡ number = omega arith in
          record {
            earlier = [];
            row = row;
            later = more;
            all = refl;
            clean = refl;
            faulty = ap (λ (n : ℕ). check n row) same ∙ is ∙ e;
          }
      by None is e rest =
          let first = rest e in
          let same : number + length (row ∷ first.earlier) ≡ suc number + length first.earlier = omega arith in
          record {
            earlier = row ∷ first.earlier;
            row = first.row;
            later = first.later;
            all = ap (λ (rows : List GivenRow). row ∷ rows) first.all;
            clean = ap (λ (here : Check). here before fault_from (suc number) first.earlier) is ∙ first.clean;
            faulty = ap (λ (n : ℕ). check n first.row) same ∙ first.faulty;
          }

  pub of_first : (rows : List GivenRow) → rows_fault tables rows ≡ Some fault → IsOfFirst tables rows fault
  of_first rows e =
      let first = first_from 0 rows e in
      let same : 0 + length first.earlier ≡ length first.earlier = omega arith in
      record {
        earlier = first.earlier;
        row = first.row;
        later = first.later;
        all = first.all;
        clean = first.clean;
        faulty = ap (λ (n : ℕ). check n first.row) (sym same) ∙ first.faulty;
        number = given_place (0 + length first.earlier) fault tables first.row first.faulty ∙ same;
      }
