-- A table that is found is declared, and has its kinds at its number.
use Rattle.std.proofs.Common.{◌≡◌, ℕ, zero, suc, ◌+◌, ◌<◌, true, false, List, [], ◌∷◌, ◌++◌, map, length, Some, Ok}
use Rattle.std.proofs.Common.{sym, ap, subst, ◌∙◌, arith}
use Rattle.std.specs.Prelude.{not, slice_index_or, slice_set, if◌then◌else◌}
use Rattle.std.specs.List.{flat_map}
use Rattle.std.proofs.lemmas.Grind.{flat_map-append}
use Rattle.std.proofs.lemmas.List.{append-nil, map-append}
use Rattle.ent_lists.specs.Sets as set
use Rattle.ent_lists.proofs.Lists.{all_behind}
use Rattle.ent_tree.specs.declared.operand.Identifier.{Identifier}
use Rattle.ent_tree.specs.declared.select.Source.{Source}
use Rattle.ent_semantics.specs.Database.{Name, Rows, same_name, is_among}
use Rattle.ent_semantics.specs.Form.{Tables}
use Rattle.ent_semantics.specs.Kinds.{KindedSource, RowsHaveKinds, SourcesHaveKinds}
use Rattle.ent_semantics.specs.Term.{source_name}
use Rattle.ent_form.specs.declared.catalogue.TableSchema.{TableSchema}
use Rattle.ent_form.specs.declared.fault.FormFault.TheVariants.{NoTable, Ambiguous}
use Rattle.ent_form.specs.Catalogue.{table_from, table_named}
use Rattle.ent_form.specs.Scope.{Scope, visible, with_source, source_place, sources_from, table_in}
use Rattle.ent_form.specs.Steps.{there}
use Rattle.ent_form.proofs.Heads.{found_of, there_of}
use Rattle.ent_form.specs.TableKinds.{column_kinds, kinds_numbered, AreKinded, AreDeclared}
use Rattle.ent_form.proofs.ColumnKinds.{kind_seen, kinds_seen}
use Rattle.ent_form.proofs.ResolvedSteps.{one_answer, demand_given}

-- a table's number, and the kinds that stand there
pub record Found (schemas : List TableSchema) (number : ℕ) (schema : TableSchema) : Type 0 where
  pub declared : number < length schemas
  pub kinds : kinds_numbered schemas number ≡ column_kinds schema

found_from : (schemas : List TableSchema) (name : Name) (first : ℕ) (found : ℕ × TableSchema)
    → table_from first schemas name ≡ Some found
    → (number : ℕ) × (found.0 ≡ first + number) × Found schemas number found.1
found_from [] name first found e = cc
found_from (schema ∷ schemas) name first found e =
    elim (same_name schema.name name) as (λ b.
    (if b then Some (first, schema) else table_from (suc first) schemas name) ≡ Some found
    → (number : ℕ) × (found.0 ≡ first + number) × Found (schema ∷ schemas) number found.1) [
      | true ↦ λ here.
          let same : (first, schema) ≡ found = one_found (first, schema) found here in
          let number : first ≡ found.0 = ap (λ (x : ℕ × TableSchema). x.0) same in (
            0,
            (omega arith),
            record { declared = omega arith; kinds = ap (λ (x : ℕ × TableSchema). column_kinds x.1) same },
          )
      | false ↦ λ later.
          let w = found_from schemas name (suc first) found later in (
            suc w.0,
            (let number = w.1 in omega arith),
            record { declared = let below = w.2.declared in omega arith; kinds = w.2.kinds },
          )
    ] e
  where
    one_found : (x y : ℕ × TableSchema) → Some x ≡ Some y → x ≡ y
    one_found x y e = cc

pub found_named : (schemas : List TableSchema) (name : Name) (found : ℕ × TableSchema)
    → table_named schemas name ≡ Some found → Found schemas found.0 found.1
found_named schemas name found e =
    let w = found_from schemas name 0 found e in
    let same : w.0 ≡ found.0 = let number = w.1 in omega arith in
    subst (λ number. Found schemas number found.1) same w.2

pub found_in : (schemas : List TableSchema) (table : Identifier) (found : ℕ × TableSchema)
    → table_in schemas table ≡ Ok found → Found schemas found.0 found.1
found_in schemas table found e =
    found_named schemas table.name found
    (there_of (table_named schemas table.name) (NoTable table.place) found e)

-- ---- the rows of a number

pub kinded_at : (schemas : List TableSchema) (tables : Tables) (number : ℕ) → AreKinded schemas tables
    → number < length schemas
    → RowsHaveKinds (kinds_numbered schemas number) (slice_index_or tables number set.empty)
kinded_at [] tables number h l = absurd (omega arith)
kinded_at (schema ∷ schemas) [] number h l = absurd h
kinded_at (schema ∷ schemas) (rows ∷ tables) zero h l = h.0
kinded_at (schema ∷ schemas) (rows ∷ tables) (suc number) h l = kinded_at schemas tables number h.1 (omega arith)

pub kinded_with : (schemas : List TableSchema) (tables : Tables) (number : ℕ) (new : Rows) → AreKinded schemas tables
    → number < length schemas → RowsHaveKinds (kinds_numbered schemas number) new
    → AreKinded schemas (slice_set tables number new)
kinded_with [] tables number new h l k = absurd (omega arith)
kinded_with (schema ∷ schemas) [] number new h l k = absurd h
kinded_with (schema ∷ schemas) (rows ∷ tables) zero new h l k = (k, h.1)
kinded_with (schema ∷ schemas) (rows ∷ tables) (suc number) new h l k = (
  h.0,
  kinded_with schemas tables number new h.1 (omega arith) k,
)

-- ---- sources side by side

-- the kinds and the rows under some numbers
abbrev pub sources_at : List TableSchema → Tables → List ℕ → List KindedSource
sources_at schemas tables numbers =
    map (λ number. record {
      kinds = kinds_numbered schemas number;
      rows = slice_index_or tables number set.empty;
    }) numbers

pub rows_kinded : (schemas : List TableSchema) (tables : Tables) (numbers : List ℕ) → AreKinded schemas tables
    → AreDeclared schemas numbers → SourcesHaveKinds (sources_at schemas tables numbers)
rows_kinded schemas tables [] h k = tt
rows_kinded schemas tables (number ∷ numbers) h k = (
  kinded_at schemas tables number h k.0,
  rows_kinded schemas tables numbers h k.1,
)

-- sources that are all there: their tables are declared, and their columns have the kinds that stand there
pub record Seen (schemas : List TableSchema) (scope : Scope) : Type 0 where
  pub declared : AreDeclared schemas scope.tables
  pub kinds : map kind_seen scope.columns ≡ flat_map (kinds_numbered schemas) scope.tables

pub sources_seen : (schemas : List TableSchema) (sources : List Source) (scope out : Scope) → Seen schemas scope
    → sources_from schemas scope sources ≡ Ok out → Seen schemas out
sources_seen schemas [] scope out seen e = subst (Seen schemas) (one_answer scope out e) seen
sources_seen schemas (source ∷ more) scope out seen e =
    let name = source_name source in
    let w = found_of (there (table_named schemas source.table.name) (NoTable source.table.place)) _ out e in
    let found : ℕ × TableSchema = w.0 in
    let kept = demand_given (not (is_among scope.names name)) (Ambiguous (source_place source)) _ out w.2 in
    let here = found_named schemas source.table.name found
    (there_of (table_named schemas source.table.name) (NoTable source.table.place) found w.1) in
    sources_seen schemas more (with_source scope name found) out
    (record {
      declared = all_behind (λ number. number < length schemas) scope.tables found.0 seen.declared here.declared;
      kinds =
          map-append kind_seen scope.columns (map (visible name) found.1.columns)
          ∙ (λ i. seen.kinds i ++ (kinds_seen name found.1.columns ∙ sym here.kinds
          ∙ sym (append-nil (kinds_numbered schemas found.0))) i)
          ∙ sym (flat_map-append (kinds_numbered schemas) scope.tables (found.0 ∷ []));
    }) kept.1
