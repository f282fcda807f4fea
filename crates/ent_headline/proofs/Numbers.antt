-- A table that is found stands at the number of its name, and has its width there.
use Rattle.std.proofs.Common.{◌≡◌, ℕ, zero, suc, ◌+◌, ◌<◌, true, false, List, [], ◌∷◌, length, map, Some, Ok, refl, sym}
use Rattle.std.proofs.Common.{ap, subst, ◌∙◌, arith}
use Rattle.std.specs.Prelude.{slice_index_or, slice_set, if◌then◌else◌}
use Rattle.std.specs.List.{AllByRecursion}
use Rattle.std.proofs.lemmas.List.{length-map}
use Rattle.ent_lists.specs.Sets as set
use Rattle.ent_tree.specs.declared.declaration.Create.{Create}
use Rattle.ent_tree.specs.declared.operand.Identifier.{Identifier}
use Rattle.ent_semantics.specs.Form.{Tables}
use Rattle.ent_semantics.specs.Database.{Name, Rows, same_name}
use Rattle.ent_form.specs.declared.catalogue.TableSchema.{TableSchema}
use Rattle.ent_form.specs.declared.fault.FormFault.TheVariants.{NoTable}
use Rattle.ent_form.specs.Catalogue.{column_schema, table_schema, schemas_of, table_from, table_named}
use Rattle.ent_form.specs.Scope.{table_in}
use Rattle.ent_form.proofs.Heads.{there_of}
use Rattle.ent_form.specs.Tables.{AreWide}
use Rattle.ent_protocol_laws.specs.Faithful.{table_number}

-- the columns of the table of a number
abbrev pub width_numbered : List Create → ℕ → ℕ
width_numbered creates number = slice_index_or (map (λ create. length create.columns) creates) number 0

-- rows of this many values
abbrev pub OfWidth : ℕ → Rows → Type 0
OfWidth width rows = AllByRecursion (λ row. length row ≡ width) (set.ascending rows)

-- ---- a table that is found

pub record FoundFrom (creates : List Create) (name : Name) (first : ℕ) (found : ℕ × TableSchema) : Type 0 where
  pub counted : found.0 ≡ first + table_number creates name
  pub declared : table_number creates name < length creates
  pub width : width_numbered creates (table_number creates name) ≡ length found.1.columns

none_before : (found n : ℕ) → found ≡ 0 + n → found ≡ n
none_before found n e = omega (arith, e)

no_further : (first n : ℕ) → n ≡ 0 → first ≡ first + n
no_further first n e = omega (arith, e)

one_further : (found first n m : ℕ) → found ≡ suc first + n → m ≡ suc n → found ≡ first + m
one_further found first n m e next = omega (arith, e, next)

one_longer : (n m length : ℕ) → n < length → m ≡ suc n → m < suc length
one_longer n m length below next = omega (arith, below, next)

found_here : (create : Create) (more : List Create) (name : Name) (first : ℕ) (found : ℕ × TableSchema)
    → same_name create.name.name name ≡ true → Some (first, table_schema create) ≡ Some found
    → FoundFrom (create ∷ more) name first found
found_here create more name first found same e =
    let is : (first, table_schema create) ≡ found = one_found (first, table_schema create) found e in
    let none : table_number (create ∷ more) name ≡ 0 =
    ap (λ b. if b then 0 else suc (table_number more name)) same in
    subst (λ (f : ℕ × TableSchema). FoundFrom (create ∷ more) name first f) is
    (record {
      counted = no_further first (table_number (create ∷ more) name) none;
      declared = subst (λ n. n < suc (length more)) (sym none) (omega arith);
      width = ap (width_numbered (create ∷ more)) none ∙ sym (length-map create.columns column_schema);
    })
  where
    one_found : (x y : ℕ × TableSchema) → Some x ≡ Some y → x ≡ y
    one_found x y e = cc

found_later : (create : Create) (more : List Create) (name : Name) (first : ℕ) (found : ℕ × TableSchema)
    → same_name create.name.name name ≡ false → FoundFrom more name (suc first) found
    → FoundFrom (create ∷ more) name first found
found_later create more name first found other told =
    let next : table_number (create ∷ more) name ≡ suc (table_number more name) =
    ap (λ b. if b then 0 else suc (table_number more name)) other in
    record {
      counted = one_further found.0 first (table_number more name) (table_number (create ∷ more) name)
          told.counted next;
      declared = one_longer (table_number more name) (table_number (create ∷ more) name) (length more)
          told.declared next;
      width = ap (width_numbered (create ∷ more)) next ∙ told.width;
    }

found_from : (creates : List Create) (name : Name) (first : ℕ) (found : ℕ × TableSchema)
    → table_from first (schemas_of creates) name ≡ Some found → FoundFrom creates name first found
found_from [] name first found e = cc
found_from (create ∷ more) name first found e =
    elim (same_name create.name.name name) as (λ b. same_name create.name.name name ≡ b
    → (if b then Some (first, table_schema create) else table_from (suc first) (schemas_of more) name) ≡ Some found
    → FoundFrom (create ∷ more) name first found) [
      | true ↦ λ same here. found_here create more name first found same here
      | false ↦ λ other later. found_later create more name first found other
          (found_from more name (suc first) found later)
    ] refl e

pub record Found (creates : List Create) (name : Name) (found : ℕ × TableSchema) : Type 0 where
  pub number : found.0 ≡ table_number creates name
  pub declared : table_number creates name < length creates
  pub width : width_numbered creates (table_number creates name) ≡ length found.1.columns

pub found_named : (creates : List Create) (name : Name) (found : ℕ × TableSchema)
    → table_named (schemas_of creates) name ≡ Some found → Found creates name found
found_named creates name found e =
    let told = found_from creates name 0 found e in
    record {
      number = none_before found.0 (table_number creates name) told.counted;
      declared = told.declared;
      width = told.width;
    }

pub found_in : (creates : List Create) (table : Identifier) (found : ℕ × TableSchema)
    → table_in (schemas_of creates) table ≡ Ok found → Found creates table.name found
found_in creates table found e =
    found_named creates table.name found
    (there_of (table_named (schemas_of creates) table.name) (NoTable table.place) found e)

-- ---- the rows of a number

pub wide_at : (creates : List Create) (tables : Tables) (number : ℕ) → AreWide creates tables
    → number < length creates → OfWidth (width_numbered creates number) (slice_index_or tables number set.empty)
wide_at [] tables number h l = absurd (omega arith)
wide_at (create ∷ more) [] number h l = absurd h
wide_at (create ∷ more) (rows ∷ tables) zero h l = h.0
wide_at (create ∷ more) (rows ∷ tables) (suc number) h l = wide_at more tables number h.1 (omega arith)

pub wide_with : (creates : List Create) (tables : Tables) (number : ℕ) (new : Rows) → AreWide creates tables
    → number < length creates → OfWidth (width_numbered creates number) new
    → AreWide creates (slice_set tables number new)
wide_with [] tables number new h l k = absurd (omega arith)
wide_with (create ∷ more) [] number new h l k = absurd h
wide_with (create ∷ more) (rows ∷ tables) zero new h l k = (k, h.1)
wide_with (create ∷ more) (rows ∷ tables) (suc number) new h l k = (
  h.0,
  wide_with more tables number new h.1 (omega arith) k,
)
