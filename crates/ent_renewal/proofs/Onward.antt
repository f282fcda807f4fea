-- The own state of a renewed opening goes on where the tables stand.
use Rattle.std.proofs.Common.{◌≡◌, Bool, true, false, ◌||◌, List, [], ◌∷◌, map, refl, sym, ap, ◌∙◌}
use Rattle.std.specs.Prelude.{if◌then◌else◌}
use Rattle.std.specs.List.{list_any}
use Rattle.ent_lists.specs.Sets as set
use Rattle.ent_tree.specs.declared.declaration.Create.{Create}
use Rattle.ent_tree.specs.declared.declaration.Opening.{Opening}
use Rattle.ent_semantics.specs.Database.{Database, Name, same_name}
use Rattle.ent_semantics.specs.Names.{equal_names}
use Rattle.ent_protocol.specs.Reached.{named_tables, opened}
use Rattle.ent_renewal.specs.Renewal.{GoesOn, HoldsTablesOf, IsRenewed}

abbrev names_in : List Create → List Name
names_in declared = map (λ create. create.name.name) declared

-- the tables of a database, one after the other, under their names
looked_up : (declared : List Create) (database : Database) (name : Name)
    → (list_any (λ create. same_name create.name.name name) declared ≡ false → database name ≡ set.empty)
    → named_tables (names_in declared) (map database (names_in declared)) name ≡ database name
looked_up [] database name none = sym (none refl)
looked_up (create ∷ more) database name none =
    by (same_name create.name.name name) refl none (looked_up more database name)
  where
    by : (b : Bool) → same_name create.name.name name ≡ b
        → ((b || list_any (λ create. same_name create.name.name name) more) ≡ false → database name ≡ set.empty)
        → ((list_any (λ create. same_name create.name.name name) more ≡ false → database name ≡ set.empty)
        → named_tables (names_in more) (map database (names_in more)) name ≡ database name)
        → (if b then database create.name.name else named_tables (names_in more) (map database (names_in more)) name)
        ≡ database name
    by true same none rest = ap database (equal_names create.name.name name same)
    by false differs none rest = rest none

pub goes_on : (declared : List Create) (database : Database) (opening : Opening) → HoldsTablesOf declared database
    → IsRenewed declared database opening → GoesOn declared database (opened opening)
goes_on declared database opening holds renewed =
    record {
      declarations = renewed.declarations;
      tables = λ i name.
          ((λ j. named_tables (names_in (renewed.declarations j))
          (map (renewed.tables j) (names_in (renewed.declarations j))) name)
          ∙ looked_up declared database name (holds.others name)) i;
      fresh = refl;
    }
