-- Lists of faults without places, as they are put together.
use Rattle.std.proofs.Common.{◌≡◌, Bool, true, false, List, [], ◌∷◌, ◌++◌, map, flat_map, refl, sym, ap, ◌∙◌, Option}
use Rattle.std.proofs.Common.{Some, None}
use Rattle.ent_value.specs.declared.value.Kind.{Kind}
use Rattle.ent_tree.specs.Places.{unplaced_identifier}
use Rattle.ent_tree.specs.declared.declaration.Create.{Create}
use Rattle.ent_tree.specs.declared.operand.Identifier.{Identifier}
use Rattle.ent_form.specs.AllFaults.{faults_where, faults_at, unless_any, kinds_faults, repeated_names}
use Rattle.ent_form.specs.declared.catalogue.ColumnSchema.{ColumnSchema}
use Rattle.ent_form.specs.declared.fault.FormFault.{FormFault}
use Rattle.ent_form.specs.declared.fault.FormFault.TheVariants.{Repeated}
use Rattle.ent_lists.specs.Elements.{map_joined}
use Rattle.ent_semantics.specs.Database.{Name, is_among}
use Rattle.ent_form.specs.Catalogue.{column_schema, table_schema, schemas_of}
use Rattle.ent_program_laws.specs.Faults.{unplaced_fault}
use Rattle.ent_program_laws.specs.Unplaced.{unplaced_create, unplaced_declared}
use Rattle.ent_program_laws.proofs.Through.{map_through}

-- ---- declared tables have no places

create_same : (create : Create) → table_schema (unplaced_create create) ≡ table_schema create
create_same create =
    ap (λ (columns : List ColumnSchema). record { name = create.name.name; columns = columns })
    (map_through unplaced_declared column_schema column_schema (λ column. refl) create.columns)

pub schemas_same : (creates : List Create) → schemas_of (map unplaced_create creates) ≡ schemas_of creates
schemas_same creates = map_through unplaced_create table_schema table_schema create_same creates

-- ---- faults that are put together

-- the first faults are the second, places aside
abbrev pub AreBare : List FormFault → List FormFault → Type 0
AreBare bare faults = bare ≡ map unplaced_fault faults

pub both_bare : (first last bare_first bare_last : List FormFault) → AreBare bare_first first → AreBare bare_last last
    → AreBare (bare_first ++ bare_last) (first ++ last)
both_bare first last bare_first bare_last here there =
    (λ i. here i ++ there i) ∙ sym (map_joined unplaced_fault first last)

pub where_bare : (test : Bool) (fault : FormFault)
    → AreBare (faults_where test (unplaced_fault fault)) (faults_where test fault)
where_bare true fault = refl
where_bare false fault = refl

pub at_bare : {A : Type 0} (found : Option A) (fault : FormFault) (f g : A → List FormFault)
    → ((x : A) → AreBare (f x) (g x)) → AreBare (faults_at found (unplaced_fault fault) f) (faults_at found fault g)
at_bare (Some x) fault f g bare = bare x
at_bare None fault f g bare = refl

unless_mapped : (first later : List FormFault)
    → AreBare (unless_any (map unplaced_fault first) (map unplaced_fault later)) (unless_any first later)
unless_mapped [] later = refl
unless_mapped (fault ∷ more) later = refl

pub unless_bare : (first later bare_first bare_later : List FormFault) → AreBare bare_first first
    → AreBare bare_later later → AreBare (unless_any bare_first bare_later) (unless_any first later)
unless_bare first later bare_first bare_later here there =
    (λ i. unless_any (here i) (there i)) ∙ unless_mapped first later

pub kinds_bare : (left right : Option Kind) (fault : FormFault)
    → AreBare (kinds_faults left right (unplaced_fault fault)) (kinds_faults left right fault)
kinds_bare (Some left) (Some right) fault = where_bare _ fault
kinds_bare (Some left) None fault = refl
kinds_bare None right fault = refl

pub flat_bare : {A : Type 0} (unplaced : A → A) (f g : A → List FormFault)
    → ((x : A) → AreBare (f (unplaced x)) (g x)) → (xs : List A)
    → AreBare (flat_map f (map unplaced xs)) (flat_map g xs)
flat_bare unplaced f g bare [] = refl
flat_bare unplaced f g bare (x ∷ xs) =
    both_bare (g x) (flat_map g xs) (f (unplaced x)) (flat_map f (map unplaced xs)) (bare x)
    (flat_bare unplaced f g bare xs)

pub repeated_bare : (earlier : List Name) (identifiers : List Identifier)
    → AreBare (repeated_names earlier (map unplaced_identifier identifiers)) (repeated_names earlier identifiers)
repeated_bare earlier [] = refl
repeated_bare earlier (identifier ∷ more) =
    both_bare (faults_where (is_among earlier identifier.name) (Repeated identifier.place))
    (repeated_names (earlier ++ identifier.name ∷ []) more)
    (faults_where (is_among earlier identifier.name) (Repeated 0))
    (repeated_names (earlier ++ identifier.name ∷ []) (map unplaced_identifier more))
    (where_bare (is_among earlier identifier.name) (Repeated identifier.place))
    (repeated_bare (earlier ++ identifier.name ∷ []) more)
