-- What stands where a test holds, and where something is found or isn't.
use Rattle.std.proofs.Common.{◌≡◌, ℕ, suc, Bool, true, false, not, ◌||◌, List, [], ◌∷◌, map, Option, Some, None, ◌⊎◌}
use Rattle.std.proofs.Common.{inl}
use Rattle.std.proofs.Common.{inr, refl, sym, ap, subst, ◌∙◌}
use Rattle.std.specs.Prelude.{◌↔◌, ◌==◌, is_none, if◌then◌else◌}
use Rattle.std.specs.List.{Contains}
use Rattle.std.proofs.lemmas.Bool.{eqb-true, eq-eqb}
use Rattle.ent_lists.proofs.Truth.{in_turn}
use Rattle.ent_value.specs.declared.value.Kind.{Kind}
use Rattle.ent_value.specs.declared.value.Kind.TheVariants as kinds
use Rattle.ent_value.specs.Kinds.{same_kind}
use Rattle.ent_tree.specs.declared.operand.Identifier.{Identifier}
use Rattle.ent_semantics.specs.Database.{Name, same_name, is_among}
use Rattle.ent_semantics.specs.Names.{equal_names, name_itself}
use Rattle.ent_form.specs.declared.catalogue.ColumnSchema.{ColumnSchema}
use Rattle.ent_form.specs.declared.catalogue.TableSchema.{TableSchema}
use Rattle.ent_form.specs.declared.fault.FormFault.{FormFault}
use Rattle.ent_form.specs.declared.fault.FormFault.TheVariants.{NoTable}
use Rattle.ent_form.specs.Catalogue.{table_from, table_named, names_of, column_from, column_named}
use Rattle.ent_form.specs.AllFaults.{faults_where, faults_at, unless_any, kinds_faults}
use Rattle.ent_form.specs.Standing.{IsTableFault, Differ}
use Rattle.ent_form.proofs.ResolvedMembership.{either, holding, none_there, here, there, contains_cons}

-- ---- where a test holds

pub where_stands : (test : Bool) (one fault : FormFault)
    → Contains (faults_where test one) fault ↔ ((test ≡ true) × (fault ≡ one))
where_stands true one fault = (λ h. only ((contains_cons one [] fault).0 h), λ h. here one [] fault (sym h.1))
  where
    only : (one ≡ fault) ⊎ Contains [] fault → (true ≡ true) × (fault ≡ one)
    only (inl e) = (refl, sym e)
    only (inr h) = absurd (none_there h)
where_stands false one fault = (λ h. absurd (none_there h), λ h. cc)

pub kinds_differ : (left right : Kind) → (not (same_kind left right) ≡ true) ↔ (¬ (left ≡ right))
kinds_differ kinds.Int kinds.Int = (λ e. cc, λ n. absurd (n refl))
kinds_differ kinds.Int kinds.Text = (λ _ e. cc, λ _. refl)
kinds_differ kinds.Text kinds.Int = (λ _ e. cc, λ _. refl)
kinds_differ kinds.Text kinds.Text = (λ e. cc, λ n. absurd (n refl))

numbers_to : (m n : ℕ) (b : Bool) → (m == n) ≡ b → not b ≡ true → ¬ (m ≡ n)
numbers_to m n true e h = λ same. cc
numbers_to m n false e h = λ same. let t : (m == n) ≡ true = eq-eqb m n same in cc

numbers_from : (m n : ℕ) (b : Bool) → (m == n) ≡ b → ¬ (m ≡ n) → not b ≡ true
numbers_from m n true e h = absurd (h (eqb-true m n e))
numbers_from m n false e h = refl

pub numbers_differ : (m n : ℕ) → (not (m == n) ≡ true) ↔ (¬ (m ≡ n))
numbers_differ m n = (numbers_to m n (m == n) refl, numbers_from m n (m == n) refl)

differ_from : (one other : Kind) → Differ (Some one) (Some other) → ¬ (one ≡ other)
differ_from one other h = λ same.
    let e : Some one ≡ Some h.0 = h.2 in
    let f : Some other ≡ Some h.1 = h.3 in
    let alike : h.0 ≡ h.1 = cc in
    h.4 alike

pub kinds_stand : (left right : Option Kind) (one fault : FormFault)
    → Contains (kinds_faults left right one) fault ↔ (Differ left right × (fault ≡ one))
kinds_stand None right one fault =
    (λ h. absurd (none_there h), λ h. let e : None ≡ Some h.0.0 = h.0.2 in cc)
kinds_stand (Some left) None one fault =
    (λ h. absurd (none_there h), λ h. let e : None ≡ Some h.0.1 = h.0.3 in cc)
kinds_stand (Some left) (Some right) one fault =
    in_turn (where_stands (not (same_kind left right)) one fault)
    (in_turn (holding (kinds_differ left right))
    (holding (λ n. (left, right, refl, refl, n), differ_from left right)))

-- ---- where something is found

-- the fault of what is missing, or those of what is there
abbrev pub IsFaultAt : {A : Type 0} → Option A → FormFault → FormFault → (A → Type 0) → Type 0
IsFaultAt {A} found missing fault P = ((found ≡ None) × (fault ≡ missing)) ⊎ ((x : A) × (found ≡ Some x) × P x)

none_to : {A : Type 0} (found : Option A) (missing fault : FormFault) (P : A → Type 0) → found ≡ None
    → (missing ≡ fault) ⊎ Contains [] fault → IsFaultAt found missing fault P
none_to found missing fault P none (inl e) = inl (none, sym e)
none_to found missing fault P none (inr h) = absurd (none_there h)

none_from : {A : Type 0} (found : Option A) (missing fault : FormFault) (P : A → Type 0) → found ≡ None
    → IsFaultAt found missing fault P → Contains (missing ∷ []) fault
none_from found missing fault P none (inl h) = here missing [] fault (sym h.1)
none_from found missing fault P none (inr h) = let e : found ≡ Some h.0 = h.1 in cc

some_from : {A : Type 0} (found : Option A) (missing fault : FormFault) (P : A → Type 0) (y : A) → found ≡ Some y
    → IsFaultAt found missing fault P → P y
some_from found missing fault P y is (inl h) = let e : found ≡ None = h.0 in cc
some_from found missing fault P y is (inr h) =
    let e : found ≡ Some h.0 = h.1 in
    let one : h.0 ≡ y = cc in
    subst P one h.2

pub at_stands : {A : Type 0} (found : Option A) (missing fault : FormFault) (faults : A → List FormFault)
    → Contains (faults_at found missing faults) fault ↔ IsFaultAt found missing fault (λ x. Contains (faults x) fault)
at_stands None missing fault faults = (
  λ h. none_to None missing fault (λ x. Contains (faults x) fault) refl ((contains_cons missing [] fault).0 h),
  none_from None missing fault (λ x. Contains (faults x) fault) refl,
)
at_stands (Some y) missing fault faults = (
  λ h. inr (y, refl, h),
  some_from (Some y) missing fault (λ x. Contains (faults x) fault) y refl,
)

pub there_with : {A : Type 0} {B P Q : A → Type 0} → ((x : A) → P x ↔ Q x)
    → ((x : A) × B x × P x) ↔ ((x : A) × B x × Q x)
there_with f = (λ h. (h.0, h.1, (f h.0).0 h.2), λ h. (h.0, h.1, (f h.0).1 h.2))

pub none_is : {A : Type 0} (found : Option A) → (is_none found ≡ true) ↔ (found ≡ None)
none_is None = (λ _. refl, λ _. refl)
none_is (Some x) = (λ e. cc, λ e. cc)

-- the later faults count where there are none of the earlier
first_only : (fault first : FormFault) (more later : List FormFault)
    → Contains (first ∷ more) fault ⊎ (((other : FormFault) → ¬ Contains (first ∷ more) other) × Contains later fault)
    → Contains (first ∷ more) fault
first_only fault first more later (inl h) = h
first_only fault first more later (inr h) = absurd (h.0 first (here first more first refl))

later_only : (fault : FormFault) (later : List FormFault)
    → Contains [] fault ⊎ (((other : FormFault) → ¬ Contains [] other) × Contains later fault) → Contains later fault
later_only fault later (inl h) = absurd (none_there h)
later_only fault later (inr h) = h.1

pub unless_stands : (earlier later : List FormFault) (fault : FormFault)
    → Contains (unless_any earlier later) fault
    ↔ (Contains earlier fault ⊎ (((other : FormFault) → ¬ Contains earlier other) × Contains later fault))
unless_stands [] later fault = (λ h. inr (λ other none. none_there none, h), later_only fault later)
unless_stands (first ∷ more) later fault = (inl, first_only fault first more later)

pub none_with : {P Q : FormFault → Type 0} {R S : Type 0} → ((other : FormFault) → P other ↔ Q other) → R ↔ S
    → (((other : FormFault) → ¬ P other) × R) ↔ (((other : FormFault) → ¬ Q other) × S)
none_with f g = (
  λ h. (λ other q. h.0 other ((f other).1 q), g.0 h.1),
  λ h. (λ other p. h.0 other ((f other).0 p), g.1 h.1),
)

-- ---- names

among_to : (first name : Name) (names : List Name) (b : Bool) → same_name first name ≡ b
    → (b || is_among names name) ≡ true → (is_among names name ≡ true → Contains names name)
    → Contains (first ∷ names) name
among_to first name names true e h f = here first names name (equal_names first name e)
among_to first name names false e h f = there first names name (f h)

among_from : (first name : Name) (names : List Name) (b : Bool) → same_name first name ≡ b
    → (first ≡ name) ⊎ Contains names name → (Contains names name → is_among names name ≡ true)
    → (b || is_among names name) ≡ true
among_from first name names true e h f = refl
among_from first name names false e (inl is) f =
    let h : same_name first name ≡ true = ap (same_name first) (sym is) ∙ name_itself first in cc
among_from first name names false e (inr h) f = f h

pub among : (names : List Name) (name : Name) → (is_among names name ≡ true) ↔ Contains names name
among [] name = (λ h. cc, λ h. absurd (none_there h))
among (first ∷ names) name = (
  λ h. among_to first name names (same_name first name) refl h (among names name).0,
  λ h. among_from first name names (same_name first name) refl ((contains_cons first names name).0 h)
      (among names name).1,
)

not_true : {P : Type 0} (b : Bool) → (b ≡ true) ↔ P → (not b ≡ true) ↔ (¬ P)
not_true true f = (λ e. cc, λ n. absurd (n (f.0 refl)))
not_true false f = (λ _ p. let e : false ≡ true = f.1 p in cc, λ _. refl)

pub not_among : (names : List Name) (name : Name) → (not (is_among names name) ≡ true) ↔ (¬ Contains names name)
not_among names name = not_true (is_among names name) (among names name)

missing_to : {A : Type 0} (first name : Name) (names : List Name) (found : A) (rest : Option A) (b : Bool)
    → same_name first name ≡ b → (if b then Some found else rest) ≡ None → (rest ≡ None → ¬ Contains names name)
    → (first ≡ name) ⊎ Contains names name → ⊥
missing_to first name names found rest true e h f w = cc
missing_to first name names found rest false e h f (inl is) =
    let t : same_name first name ≡ true = ap (same_name first) (sym is) ∙ name_itself first in cc
missing_to first name names found rest false e h f (inr w) = f h w

missing_from : {A : Type 0} (first name : Name) (names : List Name) (found : A) (rest : Option A) (b : Bool)
    → same_name first name ≡ b → (¬ Contains (first ∷ names) name) → (¬ Contains names name → rest ≡ None)
    → (if b then Some found else rest) ≡ None
missing_from first name names found rest true e n f = absurd (n (here first names name (equal_names first name e)))
missing_from first name names found rest false e n f = f (λ h. n (there first names name h))

-- a look-up finds nothing where nothing has the name
missing : {A : Type 0} (first name : Name) (names : List Name) (found : A) (rest : Option A)
    → (rest ≡ None) ↔ (¬ Contains names name)
    → ((if same_name first name then Some found else rest) ≡ None) ↔ (¬ Contains (first ∷ names) name)
missing first name names found rest f = (
  λ e h. missing_to first name names found rest (same_name first name) refl e f.0
      ((contains_cons first names name).0 h),
  λ n. missing_from first name names found rest (same_name first name) refl n f.1,
)

no_table_from : (number : ℕ) (tables : List TableSchema) (name : Name)
    → (table_from number tables name ≡ None) ↔ (¬ Contains (names_of tables) name)
no_table_from number [] name = (λ _ h. absurd (none_there h), λ _. refl)
no_table_from number (first ∷ tables) name =
    missing first.name name (names_of tables) (number, first) (table_from (suc number) tables name)
    (no_table_from (suc number) tables name)

pub no_table : (tables : List TableSchema) (name : Name)
    → (table_named tables name ≡ None) ↔ (¬ Contains (names_of tables) name)
no_table tables name = no_table_from 0 tables name

no_column_from : (number : ℕ) (columns : List ColumnSchema) (name : Name)
    → (column_from number columns name ≡ None) ↔ (¬ Contains (map (λ column. column.name) columns) name)
no_column_from number [] name = (λ _ h. absurd (none_there h), λ _. refl)
no_column_from number (first ∷ columns) name =
    missing first.name name (map (λ column. column.name) columns) (number, first.kind)
    (column_from (suc number) columns name) (no_column_from (suc number) columns name)

pub no_column : (columns : List ColumnSchema) (name : Name)
    → (column_named columns name ≡ None) ↔ (¬ Contains (map (λ column. column.name) columns) name)
no_column columns name = no_column_from 0 columns name

pub table_stands : (tables : List TableSchema) (named : Identifier) (fault : FormFault)
    (faults : ℕ × TableSchema → List FormFault) (faulty : TableSchema → Type 0)
    → ((found : ℕ × TableSchema) → Contains (faults found) fault ↔ faulty found.1)
    → Contains (faults_at (table_named tables named.name) (NoTable named.place) faults) fault
    ↔ IsTableFault tables named faulty fault
table_stands tables named fault faults faulty each =
    in_turn (at_stands (table_named tables named.name) (NoTable named.place) fault faults)
    (either (holding (no_table tables named.name)) (there_with each))
