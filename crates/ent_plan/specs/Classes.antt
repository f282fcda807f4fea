-- The classes of variables, and the slots that name them.
use Rattle.std.specs.Prelude.{◌≡◌, ◌≢◌, ◌⊎◌, ◌<◌, ℕ, List, [], ◌∷◌, ◌++◌, length, AllPairs, slice_index_or}
use Rattle.std.specs.List.{flat_map}
use Rattle.ent_value.specs.declared.value.Kind.{Kind}
use Rattle.ent_value.specs.declared.value.Kind.TheVariants as kinds
use Rattle.ent_unify.specs.Unifier.{class_of, IsVariableOf}
use Rattle.ent_unify.specs.declared.unifier.ClassBinding.{ClassBinding}
use Rattle.ent_unify.specs.declared.variable.Representative.TheVariants.{Constant, Variable}
use Rattle.ent_unify.specs.declared.variable.Variable.{Variable as Variables}
use Rattle.ent_plan.specs.Plan.{AreNumbered}
use Rattle.ent_plan.specs.declared.class.Class.{Class as Classes}
use Rattle.ent_plan.specs.declared.slot.Slot.{Slot}
use Rattle.ent_plan.specs.declared.slot.Slot.TheVariants.{Fixed, Class}

-- no class has this representative
abbrev pub IsNewTo : List Classes → Variables → Type 0
IsNewTo classes representative =
    (n : ℕ) (d : Classes) → n < length classes → (slice_index_or classes n d).representative ≢ representative

-- the class of a representative has a number
abbrev pub IsNumberOf : List Classes → Variables → ℕ → Type 0
IsNumberOf classes representative n =
    (n < length classes) × ((d : Classes) → (slice_index_or classes n d).representative ≡ representative)

-- the class of a representative has a number, or is put down for a variable, which is its first
abbrev pub IsNumbered : Variables → Variables → List Classes → List Classes → ℕ → Type 0
IsNumbered representative variable old new n =
    (IsNumberOf old representative n × (new ≡ old))
    ⊎ ((n ≡ length old) × IsNewTo old representative
    × (new ≡ old ++ record { representative = representative; first = variable } ∷ []))

-- the slot of a variable
abbrev pub IsSlot : List ClassBinding → Variables → List Classes → List Classes → Slot → Type 0
IsSlot bindings variable old new (Fixed value) = (class_of bindings variable ≡ Constant value) × (new ≡ old)
IsSlot bindings variable old new (Class n) =
    (representative : Variables) × (class_of bindings variable ≡ Variable representative)
    × IsNumbered representative variable old new n

-- ---- the slots of all variables

-- the variable of a member by its index
abbrev pub variable_at : List (List Kind) → ℕ → ℕ → Variables
variable_at members member index =
    record {
      member = member;
      index = index;
      kind = slice_index_or (slice_index_or members member []) index kinds.Int;
    }

-- a slot is what stands for a variable
abbrev pub Stands : List ClassBinding → List Classes → Variables → Slot → Type 0
Stands bindings classes variable (Fixed value) = class_of bindings variable ≡ Constant value
Stands bindings classes variable (Class n) =
    (n < length classes)
    × ((d : Classes) → class_of bindings variable ≡ Variable (slice_index_or classes n d).representative)

-- the first variable of each class is one of the members' and of that class, and no two classes are one
pub record AreClasses (bindings : List ClassBinding) (members : List (List Kind)) (classes : List Classes)
    : Type 0 where
  pub firsts : (n : ℕ) (d : Classes) → n < length classes → IsVariableOf members (slice_index_or classes n d).first
      × (class_of bindings (slice_index_or classes n d).first ≡ Variable (slice_index_or classes n d).representative)
  pub apart : AllPairs (λ (one other : Classes). one.representative ≢ other.representative) classes

-- the slots of a member's first variables
pub record IsSlotRowTo (bindings : List ClassBinding) (members : List (List Kind)) (member width : ℕ)
    (old new : List Classes) (slots : List Slot) : Type 0 where
  pub width_is : length slots ≡ width
  pub stands : (k : ℕ) (d : Slot) → k < width
      → Stands bindings new (variable_at members member k) (slice_index_or slots k d)
  pub numbered : AreNumbered (length old) slots (length new)
  pub kept : (n : ℕ) (d : Classes) → n < length old → slice_index_or new n d ≡ slice_index_or old n d
  pub classes : AreClasses bindings members new

abbrev pub IsSlotRow : List ClassBinding → List (List Kind) → ℕ → List Classes → List Classes → List Slot → Type 0
IsSlotRow bindings members member = IsSlotRowTo bindings members member (length (slice_index_or members member []))

-- the slots of the first members
pub record AreSlotRowsTo (bindings : List ClassBinding) (members : List (List Kind)) (count : ℕ)
    (classes : List Classes) (rows : List (List Slot)) : Type 0 where
  pub count_is : length rows ≡ count
  pub widths : (m : ℕ) → m < count → length (slice_index_or rows m []) ≡ length (slice_index_or members m [])
  pub stands : (m k : ℕ) (d : Slot) → m < count → k < length (slice_index_or members m [])
      → Stands bindings classes (variable_at members m k) (slice_index_or (slice_index_or rows m []) k d)
  pub numbered : AreNumbered 0 (flat_map (λ slots. slots) rows) (length classes)
  pub classes_are : AreClasses bindings members classes

abbrev pub AreSlotRows : List ClassBinding → List (List Kind) → List Classes → List (List Slot) → Type 0
AreSlotRows bindings members = AreSlotRowsTo bindings members (length members)
