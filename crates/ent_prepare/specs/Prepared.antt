-- What a text and bound values are together: a script that can be submitted, or the first fault.
use Rattle.std.specs.Prelude.{◌≡◌, ℕ, List, Some, None, Ok, Err}
use Rattle.ent_value.specs.declared.refusal.Refusal.{Refusal}
use Rattle.ent_value.specs.declared.refusal.Refusal.TheVariants.{Memory, Fault}
use Rattle.ent_tree.specs.declared.script.Script.{Script}
use Rattle.ent_bound.specs.Bound.{bound_script}
use Rattle.ent_bound.specs.Refused.{first_fault}
use Rattle.ent_bound.specs.declared.variable.BoundVariable.{BoundVariable}
use Rattle.ent_form.specs.Form.{script_in}
use Rattle.ent_form.specs.declared.catalogue.TableSchema.{TableSchema}
use Rattle.ent_form.specs.declared.script.Plain.{Plain}
use Rattle.ent_input.specs.Reading.{IsScript, IsNoScript}
use Rattle.ent_input.specs.declared.fault.InputFault.TheVariants.{TooLong, NotUtf8, Sql, Form}
use Rattle.ent_prepare.specs.declared.fault.PrepareFault.{PrepareFault}
use Rattle.ent_prepare.specs.declared.fault.PrepareFault.TheVariants.{Text, Binding}

-- these values are bound in the script that the bytes read as
pub record IsBound (bytes : List ℕ) (variables : List BoundVariable) (script : Script) : Type 0 where
  pub read : Script
  pub reads : IsScript bytes read
  pub bindable : first_fault variables read ≡ None
  pub bound : script ≡ bound_script variables read

-- no fault of form over these tables
abbrev pub HasForm : List TableSchema → Script → Type 0
HasForm tables script = (plain : Plain) × (script_in tables script ≡ Ok plain)

-- these values are bound in the script that the bytes read as, and no fault is left
abbrev pub IsPrepared : List TableSchema → List ℕ → List BoundVariable → Script → Type 0
IsPrepared tables bytes variables script = IsBound bytes variables script × HasForm tables script

-- The first fault: the bytes are no script; else a variable can't be bound in the script that they are; else the
-- script in which all are bound has this fault of form.
abbrev pub IsFirstFault : List TableSchema → List ℕ → List BoundVariable → PrepareFault → Type 0
IsFirstFault tables bytes variables (Text TooLong) = IsNoScript bytes TooLong
IsFirstFault tables bytes variables (Text (NotUtf8 place)) = IsNoScript bytes (NotUtf8 place)
IsFirstFault tables bytes variables (Text (Sql fault)) = IsNoScript bytes (Sql fault)
IsFirstFault tables bytes variables (Text (Form fault)) =
    (script : Script) × IsBound bytes variables script × (script_in tables script ≡ Err fault)
IsFirstFault tables bytes variables (Binding fault) =
    (read : Script) × IsScript bytes read × (first_fault variables read ≡ Some fault)

-- refused for the first fault, or memory ran out
abbrev pub IsRefused : List TableSchema → List ℕ → List BoundVariable → Refusal PrepareFault → Type 0
IsRefused tables bytes variables Memory = Unit {0}
IsRefused tables bytes variables (Fault fault) = IsFirstFault tables bytes variables fault

-- ---- step by step: a fault of this step alone

abbrev pub RefusesReading : List ℕ → Refusal PrepareFault → Type 0
RefusesReading bytes Memory = Unit {0}
RefusesReading bytes (Fault (Text fault)) = IsNoScript bytes fault
RefusesReading bytes (Fault (Binding fault)) = ⊥

abbrev pub RefusesBinding : List BoundVariable → Script → Refusal PrepareFault → Type 0
RefusesBinding variables script Memory = Unit {0}
RefusesBinding variables script (Fault (Text fault)) = ⊥
RefusesBinding variables script (Fault (Binding fault)) = first_fault variables script ≡ Some fault

-- of reading or of binding
abbrev pub RefusesBound : List ℕ → List BoundVariable → Refusal PrepareFault → Type 0
RefusesBound bytes variables Memory = Unit {0}
RefusesBound bytes variables (Fault (Text fault)) = IsNoScript bytes fault
RefusesBound bytes variables (Fault (Binding fault)) =
    (read : Script) × IsScript bytes read × (first_fault variables read ≡ Some fault)

abbrev pub RefusesForm : List TableSchema → Script → Refusal PrepareFault → Type 0
RefusesForm tables script Memory = Unit {0}
RefusesForm tables script (Fault (Text TooLong)) = ⊥
RefusesForm tables script (Fault (Text (NotUtf8 place))) = ⊥
RefusesForm tables script (Fault (Text (Sql fault))) = ⊥
RefusesForm tables script (Fault (Text (Form fault))) = script_in tables script ≡ Err fault
RefusesForm tables script (Fault (Binding fault)) = ⊥
