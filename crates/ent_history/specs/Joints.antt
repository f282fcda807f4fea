-- The lines of the joint answers, and of their members.
use Rattle.std.specs.Prelude.{◌≡◌, ◌≢◌, ◌<◌, ◌+◌, ℕ, List, [], ◌∷◌, ◌++◌, length, Option, Some, None}
use Rattle.std.specs.Prelude.{Result, Ok, Err, codes}
use Rattle.std.specs.List.{AllByRecursion, flat_map}
use Rattle.std.specs.Fmt.{decimal}
use Rattle.ent_value.specs.Value.{kinds_of}
use Rattle.ent_value.specs.declared.value.Kind.{Kind}
use Rattle.ent_value.specs.declared.value.Value.{Value}
use Rattle.ent_tree.specs.declared.script.Script.{Script}
use Rattle.ent_tree.specs.declared.script.Statement.{Statement}
use Rattle.ent_tree.specs.declared.script.Statement.TheVariants as statements
use Rattle.ent_semantics.specs.declared.operand.Known.{Known}
use Rattle.ent_semantics.specs.declared.statement.Statement.{Statement as Resolved}
use Rattle.ent_semantics.specs.declared.statement.Statement.TheVariants as resolved
use Rattle.ent_form.specs.declared.catalogue.TableSchema.{TableSchema}
use Rattle.ent_form.specs.declared.fault.FormFault.{FormFault}
use Rattle.ent_form.specs.declared.script.Plain.{Plain}
use Rattle.ent_form.specs.Catalogue.{schemas_of}
use Rattle.ent_form.specs.Form.{script_in}
use Rattle.ent_semantics.specs.Database.{Name}
use Rattle.ent_semantics.specs.Entangled.{written_variables}
use Rattle.ent_semantics.specs.Serial.{numbered}
use Rattle.ent_book.specs.Report.{line}
use Rattle.ent_history.specs.declared.history.History.{History}
use Rattle.ent_history.specs.declared.history.ToldJoint.{ToldJoint}
use Rattle.ent_history.specs.declared.history.ToldMember.{ToldMember}
use Rattle.ent_history.specs.Text.{told_member_text}
use Rattle.ent_history.specs.Parts.{IsName, IsNumber, IsValue}
use Rattle.ent_history.specs.Draft.{Draft, Free, Members, members_due, on_last, TransactionsAreTold}

-- ---- joint answers

-- a statement's transaction and place, behind a space
abbrev pub place_text : ℕ × ℕ → List ℕ
place_text place = codes " " ++ (decimal place.0 ++ (codes "." ++ decimal place.1))

-- numbers, of which the transactions' rise
abbrev pub PlacesRise : List (ℕ × ℕ) → Type 0
PlacesRise [] = Unit {0}
PlacesRise (place ∷ []) = IsNumber place.0 × IsNumber place.1
PlacesRise (place ∷ next ∷ more) = IsNumber place.0 × IsNumber place.1 × (place.0 < next.0) × PlacesRise (next ∷ more)

-- A joint answer: `joint`, its number, and the places of its members, one at least, of rising transactions. All
-- transactions stand above it.
pub record JointStands (draft : Draft) (text : List ℕ) (next : Draft) : Type 0 where
  pub places : List (ℕ × ℕ)
  pub free : draft.due ≡ Free
  pub told : TransactionsAreTold draft.told
  pub no_tables : draft.told.tables ≡ []
  pub text_is : text
      ≡ line (codes "joint " ++ (decimal (length draft.told.joint_answers + 1) ++ flat_map place_text places))
  pub some : places ≢ []
  pub rise : PlacesRise places
  pub next_is : next ≡ record {
    told = record draft.told {
      joint_answers = draft.told.joint_answers ++ record { members = [] } ∷ [];
    };
    due = members_due places;
  }

-- ---- members

-- what the line of an entangled statement binds: its written variables, and their kinds
abbrev pub Binds : Type 0
Binds = List Name × List Kind

abbrev pub binds_of : Option Statement → Option (Resolved Known) → Option Binds
binds_of (Some (statements.Entangled entangled)) (Some (resolved.Entangled form)) =
    Some (written_variables entangled, form.variables)
binds_of statement form = None

abbrev pub resolved_at : Result Plain FormFault → ℕ → Option (Resolved Known)
resolved_at (Ok plain) place = numbered plain.statements place
resolved_at (Err fault) place = None

abbrev pub script_binds : List TableSchema → Option Script → ℕ → Option Binds
script_binds tables (Some script) place =
    binds_of (numbered script.statements place) (resolved_at (script_in tables script) place)
script_binds tables None place = None

-- what the line of this statement binds, where it is an entangled one
abbrev pub member_binds : History → ℕ → ℕ → Option Binds
member_binds told tx place = script_binds (schemas_of told.opening.tables) (numbered told.scripts tx) place

-- just these variables, with values of their kinds; and of what isn't an entangled statement any names
abbrev pub BindsRight : Option Binds → List Name → List Value → Type 0
BindsRight (Some binds) variables values = (variables ≡ binds.0) × (kinds_of values ≡ binds.1)
BindsRight None variables values = AllByRecursion IsName variables

abbrev pub member_told : ℕ → ℕ → List Name → List Value → ToldMember
member_told tx place variables values =
    record { member = record { tx = tx; place = place; grounding = values }; variables = variables }

abbrev pub with_member : ToldMember → ToldJoint → ToldJoint
with_member member joint = record { members = joint.members ++ member ∷ [] }

-- A member of the last joint answer, in the order of its line: its place, and the values of its written variables.
pub record MemberStands (draft : Draft) (text : List ℕ) (next : Draft) : Type 0 where
  pub tx : ℕ
  pub place : ℕ
  pub more : List (ℕ × ℕ)
  pub variables : List Name
  pub values : List Value
  pub due : draft.due ≡ Members tx place more
  pub text_is : text ≡ told_member_text (member_told tx place variables values)
  pub paired : length variables ≡ length values
  pub are_values : AllByRecursion IsValue values
  pub binds : BindsRight (member_binds draft.told tx place) variables values
  pub next_is : next ≡ record {
    told = record draft.told {
      joint_answers = on_last (with_member (member_told tx place variables values)) draft.told.joint_answers;
    };
    due = members_due more;
  }
