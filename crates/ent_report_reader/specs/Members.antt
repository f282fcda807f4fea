-- What the line of a member tells.
use Rattle.std.specs.Prelude.{◌≡◌, ℕ, List, length, Option, Some, None}
use Rattle.std.specs.List.{AllByRecursion}
use Rattle.ent_value.specs.Name.{IsWord}
use Rattle.ent_value.specs.declared.value.Value.{Value}
use Rattle.ent_tree.specs.declared.entangled.Entangled.{Entangled}
use Rattle.ent_tree.specs.declared.script.Statement.{Statement}
use Rattle.ent_tree.specs.declared.script.Statement.TheVariants as statements
use Rattle.ent_semantics.specs.declared.entangled.Entangled.{Entangled as ResolvedEntangled}
use Rattle.ent_semantics.specs.declared.operand.Known.{Known}
use Rattle.ent_semantics.specs.declared.statement.Statement.{Statement as Resolved}
use Rattle.ent_semantics.specs.declared.statement.Statement.TheVariants as resolved
use Rattle.ent_semantics.specs.Database.{Name}
use Rattle.ent_book.specs.Report.{line}
use Rattle.ent_history.specs.declared.history.ToldMember.{ToldMember}
use Rattle.ent_history.specs.Text.{told_member_text}
use Rattle.ent_history.specs.Parts.{IsNumber, IsValue}
use Rattle.ent_history.specs.Draft.{Draft, Members}
use Rattle.ent_history.specs.Joints.{Binds, BindsRight, member_binds, member_told}

-- numbers of a report
abbrev pub AreNumbers : ℕ × ℕ → Type 0
AreNumbers place = IsNumber place.0 × IsNumber place.1

-- the line of the member at this place, which binds so
pub record IsMemberLine (binds : Option Binds) (tx place : ℕ) (text : List ℕ) (told : ToldMember) : Type 0 where
  pub variables : List Name
  pub values : List Value
  pub told_is : told ≡ member_told tx place variables values
  pub text_is : line text ≡ told_member_text (member_told tx place variables values)
  pub paired : length variables ≡ length values
  pub are_values : AllByRecursion IsValue values
  pub right : BindsRight binds variables values

-- each variable that is bound is one word
abbrev pub BindsWords : Option Binds → Type 0
BindsWords (Some binds) = AllByRecursion IsWord binds.0
BindsWords None = Unit {0}

-- the same of the member whose line is due
abbrev pub MemberHasWords : Draft → Type 0
MemberHasWords draft =
    (tx place : ℕ) (more : List (ℕ × ℕ)) → draft.due ≡ Members tx place more
    → BindsWords (member_binds draft.told tx place)

-- the statement, where it is an entangled one
abbrev pub entangled_of : Option Statement → Option Entangled
entangled_of (Some (statements.Entangled entangled)) = Some entangled
entangled_of other = None

abbrev pub form_of : Option (Resolved Known) → Option (ResolvedEntangled Known)
form_of (Some (resolved.Entangled form)) = Some form
form_of other = None
