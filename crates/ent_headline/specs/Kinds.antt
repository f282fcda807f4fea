-- Settled tables of the kinds that are declared, and host variables of members that have values of the kinds that
-- resolving knows at their places.
use Rattle.std.specs.Prelude.{◌≡◌, ℕ, zero, suc, List, [], ◌∷◌, Contains, Some, Result, Ok}
use Rattle.ent_value.specs.Refusal.{◌>>=◌}
use Rattle.ent_tree.specs.declared.script.Statement.{Statement}
use Rattle.ent_semantics.specs.Serial.{numbered}
use Rattle.ent_semantics.specs.Form.{Tables}
use Rattle.ent_form.specs.Catalogue.{schemas_of}
use Rattle.ent_form.specs.Form.{statement_in}
use Rattle.ent_form.specs.Kinds.{Bound, none_bound}
use Rattle.ent_form.specs.declared.catalogue.TableSchema.{TableSchema}
use Rattle.ent_form.specs.declared.fault.FormFault.{FormFault}
use Rattle.ent_form.specs.TableKinds.{AreKinded, HasKinds}
use Rattle.ent_form.specs.Tables.{database_of}
use Rattle.ent_protocol.specs.Member.{environment_of}
use Rattle.ent_protocol.specs.Reached.{settled}
use Rattle.ent_protocol.specs.State.{State, Submitted, Member}

-- the kinds that are known behind so many statements of a script
abbrev pub bound_behind : List TableSchema → Bound → List Statement → ℕ → Result Bound FormFault
bound_behind tables bound statements zero = Ok bound
bound_behind tables bound [] (suc n) = Ok bound
bound_behind tables bound (statement ∷ more) (suc n) =
    statement_in tables bound statement >>= λ form. bound_behind tables form.1 more n

-- each host variable that is bound before a member's place has a value of the kind that it is bound in there
pub record HasKindsThere (s : State) (member : Member) : Type 0 where
  pub own : Submitted
  pub submitted : numbered s.submitted member.tx ≡ Some own
  pub passed : ℕ
  pub place : member.place ≡ suc passed
  pub bound : Bound
  pub known : bound_behind (schemas_of s.opening.tables) none_bound own.script.statements passed ≡ Ok bound
  pub kinds : HasKinds bound (environment_of member)

-- what the committed transactions left is what tables of the declared kinds hold under the declared names
pub record HasSettledKinds (s : State) : Type 0 where
  pub tables : Tables
  pub kinded : AreKinded (schemas_of s.opening.tables) tables
  pub same : database_of s.opening.tables (settled s) ≡ database_of s.opening.tables tables

-- the settled tables and the host variables of members that aren't prepared have the kinds that are known of them
pub record HoldsKinds (s : State) : Type 0 where
  pub tables : HasSettledKinds s
  pub variables : (member : Member) → Contains s.active member → HasKindsThere s member
