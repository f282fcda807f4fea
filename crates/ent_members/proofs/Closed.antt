-- Closing a statement changes none of its uses.
use Rattle.std.proofs.Common.{◌≡◌, List, [], ◌∷◌, ◌++◌, map, refl, ap}
use Rattle.std.specs.List.{flat_map}
use Rattle.ent_semantics.specs.Database.{Environment}
use Rattle.ent_semantics.specs.Closing.{closed, membership_over}
use Rattle.ent_semantics.specs.Form.{known_worth}
use Rattle.ent_semantics.specs.declared.entangled.Membership.{Membership}
use Rattle.ent_semantics.specs.declared.operand.Known.{Known}
use Rattle.ent_semantics.specs.declared.statement.Statement.{Statement}
use Rattle.ent_semantics.specs.declared.statement.Statement.TheVariants as statements
use Rattle.ent_protocol.specs.Uses.{membership_uses, statement_uses}

same_sources : (environment : Environment) (memberships : List (Membership Known))
    → flat_map membership_uses (map (membership_over (known_worth environment)) memberships)
    ≡ flat_map membership_uses memberships
same_sources environment [] = refl
same_sources environment (membership ∷ memberships) =
    ap (λ uses. membership_uses membership ++ uses) (same_sources environment memberships)

pub uses_of_closed : (environment : Environment) (statement : Statement Known)
    → statement_uses (closed environment statement) ≡ statement_uses statement
uses_of_closed environment (statements.Select select) = refl
uses_of_closed environment (statements.Entangled entangled) = same_sources environment entangled.atoms
uses_of_closed environment (statements.Insert table values) = refl
uses_of_closed environment (statements.Delete table tests) = refl
uses_of_closed environment (statements.Update table image tests) = refl
uses_of_closed environment (statements.Set variable expression) = refl
