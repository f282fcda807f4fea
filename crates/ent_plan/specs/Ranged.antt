-- Statements whose written variables all stand in tuples of sub-selects.
use Rattle.std.specs.Prelude.{◌≡◌, ◌==◌, ◌<◌, ℕ, Bool, true, false, List, length}
use Rattle.std.specs.List.{AllByRecursion, list_any}
use Rattle.ent_value.specs.declared.value.Value.{Value}
use Rattle.ent_semantics.specs.declared.entangled.Entangled.{Entangled}
use Rattle.ent_semantics.specs.declared.entangled.Membership.{Membership}
use Rattle.ent_semantics.specs.declared.entangled.Term.{Term}
use Rattle.ent_semantics.specs.declared.entangled.Term.TheVariants as terms
use Rattle.ent_semantics.specs.Pool.{Posted}

abbrev pub is_variable : ℕ → Term Value → Bool
is_variable number (terms.Known value) = false
is_variable number (terms.Variable other) = other == number

-- a variable stands in a tuple
abbrev pub stands_in : ℕ → Membership Value → Bool
stands_in number membership = list_any (is_variable number) membership.terms

-- Each written variable stands in a tuple of some sub-select, so that rows of tables give its values. Without it there
-- may be choices and no least one, as where nothing bounds a number from below.
abbrev pub IsRanged : Entangled Value → Type 0
IsRanged statement =
    (number : ℕ) → number < length statement.variables → list_any (stands_in number) statement.atoms ≡ true

abbrev pub AreRanged : List Posted → Type 0
AreRanged members = AllByRecursion (λ (member : Posted). IsRanged member.statement) members
