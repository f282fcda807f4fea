-- Coordinating choices: a grounding for each statement, such that all that is demanded is offered.
use Rattle.std.specs.Prelude.{◌≡◌, ◌≢◌, true, List, [], ◌∷◌, ◌++◌, Contains, Option, Some, None}
use Rattle.std.specs.Cmp.Lexicographic.{slice_cmp}
use Rattle.std.specs.declared.cmp.Ordering.{Ordering}
use Rattle.std.specs.declared.cmp.Ordering.TheVariants.{Less}
use Rattle.ent_value.specs.Value.{row_cmp, kinds_of}
use Rattle.ent_value.specs.declared.value.Value.{Value}
use Rattle.ent_semantics.specs.declared.answer.Fact.{Fact}
use Rattle.ent_semantics.specs.Entangled.{Valuation}
use Rattle.ent_semantics.specs.declared.entangled.Entangled.{Entangled}
use Rattle.ent_semantics.specs.Form.{Tables, form_heads, form_posts, is_form_grounding}
use Rattle.ent_semantics.specs.Pool.{Posted}

-- a grounding of a statement over the tables, each value being of its variable's kind
pub record IsKindedGrounding (tables : Tables) (statement : Entangled Value) (values : Valuation) : Type 0 where
  pub kinds : kinds_of values ≡ statement.variables
  pub grounds : is_form_grounding (λ value. value) tables statement values ≡ true

-- a grounding for each statement, in their order
abbrev pub AreGroundings : Tables → List Posted → List Valuation → Type 0
AreGroundings tables [] [] = Unit {0}
AreGroundings tables [] (values ∷ more) = ⊥
AreGroundings tables (member ∷ members) [] = ⊥
AreGroundings tables (member ∷ members) (values ∷ more) =
    IsKindedGrounding tables member.statement values × AreGroundings tables members more

-- the heads of the statements under their groundings
abbrev pub all_heads : List Posted → List Valuation → List Fact
all_heads [] groundings = []
all_heads (member ∷ members) [] = []
all_heads (member ∷ members) (values ∷ more) =
    form_heads (λ value. value) member.statement values ++ all_heads members more

-- the posts of the statements under their groundings
abbrev pub all_posts : List Posted → List Valuation → List Fact
all_posts [] groundings = []
all_posts (member ∷ members) [] = []
all_posts (member ∷ members) (values ∷ more) =
    form_posts (λ value. value) member.statement values ++ all_posts members more

-- one grounding for each statement, each post being equal to a head
pub record IsChoice (tables : Tables) (members : List Posted) (groundings : List Valuation) : Type 0 where
  pub grounded : AreGroundings tables members groundings
  pub met : (post : Fact) → Contains (all_posts members groundings) post
      → Contains (all_heads members groundings) post

-- the statements in their order, each one's values in order of first appearance
abbrev pub choice_cmp : List Valuation → List Valuation → Ordering
choice_cmp = slice_cmp row_cmp

-- no choice is less
pub record IsLeastChoice (tables : Tables) (members : List Posted) (groundings : List Valuation) : Type 0 where
  pub choice : IsChoice tables members groundings
  pub least : (others : List Valuation) → IsChoice tables members others → choice_cmp others groundings ≢ Less

-- the least choice, or none where there is none
abbrev pub IsLeastChoiceIfAny : Tables → List Posted → Option (List Valuation) → Type 0
IsLeastChoiceIfAny tables members (Some groundings) = IsLeastChoice tables members groundings
IsLeastChoiceIfAny tables members None = (others : List Valuation) → IsChoice tables members others → ⊥
