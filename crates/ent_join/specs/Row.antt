-- Statements that ask for a row and nothing else.
use Rattle.std.specs.Prelude.{◌≡◌, List, [], ◌∷◌, map, slice_index_or}
use Rattle.ent_value.specs.Value.{kind_of}
use Rattle.ent_value.specs.declared.value.Kind.{Kind}
use Rattle.ent_value.specs.declared.value.Kind.TheVariants as kinds
use Rattle.ent_value.specs.declared.value.Value.{Value}
use Rattle.ent_semantics.specs.Kinds.{RowsHaveKinds}
use Rattle.ent_semantics.specs.Form.{Tables, form_rows}
use Rattle.ent_semantics.specs.declared.entangled.Entangled.{Entangled}
use Rattle.ent_semantics.specs.declared.entangled.Membership.{Membership}
use Rattle.ent_semantics.specs.declared.entangled.Term.{Term}
use Rattle.ent_semantics.specs.declared.entangled.Term.TheVariants as terms

-- the kind of a term of a statement whose variables have these kinds
abbrev pub term_kind : List Kind → Term Value → Kind
term_kind variables (terms.Known value) = kind_of value
term_kind variables (terms.Variable number) = slice_index_or variables number kinds.Int

-- A statement that asks for a row of one sub-select's result and nothing else: it has no posts and no tests, and the
-- rows of that result are of the kinds of its tuple's terms.
pub record AsksForARow (tables : Tables) (statement : Entangled Value) : Type 0 where
  pub no_posts : statement.posts ≡ []
  pub no_tests : statement.tests ≡ []
  pub membership : Membership Value
  pub only : statement.atoms ≡ membership ∷ []
  pub kinds : RowsHaveKinds (map (term_kind statement.variables) membership.terms)
      (form_rows (λ value. value) tables membership.select)
