-- Which rows of answer relations a text covers.
use Rattle.std.specs.Prelude.{◌≡◌, ℕ, List, length, Some, Contains, slice_get}
use Rattle.ent_value.specs.declared.value.Value.{Value}
use Rattle.ent_semantics.specs.declared.answer.Fact.{Fact}
use Rattle.ent_meetings.specs.declared.pattern.Pattern.{Pattern}

-- a row is as the pattern knows it: of the same relation and length, and each known term has that value
pub record Covers (pattern : Pattern) (fact : Fact) : Type 0 where
  pub relation : pattern.relation ≡ fact.relation
  pub as_long : length pattern.terms ≡ length fact.values
  pub known : (place : ℕ) (value : Value) → slice_get pattern.terms place ≡ Some (Some value)
      → slice_get fact.values place ≡ Some value

-- one of the patterns covers it
abbrev pub IsCovered : List Pattern → Fact → Type 0
IsCovered patterns fact = (pattern : Pattern) × Contains patterns pattern × Covers pattern fact
