-- Which values a caller may give for a row.
use Rattle.std.specs.Prelude.{FitsSigned}
use Rattle.std.specs.Int.{w64}
use Rattle.ent_value.specs.declared.value.Value.{Value}
use Rattle.ent_value.specs.declared.value.Value.TheVariants.{Int, Text}
use Rattle.ent_bound.specs.Bindable.{IsBindableText}

-- any number of 64 bits, the least too; or a text that can be bound
abbrev pub IsGivable : Value → Type 0
IsGivable (Int number) = FitsSigned w64 number
IsGivable (Text content) = IsBindableText content
