-- What a SET comes to.
use Rattle.std.specs.Prelude.{◌≡◌, Option, Ok, Err}
use Rattle.ent_value.specs.declared.value.Value.{Value}
use Rattle.ent_ordinary.specs.declared.outcome.Outcome.{Outcome}
use Rattle.ent_ordinary.specs.declared.outcome.Outcome.TheVariants as outcomes
use Rattle.ent_ordinary.specs.ExpressionWorth.{there_or_overflow}

-- an outcome is a value that there is, or why there is none
abbrev pub Binds : Option Value → Outcome → Type 0
Binds meant (outcomes.Value value) = there_or_overflow meant ≡ Ok value
Binds meant (outcomes.Fault failure) = there_or_overflow meant ≡ Err failure
Binds meant (outcomes.Rows rows) = ⊥
Binds meant (outcomes.Changed count delta) = ⊥
