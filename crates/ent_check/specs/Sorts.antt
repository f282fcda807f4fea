-- Sorts of statements.
use Rattle.std.specs.Prelude.{List}
use Rattle.ent_value.specs.declared.value.Kind.{Kind}
use Rattle.ent_value.specs.declared.value.Value.{Value}
use Rattle.ent_semantics.specs.FormKinds.{Fits}
use Rattle.ent_semantics.specs.declared.statement.Statement.{Statement}
use Rattle.ent_semantics.specs.declared.statement.Statement.TheVariants as statements

abbrev pub IsOrdinary : Statement Value → Type 0
IsOrdinary (statements.Entangled entangled) = ⊥
IsOrdinary other = Unit {0}

abbrev pub IsSet : Statement Value → Type 0
IsSet (statements.Set variable expression) = Unit {0}
IsSet other = ⊥

-- an ordinary statement fits the kinds of the tables that it names; an entangled one puts nothing into them
abbrev pub CanRun : List (List Kind) → Statement Value → Type 0
CanRun kinds (statements.Entangled entangled) = Unit {0}
CanRun kinds ordinary = Fits kinds ordinary
