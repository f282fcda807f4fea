-- Ordinary scripts, and how a transaction ends by itself.
use Rattle.std.specs.Prelude.{ℕ, List, [], Option, Some, None, Contains}
use Rattle.std.specs.List.{AllByRecursion}
use Rattle.ent_semantics.specs.declared.book.Fate.{Fate}
use Rattle.ent_semantics.specs.declared.book.Fate.TheVariants.{GaveUp}
use Rattle.ent_semantics.specs.declared.book.Fated.{Fated}
use Rattle.ent_semantics.specs.declared.operand.Known.{Known}
use Rattle.ent_semantics.specs.declared.statement.Statement.{Statement}
use Rattle.ent_semantics.specs.declared.statement.Statement.TheVariants.{Entangled}
use Rattle.ent_semantics.specs.Serial.{numbered}
use Rattle.ent_protocol.specs.State.{State, Submitted}

-- a statement asks nobody
abbrev pub AsksNobody : Statement Known → Type 0
AsksNobody (Entangled entangled) = ⊥
AsksNobody other = Unit {0}

-- none of the statements of a script is entangled
abbrev pub HasNoneEntangled : Option Submitted → Type 0
HasNoneEntangled (Some own) = AllByRecursion AsksNobody own.form
HasNoneEntangled None = Unit {0}

-- the script of a transaction is ordinary
abbrev pub IsOrdinary : State → ℕ → Type 0
IsOrdinary s tx = HasNoneEntangled (numbered s.submitted tx)

-- it didn't give up: it committed, rolled back or failed
abbrev pub IsOwnEnding : Fate → Type 0
IsOwnEnding (GaveUp runs) = ⊥
IsOwnEnding other = Unit {0}

-- a transaction has such a fate
pub record HasEndedItself (fates : List Fated) (tx : ℕ) : Type 0 where
  pub fate : Fate
  pub own : IsOwnEnding fate
  pub is : Contains fates (record { tx = tx; fate = fate })
