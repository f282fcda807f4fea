-- Where a transaction stands, in numbers.
use Rattle.std.specs.Prelude.{ℕ}
use Rattle.ent_semantics.specs.declared.answer.Failure.{Failure}
use Rattle.ent_semantics.specs.declared.answer.Failure.TheVariants as failures
use Rattle.ent_semantics.specs.declared.book.Fate.{Fate}
use Rattle.ent_semantics.specs.declared.book.Fate.TheVariants as fates
use Rattle.ent_protocol.specs.Lookup.{Standing, Dormant, Ready, Out, Posted, Prepared, Finished}
use Rattle.ent_c.specs.declared.position.Position.{Position}

-- of this kind and after so many runs, with nothing beside it
abbrev pub no_position : ℕ → ℕ → Position
no_position kind runs = record { runs = runs; number = 0; kind = kind; failure = 0 }

abbrev pub failure_number : Failure → ℕ
failure_number failures.Overflow = 1
failure_number failures.TableFull = 2

abbrev pub fate_position : Fate → Position
fate_position (fates.Committed number runs) = record { runs = runs; number = number; kind = 6; failure = 0 }
fate_position (fates.GaveUp runs) = no_position 7 runs
fate_position (fates.RolledBack runs) = no_position 8 runs
fate_position (fates.Failed failure runs) =
    record { runs = runs; number = 0; kind = 9; failure = failure_number failure }

abbrev pub position_of : Standing → Position
position_of (Dormant runs) = no_position 1 runs
position_of (Ready turn) = no_position 2 0
position_of Out = no_position 3 0
position_of Posted = no_position 4 0
position_of Prepared = no_position 5 0
position_of (Finished fate) = fate_position fate
