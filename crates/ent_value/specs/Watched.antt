-- A reader or a writer with its marks, and what a write did.
use Rattle.std.specs.Prelude.{◌≡◌, ℕ, Bool, false, not, ◌&&◌, ◌==◌, List, length, Result, Ok, Err}

-- a reader or a writer, whether it failed, and whether a write of one byte or more took none
pub record Stream (T : Type 0) : Type 0 where
  pub inner : T
  pub failed : Bool
  pub stalled : Bool

-- nothing failed and nothing stalled yet
abbrev pub IsUnmarked : {T : Type 0} → Stream T → Type 0
IsUnmarked stream = (stream.failed ≡ false) × (stream.stalled ≡ false)

-- a write of one byte or more took none
abbrev pub takes_nothing : {E : Type 0} → Result ℕ E → List ℕ → Bool
takes_nothing (Ok count) bytes = (count == 0) && not (length bytes == 0)
takes_nothing (Err e) bytes = false
