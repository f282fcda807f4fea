-- What a writer holds after a text that wasn't written out, and the marks that it failed.
use Rattle.std.specs.Prelude.{◌≡◌, ℕ, Bool, ◌++◌, ◌||◌, List, Option}
use Rattle.std.specs.Io.KnownBytes.{Appends}
use Rattle.ent_value.specs.Watched.{Stream}

-- what went out is a beginning of the text
abbrev pub AppendsBeginning : Option (List ℕ) → Option (List ℕ) → List ℕ → Type 0
AppendsBeginning old new text = (front rest : List ℕ) × (text ≡ front ++ rest) × Appends old new front

-- whether a writer that had no mark has one now: it failed, or took no byte of some
abbrev pub is_marked : {W : Type 0} → Stream W → Bool
is_marked writer = writer.failed || writer.stalled
