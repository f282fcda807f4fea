-- Those who wait no more.
use Rattle.std.specs.Prelude.{ℕ, ◌-◌, ◌==◌, List, Option, drop, find, length, reverse, slice_get}
use Rattle.ent_waiting.specs.declared.ended.Ended.{Ended}

-- how the script of a ticket ended
abbrev pub ended_of : ℕ → List Ended → Option Ended
ended_of ticket ended = find (λ one. one.ticket == ticket) ended

-- the last so many
abbrev pub last_of : {A : Type 0} → ℕ → List A → List A
last_of most xs = drop (length xs - most) xs

-- who ended last but so many others
abbrev pub last_but : ℕ → List Ended → Option Ended
last_but back ended = slice_get (reverse ended) back
