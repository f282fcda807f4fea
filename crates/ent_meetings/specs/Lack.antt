-- Demands that nobody meets who waits.
use Rattle.std.specs.Prelude.{ℕ, ◌≡◌, ◌<◌, All, true, false, length, slice_get, take, IfSome}
use Rattle.ent_meetings.specs.declared.party.Party.{Party}
use Rattle.ent_meetings.specs.declared.pattern.Pattern.{Pattern}
use Rattle.ent_meetings.specs.Waiting.{Waiting, offers_at}
use Rattle.ent_meetings.specs.declared.lack.Lack.{Lack}
use Rattle.ent_meetings.specs.declared.lack.Lack.TheVariants.{Unoffered, Nothing, Stopped}

-- somebody who waits may offer what is demanded
abbrev pub IsOffered : Waiting → Pattern → Type 0
IsOffered waiting demand = (ticket : ℕ) × (offers_at waiting demand ticket ≡ true)

-- nobody may
abbrev pub IsUnoffered : Waiting → Pattern → Type 0
IsUnoffered waiting demand = (ticket : ℕ) → offers_at waiting demand ticket ≡ false

-- what an answer says of a party, with so many looks left
abbrev pub IsLack : Waiting → Party → ℕ → Lack → Type 0
IsLack waiting party left (Unoffered place) = (place < length party.demands)
    × IfSome (slice_get party.demands place) (IsUnoffered waiting)
    × All (IsOffered waiting) (take place party.demands)
IsLack waiting party left Nothing = All (IsOffered waiting) party.demands
IsLack waiting party left Stopped = left ≡ 0

-- it tells of a demand
abbrev pub LacksSome : Lack → Type 0
LacksSome (Unoffered place) = Unit {0}
LacksSome Nothing = ⊥
LacksSome Stopped = ⊥
