-- Those who wait, each under a ticket, by arrival.
use Rattle.std.specs.Prelude.{ℕ, ◌≡◌, Bool, false, cond, List, Option, IsSome}
use Rattle.std.specs.BTreeMap.{is_at}
use Rattle.std.specs.List.{filter_map, list_any}
use Rattle.std.specs.Map.{lookup}
use Rattle.std.specs.Option.{option_map_or}
use Rattle.std.specs.Ordering.{nat_cmp}
use Rattle.ent_meetings.specs.PartyMeeting.{offers}
use Rattle.ent_meetings.specs.Pattern.{may_meet}
use Rattle.ent_meetings.specs.declared.party.Party.{Party}
use Rattle.ent_meetings.specs.declared.pattern.Pattern.{Pattern}

-- those who wait: their tickets, ascending, and what each offers and demands
abbrev pub Waiting : Type 0
Waiting = List (ℕ × Party)

-- who waits under a ticket
abbrev pub party_at : Waiting → ℕ → Option Party
party_at waiting ticket = lookup (is_at (nat_cmp ticket)) waiting

-- under one ticket this party waits, or nobody does, and under all others who did
abbrev pub ChangesAt : ℕ → Option Party → Waiting → Waiting → Type 0
ChangesAt ticket party old new =
    (other : ℕ) → party_at new other ≡ cond (is_at (nat_cmp ticket) other) party (party_at old other)

-- somebody waits under the ticket
abbrev pub Waits : Waiting → ℕ → Type 0
Waits waiting ticket = IsSome (party_at waiting ticket)

-- the parties of these tickets
abbrev pub named : Waiting → List ℕ → List Party
named waiting tickets = filter_map (party_at waiting) tickets

-- who waits under the ticket may offer what is demanded
abbrev pub offers_at : Waiting → Pattern → ℕ → Bool
offers_at waiting demand ticket = option_map_or (offers demand) (party_at waiting ticket) false

-- a party demands what the offer may meet
abbrev pub demands : Pattern → Party → Bool
demands offer party = list_any (λ demand. may_meet demand offer) party.demands

-- who waits under the ticket does
abbrev pub demands_at : Waiting → Pattern → ℕ → Bool
demands_at waiting offer ticket = option_map_or (demands offer) (party_at waiting ticket) false
