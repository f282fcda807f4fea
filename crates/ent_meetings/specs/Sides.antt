-- What is sought of those who wait: who offers what may meet a demand, or who demands what an offer may meet.
use Rattle.std.specs.Prelude.{ℕ, Bool, false, List}
use Rattle.std.specs.Option.{option_map_or}
use Rattle.ent_meetings.specs.PartyMeeting.{offers}
use Rattle.ent_meetings.specs.declared.party.Party.{Party}
use Rattle.ent_meetings.specs.declared.pattern.Pattern.{Pattern}
use Rattle.ent_meetings.specs.Waiting.{Waiting, demands, party_at}
use Rattle.ent_meetings.specs.declared.side.SoughtSide.{SoughtSide}
use Rattle.ent_meetings.specs.declared.side.SoughtSide.TheVariants.{Offers, Demands}

-- the patterns of a party that are looked at
abbrev pub patterns_of : SoughtSide → Party → List Pattern
patterns_of Offers party = party.offers
patterns_of Demands party = party.demands

-- a party has one that fits
abbrev pub fits : SoughtSide → Pattern → Party → Bool
fits Offers sought party = offers sought party
fits Demands sought party = demands sought party

abbrev pub fits_at : SoughtSide → Waiting → Pattern → ℕ → Bool
fits_at side waiting sought ticket = option_map_or (fits side sought) (party_at waiting ticket) false
