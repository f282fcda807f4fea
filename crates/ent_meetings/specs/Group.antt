-- What the parties of a set demand of each other.
use Rattle.std.specs.Prelude.{Bool, ◌==◌, ◌&&◌, not, nat_lt, List, [], ◌∷◌, ◌++◌, Option, map}
use Rattle.std.specs.Borrow.{Bor}
use Rattle.std.specs.List.{find, flat_map, list_all, list_any}
use Rattle.ent_meetings.specs.PartyMeeting.{is_met, offers, ways}
use Rattle.ent_meetings.specs.declared.party.Party.{Party}
use Rattle.ent_meetings.specs.declared.pattern.Pattern.{Pattern}

-- the parties that references lead to
abbrev pub seen : List (Bor Party) → List Party
seen parties = map (λ party. party.now) parties

-- all that the parties offer, in order
abbrev pub offers_of : List Party → List Pattern
offers_of parties = flat_map (λ party. party.offers) parties

-- all that the parties demand, in order
abbrev pub demands_of : List Party → List Pattern
demands_of parties = flat_map (λ party. party.demands) parties

-- the first demand that none of them may meet
abbrev pub first_unmet : List Party → Option Pattern
first_unmet parties = find (λ demand. not (is_met parties demand)) (demands_of parties)

-- more than one of their offers may meet one demand
abbrev pub is_crowded : List Party → Bool
is_crowded parties = list_any (λ demand. nat_lt 1 (ways parties demand)) (demands_of parties)

-- another party offers what may meet a demand of theirs
abbrev pub serves : List Party → Party → Bool
serves parties party = list_any (λ demand. offers demand party) (demands_of parties)

-- each of its own demands may be met by one offer alone, of theirs or of its own
abbrev pub is_served_once : List Party → Party → Bool
is_served_once parties party = list_all (λ demand. ways (parties ++ party ∷ []) demand == 1) party.demands

-- with it nobody is held back who wasn't before
abbrev pub may_come : List Party → Party → Bool
may_come parties party = is_served_once parties party && not (serves parties party)
