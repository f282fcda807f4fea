-- Sets of parties in which each demand may be met.
use Rattle.std.specs.Prelude.{ℕ, Bool, ◌≡◌, List}
use Rattle.std.specs.List.{All, AllPass, list_any, flat_map, count_by}
use Rattle.ent_meetings.specs.Pattern.{may_meet}
use Rattle.ent_meetings.specs.declared.party.Party.{Party}
use Rattle.ent_meetings.specs.declared.pattern.Pattern.{Pattern}

-- a party offers what may meet the demand
abbrev pub offers : Pattern → Party → Bool
offers demand party = list_any (may_meet demand) party.offers

-- one of the parties does
abbrev pub is_met : List Party → Pattern → Bool
is_met parties demand = list_any (offers demand) parties

-- what a party demands may be met by these parties
abbrev pub MeetAll : List Party → Party → Type 0
MeetAll parties party = AllPass (is_met parties) party.demands

-- each demand of each of them may be met by one of them
abbrev pub IsClosed : List Party → Type 0
IsClosed parties = All (MeetAll parties) parties

-- how many offers of the parties may meet the demand
abbrev pub ways : List Party → Pattern → ℕ
ways parties demand = count_by (may_meet demand) (flat_map (λ party. party.offers) parties)

-- and each by one offer alone, so that nobody is held back for another
abbrev pub IsClear : List Party → Type 0
IsClear parties = All (λ party. All (λ demand. ways parties demand ≡ 1) party.demands) parties
