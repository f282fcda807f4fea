-- Who may come to a set that grows, and who may not.
use Rattle.std.specs.Prelude.{ℕ, ◌≡◌, ◌<◌, ◌+◌, true, false, List, [], ◌∷◌, Option, Some, ◌⊎◌}
use Rattle.std.specs.List.{count_by}
use Rattle.ent_lists.specs.Elements.{In}
use Rattle.ent_meetings.specs.PartyMeeting.{offers, ways}
use Rattle.ent_meetings.specs.Pattern.{may_meet}
use Rattle.ent_meetings.specs.declared.party.Party.{Party}
use Rattle.ent_meetings.specs.declared.pattern.Pattern.{Pattern}
use Rattle.ent_meetings.specs.Group.{demands_of, may_come, offers_of}
use Rattle.ent_meetings.specs.Next.{IsUpTo}
use Rattle.ent_meetings.specs.Waiting.{Waiting, demands, named, party_at}

-- two offers may meet what it demands, or it offers what they demand
abbrev pub IsBarred : List Party → Party → Type 0
IsBarred parties party =
    ((demand : Pattern) × In demand party.demands × (1 < ways parties demand + count_by (may_meet demand) party.offers))
    ⊎ ((demand : Pattern) × In demand (demands_of parties) × (offers demand party ≡ true))

-- it demands what none of these offers may meet, nor one of its own
abbrev pub IsLacking : List Pattern → Party → Type 0
IsLacking offered party = (demand : Pattern) × In demand party.demands × (offers demand party ≡ false)
    × ((offer : Pattern) → In offer offered → may_meet demand offer ≡ false)

-- who waits under the ticket is one of them, or doesn't come as long as only these offers are known
abbrev pub IsSettled : Waiting → List ℕ → List Pattern → ℕ → Party → Type 0
IsSettled waiting tickets offered ticket party =
    In ticket tickets ⊎ (IsBarred (named waiting tickets) party ⊎ IsLacking offered party)

-- all who demand what one of these offers may meet are settled
pub record IsPast (waiting : Waiting) (tickets : List ℕ) (offered : List Pattern) : Type 0 where
  pub among : (offer : Pattern) → In offer offered → In offer (offers_of (named waiting tickets))
  pub settled : (ticket : ℕ) (party : Party) → party_at waiting ticket ≡ Some party → (offer : Pattern)
      → In offer offered → demands offer party ≡ true → IsSettled waiting tickets offered ticket party

-- and those up to the last who demand what one offer more may meet
pub record IsPassing (waiting : Waiting) (tickets : List ℕ) (offered : List Pattern) (offer : Pattern)
    (last : Option ℕ) : Type 0 where
  pub past : IsPast waiting tickets offered
  pub among : In offer (offers_of (named waiting tickets))
  pub before : (ticket : ℕ) (party : Party) → IsUpTo last ticket → party_at waiting ticket ≡ Some party
      → demands offer party ≡ true → IsSettled waiting tickets (offer ∷ offered) ticket party

-- offers that are settled, these and those among them
pub record IsPastAll (waiting : Waiting) (tickets : List ℕ) (before own : List Pattern) : Type 0 where
  pub offered : List Pattern
  pub past : IsPast waiting tickets offered
  pub before_in : (offer : Pattern) → In offer before → In offer offered
  pub own_in : (offer : Pattern) → In offer own → In offer offered

-- where these offers of the old set are looked through, they are settled in the new one
abbrev pub GoesPast : Waiting → List ℕ → List ℕ → List Pattern → Type 0
GoesPast waiting old new own = (before : List Pattern) → IsPast waiting old before
    → ((offer : Pattern) → In offer own → In offer (offers_of (named waiting old))) → IsPastAll waiting new before own

-- who waits under the ticket was let in, or may not come
abbrev pub IsTried : Waiting → List ℕ → ℕ → Type 0
IsTried waiting tickets ticket = (party : Party) → party_at waiting ticket ≡ Some party
    → In ticket tickets ⊎ (may_come (named waiting tickets) party ≡ false)

-- all offers of the set are settled
abbrev pub IsWhole : Waiting → List ℕ → Type 0
IsWhole waiting tickets = IsPastAll waiting tickets [] (offers_of (named waiting tickets))
