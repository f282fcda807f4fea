-- Sets that are widened by others of those who wait.
use Rattle.std.specs.Prelude.{ℕ, ◌≡◌, true, All, Any, Contains, IfSome, List, Some, ◌⊎◌}
use Rattle.ent_meetings.specs.PartyMeeting.{ways}
use Rattle.ent_meetings.specs.declared.party.Party.{Party}
use Rattle.ent_meetings.specs.Group.{demands_of, may_come, offers_of}
use Rattle.ent_meetings.specs.Meeting.{IsWithin}
use Rattle.ent_meetings.specs.Waiting.{Waiting, Waits, demands, named, party_at}

-- who waits under the ticket has each demand met by one offer of these alone
pub record IsServed (waiting : Waiting) (tickets : List ℕ) (ticket : ℕ) : Type 0 where
  pub waits : Waits waiting ticket
  pub once : IfSome (party_at waiting ticket) (λ party.
      All (λ demand. ways (named waiting tickets) demand ≡ 1) party.demands)

-- all of the one set, whose demands as many offers may meet as before, and others who are served
pub record IsWidened (waiting : Waiting) (tickets wider : List ℕ) : Type 0 where
  pub kept : IsWithin tickets wider
  pub ways : All (λ demand. ways (named waiting wider) demand ≡ ways (named waiting tickets) demand)
      (demands_of (named waiting tickets))
  pub others : All (λ ticket. Contains tickets ticket ⊎ IsServed waiting wider ticket) wider

-- somebody else might come: who waits under the ticket demands something that these offer, and may come to them
pub record MightCome (waiting : Waiting) (tickets : List ℕ) (ticket : ℕ) : Type 0 where
  pub other : Contains tickets ticket → ⊥
  pub party : Party
  pub waits : party_at waiting ticket ≡ Some party
  pub asks : Any (λ offer. demands offer party ≡ true) (offers_of (named waiting tickets))
  pub comes : may_come (named waiting tickets) party ≡ true
