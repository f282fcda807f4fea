-- Under which keys who waits is posted.
use Rattle.std.specs.Prelude.{ℕ, ◌≡◌, ◌==◌, Bool, true, false, ◌||◌, ◌&&◌, not, List, length, IsSome, None}
use Rattle.std.specs.Prelude.{slice_index_or}
use Rattle.std.specs.BTreeSet.{BTreeSet, contains}
use Rattle.std.specs.Option.{option_map_or}
use Rattle.std.specs.Ordering.{nat_cmp, ordering_then}
use Rattle.std.specs.declared.cmp.Ordering.{Ordering}
use Rattle.ent_meetings.specs.declared.party.Party.{Party}
use Rattle.ent_meetings.specs.declared.pattern.Pattern.{Pattern}
use Rattle.ent_meetings.specs.Keys.{have_key, key_at, unknown_at}
use Rattle.ent_meetings.specs.Waiting.{Waiting, party_at}
use Rattle.ent_meetings.specs.declared.entry.Entry.{Entry}

-- entries come by key, and those of a key by ticket
abbrev pub entry_cmp : Entry → Entry → Ordering
entry_cmp one other = ordering_then (nat_cmp one.key other.key) (nat_cmp one.ticket other.ticket)

abbrev pub Postings : Type 0
Postings = BTreeSet Entry

-- the ticket is posted under the key
abbrev pub has : Postings → ℕ → ℕ → Bool
has postings key ticket = contains entry_cmp postings (record { key = key; ticket = ticket })

-- an entry of the ticket is among those that are added or taken out
abbrev pub is_among : ℕ → (ℕ → Bool) → ℕ → ℕ → Bool
is_among ticket passes key other = (ticket == other) && passes key

-- the ticket is posted under these keys too, and no other change is made
abbrev pub Posts : ℕ → (ℕ → Bool) → Postings → Postings → Type 0
Posts ticket passes old new =
    (key other : ℕ) → has new key other ≡ (has old key other || is_among ticket passes key other)

-- it is posted under some of them
pub record PostsSome (ticket : ℕ) (passes : ℕ → Bool) (old new : Postings) : Type 0 where
  pub kept : (key other : ℕ) → has old key other ≡ true → has new key other ≡ true
  pub added : (key other : ℕ) → has new key other ≡ true → (has old key other || is_among ticket passes key
      other) ≡ true

-- the ticket isn't posted under these keys any more
abbrev pub Unposts : ℕ → (ℕ → Bool) → Postings → Postings → Type 0
Unposts ticket passes old new =
    (key other : ℕ) → has new key other ≡ (has old key other && not (is_among ticket passes key other))

-- each who waits is posted under the keys of these patterns of the party, and nobody else is
abbrev pub IsPosted : (Party → List Pattern) → Waiting → Postings → Type 0
IsPosted patterns waiting postings = (key ticket : ℕ)
    → has postings key ticket ≡ option_map_or (λ party. have_key (patterns party) key) (party_at waiting ticket) false

-- the ticket is posted nowhere
abbrev pub HasNone : Postings → ℕ → Type 0
HasNone postings ticket = (key : ℕ) → has postings key ticket ≡ false

-- the same tickets are posted under the same keys
abbrev pub IsSame : Postings → Postings → Type 0
IsSame old new = (key ticket : ℕ) → has new key ticket ≡ has old key ticket

-- the ticket is posted with the pattern's own term at the place, or with an unknown one
abbrev pub agrees_at : Postings → Pattern → ℕ → ℕ → Bool
agrees_at postings pattern place ticket =
    has postings (key_at pattern place) ticket || has postings (unknown_at pattern place) ticket

-- it is so at each known term, and behind the last
pub record Agrees (postings : Postings) (pattern : Pattern) (ticket : ℕ) : Type 0 where
  pub at : (place : ℕ) → IsSome (slice_index_or pattern.terms place None)
      → agrees_at postings pattern place ticket ≡ true
  pub behind : agrees_at postings pattern (length pattern.terms) ticket ≡ true
