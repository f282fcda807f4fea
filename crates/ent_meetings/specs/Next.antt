-- Who comes next after a ticket.
use Rattle.std.specs.Prelude.{ℕ, ◌≡◌, ◌<◌, ◌≤◌, Bool, true, false, Option, Some, None, IsSomeAnd}
use Rattle.ent_meetings.specs.declared.next.Next.{Next}
use Rattle.ent_meetings.specs.declared.next.Next.TheVariants.{Found, Nobody, Stopped}

-- the ticket comes after that one; all come after none
abbrev pub IsAfter : Option ℕ → ℕ → Type 0
IsAfter None ticket = Unit {0}
IsAfter (Some last) ticket = last < ticket

-- it comes no later
abbrev pub IsUpTo : Option ℕ → ℕ → Type 0
IsUpTo None ticket = ⊥
IsUpTo (Some last) ticket = ticket ≤ last

-- the answer is the next ticket that passes after one, of which `looks` candidates were to be looked at and `left` are
-- left
abbrev pub IsNext : (ℕ → Bool) → Option ℕ → ℕ → ℕ → Next → Type 0
IsNext passes after looks left (Found ticket) = IsAfter after ticket × (passes ticket ≡ true)
    × ((other : ℕ) → IsAfter after other → other < ticket → passes other ≡ false)
IsNext passes after looks left Nobody = (other : ℕ) → IsAfter after other → passes other ≡ false
IsNext passes after looks left (Stopped last) = (left ≡ 0)
    × ((other : ℕ) → IsAfter after other → IsUpTo last other → passes other ≡ false)
    × (0 < looks → IsSomeAnd last (IsAfter after))
