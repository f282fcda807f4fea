-- A member as it is in a run: what it has itself, with the locks that it holds and the label of its group.
use Rattle.std.specs.Prelude.{◌≡◌, ℕ, ◌==◌, List, [], ◌∷◌, map, filter, Option, None, Some}
use Rattle.std.specs.FinSet as set
use Rattle.ent_group.specs.declared.groups.Membership.{Membership}
use Rattle.ent_group.specs.Groups.{group_of}
use Rattle.ent_lock.specs.declared.mode.Mode.{Mode}
use Rattle.ent_lock.specs.Use.{Holds, Uses, key_of_number}
use Rattle.ent_protocol.specs.Begin.{with_uses}
use Rattle.ent_protocol.specs.State.{Member, Use}

-- the number of the table that a key names
abbrev pub number_of_key : List ℕ → ℕ
number_of_key [] = 0
number_of_key (n ∷ ns) = n

-- the uses that a lock table shows for a transaction, by table, of one table the shared one first. They are put in one
-- by one, since no law of the library says in which order the items of a set come, or that each comes once
abbrev pub uses_of : Uses → ℕ → List Use
uses_of locks tx =
    with_uses
    (map (λ held. record { table = number_of_key held.table; mode = held.mode })
    (filter (λ held. held.holder == tx) (set.items locks)))
    []

abbrev pub label_or : ℕ → Option ℕ → ℕ
label_or tx None = tx
label_or tx (Some group) = group

-- with the uses that the lock table shows for it, and the label that the groups give it
abbrev pub in_run : Uses → List Membership → Member → Member
in_run locks groups own =
    record own { group = label_or own.tx (group_of groups own.tx); uses = uses_of locks own.tx }

-- each table that is locked is known by its number
abbrev pub AreByNumber : Uses → Type 0
AreByNumber locks =
    (tx : ℕ) (table : List ℕ) (mode : Mode) → Holds locks tx table mode → table ≡ key_of_number (number_of_key table)
