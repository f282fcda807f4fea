-- Where the members of joint answers stand: under each place of a script the first member that is its statement.
use Rattle.std.specs.Prelude.{◌≡◌, ℕ, List}
use Rattle.std.specs.BTreeMap.{BTreeMap, get}
use Rattle.std.specs.Option.{option_map}
use Rattle.std.specs.Ordering.{nat_cmp, ordering_then}
use Rattle.std.specs.declared.cmp.Ordering.{Ordering}
use Rattle.ent_history.specs.Placed.{Placed, member_at}

-- places in order: the number of a transaction first, then that of its statement
abbrev pub place_cmp : ℕ × ℕ → ℕ × ℕ → Ordering
place_cmp first second = ordering_then (nat_cmp first.0 second.0) (nat_cmp first.1 second.1)

-- the number of a member's joint answer, and its own number in that
abbrev pub seat_of : Placed → ℕ × ℕ
seat_of one = (one.joint, one.number)

-- under each place stands the seat of the first of these members that is its statement, and else nothing
abbrev pub AreSeatsOf : List Placed → BTreeMap (ℕ × ℕ) (ℕ × ℕ) → Type 0
AreSeatsOf members seats =
    (tx place : ℕ) → get place_cmp seats (tx, place) ≡ option_map seat_of (member_at members tx place)
