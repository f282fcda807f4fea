-- Members, told by their numbers.
use Rattle.std.proofs.Common.{◌≡◌, inl, inr, ℕ, true, ◌==◌, List, [], ◌∷◌, map, refl}
use Rattle.ent_protocol.specs.Rollback.{is_among}
use Rattle.ent_protocol.specs.State.{State, Member, members}
use Rattle.ent_protocol.specs.Tidy.{is_member}
use Rattle.ent_protocol_laws.specs.ByNumber.{StandByNumber}
use Rattle.ent_lists.specs.Elements.{In, in_first, in_second, in_either, same_number, or_first, or_second, or_cases}
use Rattle.ent_lists.specs.Elements.{distinct_pairs}
use Rattle.ent_protocol_laws.specs.Numbered.{keys_apart, one_of}
use Rattle.ent_protocol_laws.proofs.Left.{in_among, tx_of}

-- ---- who is among them

pub among_in : (ms : List Member) (tx : ℕ) → is_among ms tx ≡ true → (m : Member) × In m ms × (m.tx ≡ tx)
among_in [] tx is = absurd (cc)
among_in (m ∷ ms) tx is =
    elim (or_cases (m.tx == tx) (is_among ms tx) is) [
      | inl here ↦ (m, inl refl, same_number m.tx tx here)
      | inr there ↦ let r = among_in ms tx there in (r.0, inr r.1, r.2)
    ]

pub is_in_run : (s : State) (m : Member) → In m (members s) → is_member s m.tx ≡ true
is_in_run s m at =
    elim (in_either s.prepared s.active m at) [
      | inl a ↦ or_first (is_among s.prepared m.tx) (is_among s.active m.tx) (in_among s.prepared m a)
      | inr b ↦ or_second (is_among s.prepared m.tx) (is_among s.active m.tx) (in_among s.active m b)
    ]

pub of_run : (s : State) (tx : ℕ) → is_member s tx ≡ true → (m : Member) × In m (members s) × (m.tx ≡ tx)
of_run s tx is =
    elim (or_cases (is_among s.prepared tx) (is_among s.active tx) is) [
      | inl a ↦ let r = among_in s.prepared tx a in (r.0, in_first s.prepared s.active r.0 r.1, r.2)
      | inr b ↦ let r = among_in s.active tx b in (r.0, in_second s.prepared s.active r.0 r.1, r.2)
    ]

-- ---- members are of distinct numbers

pub same_member : (s : State) → StandByNumber s → (one other : Member) → In one (members s) → In other (members s)
    → one.tx ≡ other.tx → one ≡ other
same_member s h one other at bt same =
    one_of tx_of (members s) one other
    (keys_apart tx_of (members s) (distinct_pairs (map tx_of (members s)) h.distinct)) at bt same
