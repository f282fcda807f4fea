-- The members of a run, by number.
use Rattle.std.proofs.Common.{◌≡◌, ◌↔◌, ◌<◌, inl, inr, ℕ, true, List, map}
use Rattle.std.proofs.Common.{length, ap, subst, ◌∙◌, AllPairs, Contains}
use Rattle.std.proofs.lemmas.List.{length-map}
use Rattle.ent_protocol.specs.Lookup.{running_members}
use Rattle.ent_protocol.specs.Rollback.{is_among}
use Rattle.ent_protocol.specs.State.{State, Member, members, by_number}
use Rattle.ent_protocol.specs.Tidy.{is_member}
use Rattle.ent_protocol_laws.specs.ByNumber.{StandByNumber}
use Rattle.ent_lists.specs.Elements.{In, Pairs, in_first, in_second}
use Rattle.ent_lists.specs.Elements.{or_cases, to_map, of_map, pairs_index}
use Rattle.ent_lists.specs.Elements.{contains_in, in_contains, distinct_pairs}
use Rattle.ent_protocol_laws.specs.Numbered.{Apart, from_by_number, to_by_number, by_number_ascends, by_number_long}
use Rattle.ent_protocol_laws.specs.Numbered.{keys_apart, keys_ascend}
use Rattle.ent_protocol_laws.proofs.Left.{tx_of}
use Rattle.ent_protocol_laws.proofs.Members.{among_in, is_in_run}

-- ---- by number

pub members_apart : (s : State) → StandByNumber s → Pairs (Apart tx_of) (members s)
members_apart s h = keys_apart tx_of (members s) (distinct_pairs (map tx_of (members s)) h.distinct)

pub numbers_ascend : (s : State) → StandByNumber s → AllPairs (λ (one other : ℕ). one < other) (running_members s)
numbers_ascend s h =
    pairs_index (λ (one other : ℕ). one < other) (running_members s)
    (keys_ascend tx_of (by_number tx_of (members s)) (by_number_ascends tx_of (members s) (members_apart s h)))

pub as_many : (s : State) → length (running_members s) ≡ length (members s)
as_many s = length-map (by_number tx_of (members s)) tx_of ∙ by_number_long tx_of (members s)

pub is_running : (s : State) (m : Member) → In m (members s) → In m.tx (running_members s)
is_running s m at =
    to_map tx_of (by_number tx_of (members s)) m (to_by_number tx_of (members s) m at)

in_members : (s : State) (ms : List Member) (tx : ℕ) → ((m : Member) → In m ms → In m (members s))
    → is_among ms tx ≡ true → In tx (running_members s)
in_members s ms tx of_run is =
    let r = among_in ms tx is in
    subst (λ n. In n (running_members s)) r.2 (is_running s r.0 (of_run r.0 r.1))

pub are_members : (s : State) (tx : ℕ) → Contains (running_members s) tx ↔ (is_member s tx ≡ true)
are_members s tx = (
  λ there.
      let r = of_map tx_of (by_number tx_of (members s)) tx (contains_in (running_members s) tx there) in
      ap (is_member s) r.2 ∙ is_in_run s r.0 (from_by_number tx_of (members s) r.0 r.1),
  λ is. in_contains (running_members s) tx
      (elim (or_cases (is_among s.prepared tx) (is_among s.active tx) is) [
        | inl a ↦ in_members s s.prepared tx (in_first s.prepared s.active) a
        | inr b ↦ in_members s s.active tx (in_second s.prepared s.active) b
      ]),
)
