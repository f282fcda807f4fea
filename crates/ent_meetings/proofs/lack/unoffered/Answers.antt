use Rattle.std.proofs.Common.{◌≡◌, ◌<◌, ◌≤◌, ◌+◌, ℕ, List, [], ◌∷◌, ◌++◌, length, take, get_or, Some, All, sym, ap}
use Rattle.std.proofs.Common.{subst, ◌∙◌, inl, inr, arith}
use Rattle.std.proofs.lemmas.List.{take_all, take_more}
use Rattle.ent_lists.specs.Elements.{In, clash, contains_in, in_either, nth_in, to_flat}
use Rattle.ent_lists.proofs.Lists.{of_index, index_all}
use Rattle.ent_meetings.specs.declared.party.Party.{Party}
use Rattle.ent_meetings.specs.declared.pattern.Pattern.{Pattern}
use Rattle.ent_meetings.specs.Lack.{IsOffered, IsUnoffered}
use Rattle.ent_meetings.specs.Meeting.{IsLonely}
use Rattle.ent_meetings.specs.Waiting.{Waiting, named, offers_at, party_at}
use Rattle.ent_meetings.proofs.Waiters.{closed_meets, giver_of, to_named}
use Rattle.ent_meetings.proofs.lack.unoffered.Goals as goal

-- who demands what nobody may offer stands in no closed set
lonely : (waiting : Waiting) (party : Party) (demand : Pattern) → In demand party.demands → IsUnoffered waiting demand
    → (root : ℕ) → party_at waiting root ≡ Some party → IsLonely waiting root
lonely waiting party demand there nobody root is tickets stands =
    let giver = giver_of waiting tickets demand
    (closed_meets (named waiting tickets) demand stands.closed
    (to_flat (λ (p : Party). p.demands) (named waiting tickets) party demand
    (to_named (party_at waiting) tickets root party (contains_in tickets root stands.has_root) is) there)) in
    clash (offers_at waiting demand giver.0) giver.2 (nobody giver.0)

module _ (demands slice : List Pattern) (place : ℕ) (demand : Pattern) (same : slice ≡ demands)
    (low : place < length slice)
    (is : demand ≡ get_or slice place demand) where
  among : In demand demands
  among = subst (In demand) same (subst (λ (d : Pattern). In d slice) (sym is) (nth_in slice place demand low))

  one_more : (waiting : Waiting) → IsOffered waiting demand → All (IsOffered waiting) (take place demands)
      → All (IsOffered waiting) (take (place + 1) demands)
  one_more waiting offered before =
      subst (All (IsOffered waiting)) (sym (ap (take (place + 1)) (sym same) ∙ take_more slice place demand low))
      (index_all (IsOffered waiting) (take place slice ++ get_or slice place demand ∷ []) (λ d there.
      elim (in_either (take place slice) (get_or slice place demand ∷ []) d there) [
        | inl a ↦ of_index (IsOffered waiting) (take place demands) d before
            (subst (λ (xs : List Pattern). In d (take place xs)) same a)
        | inr b ↦ elim b [
          | inl this ↦ subst (IsOffered waiting) (is ∙ sym this) offered
          | inr bad ↦ absurd bad
        ]
      ]))

pub returns-in-Nobody-clause-lonely : goal.returns-in-Nobody-clause-lonely
returns-in-Nobody-clause-lonely c told =
    let demand = c.index-demands-place.result in
    lonely c.args.index.now c.args.party.now demand
    (among c.args.party.now.demands c.as_slice-demands.result.now c.loop-place.place demand c.as_slice-demands.ensures
    c.loop-place-test.true c.index-demands-place.is)
    (λ ticket. c.in-Nobody.ensures.next ticket tt)

pub loop-place-preserved : goal.loop-place-preserved
loop-place-preserved c =
    let demand = c.index-demands-place.result in
    let before = c.loop-place.invariant in
    let fewer = before.fewer in
    let left = c.next_offerer.ensures.looks in
    record {
      offered = one_more c.args.party.now.demands c.as_slice-demands.result.now c.loop-place.place demand
          c.as_slice-demands.ensures c.loop-place-test.true c.index-demands-place.is c.args.index.now
          (c.in-Found.field-0, c.in-Found.ensures.next.1) before.offered;
      fewer = omega arith;
    }

all_taken : (waiting : Waiting) (demands slice : List Pattern) (place : ℕ) → slice ≡ demands → length slice ≤ place
    → All (IsOffered waiting) (take place demands) → All (IsOffered waiting) demands
all_taken waiting demands slice place same past before =
    subst (All (IsOffered waiting))
    (take_all place demands (subst (λ (xs : List Pattern). length xs ≤ place) same past)) before

pub returns-clause-lack : goal.returns-clause-lack
returns-clause-lack c =
    all_taken c.args.index.now c.args.party.now.demands c.as_slice-demands.result.now c.loop-place.place
    c.as_slice-demands.ensures c.loop-place-test.false c.loop-place.invariant.offered
