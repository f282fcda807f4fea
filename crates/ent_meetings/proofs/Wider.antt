-- Wider sets.
use Rattle.std.proofs.Common.{◌≡◌, ◌≢◌, ◌<◌, ◌≤◌, ℕ, Bool, true, false, cond, List, [], ◌∷◌, Option, None, Some, All}
use Rattle.std.proofs.Common.{Contains, IfSome, refl, ap, subst, ◌∙◌}
use Rattle.std.proofs.Common.{◌⊎◌, inl, inr, arith, count_by}
use Rattle.std.specs.List.{flat_map}
use Rattle.std.specs.List.Sorted.{IsNonDecreasing, IsPermutation}
use Rattle.std.proofs.lemmas.Bool.Decides.{Decides-eqb}
use Rattle.std.proofs.lemmas.List.Kept.{AllPairs-from_increasing}
use Rattle.std.proofs.lemmas.List.Sorted.{IsPermutation-sym, length_permutation}
use Rattle.std.proofs.lemmas.List.Sums.{sum_by-cons}
use Rattle.std.proofs.lemmas.Map.Keys.{IsStrictlyIncreasing-from_distinct}
use Rattle.std.proofs.lemmas.Map.Made.{IsDistinct-from_AllPairs}
use Rattle.ent_lists.specs.Elements.{In, any_in, contains_in, in_contains, in_flat, index_pairs, pairs_by, pairs_index}
use Rattle.ent_lists.specs.Elements.{to_flat}
use Rattle.ent_lists.proofs.Lists.{of_index, index_all}
use Rattle.ent_meetings.specs.PartyMeeting.{IsClear, IsClosed, MeetAll, is_met, offers, ways}
use Rattle.ent_meetings.specs.Pattern.{may_meet}
use Rattle.ent_meetings.specs.declared.party.Party.{Party}
use Rattle.ent_meetings.specs.declared.pattern.Pattern.{Pattern}
use Rattle.ent_meetings.specs.Gathering.{IsRunnable}
use Rattle.ent_meetings.specs.Group.{demands_of}
use Rattle.ent_meetings.specs.Meeting.{IsClearMeeting, IsMeeting}
use Rattle.ent_meetings.specs.Waiting.{Waiting, Waits, named, party_at}
use Rattle.ent_meetings.specs.Widening.{IsServed, IsWidened}
use Rattle.ent_meetings.proofs.Taking.{distinct_permuted, met_more, within_permuted}
use Rattle.ent_meetings.proofs.Waiters.{closed_meets, demanded_more, of_named, to_named, within, within_both, within_by}
use Rattle.ent_meetings.proofs.Ways.{clear_ways, ways_permuted}

module _ (waiting : Waiting) where
  pub widened_not : (tickets : List ℕ) → IsWidened waiting tickets tickets
  widened_not tickets = record {
    kept = within_by tickets tickets (λ ticket at. at);
    ways = index_all (λ (d : Pattern). ways (named waiting tickets) d ≡ ways (named waiting tickets) d)
        (demands_of (named waiting tickets)) (λ demand at. refl);
    others = index_all (λ (t : ℕ). Contains tickets t ⊎ IsServed waiting tickets t) tickets
        (λ ticket at. inl (in_contains tickets ticket at));
  }

  -- in another order
  pub widened_permuted : (one other : List ℕ) → IsPermutation one other → IsWidened waiting one other
  widened_permuted one other moved = record {
    kept = within_permuted one other moved;
    ways = index_all (λ (d : Pattern). ways (named waiting other) d ≡ ways (named waiting one) d)
        (demands_of (named waiting one)) (λ demand at. ways_permuted waiting one other demand moved);
    others = index_all (λ (t : ℕ). Contains one t ⊎ IsServed waiting other t) other (λ ticket at.
        inl (in_contains one ticket
        (within other one ticket (within_permuted other one (IsPermutation-sym one other moved)) at)));
  }

  module _ (one mid last : List ℕ) (first : IsWidened waiting one mid) (second : IsWidened waiting mid last) where
    still_served : (ticket : ℕ) → In ticket mid → IsServed waiting mid ticket → IsServed waiting last ticket
    still_served ticket at served =
        record { waits = served.waits; once = by (party_at waiting ticket) refl served.once }
      where
        by : (who : Option Party) → party_at waiting ticket ≡ who
            → IfSome who (λ (party : Party). All (λ (d : Pattern). ways (named waiting mid) d ≡ 1) party.demands)
            → IfSome who (λ (party : Party). All (λ (d : Pattern). ways (named waiting last) d ≡ 1) party.demands)
        by None is once = once
        by (Some party) is once =
            index_all (λ (d : Pattern). ways (named waiting last) d ≡ 1) party.demands (λ demand there.
            of_index (λ (d : Pattern). ways (named waiting last) d ≡ ways (named waiting mid) d)
            (demands_of (named waiting mid)) demand second.ways
            (to_flat (λ (p : Party). p.demands) (named waiting mid) party demand
            (to_named (party_at waiting) mid ticket party at is) there)
            ∙ of_index (λ (d : Pattern). ways (named waiting mid) d ≡ 1) party.demands demand once there)

    -- one after the other
    pub widened_both : IsWidened waiting one last
    widened_both = record {
      kept = within_both one mid last first.kept second.kept;
      ways = index_all (λ (d : Pattern). ways (named waiting last) d ≡ ways (named waiting one) d)
          (demands_of (named waiting one)) (λ demand at.
          of_index (λ (d : Pattern). ways (named waiting last) d ≡ ways (named waiting mid) d)
          (demands_of (named waiting mid)) demand second.ways (demanded_more waiting one mid demand first.kept at)
          ∙ of_index (λ (d : Pattern). ways (named waiting mid) d ≡ ways (named waiting one) d)
          (demands_of (named waiting one)) demand first.ways at);
      others = index_all (λ (t : ℕ). Contains one t ⊎ IsServed waiting last t) last (λ ticket at.
          elim (of_index (λ (t : ℕ). Contains mid t ⊎ IsServed waiting last t) last ticket second.others at) [
            | inl there ↦ elim (of_index (λ (t : ℕ). Contains one t ⊎ IsServed waiting mid t) mid ticket first.others
                (contains_in mid ticket there)) [
                  | inl before ↦ inl before
                  | inr served ↦ inr (still_served ticket (contains_in mid ticket there) served)
                ]
            | inr served ↦ inr served
          ]);
    }

-- what is counted is there
counted_some : {X : Type 0} (p : X → Bool) (xs : List X) → 1 ≤ count_by p xs → (x : X) × In x xs × (p x ≡ true)
counted_some p [] some = absurd (omega (arith, some))
counted_some {X} p (x ∷ xs) some = by (p x) refl (counted_some p xs)
  where
    by : (b : Bool) → p x ≡ b → (1 ≤ count_by p xs → (y : X) × In y xs × (p y ≡ true))
        → (y : X) × In y (x ∷ xs) × (p y ≡ true)
    by true is more = (x, inl refl, is)
    by false is more =
        let here : cond {A = ℕ} (p x) 1 0 ≡ 0 = ap (λ (c : Bool). cond c 1 0) is in
        let all = sum_by-cons (λ y. cond (p y) 1 0) x xs in
        let rest = more (omega arith) in
        (rest.0, inr rest.1, rest.2)

-- what is met in some way is met
pub ways_met : (parties : List Party) (demand : Pattern) → 1 ≤ ways parties demand → is_met parties demand ≡ true
ways_met parties demand some =
    let offer = counted_some (may_meet demand) (flat_map (λ (p : Party). p.offers) parties) some in
    let party = in_flat (λ (p : Party). p.offers) parties offer.0 offer.1 in
    any_in (offers demand) parties party.0 party.1 (any_in (may_meet demand) party.0.offers offer.0 party.2 offer.2)

module _ (waiting : Waiting) (root : ℕ) (meeting wider : List ℕ) (widened : IsWidened waiting meeting wider) where
  -- each demand of the wider set is of somebody of the meeting, or of somebody who is served
  each : (P : Pattern → Type 0) → ((demand : Pattern) → In demand (demands_of (named waiting meeting)) → P demand)
      → ((demand : Pattern) → ways (named waiting wider) demand ≡ 1 → P demand)
      → (party : Party) → In party (named waiting wider) → (demand : Pattern) → In demand party.demands → P demand
  each P old new party at demand there =
      let who = of_named (party_at waiting) wider party at in
      elim (of_index (λ (t : ℕ). Contains meeting t ⊎ IsServed waiting wider t) wider who.0 widened.others who.1) [
        | inl before ↦ old demand (to_flat (λ (p : Party). p.demands) (named waiting meeting) party demand
            (to_named (party_at waiting) meeting who.0 party (contains_in meeting who.0 before) who.2) there)
        | inr served ↦ new demand (of_index (λ (d : Pattern). ways (named waiting wider) d ≡ 1) party.demands demand
            (subst (λ (o : Option Party). IfSome o (λ (p : Party).
            All (λ (d : Pattern). ways (named waiting wider) d ≡ 1) p.demands)) who.2 served.once) there)
      ]

  module _ (meets : IsMeeting waiting root meeting) where
    closed : IsClosed (named waiting wider)
    closed =
        index_all (MeetAll (named waiting wider)) (named waiting wider) (λ party at.
        index_all (λ (d : Pattern). is_met (named waiting wider) d ≡ true) party.demands (λ demand there.
        each (λ d. is_met (named waiting wider) d ≡ true)
        (λ d asked. met_more waiting meeting wider d widened.kept
        (closed_meets (named waiting meeting) d meets.stands.closed asked))
        (λ d one. ways_met (named waiting wider) d (omega arith)) party at demand there))

    pub wider_meets : IsNonDecreasing wider → IsRunnable wider → IsMeeting waiting root wider
    wider_meets rises runnable = record {
      stands = record {
        waits = index_all (Waits waiting) wider (λ ticket at.
            elim (of_index (λ (t : ℕ). Contains meeting t ⊎ IsServed waiting wider t) wider ticket widened.others at) [
              | inl before ↦
                  of_index (Waits waiting) meeting ticket meets.stands.waits (contains_in meeting ticket before)
              | inr served ↦ served.waits
            ]);
        has_root = in_contains wider root (within meeting wider root widened.kept
            (contains_in meeting root meets.stands.has_root));
        closed = closed;
      };
      by_arrival = IsStrictlyIncreasing-from_distinct wider rises
          (IsDistinct-from_AllPairs Decides-eqb wider (pairs_index (λ (a b : ℕ). a ≢ b) wider runnable.distinct));
      bound = runnable.bound;
    }

  -- a clear set stays clear
  pub wider_clear : IsClear (named waiting meeting) → IsClear (named waiting wider)
  wider_clear clear =
      index_all (λ (p : Party). All (λ (d : Pattern). ways (named waiting wider) d ≡ 1) p.demands) (named waiting wider)
      (λ party at.
      index_all (λ (d : Pattern). ways (named waiting wider) d ≡ 1) party.demands (λ demand there.
      each (λ d. ways (named waiting wider) d ≡ 1)
      (λ d asked.
      of_index (λ (e : Pattern). ways (named waiting wider) e ≡ ways (named waiting meeting) e)
      (demands_of (named waiting meeting)) d widened.ways asked ∙ clear_ways (named waiting meeting) d clear asked)
      (λ d one. one) party at demand there))

-- what a set was widened to, in order
pub record IsOrdered (waiting : Waiting) (tickets sorted : List ℕ) : Type 0 where
  pub widened : IsWidened waiting tickets sorted
  pub rises : IsNonDecreasing sorted
  pub runnable : IsRunnable tickets → IsRunnable sorted

pub ordered : (waiting : Waiting) (tickets mid sorted slice : List ℕ) → IsWidened waiting tickets mid
    → (IsRunnable tickets → IsRunnable mid) → slice ≡ mid → IsPermutation slice sorted → IsNonDecreasing sorted
    → IsOrdered waiting tickets sorted
ordered waiting tickets mid sorted slice widened runnable is same rises =
    let moved : IsPermutation mid sorted = subst (λ (xs : List ℕ). IsPermutation xs sorted) is same in
    record {
      widened = widened_both waiting tickets mid sorted widened (widened_permuted waiting mid sorted moved);
      rises = rises;
      runnable = λ before.
          let there = runnable before in
          let bound = there.bound in
          record {
            distinct = distinct_permuted mid sorted moved there.distinct;
            bound = omega (arith, length_permutation mid sorted moved);
          };
    }

-- a meeting's tickets differ, and are no more than a run can have
pub meeting_runs : (waiting : Waiting) (root : ℕ) (tickets : List ℕ) → IsMeeting waiting root tickets
    → IsRunnable tickets
meeting_runs waiting root tickets meets = record {
  distinct = pairs_by (λ (one other : ℕ). one < other) (λ (one other : ℕ). one ≢ other) tickets
      (λ one other low same. absurd (omega (arith, low, same)))
      (index_pairs (λ (one other : ℕ). one < other) tickets (AllPairs-from_increasing tickets meets.by_arrival));
  bound = meets.bound;
}

module _ (waiting : Waiting) (root : ℕ) (tickets sorted : List ℕ) (is : IsOrdered waiting tickets sorted) where
  pub meets_still : IsMeeting waiting root tickets → IsMeeting waiting root sorted
  meets_still meets =
      wider_meets waiting root tickets sorted is.widened meets is.rises
      (is.runnable (meeting_runs waiting root tickets meets))

  pub clear_still : IsClearMeeting waiting root tickets → IsClearMeeting waiting root sorted
  clear_still clear = record {
    meets = meets_still clear.meets;
    clear = wider_clear waiting root tickets sorted is.widened clear.clear;
  }
