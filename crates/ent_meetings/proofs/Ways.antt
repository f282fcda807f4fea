-- How many offers of a set may meet a demand.
use Rattle.std.proofs.Common.{◌≡◌, ◌≢◌, ◌≤◌, ℕ, ◌+◌, cond, List, [], ◌∷◌, ◌++◌, Option, None, Some, All, refl, sym, ap}
use Rattle.std.proofs.Common.{subst}
use Rattle.std.proofs.Common.{◌∙◌, inl, inr, arith, sum_by, count_by}
use Rattle.std.specs.List.{cons_option, flat_map}
use Rattle.std.specs.Option.{option_map_or}
use Rattle.std.proofs.lemmas.List.Sorted.{sum_by-IsPermutation}
use Rattle.std.proofs.lemmas.List.Sums.{sum_by-append, sum_by-cons}
use Rattle.std.specs.List.Sorted.{IsPermutation}
use Rattle.ent_lists.specs.Elements.{In, Pairs, in_either, in_first, in_second, in_flat, of_all}
use Rattle.ent_lists.proofs.Lists.{of_index}
use Rattle.ent_meetings.specs.PartyMeeting.{IsClear, ways}
use Rattle.ent_meetings.specs.Pattern.{may_meet}
use Rattle.ent_meetings.specs.declared.party.Party.{Party}
use Rattle.ent_meetings.specs.declared.pattern.Pattern.{Pattern}
use Rattle.ent_meetings.specs.Group.{demands_of}
use Rattle.ent_meetings.specs.Meeting.{IsWithin}
use Rattle.ent_meetings.specs.Waiting.{Waiting, named, party_at}
use Rattle.ent_meetings.proofs.Waiters.{within}

-- an element of a list, with what is before and behind it
record Split {X : Type 0} (x : X) (xs : List X) : Type 0 where
  front : List X
  back : List X
  is : xs ≡ front ++ x ∷ back

split : {X : Type 0} (x : X) (xs : List X) → In x xs → Split x xs
split x [] at = absurd at
split x (y ∷ ys) (inl same) =
    record { front = []; back = ys; is = ap (λ z. z ∷ ys) (sym same) }
split x (y ∷ ys) (inr at) =
    let rest = split x ys at in
    record { front = y ∷ rest.front; back = rest.back; is = ap (λ zs. y ∷ zs) rest.is }

-- distinct numbers weigh no more than those among which they are
pub weighs_less : (weight : ℕ → ℕ) (xs ys : List ℕ) → Pairs (λ (one other : ℕ). one ≢ other) xs
    → ((x : ℕ) → In x xs → In x ys) → sum_by weight xs ≤ sum_by weight ys
weighs_less weight [] ys distinct among = omega arith
weighs_less weight (x ∷ xs) ys distinct among =
    let parts = split x ys (among x (inl refl)) in
    let rest : sum_by weight xs ≤ sum_by weight (parts.front ++ parts.back) =
    weighs_less weight xs (parts.front ++ parts.back) distinct.1 (λ y at.
    elim (in_either parts.front (x ∷ parts.back) y (subst (In y) parts.is (among y (inr at)))) [
      | inl a ↦ in_first parts.front parts.back y a
      | inr b ↦ elim b [
        | inl same ↦ absurd (of_all (λ z. x ≢ z) xs y distinct.0 at (sym same))
        | inr c ↦ in_second parts.front parts.back y c
      ]
    ]) in
    let all : sum_by weight ys ≡ sum_by weight parts.front + (weight x + sum_by weight parts.back) =
    ap (sum_by weight) parts.is ∙ sum_by-append weight parts.front (x ∷ parts.back)
    ∙ ap (λ (n : ℕ). sum_by weight parts.front + n) (sum_by-cons weight x parts.back) in
    omega (arith, rest, all, sum_by-append weight parts.front parts.back, sum_by-cons weight x xs)

-- how many offers of who waits under a ticket may meet the demand
weight : Waiting → Pattern → ℕ → ℕ
weight waiting demand ticket =
    option_map_or (λ (party : Party). count_by (may_meet demand) party.offers) (party_at waiting ticket) 0

ways_weigh : (waiting : Waiting) (demand : Pattern) (tickets : List ℕ)
    → ways (named waiting tickets) demand ≡ sum_by (weight waiting demand) tickets
unfolding weight
ways_weigh waiting demand [] = refl
ways_weigh waiting demand (ticket ∷ tickets) =
    by (party_at waiting ticket) (ways_weigh waiting demand tickets)
    ∙ sym (sum_by-cons (weight waiting demand) ticket tickets)
  where
    by : (who : Option Party) → ways (named waiting tickets) demand ≡ sum_by (weight waiting demand) tickets
        → count_by (may_meet demand) (flat_map (λ (party : Party). party.offers)
        (cons_option who (named waiting tickets)))
        ≡ option_map_or (λ (party : Party). count_by (may_meet demand) party.offers) who 0
        + sum_by (weight waiting demand) tickets
    by None rest = omega (arith, rest)
    by (Some party) rest =
        sum_by-append (λ offer. cond (may_meet demand offer) 1 0) party.offers
        (flat_map (λ (other : Party). other.offers) (named waiting tickets))
        ∙ ap (λ (n : ℕ). count_by (may_meet demand) party.offers + n) rest

-- distinct tickets have no more ways than those among which they are
pub ways_more : (waiting : Waiting) (one others : List ℕ) (demand : Pattern) → Pairs (λ (a b : ℕ). a ≢ b) one
    → IsWithin one others → ways (named waiting one) demand ≤ ways (named waiting others) demand
ways_more waiting one others demand distinct all =
    let less = weighs_less (weight waiting demand) one others distinct (λ x at. within one others x all at) in
    let here = ways_weigh waiting demand one in
    let there = ways_weigh waiting demand others in
    omega arith

-- in another order they have as many
pub ways_permuted : (waiting : Waiting) (one other : List ℕ) (demand : Pattern) → IsPermutation one other
    → ways (named waiting other) demand ≡ ways (named waiting one) demand
ways_permuted waiting one other demand moved =
    ways_weigh waiting demand other ∙ sum_by-IsPermutation (weight waiting demand) one other moved
    ∙ sym (ways_weigh waiting demand one)

-- what is demanded in a clear set is met in one way
pub clear_ways : (parties : List Party) (demand : Pattern) → IsClear parties → In demand (demands_of parties)
    → ways parties demand ≡ 1
clear_ways parties demand clear at =
    let from = in_flat (λ (party : Party). party.demands) parties demand at in
    of_index (λ (d : Pattern). ways parties d ≡ 1) from.0.demands demand
    (of_index (λ (party : Party). All (λ (d : Pattern). ways parties d ≡ 1) party.demands) parties from.0 clear from.1)
    from.2
