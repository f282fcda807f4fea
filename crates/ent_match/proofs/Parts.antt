-- What remains of a part of a pool is what remains of the pool in it, and its components are the pool's.
use Rattle.std.proofs.Common.{◌≡◌, ◌∙◌, ℕ, zero, suc, ◌<◌, List, length, get_or, refl, sym, subst, inl, true}
use Rattle.std.proofs.Common.{Decides}
use Rattle.std.specs.Prelude.{◌==◌, ◌&&◌, Contains, HoldsAt}
use Rattle.std.specs.List.{list_any}
use Rattle.std.proofs.lemmas.Bool.Decides.{Decides-and, Decides-by_or, Decides-eqb}
use Rattle.std.proofs.lemmas.List.{get_or_default}
use Rattle.ent_semantics.specs.Component.{IsComponent, IsIn, IsInRemainder}
use Rattle.ent_semantics.specs.Component.{AreLinkedIn, SetOfTransactions}
use Rattle.ent_semantics.specs.Pool.{Posted}
use Rattle.ent_semantics.proofs.Linked.{joined_back}
use Rattle.ent_match.specs.Fault.{IsByNumber}
use Rattle.ent_match.specs.Parts.{IsPart}
use Rattle.ent_match.proofs.Numbered.{same_member}

-- ---- parts

pub part_of_part : (pool rest part : List Posted) → IsPart pool rest → IsPart rest part → IsPart pool part
part_of_part pool rest part one other =
    record {
      within = λ member inside. one.within member (other.within member inside);
      joined = λ asker owner inside there joined.
          other.joined asker owner inside (one.joined asker owner (other.within asker inside) there joined) joined;
    }

-- ---- the remainder

-- of the transactions of a set those with a statement in a part
abbrev among_part : List Posted → SetOfTransactions → SetOfTransactions
among_part part among tx = among tx && list_any (λ (member : Posted). member.tx == tx) part

abbrev HasStatementOf : List Posted → ℕ → Type 0
HasStatementOf part tx = (k : ℕ) × (k < length part) × HoldsAt (λ (member : Posted). member.tx ≡ tx) part k

is_among : (part : List Posted) (among : SetOfTransactions) (tx : ℕ)
    → Decides (among_part part among tx) ((among tx ≡ true) × HasStatementOf part tx)
is_among part among tx =
    Decides-and (among tx) (list_any (λ (member : Posted). member.tx == tx) part) (λ is. is, λ is. is)
    (Decides-by_or (λ (member : Posted). member.tx == tx) (λ (member : Posted). member.tx ≡ tx)
    (list_any (λ (member : Posted). member.tx == tx)) (λ member. Decides-eqb member.tx tx) refl (λ _ _. refl) part)

has_own : (part : List Posted) (member : Posted) → Contains part member → HasStatementOf part member.tx
has_own part member (k, below, is) =
    (k, below, λ d. subst (λ (m : Posted). m.tx ≡ member.tx) (sym (get_or_default part k d member below ∙ is)) refl)

module _ (pool part : List Posted) (ordered : IsByNumber pool) (is : IsPart pool part) where
  -- the statement of a transaction that has one in the part
  own_part : (member : Posted) → Contains pool member → HasStatementOf part member.tx → Contains part member
  own_part member inside (k, below, own) =
      let other = get_or part k member in
      let there : Contains part other = (k, below, get_or_default part k other member below) in
      subst (Contains part) (same_member pool ordered other member (is.within other there) inside (own member)) there

  pub remains_in : (member : Posted) → Contains part member → IsInRemainder pool member → IsInRemainder part member
  remains_in member inside remains =
      record {
        among = remains.among;
        supported = λ asker index post asks there.
            let met = remains.supported asker index post (is.within asker asks.0, asks.1) there in
            (met.0, (is.joined asker met.0 asks.0 met.1.0 (index, inl met.2), met.1.1), met.2);
        is_in = (inside, remains.is_in.1);
      }

  pub remains_of : (member : Posted) → IsInRemainder part member → IsInRemainder pool member
  remains_of member remains =
      record {
        among = among_part part remains.among;
        supported = λ asker index post asks there.
            let both = (is_among part remains.among asker.tx).0 asks.1 in
            let met = remains.supported asker index post (own_part asker asks.0 both.1, both.0) there in
            (met.0, inside_of met.0 met.1, met.2);
        is_in = inside_of member remains.is_in;
      }
    where
      inside_of : (other : Posted) → IsIn part remains.among other → IsIn pool (among_part part remains.among) other
      inside_of other there = (
        is.within other there.0,
        (is_among part remains.among other.tx).1 (there.1, has_own part other there.0),
      )

  -- ---- components

  linked_in : (n : ℕ) (first last : Posted) → Contains part first → AreLinkedIn n pool first last
      → AreLinkedIn n part first last × Contains part last
  linked_in zero first last inside same = (same, subst (Contains part) same inside)
  linked_in (suc n) first last inside (next, joined, remains, rest) =
      let there = is.joined first next inside remains.is_in.0 joined in
      let more = linked_in n next last there rest in
      ((next, joined, remains_in next there remains, more.0), more.1)

  linked_of : (n : ℕ) (first last : Posted) → AreLinkedIn n part first last → AreLinkedIn n pool first last
  linked_of zero first last same = same
  linked_of (suc n) first last (next, joined, remains, rest) =
      (next, joined, remains_of next remains, linked_of n next last rest)

  -- what is linked to a statement of the part is in the part
  linked_back : (n : ℕ) (first last : Posted) → Contains pool first → Contains part last
      → AreLinkedIn n pool first last → Contains part first
  linked_back zero first last inside there same = subst (Contains part) (sym same) there
  linked_back (suc n) first last inside there (next, joined, remains, rest) =
      let later = linked_back n next last remains.is_in.0 there rest in
      is.joined next first later inside (joined_back first next joined)

  pub component_of : (members : List Posted) → IsComponent part members → IsComponent pool members
  component_of members own =
      let inside = own.in_remainder.is_in.0 in
      record {
        first = own.first;
        in_remainder = remains_of own.first own.in_remainder;
        class = λ member. (
          λ there.
              let both = (own.class member).0 there in
              (remains_of member both.0, (both.1.0, linked_of both.1.0 own.first member both.1.1)),
          λ both.
              let linked = linked_in both.1.0 own.first member inside both.1.1 in
              (own.class member).1 (remains_in member linked.1 both.0, (both.1.0, linked.0)),
        );
        ascending = own.ascending;
      }

  pub component_in : (members : List Posted) (shared : Posted) → IsComponent pool members → Contains members shared
      → Contains part shared → IsComponent part members
  component_in members shared whole there here =
      let to_shared = ((whole.class shared).0 there).1 in
      let inside = linked_back to_shared.0 whole.first shared whole.in_remainder.is_in.0 here to_shared.1 in
      record {
        first = whole.first;
        in_remainder = remains_in whole.first inside whole.in_remainder;
        class = λ member. (
          λ own.
              let both = (whole.class member).0 own in
              let linked = linked_in both.1.0 whole.first member inside both.1.1 in
              (remains_in member linked.1 both.0, (both.1.0, linked.0)),
          λ both.
              (whole.class member).1
              (remains_of member both.0, (both.1.0, linked_of both.1.0 whole.first member both.1.1)),
        );
        ascending = whole.ascending;
      }
