-- The remainder is the greatest supported set, and components are classes of it.
use Rattle.std.proofs.Common.{◌≡◌, ◌⊎◌, inl, inr, ℕ, zero, suc, List, Some, refl, sym, subst}
use Rattle.std.specs.Prelude.{◌↔◌, Contains, slice_get}
use Rattle.ent_value.specs.declared.value.Value.{Value}
use Rattle.ent_semantics.specs.declared.entangled.Atom.{Atom}
use Rattle.ent_semantics.specs.Component.{SetOfTransactions, IsIn, IsSupported, IsInRemainder, AreJoined}
use Rattle.ent_semantics.specs.Component.{AreLinkedIn, AreLinked, IsComponent}
use Rattle.ent_semantics.specs.Pool.{Posted, CanMeet}

pub within : (pool : List Posted) (among : SetOfTransactions) (member : Posted) → IsSupported pool among
    → IsIn pool among member → IsInRemainder pool member
within pool among member supported is_in = record { among = among; supported = supported; is_in = is_in }

pub itself_supported : (pool : List Posted) (asker : Posted) (index : ℕ) (post : Atom Value)
    → IsInRemainder pool asker → slice_get asker.statement.posts index ≡ Some post
    → (owner : Posted) × IsInRemainder pool owner × CanMeet asker index owner
itself_supported pool asker index post h is_post =
    let met = h.supported asker index post h.is_in is_post in
    (met.0, within pool h.among met.0 h.supported met.1, met.2)

pub joined_back : (first second : Posted) → AreJoined first second → AreJoined second first
joined_back first second (index, inl meets) = (index, inr meets)
joined_back first second (index, inr meets) = (index, inl meets)

-- one step more at the end
pub linked_end : (pool : List Posted) (n : ℕ) (first last next : Posted) → AreLinkedIn n pool first last
    → AreJoined last next → IsInRemainder pool next → AreLinkedIn (suc n) pool first next
linked_end pool zero first last next same joined remains =
    (next, subst (λ z. AreJoined z next) (sym same) joined, remains, refl)
linked_end pool (suc n) first last next (middle, one, remain, rest) joined remains =
    (middle, one, remain, linked_end pool n middle last next rest joined remains)

linked_on : (n m : ℕ) (pool : List Posted) (first middle last : Posted)
    → AreLinkedIn n pool first middle → AreLinkedIn m pool middle last → AreLinked pool first last
linked_on zero m pool first middle last h k = (m, subst (λ x. AreLinkedIn m pool x last) (sym h) k)
linked_on (suc n) m pool first middle last h k =
    let rest = linked_on n m pool h.0 middle last h.3 k in
    (suc rest.0, (h.0, h.1, h.2, rest.1))

linked : (pool : List Posted) (first middle last : Posted)
    → AreLinked pool first middle → AreLinked pool middle last → AreLinked pool first last
linked pool first middle last h k = linked_on h.0 k.0 pool first middle last h.1 k.1

linked_back : (n : ℕ) (pool : List Posted) (first last : Posted) → IsInRemainder pool first
    → AreLinkedIn n pool first last → AreLinked pool last first
linked_back zero pool first last within h = (zero, sym h)
linked_back (suc n) pool first last within h =
    linked pool last h.0 first (linked_back n pool h.0 last h.2 h.3)
    (suc zero, (first, joined_back first h.0 h.1, within, refl))

over : (pool members others : List Posted) (shared member : Posted) → IsComponent pool members
    → IsComponent pool others → Contains members shared → Contains others shared
    → Contains members member → Contains others member
over pool members others shared member one other h k there =
    let from_one = (one.class shared).0 h in
    let from_other = (other.class shared).0 k in
    let found = (one.class member).0 there in
    let back = linked_back from_one.1.0 pool one.first shared one.in_remainder from_one.1.1 in
    (other.class member).1 (
      found.0,
      linked pool other.first shared member from_other.1 (linked pool shared one.first member back found.1),
    )

pub one_class : (pool members others : List Posted) (shared member : Posted) → IsComponent pool members
    → IsComponent pool others → Contains members shared → Contains others shared
    → Contains members member ↔ Contains others member
one_class pool members others shared member one other h k =
    (over pool members others shared member one other h k, over pool others members shared member other one k h)
