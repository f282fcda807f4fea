-- What holds of a pool holds of every other one of the same statements.
use Rattle.std.proofs.Common.{ℕ, zero, suc, List}
use Rattle.ent_semantics.specs.Component.{IsComponent, IsIn, IsInRemainder, IsSupported, AreLinked, AreLinkedIn}
use Rattle.ent_semantics.specs.Component.{SetOfTransactions}
use Rattle.ent_semantics.specs.Pool.{Posted, IsSafe, Unsafe, HasHeadFor, IsUnsafeAt, IsFirstUnsafe}
use Rattle.ent_match.specs.Same.{SameStatements}

turned : (pool other : List Posted) → SameStatements pool other → SameStatements other pool
turned pool other alike = λ member. ((alike member).1, (alike member).0)

pub alike_safe : (pool other : List Posted) → SameStatements pool other → IsSafe pool → IsSafe other
alike_safe pool other alike safe = λ asker first second index asks offers too meets meets_too.
    safe asker first second index ((alike asker).1 asks) ((alike first).1 offers) ((alike second).1 too) meets meets_too

alike_head : (pool other : List Posted) (tx index owner : ℕ) → SameStatements pool other
    → HasHeadFor pool tx index owner → HasHeadFor other tx index owner
alike_head pool other tx index owner alike has =
    record {
      asker = has.asker;
      asks = (alike has.asker).0 has.asks;
      asker_is = has.asker_is;
      partner = has.partner;
      offers = (alike has.partner).0 has.offers;
      partner_is = has.partner_is;
      meets = has.meets;
    }

alike_unsafe : (pool other : List Posted) (fault : Unsafe) → SameStatements pool other → IsUnsafeAt pool fault
    → IsUnsafeAt other fault
alike_unsafe pool other fault alike is = (
  is.0,
  alike_head pool other fault.asker fault.index fault.first alike is.1,
  alike_head pool other fault.asker fault.index fault.second alike is.2,
)

pub alike_first_unsafe : (pool other : List Posted) (fault : Unsafe) → SameStatements pool other
    → IsFirstUnsafe pool fault → IsFirstUnsafe other fault
alike_first_unsafe pool other fault alike is = (
  alike_unsafe pool other fault alike is.0,
  λ another unsafe. is.1 another (alike_unsafe other pool another (turned pool other alike) unsafe),
)

alike_in : (pool other : List Posted) (among : SetOfTransactions) (member : Posted) → SameStatements pool other
    → IsIn pool among member → IsIn other among member
alike_in pool other among member alike is = ((alike member).0 is.0, is.1)

alike_supported : (pool other : List Posted) (among : SetOfTransactions) → SameStatements pool other
    → IsSupported pool among → IsSupported other among
alike_supported pool other among alike supported = λ asker index post is there.
    let met = supported asker index post (alike_in other pool among asker (turned pool other alike) is) there in
    (met.0, alike_in pool other among met.0 alike met.1, met.2)

alike_remainder : (pool other : List Posted) (member : Posted) → SameStatements pool other → IsInRemainder pool member
    → IsInRemainder other member
alike_remainder pool other member alike is =
    record {
      among = is.among;
      supported = alike_supported pool other is.among alike is.supported;
      is_in = alike_in pool other is.among member alike is.is_in;
    }

alike_linked_in : (n : ℕ) (pool other : List Posted) (first last : Posted) → SameStatements pool other
    → AreLinkedIn n pool first last → AreLinkedIn n other first last
alike_linked_in zero pool other first last alike linked = linked
alike_linked_in (suc n) pool other first last alike linked = (
  linked.0,
  linked.1,
  alike_remainder pool other linked.0 alike linked.2,
  alike_linked_in n pool other linked.0 last alike linked.3,
)

alike_linked : (pool other : List Posted) (first last : Posted) → SameStatements pool other → AreLinked pool first last
    → AreLinked other first last
alike_linked pool other first last alike linked =
    (linked.0, alike_linked_in linked.0 pool other first last alike linked.1)

pub alike_component : (pool other members : List Posted) → SameStatements pool other → IsComponent pool members
    → IsComponent other members
alike_component pool other members alike is =
    let back = turned pool other alike in
    record {
      first = is.first;
      in_remainder = alike_remainder pool other is.first alike is.in_remainder;
      class = λ member. (
        λ there. (
          alike_remainder pool other member alike ((is.class member).0 there).0,
          alike_linked pool other is.first member alike ((is.class member).0 there).1,
        ),
        λ linked. (is.class member).1 (
          alike_remainder other pool member back linked.0,
          alike_linked other pool is.first member back linked.1,
        ),
      );
      ascending = is.ascending;
    }
