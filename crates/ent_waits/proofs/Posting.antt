-- Posted statements: whose they are, and when the pool stays safe with one more.
use Rattle.std.proofs.Common.{◌≡◌, ◌↔◌, ◌⊎◌, inl, inr, ℕ, Bool, true, false, not, List, [], ◌∷◌, ◌++◌, map}
use Rattle.std.proofs.Common.{Option, Some, None, refl, sym, ap, ◌∙◌, subst, arith, true≢false}
use Rattle.std.specs.Prelude.{Contains, IsTrue, MatchOption, nat_eq}
use Rattle.std.specs.List.{IsDistinct}
use Rattle.std.specs.Option.{is_some}
use Rattle.std.proofs.lemmas.List.Elements.{Contains-push_cases}
use Rattle.ent_value.specs.declared.value.Value.{Value}
use Rattle.ent_semantics.specs.declared.entangled.Entangled.{Entangled}
use Rattle.ent_semantics.specs.Pool.{Posted, CanMeet, IsFirstUnsafe, IsSafe, IsUnsafeAt, Unsafe}
use Rattle.ent_lists.specs.Elements.{contains_in, in_contains}
use Rattle.ent_match.specs.Fault.{IsByNumber}
use Rattle.ent_match.specs.Posting.{HasNone}
use Rattle.ent_protocol.specs.Begin.{pool_with}
use Rattle.ent_protocol.specs.Member.{pool, posted_as}
use Rattle.ent_protocol.specs.PostedBy.{in_pool}
use Rattle.ent_protocol.specs.State.{State, Member}
use Rattle.ent_members.specs.Order.{tx_of}
use Rattle.ent_run.proofs.Locked.{one_member}
use Rattle.ent_match.specs.Place.{HasNoneOf}
use Rattle.ent_waits.proofs.Numbered.{same_member}

-- ---- whose posted statements are

-- of a member that isn't posted none of the posted statements is
pub none_of_unposted : (s : State) → IsDistinct nat_eq (map tx_of s.active) → (member : Member)
    → Contains s.active member → member.posted ≡ false → HasNoneOf (pool s) member.tx
none_of_unposted s distinct member active unposted query there own =
    let r = in_pool s query (contains_in (pool s) query there) in
    let same : r.member ≡ member =
    one_member s.active distinct r.member member (in_contains s.active r.member r.at) active (sym r.own ∙ own) in
    true≢false (sym r.by.posted ∙ (ap (λ (m : Member). m.posted) same ∙ unposted))

-- ---- one statement more

pub has_none : (posted : List Posted) (query : Posted) (tx : ℕ) → query.tx ≡ tx → HasNoneOf posted tx
    → HasNone posted query
has_none posted query tx is none other there same = none other there (same ∙ is)

-- two statements of one transaction are one
one_of_each : (pool : List Posted) (last : Posted) → IsByNumber pool → HasNone pool last → (x y : Posted)
    → Contains (pool ++ last ∷ []) x → Contains (pool ++ last ∷ []) y → x.tx ≡ y.tx → x ≡ y
one_of_each pool last ascends none x y at_x at_y same =
    by (Contains-push_cases pool last x at_x) (Contains-push_cases pool last y at_y)
  where
    by : Contains pool x ⊎ (last ≡ x) → Contains pool y ⊎ (last ≡ y) → x ≡ y
    by (inl in_x) (inl in_y) = same_member (λ (p : Posted). p.tx) pool ascends x y in_x in_y same
    by (inl in_x) (inr is_y) = absurd (none x in_x (same ∙ sym (ap (λ (p : Posted). p.tx) is_y)))
    by (inr is_x) (inl in_y) = absurd (none y in_y (sym same ∙ sym (ap (λ (p : Posted). p.tx) is_x)))
    by (inr is_x) (inr is_y) = sym is_x ∙ is_y

-- a pool with an unsafe post isn't safe
not_safe : (pool : List Posted) (last : Posted) → IsByNumber pool → HasNone pool last → (fault : Unsafe)
    → IsUnsafeAt (pool ++ last ∷ []) fault → IsSafe (pool ++ last ∷ []) → ⊥
not_safe pool last ascends none fault (below, one, other) safe =
    let same : one.asker ≡ other.asker =
    one_of_each pool last ascends none one.asker other.asker one.asks other.asks (one.asker_is ∙ sym other.asker_is) in
    let met : CanMeet one.asker fault.index other.partner =
    subst (λ (p : Posted). CanMeet p fault.index other.partner) (sym same) other.meets in
    let alike : one.partner.tx ≡ other.partner.tx =
    safe one.asker one.partner other.partner fault.index one.asks one.offers other.offers one.meets met in
    let first = one.partner_is in
    let second = other.partner_is in
    omega (arith, below, alike, first, second)

-- the pool is safe where nothing is in conflict
pub fault_tells : (posted : List Posted) (query : Posted) → IsByNumber posted
    → HasNone posted query → (fault : Option Unsafe) (none_is : Bool)
    → is_some fault ≡ not none_is
    → MatchOption fault (IsSafe (posted ++ query ∷ [])) (IsFirstUnsafe (posted ++ query ∷ []))
    → IsTrue none_is ↔ IsSafe (posted ++ query ∷ [])
fault_tells posted query ascends none None true is safe = (λ yes. safe, λ really. refl)
fault_tells posted query ascends none None false is safe = absurd (true≢false (sym is))
fault_tells posted query ascends none (Some fault) true is first = absurd (true≢false is)
fault_tells posted query ascends none (Some fault) false is first = (
  λ bad. absurd (true≢false (sym bad)),
  λ safe. absurd (not_safe posted query ascends none fault first.0 safe),
)

-- the pool of a state with a member's statement
pub pool_is : (s : State) (posted : List Posted) (query : Posted) (member : Member) (statement : Entangled Value)
    → pool s ≡ posted
    → query ≡ posted_as member statement
    → posted ++ query ∷ [] ≡ pool_with s member statement
pool_is s posted query member statement same is = λ i. sym same i ++ is i ∷ []
