-- Members that take a joint answer.
use Rattle.std.proofs.Common.{◌≡◌, ℕ, zero, suc, ◌<◌, Bool, true, false, nat_eq, ◌==◌, if◌then◌else◌, List, []}
use Rattle.std.proofs.Common.{◌∷◌, ◌++◌, length, map, get_or, set, refl, sym, ap, subst, ◌∙◌, arith}
use Rattle.std.specs.Prelude.{None, filter}
use Rattle.std.specs.List.{IsDistinct, AllByRecursion, list_any}
use Rattle.std.proofs.lemmas.List.{set-get_or, set-set}
use Rattle.std.proofs.lemmas.Bool.{eq-eqb}
use Rattle.ent_semantics.specs.Entangled.{Valuation}
use Rattle.ent_semantics.specs.Pool.{Posted}
use Rattle.ent_protocol.specs.Member.{is_tx}
use Rattle.ent_protocol.specs.PoolEvents.{answered_among, answered_by, in_joined_group}
use Rattle.ent_protocol.specs.State.{State, Member, first_of}
use Rattle.ent_members.specs.Answered.{MemberAnswer, answer_tx}
use Rattle.ent_run.specs.Answered.{AnswerTogether, IsJoining, answered_from, answered_labels, member_answers}
use Rattle.ent_members.specs.Changes.{stepping}
use Rattle.ent_run.specs.Joined.{JoinGroups, is_one_of, labels_in}
use Rattle.ent_run.specs.Places.{found}
use Rattle.ent_members.specs.Order.{tx_of}
use Rattle.ent_run.specs.Run.{Run, with_run}
use Rattle.ent_run.proofs.JoinedGroups.{asked_labels, labels-append}
use Rattle.ent_run.proofs.OneMember.{all_at, eq_turned}

-- ---- one answer more, the last

abbrev pub AreApart : List MemberAnswer → ℕ → Type 0
AreApart given tx = AllByRecursion (λ n. nat_eq n tx ≡ false) (map answer_tx given)

all_front : (P : ℕ → Type 0) (front : List MemberAnswer) (own : MemberAnswer)
    → AllByRecursion P (map answer_tx (front ++ own ∷ [])) → AllByRecursion P (map answer_tx front) × P own.tx
all_front P [] own all = (tt, all.0)
all_front P (first ∷ front) own all =
    let rest = all_front P front own all.1 in ((all.0, rest.0), rest.1)

front_apart : (front : List MemberAnswer) (own : MemberAnswer)
    → IsDistinct nat_eq (map answer_tx (front ++ own ∷ []))
    → AreApart front own.tx × IsDistinct nat_eq (map answer_tx front)
unfolding IsDistinct
front_apart [] own distinct = (tt, tt)
front_apart (first ∷ front) own distinct =
    let rest = front_apart front own distinct.1 in
    let here = all_front (λ n. nat_eq first.tx n ≡ false) front own distinct.0 in
    ((here.1, rest.0), (here.0, rest.1))

pub last_apart : (given front : List MemberAnswer) (own : MemberAnswer) → given ≡ front ++ own ∷ []
    → IsDistinct nat_eq (map answer_tx given) → AreApart front own.tx × IsDistinct nat_eq (map answer_tx front)
last_apart given front own is distinct =
    front_apart front own (subst (λ (all : List MemberAnswer). IsDistinct nat_eq (map answer_tx all)) is distinct)

unanswered : (front : List MemberAnswer) (member : Member) → AreApart front member.tx
    → answered_from front member ≡ member
unanswered [] member apart = refl
unanswered (first ∷ front) member apart =
    ap (λ b. if b then stepping first.answer first.bound member else answered_from front member)
    (eq_turned member.tx first.tx ∙ apart.0)
    ∙ unanswered front member apart.1

its_own : (front : List MemberAnswer) (own : MemberAnswer) (member : Member) → AreApart front member.tx
    → is_tx own.tx member ≡ true
    → answered_from (front ++ own ∷ []) member ≡ stepping own.answer own.bound member
its_own [] own member apart is = ap (λ b. if b then stepping own.answer own.bound member else member) is
its_own (first ∷ front) own member apart is =
    ap (λ b. if b then stepping first.answer first.bound member else answered_from (front ++ own ∷ []) member)
    (eq_turned member.tx first.tx ∙ apart.0)
    ∙ its_own front own member apart.1 is

another : (front : List MemberAnswer) (own : MemberAnswer) (member : Member) → is_tx own.tx member ≡ false
    → answered_from front member ≡ answered_from (front ++ own ∷ []) member
another [] own member is = ap (λ b. if b then stepping own.answer own.bound member else member) (sym is)
another (first ∷ front) own member is =
    ap (λ m. if is_tx first.tx member then stepping first.answer first.bound member else m)
    (another front own member is)

others : (front : List MemberAnswer) (own : MemberAnswer) (xs : List Member)
    → AllByRecursion (λ n. (n == own.tx) ≡ false) (map tx_of xs)
    → map (answered_from front) xs ≡ map (answered_from (front ++ own ∷ [])) xs
others front own [] all = refl
others front own (x ∷ xs) all =
    λ i. another front own x all.0 i ∷ others front own xs all.1 i

turned : (tx : ℕ) (ns : List ℕ) → AllByRecursion (λ n. nat_eq tx n ≡ false) ns
    → AllByRecursion (λ n. (n == tx) ≡ false) ns
turned tx [] all = tt
turned tx (n ∷ ns) all = (eq_turned n tx ∙ all.0, turned tx ns all.1)

pub one_more : (front : List MemberAnswer) (own : MemberAnswer) (xs : List Member) (i : ℕ) (new d : Member)
    → AreApart front own.tx → IsDistinct nat_eq (map tx_of xs) → i < length xs → (get_or xs i d).tx ≡ own.tx
    → new ≡ stepping own.answer own.bound (get_or xs i d)
    → map (answered_from front) (set xs i new) ≡ map (answered_from (front ++ own ∷ [])) xs
unfolding IsDistinct
one_more front own [] i new d apart distinct lt at is = absurd (omega (arith, lt))
one_more front own (x ∷ xs) zero new d apart distinct lt at is =
    let here : answered_from front new ≡ answered_from (front ++ own ∷ []) x =
    unanswered front new (subst (AreApart front) (sym at ∙ sym (ap tx_of is)) apart)
    ∙ is
    ∙ sym (its_own front own x (subst (AreApart front) (sym at) apart) (eq-eqb x.tx own.tx at)) in
    let rest = others front own xs (turned own.tx (map tx_of xs)
    (subst (λ n. AllByRecursion (λ m. nat_eq n m ≡ false) (map tx_of xs)) at distinct.0)) in
    λ j. here j ∷ rest j
one_more front own (x ∷ xs) (suc i) new d apart distinct lt at is =
    let low : i < length xs = omega (arith, lt) in
    let here = another front own x
    (subst (λ n. (x.tx == n) ≡ false) at (all_at (λ n. nat_eq x.tx n ≡ false) xs i d low distinct.0)) in
    let rest = one_more front own xs i new d apart distinct.1 low at is in
    λ j. here j ∷ rest j

none_found : (xs : List Member) (tx : ℕ) → found xs tx ≡ None
    → AllByRecursion (λ n. (n == tx) ≡ false) (map tx_of xs)
none_found [] tx none = tt
none_found (x ∷ xs) tx none = by (x.tx == tx) refl none (none_found xs tx)
  where
    by : (b : Bool) → (x.tx == tx) ≡ b → first_of (if b then x ∷ filter (is_tx tx) xs else filter (is_tx tx) xs) ≡ None
        → (found xs tx ≡ None → AllByRecursion (λ n. (n == tx) ≡ false) (map tx_of xs))
        → AllByRecursion (λ n. (n == tx) ≡ false) (map tx_of (x ∷ xs))
    by true is first rest = cc
    by false is first rest = (is, rest first)

-- where none has the number of the last one, it goes to nobody
pub not_there : (front : List MemberAnswer) (own : MemberAnswer) (xs : List Member) → found xs own.tx ≡ None
    → map (answered_from front) xs ≡ map (answered_from (front ++ own ∷ [])) xs
not_there front own xs none = others front own xs (none_found xs own.tx none)

pub nobody : (given : List MemberAnswer) (xs : List Member) → length given ≡ 0
    → xs ≡ map (answered_from given) xs
nobody [] [] none = refl
nobody [] (x ∷ xs) none = ap (λ ms. x ∷ ms) (nobody [] xs none)
nobody (own ∷ given) xs none = absurd (omega (arith, none))

-- ---- one that took its answer goes back

pub back_again : (xs now : List Member) (i : ℕ) (new back d : Member) → now ≡ set xs i new → back ≡ get_or xs i d
    → set now i back ≡ xs
back_again xs now i new back d is same =
    (λ j. set (is j) i (same j)) ∙ set-set xs i new (get_or xs i d) ∙ set-get_or xs i d

-- ---- what stays

pub answered_tx : (given : List MemberAnswer) (member : Member) → (answered_from given member).tx ≡ member.tx
answered_tx [] member = refl
answered_tx (own ∷ more) member = by (is_tx own.tx member) (answered_tx more member)
  where
    by : (b : Bool) → (answered_from more member).tx ≡ member.tx
        → (if b then stepping own.answer own.bound member else answered_from more member).tx ≡ member.tx
    by true rest = refl
    by false rest = rest

pub answered_group : (given : List MemberAnswer) (member : Member) → (answered_from given member).group ≡ member.group
answered_group [] member = refl
answered_group (own ∷ more) member = by (is_tx own.tx member) (answered_group more member)
  where
    by : (b : Bool) → (answered_from more member).group ≡ member.group
        → (if b then stepping own.answer own.bound member else answered_from more member).group ≡ member.group
    by true rest = refl
    by false rest = rest

same_labels : (numbers : List ℕ) (given : List MemberAnswer) (xs : List Member)
    → labels_in numbers (map (answered_from given) xs) ≡ labels_in numbers xs
same_labels numbers given [] = refl
same_labels numbers given (x ∷ xs) =
    ap (λ b. labels_if b (answered_from given x) (map (answered_from given) xs))
    (ap (λ tx. list_any (λ n. n == tx) numbers) (answered_tx given x))
    ∙ by (is_one_of numbers x) (same_labels numbers given xs)
  where
    labels_if : Bool → Member → List Member → List ℕ
    labels_if b first rest =
        map (λ (member : Member). member.group)
        (if b then first ∷ filter (is_one_of numbers) rest else filter (is_one_of numbers) rest)

    by : (b : Bool) → labels_in numbers (map (answered_from given) xs) ≡ labels_in numbers xs
        → labels_if b (answered_from given x) (map (answered_from given) xs) ≡ labels_if b x xs
    by true rest = λ i. answered_group given x i ∷ rest i
    by false rest = rest

-- ---- together

-- after each took its answer, the groups of all of them become one
pub together : (given : List MemberAnswer) (numbers : List ℕ) (old mid new : Run) → numbers ≡ map answer_tx given
    → mid.prepared ≡ old.prepared → mid.active ≡ map (answered_from given) old.active
    → JoinGroups (labels_in numbers (mid.prepared ++ mid.active)) mid new → AnswerTogether given old new
together given numbers old mid new is prepared active joined =
    let labels : labels_in numbers (mid.prepared ++ mid.active) ≡ answered_labels given old =
    (λ i. labels_in (is i) (prepared i ++ active i))
    ∙ labels-append (map answer_tx given) old.prepared (map (answered_from given) old.active)
    ∙ ap (λ (ls : List ℕ). labels_in (map answer_tx given) old.prepared ++ ls)
    (same_labels (map answer_tx given) given old.active)
    ∙ sym (labels-append (map answer_tx given) old.prepared old.active) in
    record {
      prepared = joined.prepared ∙ (λ i. map (in_joined_group (labels i)) (prepared i));
      active = joined.active ∙ (λ i. map (in_joined_group (labels i)) (active i))
          ∙ mapped_twice (in_joined_group (answered_labels given old)) old.active;
    }
  where
    mapped_twice : (f : Member → Member) (xs : List Member)
        → map f (map (answered_from given) xs) ≡ map (λ member. f (answered_from given member)) xs
    mapped_twice f [] = refl
    mapped_twice f (x ∷ xs) = ap (λ ms. f (answered_from given x) ∷ ms) (mapped_twice f xs)

-- ---- what posted statements ask for

from_asked : (asked : List Posted) (groundings : List Valuation) (member : Member)
    → answered_from (member_answers asked groundings) member ≡ answered_among asked groundings member
from_asked [] groundings member = refl
from_asked (query ∷ asked) [] member = refl
from_asked (query ∷ asked) (values ∷ more) member =
    ap (λ m. if is_tx query.tx member then answered_by query values member else m) (from_asked asked more member)

pub asked_numbers : (asked : List Posted) (groundings : List Valuation) → length groundings ≡ length asked
    → map answer_tx (member_answers asked groundings) ≡ map (λ (query : Posted). query.tx) asked
asked_numbers [] groundings e = refl
asked_numbers (query ∷ asked) [] e = absurd (omega (arith, e))
asked_numbers (query ∷ asked) (values ∷ more) e =
    ap (λ ns. query.tx ∷ ns) (asked_numbers asked more (omega (arith, e)))

pub joins_asked : (given : List MemberAnswer) (old new : Run) (s : State) (asked : List Posted)
    (groundings : List Valuation) → given ≡ member_answers asked groundings → length groundings ≡ length asked
    → AnswerTogether given old new → IsJoining (with_run old s) asked groundings new
joins_asked given old new s asked groundings is long answered =
    let labels = (λ i. labels_in (map answer_tx (is i)) (old.prepared ++ old.active))
    ∙ ap (λ (ns : List ℕ). labels_in ns (old.prepared ++ old.active)) (asked_numbers asked groundings long)
    ∙ asked_labels asked (old.prepared ++ old.active) in
    let each : (member : Member) → answered_from given member ≡ answered_among asked groundings member =
    λ member. (λ i. answered_from (is i) member) ∙ from_asked asked groundings member in
    record {
      prepared = answered.prepared ∙ (λ i. map (in_joined_group (labels i)) old.prepared);
      active = answered.active
          ∙ (λ i. map (λ member. in_joined_group (labels i) (each member i)) old.active);
    }
