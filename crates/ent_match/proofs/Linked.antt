-- What the links of a pool say of its posts.
use Rattle.std.proofs.Common.{◌≡◌, ◌⊎◌, ℕ, zero, suc, ◌+◌, ◌<◌, ◌≤◌, Bool, true, false, List, [], ◌∷◌, ◌++◌}
use Rattle.std.proofs.Common.{length, get_or, refl, sym, ◌∙◌, ap, subst, arith, inl, inr}
use Rattle.std.specs.Prelude.{Contains}
use Rattle.std.proofs.lemmas.Bool.{cases_lt}
use Rattle.std.proofs.lemmas.List.{get_or_default}
use Rattle.std.proofs.lemmas.Option.{slice_get-get_or}
use Rattle.std.proofs.lemmas.List.Elements.{Contains-push_cases, Contains-push, Contains-append_left}
use Rattle.ent_value.specs.declared.value.Value.{Value}
use Rattle.ent_semantics.specs.declared.entangled.Atom.{Atom}
use Rattle.ent_semantics.specs.Component.{IsInRemainder}
use Rattle.ent_semantics.specs.Pool.{Posted}
use Rattle.ent_match.specs.declared.link.Link.{Link}
use Rattle.ent_match.specs.Fault.{HasNoOwner}
use Rattle.ent_match.specs.Remainder.{At, IsOwnerAt, IsLinkOf, HasLink, HasLinks, IsAsked, AsksTo}

-- two statements at one place are one
pub one_place : (pool : List Posted) (k : ℕ) (x y : Posted) → At pool k x → At pool k y → x ≡ y
one_place pool k x y (below, is_x) (below_y, is_y) = sym is_x ∙ (get_or_default pool k x y below ∙ is_y)

some_atom : Atom Value
some_atom = record { relation = []; terms = [] }

-- a post that unifies with no head keeps its statement out of the remainder
pub unmet : (pool : List Posted) (place : ℕ) (o : Posted) (index : ℕ) → place < length pool → o ≡ get_or pool place o
    → index < length o.statement.posts → HasNoOwner pool o index
    → (asker : Posted) → At pool place asker → IsInRemainder pool asker → ⊥
unmet pool place o index below is post none asker at remains =
    let same : o ≡ asker = one_place pool place o asker (below, sym is) at in
    let in_post = slice_get-get_or o.statement.posts index some_atom post in
    let r = subst (IsInRemainder pool) (sym same) remains in
    let met = r.supported o index (get_or o.statement.posts index some_atom) r.is_in in_post in
    none met.0 met.1.0 met.2

pub offered_more : (pool : List Posted) (first old new : List Link) (place : ℕ) (o : Posted) (index owner : ℕ)
    → place < length pool → o ≡ get_or pool place o → IsOwnerAt pool o index owner
    → new ≡ old ++ record { from = owner; to = place } ∷ []
    → ((link : Link) → Contains first link → Contains old link)
    → ((link : Link) → Contains old link → Contains first link ⊎ IsLinkOf pool link)
    → ((i : ℕ) → i < index → HasLink pool old place o i)
    → ((link : Link) → Contains first link → Contains new link)
    × ((link : Link) → Contains new link → Contains first link ⊎ IsLinkOf pool link)
    × ((i : ℕ) → i < index + 1 → HasLink pool new place o i)
offered_more pool first old new place o index owner below is owns pushed grows sound so_far = (
  (λ link inside. into link (grows link inside)),
  (λ link inside. elim (Contains-push_cases old made link (subst (λ xs. Contains xs link) pushed inside)) [
    | inl before ↦ sound link before
    | inr last ↦ inr (subst (IsLinkOf pool) last
        (record { asker = o; asks = (below, sym is); index = index; owner = owns }))
  ]),
  (λ i less. elim (cases_lt i index) [
    | inl earlier ↦ (let h = so_far i earlier in record { from = h.from; owner = h.owner; listed = into _ h.listed })
    | inr not_earlier ↦
        let here : index ≡ i = omega arith in
        subst (HasLink pool new place o) here (record { from = owner; owner = owns; listed = last_one })
  ]),
)
  where
    made : Link
    made = record { from = owner; to = place }

    into : (link : Link) → Contains old link → Contains new link
    into link inside = subst (λ xs. Contains xs link) (sym pushed)
        (Contains-append_left old (record { from = owner; to = place } ∷ []) link inside)

    last_one : Contains new (record { from = owner; to = place })
    last_one = subst (λ xs. Contains {X = Link} xs (record { from = owner; to = place })) (sym pushed)
        (Contains-push old (record { from = owner; to = place }))

pub all_offered : (pool : List Posted) (links : List Link) (place : ℕ) (o : Posted) (n : ℕ) → o ≡ get_or pool place o
    → place < length pool → length o.statement.posts ≤ n → ((i : ℕ) → i < n → HasLink pool links place o i)
    → HasLinks pool links place
all_offered pool links place o n is below all each asker index at post =
    let same : o ≡ asker = one_place pool place o asker (below, sym is) at in
    subst (λ z. index < length z.statement.posts → HasLink pool links place z index) same
    (λ within. each index (omega arith)) post

-- ---- statement by statement

asked_grows : (pool : List Posted) (old new : List Link) (place : ℕ) (b : Bool)
    → ((link : Link) → Contains old link → Contains new link)
    → IsAsked pool old place b → IsAsked pool new place b
asked_grows pool old new place true grows asked = asked
asked_grows pool old new place false grows asked = λ asker index at post.
    let h = asked asker index at post in record { from = h.from; owner = h.owner; listed = grows _ h.listed }

get_or-pushed : (xs : List Bool) (b : Bool) (k : ℕ) → k < length xs → get_or (xs ++ b ∷ []) k false ≡ get_or xs k false
get_or-pushed [] b k below = absurd (omega arith)
get_or-pushed (x ∷ xs) b zero below = refl
get_or-pushed (x ∷ xs) b (suc k) below = get_or-pushed xs b k (omega arith)

get_or-last : (xs : List Bool) (b : Bool) → get_or (xs ++ b ∷ []) (length xs) false ≡ b
get_or-last [] b = refl
get_or-last (x ∷ xs) b = get_or-last xs b

length-pushed : (xs : List Bool) (b : Bool) → length (xs ++ b ∷ []) ≡ length xs + 1
length-pushed [] b = refl
length-pushed (x ∷ xs) b = let l = length-pushed xs b in omega arith

pub asked_more : (pool : List Posted) (n : ℕ) (old new : List Link) (removed more : List Bool) (b : Bool)
    → length removed ≡ n
    → ((link : Link) → Contains old link → IsLinkOf pool link)
    → ((place : ℕ) → place < n → IsAsked pool old place (get_or removed place false))
    → AsksTo pool n old new b → more ≡ removed ++ b ∷ []
    → (length more ≡ n + 1)
    × ((link : Link) → Contains new link → IsLinkOf pool link)
    × ((place : ℕ) → place < n + 1 → IsAsked pool new place (get_or more place false))
asked_more pool n old new removed more b room sound asked asks pushed = (
  ap length pushed ∙ (length-pushed removed b ∙ ap (λ k. k + 1) room),
  (λ link inside. elim (asks.sound link inside) [ inl before ↦ sound link before | inr offer ↦ offer ]),
  (λ place less. elim (cases_lt place n) [
    | inl before ↦
        let at : get_or more place false ≡ get_or removed place false =
        ap (λ xs. get_or xs place false) pushed ∙ get_or-pushed removed b place (omega arith) in
        subst (IsAsked pool new place) (sym at) (asked_grows pool old new place _ asks.grows (asked place before))
    | inr not_before ↦
        let here : n ≡ place = omega arith in
        let at : get_or more n false ≡ b =
        ap (λ xs. get_or xs n false) pushed
        ∙ (ap (λ k. get_or (removed ++ b ∷ []) k false) (sym room) ∙ get_or-last removed b) in
        subst (λ k. IsAsked pool new k (get_or more k false)) here (subst (IsAsked pool new n) (sym at) asks.asked)
  ]),
)
