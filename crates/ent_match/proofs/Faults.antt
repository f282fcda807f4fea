-- The first post of a pool that unifies with heads of two statements.
use Rattle.std.proofs.Common.{◌≡◌, ◌≢◌, ◌⊎◌, ℕ, ◌+◌, ◌<◌, ◌≤◌, List, take, length, get_or, refl, sym, ◌∙◌, ap, subst}
use Rattle.std.proofs.Common.{arith, inl, inr, Option, Some, None}
use Rattle.std.specs.Prelude.{Contains}
use Rattle.std.specs.Cmp.{nat_cmp_is}
use Rattle.std.specs.Ordering.{nat_cmp, ordering_then}
use Rattle.std.specs.declared.cmp.Ordering.{Ordering}
use Rattle.std.specs.declared.cmp.Ordering.TheVariants.{Less, Equal, Greater}
use Rattle.std.proofs.lemmas.Bool.{cases_lt}
use Rattle.std.proofs.lemmas.Option.{slice_get_within}
use Rattle.ent_lists.proofs.Numbers.{cmp_above}
use Rattle.ent_semantics.specs.Pool.{Posted, CanMeet, IsSafe, Unsafe, HasHeadFor, IsUnsafeAt, unsafe_cmp}
use Rattle.ent_semantics.specs.Pool.{IsFirstUnsafe}
use Rattle.ent_match.specs.Fault.{IsByNumber, MeetsOne, IsOwner, AreTwoLeast, IsFaultOf, IsSafeBut, AreSoFar}
use Rattle.ent_match.proofs.Numbered.{same_member, in_front, front_cases, front_more, front_last, front_all, Stands}
use Rattle.ent_match.proofs.Numbered.{stands, front_less}
use Rattle.ent_match.proofs.Numbered.Stands.{before, here, after}

-- ---- owners of heads for a post

module _ (pool : List Posted) (ordered : IsByNumber pool) (asker : Posted) (index n : ℕ) (o : Posted)
    (below : n < length pool) (is : o ≡ get_or pool n o) where
  pub skip : (s : Option ℕ) → (CanMeet asker index o → ⊥) → AreSoFar (take n pool) asker index s
      → AreSoFar (take (n + 1) pool) asker index s
  skip None not none = λ owner inside meets. elim (front_cases pool n o owner below is inside) [
    | inl front ↦ none owner front meets
    | inr last ↦ not (subst (λ z. CanMeet asker index z) (sym last) meets)
  ]
  skip (Some tx) not (owns, one) = (
    record {
      owner = owns.owner;
      offers = front_more pool n o owns.owner below is owns.offers;
      owner_is =
          owns.owner_is;
      meets = owns.meets;
    },
    (λ owner inside meets. elim (front_cases pool n o owner below is inside) [
      | inl front ↦ one owner front meets
      | inr last ↦ absurd (not (subst (λ z. CanMeet asker index z) (sym last) meets))
    ]),
  )

  pub first_met : CanMeet asker index o → AreSoFar (take n pool) asker index None
      → AreSoFar (take (n + 1) pool) asker index (Some o.tx)
  first_met meets none = (
    record { owner = o; offers = front_last pool n o below is; owner_is = refl; meets = meets },
    (λ owner inside met. elim (front_cases pool n o owner below is inside) [
      | inl front ↦ absurd (none owner front met)
      | inr last ↦ sym (ap (λ z. z.tx) last)
    ]),
  )

  pub second_met : (tx : ℕ) → CanMeet asker index o → AreSoFar (take n pool) asker index (Some tx)
      → AreTwoLeast pool asker index tx o.tx
  second_met tx meets (owns, one) =
      record {
        below = subst (λ t. t < o.tx) owns.owner_is (front_less pool ordered n o owns.owner below is owns.offers);
        first_owns = record {
          owner = owns.owner;
          offers = in_front pool n owns.owner owns.offers;
          owner_is =
              owns.owner_is;
          meets = owns.meets;
        };
        second_owns = record {
          owner = o;
          offers = in_front pool (n + 1) o (front_last pool n o below is);
          owner_is =
              refl;
          meets = meets;
        };
        least = λ owner inside met. least_of owner met (stands pool ordered n o owner below is inside);
      }
    where
      least_of : (owner : Posted) → CanMeet asker index owner → Stands pool n o owner
          → (owner.tx ≡ tx) ⊎ (o.tx ≤ owner.tx)
      least_of owner met (before front) = inl (one owner front met)
      least_of owner met (here same) = inr (let e : o.tx ≡ owner.tx = ap (λ z. z.tx) same in omega arith)
      least_of owner met (after less) = inr (omega arith)

pub all_met : (pool : List Posted) (asker : Posted) (index n : ℕ) (s : Option ℕ) → length pool ≤ n
    → AreSoFar (take n pool) asker index s → MeetsOne pool asker index
all_met pool asker index n None all none first second one other met met_other =
    absurd (none first (front_all pool n first all one) met)
all_met pool asker index n (Some tx) all (owns, is) first second one other met met_other =
    is first (front_all pool n first all one) met ∙ sym (is second (front_all pool n second all other) met_other)

-- ---- posts of one statement

pub no_post : (pool : List Posted) (asker : Posted) (index : ℕ) → length asker.statement.posts ≤ index
    → MeetsOne pool asker index
no_post pool asker index past first second one other met =
    absurd (let within = slice_get_within asker.statement.posts index met.post met.is_post in omega arith)

-- a post that the new statement doesn't meet unifies with heads of one of the others at most
pub old_post : (pool : List Posted) → IsByNumber pool → (asker new : Posted) (index : ℕ) → Contains pool asker
    → Contains pool new
    → IsSafeBut pool new → asker.tx ≢ new.tx → (CanMeet asker index new → ⊥) → MeetsOne pool asker index
old_post pool ordered asker new index asks is_in safe other not first second one two met met_too =
    safe asker first second index asks one two other (is_other first one met) (is_other second two met_too) met met_too
  where
    is_other : (owner : Posted) → Contains pool owner → CanMeet asker index owner → owner.tx ≢ new.tx
    is_other owner inside meets same =
        not (subst (λ z. CanMeet asker index z) (same_member pool ordered owner new inside is_in same) meets)

pub one_more : (P : ℕ → Type 0) (n : ℕ) → ((i : ℕ) → i < n → P i) → P n → (i : ℕ) → i < n + 1 → P i
one_more P n so_far last i below =
    elim (cases_lt i n) [
      | inl less ↦ so_far i less
      | inr not_less ↦ (let same : n ≡ i = omega arith in subst P same last)
    ]

pub all_posts : (pool : List Posted) (asker : Posted) (n : ℕ) → length asker.statement.posts ≤ n
    → ((i : ℕ) → i < n → MeetsOne pool asker i) → (i : ℕ) → MeetsOne pool asker i
all_posts pool asker n all so_far i =
    elim (cases_lt i n) [ inl less ↦ so_far i less | inr not_less ↦ no_post pool asker i (omega arith) ]

-- ---- the whole pool

pub is_safe : (pool : List Posted) → ((asker : Posted) (index : ℕ) → Contains pool asker → MeetsOne pool asker index)
    → IsSafe pool
is_safe pool each asker first second index asks one two = each asker index asks first second one two

pub of_pool : (pool : List Posted) (n : ℕ) → length pool ≤ n
    → ((asker : Posted) (index : ℕ) → Contains (take n pool) asker → MeetsOne pool asker index)
    → (asker : Posted) (index : ℕ) → Contains pool asker → MeetsOne pool asker index
of_pool pool n all each asker index asks = each asker index (front_all pool n asker all asks)

tied : (a b : ℕ) → a ≡ b → nat_cmp a b ≡ Equal
tied a b same = sym (nat_cmp_is a b Equal same)

not_less_first : (o r : Ordering) → o ≡ Greater → ordering_then o r ≢ Less
not_less_first o r is = subst (λ z. ordering_then z r ≢ Less) (sym is) (λ e. cc)

not_less_later : (o r : Ordering) → o ≡ Equal → r ≢ Less → ordering_then o r ≢ Less
not_less_later o r is later = subst (λ z. ordering_then z r ≢ Less) (sym is) later

at_least : (a b : ℕ) → b ≤ a → nat_cmp a b ≢ Less
at_least a b le =
    elim (cases_lt b a) [
      | inl less ↦ (λ e. let g = cmp_above a b less in cc)
      | inr not_less ↦ (λ e. let t = tied a b (omega arith) in cc)
    ]

-- faults of the same post, and of later ones, are no less
module _ (other fault : Unsafe) where
  later_asker : fault.asker < other.asker → unsafe_cmp other fault ≢ Less
  later_asker less = not_less_first _ _ (cmp_above other.asker fault.asker less)

  later_index : other.asker ≡ fault.asker → fault.index < other.index → unsafe_cmp other fault ≢ Less
  later_index same less =
      not_less_later _ _ (tied other.asker fault.asker same)
      (not_less_first _ _ (cmp_above other.index fault.index less))

  later_first : other.asker ≡ fault.asker → other.index ≡ fault.index → fault.first < other.first
      → unsafe_cmp other fault ≢ Less
  later_first same post less =
      not_less_later _ _ (tied other.asker fault.asker same)
      (not_less_later _ _ (tied other.index fault.index post)
      (not_less_first _ _ (cmp_above other.first fault.first less)))

  later_second : other.asker ≡ fault.asker → other.index ≡ fault.index → other.first ≡ fault.first
      → fault.second ≤ other.second
      → unsafe_cmp other fault ≢ Less
  later_second same post first le =
      not_less_later _ _ (tied other.asker fault.asker same)
      (not_less_later _ _ (tied other.index fault.index post)
      (not_less_later _ _ (tied other.first fault.first first) (at_least other.second fault.second le)))

module _ (pool : List Posted) (ordered : IsByNumber pool) (n : ℕ) (o : Posted) (below : n < length pool)
    (is : o ≡ get_or pool n o)
    (so_far : (asker : Posted) (index : ℕ) → Contains (take n pool) asker → MeetsOne pool asker index) where
  pub more_askers : ((index : ℕ) → MeetsOne pool o index)
      → (asker : Posted) (index : ℕ) → Contains (take (n + 1) pool) asker → MeetsOne pool asker index
  more_askers last asker index inside =
      elim (front_cases pool n o asker below is inside) [
        | inl front ↦ so_far asker index front
        | inr same ↦ subst (λ z. MeetsOne pool z index) same (last index)
      ]

  module _ (fault : Unsafe) (f : IsFaultOf pool o fault) where
    unsafe_at : IsUnsafeAt pool fault
    unsafe_at = (f.two.below, owner_of fault.first f.two.first_owns, owner_of fault.second f.two.second_owns)
      where
        owner_of : (tx : ℕ) → IsOwner pool o fault.index tx → HasHeadFor pool fault.asker fault.index tx
        owner_of tx owns =
            record {
              asker = o;
              asks = in_front pool (n + 1) o (front_last pool n o below is);
              asker_is = sym f.asker_is;
              partner = owns.owner;
              offers = owns.offers;
              partner_is = owns.owner_is;
              meets = owns.meets;
            }

    -- the two owners of another fault are of one post
    same_post : (other : Unsafe) → (u : IsUnsafeAt pool other) → (MeetsOne pool u.1.asker other.index → ⊥)
    same_post other (less, one, two) meets_one =
        let asker : two.asker ≡ one.asker =
        same_member pool ordered two.asker one.asker two.asks one.asks (two.asker_is ∙ sym one.asker_is) in
        let met = subst (λ z. CanMeet z other.index two.partner) asker two.meets in
        let same = meets_one one.partner two.partner one.offers two.offers one.meets met in
        let e : other.first ≡ other.second = sym one.partner_is ∙ (same ∙ two.partner_is) in omega arith

    of_post : (other : Unsafe) → IsUnsafeAt pool other → (one : HasHeadFor pool other.asker other.index other.first)
        → o ≡ one.asker
        → other.index ≡ fault.index → unsafe_cmp other fault ≢ Less
    of_post other (less, one, two) first same index =
        let asker : other.asker ≡ fault.asker = sym first.asker_is ∙ (sym (ap (λ z. z.tx) same) ∙ sym f.asker_is) in
        let met : CanMeet o fault.index first.partner =
        subst (λ i. CanMeet o i first.partner) index
        (subst (λ z. CanMeet z other.index first.partner) (sym same) first.meets) in
        let asker_two : two.asker ≡ o =
        same_member pool ordered two.asker o two.asks (in_front pool (n + 1) o (front_last pool n o below is))
        (two.asker_is ∙ (asker ∙ f.asker_is)) in
        let met_two : CanMeet o fault.index two.partner =
        subst (λ i. CanMeet o i two.partner) index
        (subst (λ z. CanMeet z other.index two.partner) asker_two two.meets) in
        elim (f.two.least first.partner first.offers met) [
          | inl is_first ↦
              let firsts : other.first ≡ fault.first = sym first.partner_is ∙ is_first in
              elim (f.two.least two.partner two.offers met_two) [
                | inl is_first_too ↦ absurd (let e : other.second ≡ fault.first = sym two.partner_is
                    ∙ is_first_too in omega arith)
                | inr from_second ↦ later_second other fault asker index firsts
                    (let e : two.partner.tx ≡ other.second = two.partner_is in omega arith)
              ]
          | inr from_second ↦
              later_first other fault asker index (let e : first.partner.tx ≡ other.first = first.partner_is in
              let b = f.two.below in omega arith)
        ]

    least_case : (other : Unsafe) → (u : IsUnsafeAt pool other) → Stands pool n o u.1.asker
        → unsafe_cmp other fault ≢ Less
    least_case other u (before front) = absurd (same_post other u (so_far u.1.asker other.index front))
    least_case other u (after less) =
        later_asker other fault (let a : u.1.asker.tx ≡ other.asker = u.1.asker_is in let b : fault.asker ≡ o.tx =
        f.asker_is in omega arith)
    least_case other u (here same) =
        let asker : other.asker ≡ fault.asker = sym u.1.asker_is ∙ (sym (ap (λ z. z.tx) same) ∙ sym f.asker_is) in
        elim (cases_lt other.index fault.index) [
          | inl earlier ↦ absurd
              (same_post other u (subst (λ z. MeetsOne pool z other.index) same (f.earlier other.index earlier)))
          | inr not_earlier ↦ elim (cases_lt fault.index other.index) [
            | inl later ↦ later_index other fault asker later
            | inr not_later ↦ of_post other u u.1 same (omega arith)
          ]
        ]

    pub first_unsafe : IsFirstUnsafe pool fault
    first_unsafe = (unsafe_at, λ other u. least_case other u (stands pool ordered n o u.1.asker below is u.1.asks))

-- a pool with a fault isn't safe
pub not_safe : (pool : List Posted) → IsByNumber pool → (fault : Unsafe) → IsUnsafeAt pool fault → IsSafe pool → ⊥
not_safe pool ordered fault (less, one, two) safe =
    let asker : two.asker ≡ one.asker =
    same_member pool ordered two.asker one.asker two.asks one.asks (two.asker_is ∙ sym one.asker_is) in
    let met = subst (λ z. CanMeet z fault.index two.partner) asker two.meets in
    let same = safe one.asker one.partner two.partner fault.index one.asks one.offers two.offers one.meets met in
    let e : fault.first ≡ fault.second = sym one.partner_is ∙ (same ∙ two.partner_is) in omega arith
