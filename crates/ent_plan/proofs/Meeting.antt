-- Groundings make each post equal to a head exactly where they agree with the unifier of the pairs.
use Rattle.std.proofs.Common.{◌≡◌, ◌≢◌, inl, inr, ℕ, zero, suc, ◌+◌, ◌<◌, List, [], ◌∷◌, map, length, get_or}
use Rattle.std.proofs.Common.{refl, sym, ◌∙◌, ap, subst, arith, All, Option, Some, None}
use Rattle.std.specs.Prelude.{Contains, AllPairs, MatchOption, slice_get}
use Rattle.std.proofs.lemmas.Bool.{cases_lt}
use Rattle.std.proofs.lemmas.List.{get_or_default}
use Rattle.std.proofs.lemmas.List.Elements.{All-contains, Contains-get_or}
use Rattle.ent_lists.proofs.Contained.{to_mapped}
use Rattle.ent_value.specs.declared.value.Kind.{Kind}
use Rattle.ent_value.specs.declared.value.Kind.TheVariants as kinds
use Rattle.ent_value.specs.declared.value.Value.{Value}
use Rattle.ent_semantics.specs.declared.answer.Fact.{Fact}
use Rattle.ent_semantics.specs.Entangled.{Valuation}
use Rattle.ent_semantics.specs.declared.entangled.Atom.{Atom}
use Rattle.ent_semantics.specs.Choice.{all_heads, all_posts}
use Rattle.ent_semantics.specs.Pool.{Posted, IsPool, IsSafe, CanMeet, fact_under}
use Rattle.ent_unify.specs.Unifier.{AreAllOfKinds, AreEqual, NoneEquals, IsMostGeneral, AreKinded}
use Rattle.ent_unify.specs.declared.unifier.ClassBinding.{ClassBinding}
use Rattle.ent_unify.specs.declared.unifier.MemberAtom.{MemberAtom}
use Rattle.ent_unify.proofs.Atoms.{kinds_from}
use Rattle.ent_plan.specs.Agreement.{variables_of, IsUnifierOf}
use Rattle.ent_plan.specs.Pairs.{Placed, placed_posts, placed_heads, AtPlace, seen_pair, pair_of, DoUnify, StandApart}
use Rattle.ent_plan.specs.Pairs.{ArePairs, HasLonePost}
use Rattle.ent_plan.specs.Plan.{AreKindedFor, AreMet, HaveNoPlan, HaveDistinctHeads}
use Rattle.ent_plan.proofs.Facts.{mapped_from, posts_are, heads_are, fact_at, fact_from, fact_there}
use Rattle.ent_plan.proofs.Facts.{placed_in, kinds_of_groundings, placed_kinds}

-- ---- elements of lists

at_any : {X : Type 0} (xs : List X) (k : ℕ) (z d : X) → k < length xs → get_or xs k z ≡ z → get_or xs k d ≡ z
at_any xs k z d below is = get_or_default xs k d z below ∙ is

-- elements that differ in a number stand at one place where it is the same
pub same_place : {X : Type 0} (f : X → ℕ) (xs : List X) → AllPairs (λ (x y : X). f x ≢ f y) xs → (i j : ℕ) (x y : X)
    → i < length xs → j < length xs → get_or xs i x ≡ x → get_or xs j y ≡ y → f x ≡ f y → i ≡ j
same_place f xs apart i j x y below_i below_j is_x is_y same =
    elim (cases_lt i j) [
      | inl less ↦
          absurd (apart i j x less below_j (ap f is_x ∙ (same ∙ sym (ap f (at_any xs j y x below_j is_y)))))
      | inr not_less ↦ elim (cases_lt j i) [
        | inl more ↦
            absurd (apart j i y more below_i (ap f is_y ∙ (sym same ∙ sym (ap f (at_any xs i x y below_i is_x)))))
        | inr not_more ↦ omega arith
      ]
    ]

pub same_element : {X : Type 0} (xs : List X) (i j : ℕ) (x y : X) → i ≡ j → i < length xs → get_or xs i x ≡ x
    → get_or xs j y ≡ y → x ≡ y
same_element xs i j x y same below is_x is_y =
    sym is_x ∙ (get_or_default xs i x y below ∙ (ap (λ k. get_or xs k y) same ∙ is_y))

-- heads of distinct relations are one where their relations are
same_head : (heads : List (Atom Value)) → AllPairs (λ (one other : Atom Value). one.relation ≢ other.relation) heads
    → (one other : Atom Value) → Contains heads one → Contains heads other → one.relation ≡ other.relation → one ≡ other
same_head heads apart one other (i, below_i, is_one) (j, below_j, is_other) same =
    elim (cases_lt i j) [
      | inl less ↦ absurd (apart i j one less below_j
          (ap (λ (a : Atom Value). a.relation) is_one
          ∙ (same ∙ sym (ap (λ (a : Atom Value). a.relation) (at_any heads j other one below_j is_other)))))
      | inr not_less ↦ elim (cases_lt j i) [
        | inl more ↦ absurd (apart j i other more below_i
            (ap (λ (a : Atom Value). a.relation) is_other
            ∙ (sym same ∙ sym (ap (λ (a : Atom Value). a.relation) (at_any heads i one other below_i is_one)))))
        | inr not_more ↦ same_element heads i j one other (omega arith) below_i is_one is_other
      ]
    ]

slice_get_of : {X : Type 0} (xs : List X) (x : X) → Contains xs x → (k : ℕ) × (slice_get xs k ≡ Some x)
slice_get_of [] x (k, below, is) = absurd (omega arith)
slice_get_of (y ∷ xs) x (zero, below, is) = (0, ap (λ z. Some z) is)
slice_get_of (y ∷ xs) x (suc k, below, is) =
    let r = slice_get_of xs x (k, omega arith, is) in (suc r.0, r.1)

-- ---- a post's head

module _ (members : List Posted) (one : IsPool members) (safe : IsSafe members) (distinct : HaveDistinctHeads members)
  where
    -- heads with which a post unifies are one head
    one_head : (post head other : Placed) → Contains (placed_posts members) post → Contains (placed_heads members) head
        → Contains (placed_heads members) other → DoUnify post head → DoUnify post other
        → (head.place ≡ other.place) × (head.atom ≡ other.atom)
    one_head post head other asked offered offered_too unify unify_too =
        let asker = placed_in (λ member. member.statement.posts) 0 members post asked in
        let owner = placed_in (λ member. member.statement.heads) 0 members head offered in
        let owner_too = placed_in (λ member. member.statement.heads) 0 members other offered_too in
        let index = slice_get_of asker.member.statement.posts post.atom asker.there in
        let meets : CanMeet asker.member index.0 owner.member =
        record {
          post = post.atom;
          is_post = index.1;
          head = head.atom;
          is_head = owner.there;
          unify = unify_as post head asker.member owner.member asker.kinds_are owner.kinds_are unify;
        } in
        let meets_too : CanMeet asker.member index.0 owner_too.member =
        record {
          post = post.atom;
          is_post = index.1;
          head = other.atom;
          is_head = owner_too.there;
          unify = unify_as post other asker.member owner_too.member asker.kinds_are owner_too.kinds_are unify_too;
        } in
        let same_tx = safe asker.member owner.member owner_too.member index.0
        (asker.index, asker.within, asker.member_is) (owner.index, owner.within, owner.member_is)
        (owner_too.index, owner_too.within, owner_too.member_is) meets meets_too in
        let same_index = same_place (λ (member : Posted). member.tx) members one owner.index owner_too.index
        owner.member
        owner_too.member owner.within owner_too.within owner.member_is owner_too.member_is same_tx in
        let same_member = same_element members owner.index owner_too.index owner.member owner_too.member same_index
        owner.within owner.member_is owner_too.member_is in
        let relation = sym (ap (λ (f : Fact). f.relation) unify.one_fact)
        ∙ ap (λ (f : Fact). f.relation) unify_too.one_fact in (
          (let p = owner.place_is in let q = owner_too.place_is in omega arith),
          same_head owner.member.statement.heads (distinct owner.member (owner.index, owner.within, owner.member_is))
              head.atom other.atom owner.there
              (subst (λ (member : Posted). Contains member.statement.heads other.atom) (sym same_member)
              owner_too.there)
              relation,
        )
      where
        unify_as : (p h : Placed) (a b : Posted) → p.kinds ≡ a.statement.variables → h.kinds ≡ b.statement.variables
            → DoUnify p h
            → DoUnify (record p { kinds = a.statement.variables }) (record h { kinds = b.statement.variables })
        unify_as p h a b ka kb u =
            subst (λ ks. DoUnify (record p { kinds = ks }) (record h { kinds = b.statement.variables })) ka
            (subst (λ ks. DoUnify p (record h { kinds = ks })) kb u)

    -- ---- pairs that are equal

    module _ (groundings : List Valuation) (kinded : AreKindedFor members groundings) where
      abbrev values : ℕ → Valuation
      values m = get_or groundings m []

      values_are : (k : ℕ) → values (0 + k) ≡ get_or groundings k []
      values_are k = (let place : 0 + k ≡ k = omega arith in ap values place)

      post_from : (fact : Fact) → Contains (all_posts members groundings) fact
          → (post : Placed) × Contains (placed_posts members) post × (fact_at values post ≡ fact)
      post_from fact there =
          fact_from (λ member. member.statement.posts) values 0 members groundings values_are fact
          (subst (λ fs. Contains fs fact) (posts_are members groundings) there)

      head_from : (fact : Fact) → Contains (all_heads members groundings) fact
          → (head : Placed) × Contains (placed_heads members) head × (fact_at values head ≡ fact)
      head_from fact there =
          fact_from (λ member. member.statement.heads) values 0 members groundings values_are fact
          (subst (λ fs. Contains fs fact) (heads_are members groundings) there)

      post_there : (post : Placed) → Contains (placed_posts members) post
          → Contains (all_posts members groundings) (fact_at values post)
      post_there post there =
          subst (λ fs. Contains fs (fact_at values post)) (sym (posts_are members groundings))
          (fact_there (λ member. member.statement.posts) values 0 members groundings values_are
          (kinds_of_groundings members groundings kinded) post there)

      head_there : (head : Placed) → Contains (placed_heads members) head
          → Contains (all_heads members groundings) (fact_at values head)
      head_there head there =
          subst (λ fs. Contains fs (fact_at values head)) (sym (heads_are members groundings))
          (fact_there (λ member. member.statement.heads) values 0 members groundings values_are
          (kinds_of_groundings members groundings kinded) head there)

      not_apart : (post head : Placed) → Contains (placed_posts members) post → Contains (placed_heads members) head
          → fact_at values post ≡ fact_at values head → StandApart post head → ⊥
      not_apart post head asked offered same apart =
          apart (values post.place) (values head.place)
          (placed_kinds (λ member. member.statement.posts) members groundings post kinded asked)
          (placed_kinds (λ member. member.statement.heads) members groundings head kinded offered) same

      -- a post that is apart from all heads is equal to none
      pub lone_post : HasLonePost (placed_posts members) (placed_heads members) → AreMet members groundings → ⊥
      lone_post (post, asked, alone) met =
          let head = head_from (fact_at values post) (met (fact_at values post) (post_there post asked)) in
          not_apart post head.0 asked head.1 (sym head.2) (alone head.0 head.1)

      -- a pair is equal
      abbrev IsEqualAt : AtPlace × AtPlace → Type 0
      IsEqualAt pair = fact_under (values pair.0.0) pair.0.1 ≡ fact_under (values pair.1.0) pair.1.1

      module _ (pairs : List (MemberAtom × MemberAtom))
          (are : ArePairs (placed_posts members) (placed_heads members) (map seen_pair pairs)) where
        equal_at : AreMet members groundings → (pair : AtPlace × AtPlace) → Contains (map seen_pair pairs) pair
            → IsEqualAt pair
        equal_at met pair there =
            let found = are.sound pair there in
            let post = found.0 in
            let head = found.1 in
            let other = head_from (fact_at values post) (met (fact_at values post) (post_there post found.2)) in
            let told = are.told post other.0 found.2 other.1 in
            let equal : fact_at values post ≡ fact_at values head =
            elim told [
              | inl apart ↦ absurd (not_apart post other.0 found.2 other.1 (sym other.2) apart)
              | inr unify ↦
                  let same = one_head post head other.0 found.2 found.3 other.1 found.5 unify in
                  sym other.2 ∙ (λ i. fact_under (values (sym same.0 i)) (sym same.1 i))
            ] in
            subst IsEqualAt found.4 equal

        pub all_equal : AreMet members groundings → All (AreEqual groundings) pairs
        all_equal met k d below =
            equal_at met (seen_pair (get_or pairs k d))
            (to_mapped seen_pair pairs (get_or pairs k d) (Contains-get_or pairs k d below))

        pub all_met : All (AreEqual groundings) pairs → AreMet members groundings
        all_met equal fact there =
            let post = post_from fact there in
            let paired = are.met post.0 post.1 in
            let pair = mapped_from seen_pair pairs (pair_of post.0 paired.0) paired.2 in
            let here : IsEqualAt (seen_pair pair.0) = All-contains (AreEqual groundings) pairs pair.0 equal pair.1 in
            let same : fact_at values post.0 ≡ fact_at values paired.0 = subst IsEqualAt pair.2 here in
            subst (Contains (all_heads members groundings)) (sym same ∙ post.2) (head_there paired.0 paired.1)

-- ---- values within bounds are of their kinds

all_kinds_are : (K : List (List Kind)) (groundings : List Valuation) → AreAllOfKinds K groundings
    → AreKinded K groundings
all_kinds_are [] [] h = refl
all_kinds_are [] (v ∷ vs) h = absurd h
all_kinds_are (k ∷ ks) [] h = absurd h
all_kinds_are (k ∷ ks) (v ∷ vs) h =
    let first = kinds_from k v h.0 in
    let rest = all_kinds_are ks vs h.1 in
    λ i. first i ∷ rest i

-- ---- the unifier

module _ (members : List Posted) (one : IsPool members) (safe : IsSafe members) (distinct : HaveDistinctHeads members)
  where
    pub none_from_lone : HasLonePost (placed_posts members) (placed_heads members) → HaveNoPlan members
    none_from_lone lone groundings kinded met = lone_post members one safe distinct groundings kinded lone met

    module _ (K : List (List Kind)) (same : K ≡ variables_of members) (pairs : List (MemberAtom × MemberAtom))
        (are : ArePairs (placed_posts members) (placed_heads members) (map seen_pair pairs)) where
      pub none_from_pairs : NoneEquals K pairs → HaveNoPlan members
      none_from_pairs none groundings kinded met =
          none groundings (kinded ∙ sym same) (all_equal members one safe distinct groundings kinded pairs are met)

      pub unifier_from_pairs : (bs : List ClassBinding) → IsMostGeneral K pairs bs → IsUnifierOf members bs
      unifier_from_pairs bs general =
          let is = subst (λ ks. IsMostGeneral ks pairs bs) same general in
          let kinded = all_kinds_are (variables_of members) is.some is.of_kinds in
          record {
            exact = λ groundings of_kinds. (
              (λ met. (is.exact groundings of_kinds).0
                  (all_equal members one safe distinct groundings of_kinds pairs are met)),
              (λ agrees. all_met members one safe distinct groundings of_kinds pairs are
                  ((is.exact groundings of_kinds).1 agrees)),
            );
            some = is.some;
            of_kinds = kinded;
            agrees = (is.exact is.some kinded).0 is.equal;
          }

      pub told : (o : Option (List ClassBinding)) → MatchOption o (NoneEquals K pairs) (λ bs. IsMostGeneral K pairs bs)
          → MatchOption o (HaveNoPlan members) (IsUnifierOf members)
      told None none = none_from_pairs none
      told (Some bs) general = unifier_from_pairs bs general
