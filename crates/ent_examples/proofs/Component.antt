-- Which friends of a pool are a component.
use Rattle.std.proofs.Common.{◌≡◌, ◌⊎◌, inl, inr, ℕ, zero, suc, ◌<◌, Bool, true, false, ◌&&◌, ◌||◌, not, List, [], ◌∷◌}
use Rattle.std.proofs.Common.{map, refl, sym, ap, subst, ◌∙◌, arith, Some}
use Rattle.std.specs.Prelude.{AllPairs, Contains, nat_lt, slice_get}
use Rattle.std.specs.List.{filter, list_all, list_any}
use Rattle.std.proofs.lemmas.List.Kept.{AllPairs-cons}
use Rattle.std.proofs.lemmas.Bool.{ltb-true}
use Rattle.ent_semantics.specs.Component.{IsIn, IsInRemainder, IsSupported, AreJoined, AreLinked, AreLinkedIn}
use Rattle.ent_semantics.specs.Component.{IsComponent}
use Rattle.ent_semantics.specs.Pool.{Posted, CanMeet}
use Rattle.ent_lists.specs.Elements.{and_both, or_first, or_second}
use Rattle.ent_lists.proofs.Contained.{of_mapped, to_mapped, to_filtered, of_filtered}
use Rattle.ent_examples.specs.Wish.{Friend, posted}
use Rattle.ent_examples.proofs.Listed.{each_passes, one_passes, unless}
use Rattle.ent_examples.proofs.Listed.{by_first, first_there, all_where}
use Rattle.ent_examples.proofs.Meets.{meets, can_meet, met_by, no_post}

-- ---- by number

abbrev pub ascends : List Friend → Bool
ascends [] = true
ascends (friend ∷ friends) = list_all (λ other. nat_lt friend.tx other.tx) friends && ascends friends

pub ascending : (friends : List Friend) → ascends friends ≡ true
    → AllPairs (λ (one other : Posted). one.tx < other.tx) (map posted friends)
ascending [] h = λ i j d i<j j<n. absurd (omega arith)
ascending (friend ∷ friends) h =
    let parts = and_both _ _ h in
    AllPairs-cons (λ (one other : Posted). one.tx < other.tx) (posted friend) (map posted friends)
    (all_where (λ other. friend.tx < other.tx) (map posted friends) (λ other there.
    let x = of_mapped posted friends other there in
    subst (λ (p : Posted). friend.tx < p.tx) (sym x.2) (ltb-true _ _ (each_passes _ friends x.0 parts.0 x.1))))
    (ascending friends parts.1)

-- ---- those of a pool whose transactions are in a set

abbrev pub everyone : ℕ → Bool
everyone tx = true

abbrev pub joined : Friend → Friend → Bool
joined friend other = meets friend.wish other.wish || meets other.wish friend.wish

module _ (friends : List Friend) (among : ℕ → Bool) where
  abbrev pub chosen : List Friend
  chosen = filter (λ friend. among friend.tx) friends

  -- each of them asks for one of them
  abbrev pub are_served : Bool
  are_served =
      list_all (λ friend. list_any (λ other. among other.tx && meets friend.wish other.wish) friends) chosen

  -- whoever is joined with one of them is one of them
  abbrev pub are_closed : Bool
  are_closed =
      list_all (λ friend. list_all (λ other. not (joined friend other) || among other.tx) friends) chosen

  in_pool : (x : Posted) → IsIn (map posted friends) among x
      → (friend : Friend) × Contains chosen friend × (x ≡ posted friend)
  in_pool x h =
      let is = of_mapped posted friends x h.0 in (
        is.0,
        to_filtered (λ friend. among friend.tx) friends is.0 is.1
            (sym (ap (λ (p : Posted). among p.tx) is.2) ∙ h.1),
        is.2,
      )

  supported : are_served ≡ true → IsSupported (map posted friends) among
  supported served asker zero post h e =
      let is = in_pool asker h in
      let partner = one_passes _ friends (each_passes _ chosen is.0 served is.1) in
      let parts = and_both _ _ partner.2 in (
        posted partner.0,
        (to_mapped posted friends partner.0 partner.1, parts.0),
        subst (λ p. CanMeet p 0 (posted partner.0)) (sym is.2) (can_meet is.0 partner.0 parts.1),
      )
  supported served asker (suc k) post h e =
      let is = in_pool asker h in
      absurd (no_post k is.0 post (subst (λ (p : Posted). slice_get p.statement.posts (suc k) ≡ Some post) is.2 e))

  pub remains : are_served ≡ true → (friend : Friend) → Contains chosen friend
      → IsInRemainder (map posted friends) (posted friend)
  remains served friend there =
      let is = of_filtered (λ friend. among friend.tx) friends friend there in
      record {
        among = among;
        supported = supported served;
        is_in = (to_mapped posted friends friend is.0, is.1);
      }

  -- ---- links lead from them to them

  onward : are_closed ≡ true → (friend : Friend) → Contains chosen friend → (next : Posted)
      → Contains (map posted friends) next → AreJoined (posted friend) next
      → (other : Friend) × Contains chosen other × (next ≡ posted other)
  onward closed friend there next in_pool h = of h.1
    where
      is : (other : Friend) × Contains friends other × (next ≡ posted other)
      is = of_mapped posted friends next in_pool

      mine : Contains friends friend
      mine = (of_filtered (λ friend. among friend.tx) friends friend there).0

      by : joined friend is.0 ≡ true → (other : Friend) × Contains chosen other × (next ≡ posted other)
      by k = (
        is.0,
        to_filtered (λ friend. among friend.tx) friends is.0 is.1
            (unless _ _ (each_passes _ friends is.0 (each_passes _ chosen friend closed there) is.1) k),
        is.2,
      )

      of : CanMeet (posted friend) h.0 next ⊎ CanMeet next h.0 (posted friend)
          → (other : Friend) × Contains chosen other × (next ≡ posted other)
      of (inl k) =
          by (or_first _ _ (met_by friend is.0 h.0 (subst (λ p. CanMeet (posted friend) h.0 p) is.2 k)).1)
      of (inr k) =
          by (or_second _ _ (met_by is.0 friend h.0 (subst (λ p. CanMeet p h.0 (posted friend)) is.2 k)).1)

  reached : are_closed ≡ true → (n : ℕ) (x last : Posted) (friend : Friend) → Contains chosen friend
      → x ≡ posted friend → AreLinkedIn n (map posted friends) x last
      → (other : Friend) × Contains chosen other × (last ≡ posted other)
  reached closed zero x last friend there is h = (friend, there, sym h ∙ is)
  reached closed (suc n) x last friend there is h =
      let next = onward closed friend there h.0 h.2.is_in.0 (subst (λ p. AreJoined p h.0) is h.1) in
      reached closed n h.0 last next.0 next.1 next.2 h.3

  -- ---- the component of the first of them, with whom each is joined

  pub joined_by : (one other : Friend) → joined one other ≡ true → AreJoined (posted one) (posted other)
  joined_by one other h = (0, of _ _ h refl refl)
    where
      of : (a b : Bool) → (a || b) ≡ true → meets one.wish other.wish ≡ a → meets other.wish one.wish ≡ b
          → CanMeet (posted one) 0 (posted other) ⊎ CanMeet (posted other) 0 (posted one)
      of true b h d e = inl (can_meet one other d)
      of false true h d e = inr (can_meet other one e)
      of false false h d e = cc

  pub component : (first : Friend) (more : List Friend) → chosen ≡ first ∷ more → are_served ≡ true
      → are_closed ≡ true → list_all (joined first) more ≡ true → ascends (first ∷ more) ≡ true
      → IsComponent (map posted friends) (map posted (first ∷ more))
  component first more is served closed star by_number =
      record {
        first = posted first;
        in_remainder = remains served first (there first (first_there first more));
        class = λ member. (
          λ h. let x = of_mapped posted (first ∷ more) member h in
              subst (λ p. IsInRemainder (map posted friends) p × AreLinked (map posted friends) (posted first) p)
              (sym x.2) (remains served x.0 (there x.0 x.1), linked x.0 x.1),
          λ h. let own = there first (first_there first more) in
              let x = reached closed h.1.0 (posted first) member first own refl h.1.1 in
              subst (λ p. Contains (map posted (first ∷ more)) p) (sym x.2)
              (to_mapped posted (first ∷ more) x.0 (subst (λ xs. Contains xs x.0) is x.1)),
        );
        ascending = ascending (first ∷ more) by_number;
      }
    where
      there : (friend : Friend) → Contains (first ∷ more) friend → Contains chosen friend
      there friend h = subst (λ xs. Contains xs friend) (sym is) h

      linked : (friend : Friend) → Contains (first ∷ more) friend
          → AreLinked (map posted friends) (posted first) (posted friend)
      linked friend h =
          by_first first friend more (λ e. (zero, ap posted (sym e))) (λ later. (
            1,
            (
              posted friend,
              joined_by first friend (each_passes (joined first) more friend star later),
              remains served friend (there friend h),
              refl,
            ),
          )) h
