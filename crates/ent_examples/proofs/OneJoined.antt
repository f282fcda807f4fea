-- Two states in which the same members are answered together are one, but for the labels of groups.
use Rattle.std.proofs.Common.{◌≡◌, ◌↔◌, inl, inr, List, [], ◌∷◌, sym, ap, ◌∙◌}
use Rattle.std.proofs.Common.{Option, Some, None, Contains, zip}
use Rattle.std.specs.List.{AllZip}
use Rattle.ent_semantics.specs.Entangled.{Valuation}
use Rattle.ent_semantics.specs.Pool.{Posted}
use Rattle.ent_protocol.specs.State.{State, Member, members}
use Rattle.ent_lists.specs.Elements.{In, in_contains, contains_in}
use Rattle.ent_examples.specs.Joining.{own_pair, IsAsBefore, BecomesBy, Passage, before_and_after}
use Rattle.ent_examples.specs.Joining.{IsJoined, AreOneButForLabels}
use Rattle.ent_examples.proofs.Joined.{zip_by, zip_joined}

-- a member that was the same before is the same after, but for its label
one_after : (before one other : Member) → IsAsBefore before one → IsAsBefore before other → IsAsBefore one other
one_after before one other h k = k ∙ sym (ap (λ (m : Member). record m { group = other.group }) h)

one_becomes : (pair : Option (Posted × Valuation)) (before one other : Member) → BecomesBy pair before one
    → BecomesBy pair before other → IsAsBefore one other
one_becomes (Some pair) before one other h k = k ∙ sym (ap (λ (m : Member). record m { group = other.group }) h)
one_becomes None before one other h k = one_after before one other h k

-- ---- three lists, place by place

module _ {X Y Z : Type 0} (R : X → Y → Type 0) (S : X → Z → Type 0) (T : Y → Z → Type 0) where
  through : (xs : List X) (ys : List Y) (zs : List Z) → ((x : X) (y : Y) (z : Z) → R x y → S x z → T y z)
      → AllZip R xs ys → AllZip S xs zs → AllZip T ys zs
  through [] [] [] f a b = tt
  through [] [] (z ∷ zs) f a b = absurd b
  through [] (y ∷ ys) zs f a b = absurd a
  through (x ∷ xs) [] zs f a b = absurd a
  through (x ∷ xs) (y ∷ ys) [] f a b = absurd b
  through (x ∷ xs) (y ∷ ys) (z ∷ zs) f a b = (f x y z a.0 b.0, through xs ys zs f a.1 b.1)

  -- whom two are, one after the other, the same stood before
  common : (xs : List X) (ys : List Y) (zs : List Z) → AllZip R xs ys → AllZip S xs zs → (pair : Y × Z)
      → In pair (zip ys zs) → (x : X) × In (x, pair.0) (zip xs ys) × In (x, pair.1) (zip xs zs)
  common [] [] zs a b pair at = absurd at
  common [] (y ∷ ys) zs a b pair at = absurd a
  common (x ∷ xs) [] zs a b pair at = absurd a
  common (x ∷ xs) (y ∷ ys) [] a b pair at = absurd b
  common (x ∷ xs) (y ∷ ys) (z ∷ zs) a b pair (inl same) = (
    x,
    inl (ap (λ (p : Y × Z). (let q : X × Y = (x, p.0) in q)) same),
    inl (ap (λ (p : Y × Z). (let q : X × Z = (x, p.1) in q)) same),
  )
  common (x ∷ xs) (y ∷ ys) (z ∷ zs) a b pair (inr at) =
      let r = common xs ys zs a.1 b.1 pair at in (r.0, inr r.1, inr r.2)

-- ---- the two states

abbrev Stands : Member → Member → Type 0
Stands before after = Unit {0}

module _ (s : State) (asked : List Posted) (groundings : List Valuation) where
  abbrev Becomes : Member → Member → Type 0
  Becomes member after = BecomesBy (own_pair asked groundings member) member after

  stand : (new : State) → IsJoined s asked groundings new → AllZip Stands (members s) (members new)
  stand new h =
      zip_joined Stands s.prepared s.active new.prepared new.active
      (zip_by IsAsBefore Stands s.prepared new.prepared (λ before after is. tt) h.prepared)
      (zip_by Becomes Stands s.active new.active (λ before after is. tt) h.active)

  module _ (one other : State) (h : IsJoined s asked groundings one) (k : IsJoined s asked groundings other) where
    -- whom two are, before them
    origin : (pair : Passage) → Contains (before_and_after one other) pair
        → (before : Member) × In (before, pair.0) (before_and_after s one)
        × In (before, pair.1) (before_and_after s other)
    origin pair at =
        common Stands Stands Stands (members s) (members one) (members other) (stand one h) (stand other k) pair
        (contains_in (before_and_after one other) pair at)

    same_groups : (first second : Passage) → Contains (before_and_after one other) first
        → Contains (before_and_after one other) second
        → (first.0.group ≡ second.0.group) ↔ (first.1.group ≡ second.1.group)
    same_groups first second at bt =
        let a = origin first at in
        let b = origin second bt in
        let of_one = h.groups (a.0, first.0) (b.0, second.0)
        (in_contains (before_and_after s one) (a.0, first.0) a.1)
        (in_contains (before_and_after s one) (b.0, second.0) b.1) in
        let of_other = k.groups (a.0, first.1) (b.0, second.1)
        (in_contains (before_and_after s other) (a.0, first.1) a.2)
        (in_contains (before_and_after s other) (b.0, second.1) b.2) in
        (λ same. of_other.1 (of_one.0 same), λ same. of_one.1 (of_other.0 same))

    pub one_joined : AreOneButForLabels one other
    one_joined =
        record {
          prepared = through IsAsBefore IsAsBefore IsAsBefore s.prepared one.prepared other.prepared one_after
              h.prepared k.prepared;
          active = through Becomes Becomes IsAsBefore s.active one.active other.active
              (λ before. one_becomes (own_pair asked groundings before) before) h.active k.active;
          groups = same_groups;
          others = k.others ∙ λ i. record ((sym h.others) i) {
            prepared = other.prepared;
            active = other.active;
            joints = (k.joints ∙ sym h.joints) i;
          };
        }
