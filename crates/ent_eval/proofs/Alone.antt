-- A component of a safe pool is a component of the pool that it makes alone, and that pool is safe.
use Rattle.std.proofs.Common.{◌≡◌, ◌<◌, ◌||◌, ℕ, zero, suc, Bool, true, List, [], ◌∷◌, length, refl, sym, ap}
use Rattle.std.proofs.Common.{◌∙◌}
use Rattle.std.proofs.Common.{subst, arith, inl, inr}
use Rattle.std.specs.Prelude.{◌↔◌, ◌==◌, Contains, Some, slice_get, slice_index_or}
use Rattle.std.specs.List.{list_any}
use Rattle.ent_lists.specs.Elements.{or_second, number_itself}
use Rattle.ent_value.specs.declared.value.Value.{Value}
use Rattle.ent_semantics.specs.declared.entangled.Atom.{Atom}
use Rattle.ent_semantics.specs.Component.{SetOfTransactions, IsIn, IsSupported, IsInRemainder, AreJoined}
use Rattle.ent_semantics.specs.Component.{AreLinkedIn, AreLinked, IsComponent}
use Rattle.ent_semantics.specs.Pool.{Posted, CanMeet, IsSafe}

any_at : {X : Type 0} (p : X → Bool) (xs : List X) (x : X) (k : ℕ) → k < length xs → slice_index_or xs k x ≡ x
    → p x ≡ true → list_any p xs ≡ true
any_at p [] x k low at passes = absurd (omega (arith, low))
any_at p (y ∷ ys) x zero low at passes = ap (λ b. b || list_any p ys) (ap p at ∙ passes)
any_at p (y ∷ ys) x (suc k) low at passes =
    or_second (p y) (list_any p ys) (any_at p ys x k (omega (arith, low)) at passes)

-- one step more
linked_next : (n : ℕ) (pool : List Posted) (first last next : Posted) → AreLinkedIn n pool first last
    → AreJoined last next → IsInRemainder pool next → AreLinked pool first next
linked_next zero pool first last next h joined within =
    (suc zero, (next, subst (λ x. AreJoined x next) (sym h) joined, within, refl))
linked_next (suc n) pool first last next h joined within =
    let rest = linked_next n pool h.0 last next h.3 joined within in
    (suc rest.0, (h.0, h.1, h.2, rest.1))

module _ (pool members : List Posted) (component : IsComponent pool members) where
  abbrev among : SetOfTransactions
  among tx = list_any (λ (member : Posted). member.tx == tx) members

  named : (member : Posted) → Contains members member → among member.tx ≡ true
  named member there =
      any_at (λ (other : Posted). other.tx == member.tx) members member there.0 there.1 there.2
      (number_itself member.tx)

  -- what is joined to a member, and remains, is a member
  next_there : (last next : Posted) → Contains members last → AreJoined last next → IsInRemainder pool next
      → Contains members next
  next_there last next there joined within =
      let linked = ((component.class last).0 there).1 in
      (component.class next).1 (
        within,
        linked_next linked.0 pool component.first last next linked.1 joined within,
      )

  supported : IsSupported members among
  supported asker index post is_in is_post =
      let remains = ((component.class asker).0 is_in.0).0 in
      let met = remains.supported asker index post remains.is_in is_post in
      let within : IsInRemainder pool met.0 =
      record { among = remains.among; supported = remains.supported; is_in = met.1 } in
      let there = next_there asker met.0 is_in.0 (index, inl met.2) within in
      (met.0, (there, named met.0 there), met.2)

  remains_alone : (member : Posted) → Contains members member → IsInRemainder members member
  remains_alone member there = record { among = among; supported = supported; is_in = (there, named member there) }

  linked_alone : (n : ℕ) (first last : Posted) → Contains members first → AreLinkedIn n pool first last
      → AreLinkedIn n members first last
  linked_alone zero first last there h = h
  linked_alone (suc n) first last there h =
      let next = next_there first h.0 there h.1 h.2 in
      (h.0, h.1, remains_alone h.0 next, linked_alone n h.0 last next h.3)

  first_there : Contains members component.first
  first_there = (component.class component.first).1 (component.in_remainder, (zero, refl))

  pub component_alone : IsComponent members members
  component_alone = record {
    first = component.first;
    in_remainder = remains_alone component.first first_there;
    class = λ member. (
      λ there.
          let linked = ((component.class member).0 there).1 in
          (remains_alone member there, (linked.0, linked_alone linked.0 component.first member first_there linked.1)),
      λ h. h.0.is_in.0,
    );
    ascending = component.ascending;
  }

  in_pool : (member : Posted) → Contains members member → Contains pool member
  in_pool member there = ((component.class member).0 there).0.is_in.0

  pub safe_alone : IsSafe pool → IsSafe members
  safe_alone safe asker first second index a b c =
      safe asker first second index (in_pool asker a) (in_pool first b) (in_pool second c)
