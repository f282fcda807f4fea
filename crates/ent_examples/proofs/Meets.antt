-- Whose post a head of whom meets: that of who is asked for, under the same relation.
use Rattle.std.proofs.Common.{◌≡◌, ℕ, zero, suc, Bool, true, ◌&&◌, List, [], ◌∷◌, refl, sym, ap, arith, ◌∙◌}
use Rattle.std.proofs.Common.{Some, ◌⊎◌, inl, inr}
use Rattle.std.specs.Prelude.{Contains, slice_get}
use Rattle.ent_value.specs.declared.value.Kind.TheVariants as kinds
use Rattle.ent_value.specs.declared.value.Value.{Value}
use Rattle.ent_value.specs.declared.value.Value.TheVariants.{Text}
use Rattle.ent_semantics.specs.declared.entangled.Atom.{Atom}
use Rattle.ent_semantics.specs.declared.entangled.Term.TheVariants as terms
use Rattle.ent_semantics.specs.declared.answer.Fact.{Fact}
use Rattle.ent_semantics.specs.Database.{Name, same_name}
use Rattle.ent_semantics.specs.Names.{equal_names, name_itself}
use Rattle.ent_semantics.specs.Pool.{CanMeet, Unify, fact_under}
use Rattle.ent_lists.specs.Elements.{and_both, both_and}
use Rattle.ent_lists.proofs.Contained.{contains_none}
use Rattle.ent_examples.specs.Partners.{flight_122}
use Rattle.ent_examples.specs.Wish.{Wish, Friend, posted}
use Rattle.ent_examples.proofs.Listed.{first_or_later}

-- the other is the one that is asked for
abbrev pub meets : Wish → Wish → Bool
meets wish other = same_name wish.relation other.relation && same_name wish.partner other.own

-- relation(name, fno), closed
abbrev pub atom : Name → Name → Atom Value
atom relation name = record { relation = relation; terms = terms.Known (Text name) ∷ terms.Variable 0 ∷ [] }

-- under flight 122 two atoms of one relation and one name are one fact
pub under_122 : (relation name other_relation other : Name) → relation ≡ other_relation → name ≡ other
    → Unify (kinds.Int ∷ []) (atom relation name) (kinds.Int ∷ []) (atom other_relation other)
under_122 relation name other_relation other e f =
    record {
      values = flight_122 ∷ [];
      of_kinds = (refl, tt);
      other_values = flight_122 ∷ [];
      of_other_kinds = (refl, tt);
      one_fact = λ i. record { relation = e i; values = Text (f i) ∷ flight_122 ∷ [] };
    }

pub can_meet : (friend other : Friend) → meets friend.wish other.wish ≡ true
    → CanMeet (posted friend) 0 (posted other)
can_meet friend other h =
    let parts = and_both _ _ h in
    record {
      post = atom friend.wish.relation friend.wish.partner;
      is_post = refl;
      head = atom other.wish.relation other.wish.own;
      is_head = (0, omega arith, refl);
      unify = under_122 friend.wish.relation friend.wish.partner other.wish.relation other.wish.own
          (equal_names _ _ parts.0) (equal_names _ _ parts.1);
    }

-- ---- the other way

same_post : (x y : Atom Value) → ◌≡◌ (Some x) (Some y) → x ≡ y
same_post x y e = cc

pub no_post : (k : ℕ) (friend : Friend) (post : Atom Value)
    → slice_get (posted friend).statement.posts (suc k) ≡ Some post → ⊥
no_post k friend post e = cc

first_name : (x y : Name) (xs ys : List Value) → Text x ∷ xs ≡ Text y ∷ ys → x ≡ y
first_name x y xs ys e = cc

itself : (x y : Name) → x ≡ y → same_name x y ≡ true
itself x y e = sym (ap (λ z. same_name x z) e) ∙ name_itself x

unified : (relation name other_relation other : Name) (values other_values : List Value)
    → fact_under values (atom relation name) ≡ fact_under other_values (atom other_relation other)
    → (same_name relation other_relation && same_name name other) ≡ true
unified relation name other_relation other values other_values e =
    both_and _ _ (itself _ _ (ap (λ (fact : Fact). fact.relation) e))
    (itself _ _ (first_name name other _ _ (ap (λ (fact : Fact). fact.values) e)))

pub met_by : (friend other : Friend) (index : ℕ) → CanMeet (posted friend) index (posted other)
    → (index ≡ 0) × (meets friend.wish other.wish ≡ true)
met_by friend other zero h = (refl, of (first_or_later _ h.head [] h.is_head))
  where
    of : (h.head ≡ atom other.wish.relation other.wish.own) ⊎ Contains [] h.head → meets friend.wish other.wish ≡ true
    of (inl e) =
        unified friend.wish.relation friend.wish.partner other.wish.relation other.wish.own h.unify.values
        h.unify.other_values (ap (fact_under h.unify.values) (same_post _ h.post h.is_post) ∙ h.unify.one_fact
        ∙ ap (fact_under h.unify.other_values) e)
    of (inr more) = absurd (contains_none _ more)
met_by friend other (suc k) h = absurd (no_post k friend h.post h.is_post)
