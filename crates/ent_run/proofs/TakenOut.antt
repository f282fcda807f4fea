-- Members of a group are taken out of a slab, one key after the other.
use Rattle.std.proofs.Common.{◌≡◌, ◌≢◌, ℕ, Bool, false, List, [], ◌∷◌, ◌++◌, append_assoc, sym, ap, subst, ◌∙◌}
use Rattle.std.proofs.Common.{inl, inr, nat_eq}
use Rattle.std.specs.Prelude.{Contains, IsSome, Option, filter}
use Rattle.std.specs.List.{AllByRecursion, IsDistinct}
use Rattle.std.proofs.lemmas.Bool.{cases_eq}
use Rattle.std.proofs.lemmas.List.Elements.{filter-append}
use Rattle.slab.specs.Slab.{ContainsKey, Slab, get as value_at}
use Rattle.ent_lists.specs.Elements.{differ}
use Rattle.ent_protocol.specs.State.{Member}
use Rattle.ent_run.specs.UnderKeys.{AreThere, if_passing, member_under, members_under}
use Rattle.ent_run.proofs.Distinct.{one_above}
use Rattle.ent_run.proofs.InSlab.{if_passing_less, under_same}
use Rattle.ent_run.proofs.Lists.{contains_cases, contains_first, contains_later}

-- the first key was looked at, the others are left
pub record Taking : Type 0 where
  pub live : Slab Member
  pub mid : Slab Member
  pub keys : List ℕ
  pub first : ℕ
  pub rest : List ℕ
  pub whole : keys ≡ first ∷ rest
  pub there : AreThere live keys
  pub distinct : IsDistinct nat_eq keys
  pub passes : Member → Bool
  pub own : value_at mid first ≡ if_passing passes (value_at live first)
  pub others : (other : ℕ) → other ≢ first → value_at mid other ≡ value_at live other

split_distinct : (first : ℕ) (rest : List ℕ) → IsDistinct nat_eq (first ∷ rest)
    → AllByRecursion (λ n. nat_eq first n ≡ false) rest × IsDistinct nat_eq rest
unfolding IsDistinct
split_distinct first rest distinct = distinct

module _ (t : Taking) where
  apart : AllByRecursion (λ n. nat_eq t.first n ≡ false) t.rest × IsDistinct nat_eq t.rest
  apart = split_distinct t.first t.rest (subst (λ (ks : List ℕ). IsDistinct nat_eq ks) t.whole t.distinct)

  within : (key : ℕ) → Contains (t.first ∷ t.rest) key → Contains t.keys key
  within key = subst (λ (ks : List ℕ). Contains ks key) (sym t.whole)

  other : (key : ℕ) → Contains t.rest key → key ≢ t.first
  other key later same =
      differ t.first key (one_above (λ n. nat_eq t.first n ≡ false) t.rest key apart.0 later) (sym same)

  pub rest_distinct : IsDistinct nat_eq t.rest
  rest_distinct = apart.1

  pub rest_there : AreThere t.mid t.rest
  rest_there key later =
      subst (λ (o : Option Member). IsSome o) (sym (t.others key (other key later)))
      (t.there key (within key (contains_later t.first key t.rest later)))

  same_rest : members_under t.mid t.rest ≡ members_under t.live t.rest
  same_rest = under_same t.live t.mid t.rest (λ key later. t.others key (other key later))

  module _ (new : Slab Member)
      (listed : (key : ℕ) → Contains t.rest key → value_at new key ≡ if_passing t.passes (value_at t.mid key))
      (others : (key : ℕ) → (Contains t.rest key → ⊥) → value_at new key ≡ value_at t.mid key)
      (fewer : (key : ℕ) → ContainsKey new key → ContainsKey t.mid key) where
    pub taken_listed : (key : ℕ) → Contains t.keys key → value_at new key ≡ if_passing t.passes (value_at t.live key)
    taken_listed key there =
        elim (contains_cases t.first key t.rest (subst (λ (ks : List ℕ). Contains ks key) t.whole there)) [
          | inl same ↦ others key (λ later. other key later (sym same))
              ∙ ap (value_at t.mid) (sym same) ∙ t.own ∙ ap (λ k. if_passing t.passes (value_at t.live k)) same
          | inr later ↦ listed key later ∙ ap (if_passing t.passes) (t.others key (other key later))
        ]

    pub taken_others : (key : ℕ) → (Contains t.keys key → ⊥) → value_at new key ≡ value_at t.live key
    taken_others key out =
        others key (λ later. out (within key (contains_later t.first key t.rest later)))
        ∙ t.others key (λ same. out (within key
        (subst (λ (k : ℕ). Contains (t.first ∷ t.rest) k) (sym same) (contains_first t.first t.rest))))

    pub taken_fewer : (key : ℕ) → ContainsKey new key → ContainsKey t.live key
    taken_fewer key there =
        elim (cases_eq key t.first) [
          | inl same ↦ subst (λ (k : ℕ). ContainsKey t.live k) (sym same)
              (if_passing_less t.passes (value_at t.live t.first)
              (subst (λ (o : Option Member). IsSome o) (ap (value_at t.mid) same ∙ t.own) (fewer key there)))
          | inr differs ↦ subst (λ (o : Option Member). IsSome o) (t.others key differs) (fewer key there)
        ]

  -- who comes to the others
  pub taken_whole : (test : Member → Bool) (before one all : List Member)
      → one ≡ before ++ filter test (member_under t.live t.first ∷ [])
      → all ≡ one ++ filter test (members_under t.mid t.rest)
      → all ≡ before ++ filter test (members_under t.live t.keys)
  taken_whole test before one all first more =
      let own = member_under t.live t.first in
      let later = members_under t.live t.rest in
      more
      ∙ (λ i. first i ++ filter test (same_rest i))
      ∙ append_assoc before (filter test (own ∷ [])) (filter test later)
      ∙ ap (λ (ms : List Member). before ++ ms) (sym (filter-append test (own ∷ []) later))
      ∙ ap (λ (ks : List ℕ). before ++ filter test (members_under t.live ks)) (sym t.whole)
