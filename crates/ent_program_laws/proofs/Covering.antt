-- What the text of an entangled statement covers of what the statement gives.
use Rattle.std.proofs.Common.{◌≡◌, ℕ, zero, suc, List, [], ◌∷◌, length, map, Option, Some, Contains, slice_get}
use Rattle.std.proofs.Common.{refl, sym, ap, subst, ◌∙◌, inl, inr}
use Rattle.ent_lists.specs.Elements.{In, contains_in, in_contains, of_map, to_map, in_flat, to_flat}
use Rattle.ent_value.specs.declared.value.Value.{Value}
use Rattle.ent_tree.specs.declared.entangled.Condition.{Condition}
use Rattle.ent_tree.specs.declared.entangled.Condition.TheVariants.{InSelect, InAnswer, Test}
use Rattle.ent_tree.specs.declared.entangled.EntangledItem.{EntangledItem}
use Rattle.ent_tree.specs.declared.entangled.Term.{Term}
use Rattle.ent_tree.specs.declared.entangled.Term.TheVariants as terms
use Rattle.ent_tree.specs.declared.operand.Identifier.{Identifier}
use Rattle.ent_tree.specs.declared.operand.ValueSpecification.{ValueSpecification}
use Rattle.ent_tree.specs.declared.operand.ValueSpecification.TheVariants as specifications
use Rattle.ent_semantics.specs.declared.answer.Fact.{Fact}
use Rattle.ent_semantics.specs.Database.{Name, Environment}
use Rattle.ent_semantics.specs.Entangled.{Valuation, condition_posts, head_terms, heads, posts, term_value}
use Rattle.ent_semantics.specs.Entangled.{term_worth, variable_value, written_variables}
use Rattle.ent_semantics.specs.Term.{known_value as worth_of, no_value}
use Rattle.std.specs.Prelude.{unwrap_or}
use Rattle.std.proofs.lemmas.Simd.{map-map}
use Rattle.ent_meetings.specs.Known.{known_term, known_value}
use Rattle.ent_meetings.specs.Party.{TextView, condition_demands, offered_in, view_demands, view_offers}
use Rattle.ent_meetings.specs.declared.pattern.Pattern.{Pattern}
use Rattle.ent_program_laws.specs.Cover.{Covers, IsCovered}
use Rattle.ent_program_laws.specs.Known.{Agrees}

-- ---- values

one_value : (a b : Value) → Some a ≡ Some b → a ≡ b
one_value a b e = cc

value_known : (known environment : Environment) (written : ValueSpecification) (value : Value)
    → Agrees known environment → known_value known written ≡ Some value → worth_of environment written ≡ value
value_known known environment (specifications.Literal literal) value agrees is = one_value literal.value value is
value_known known environment (specifications.HostVariable variable) value agrees is =
    ap (λ (o : Option Value). unwrap_or o no_value) (agrees variable.name value is)

term_known : (known environment : Environment) (variables : Name → Value) (term : Term) (value : Value)
    → Agrees known environment → known_term known term ≡ Some value → term_value environment variables term ≡ value
term_known known environment variables (terms.Value written) value agrees is =
    value_known known environment written value agrees is
term_known known environment variables (terms.Variable variable) value agrees is = cc (is)

-- ---- rows

module _ {X : Type 0} (known : X → Option Value) (worth : X → Value) where
  as_long : (xs : List X) → length (map known xs) ≡ length (map worth xs)
  as_long [] = refl
  as_long (x ∷ xs) = ap suc (as_long xs)

  known_so : ((x : X) (value : Value) → known x ≡ Some value → worth x ≡ value) → (xs : List X) (place : ℕ)
      (value : Value) → slice_get (map known xs) place ≡ Some (Some value)
      → slice_get (map worth xs) place ≡ Some value
  known_so so [] place value is = cc (is)
  known_so so (x ∷ xs) zero value is = ap Some (so x value (inner (known x) is))
    where
      inner : (o : Option Value) → Some o ≡ Some (Some value) → o ≡ Some value
      inner o e = cc
  known_so so (x ∷ xs) (suc place) value is = known_so so xs place value is

  pub row_covered : (relation : Name) → ((x : X) (value : Value) → known x ≡ Some value → worth x ≡ value)
      → (xs : List X) → Covers (record { relation = relation; terms = map known xs })
      (record { relation = relation; values = map worth xs })
  row_covered relation so xs = record { relation = refl; as_long = as_long xs; known = known_so so xs }

-- ---- a statement

module _ (view : TextView) (environment : Environment) (valuation : Valuation)
    (agrees : Agrees view.known environment) where
  abbrev variables : Name → Value
  variables = variable_value (written_variables view.entangled) valuation

  abbrev worth : Term → Value
  worth = term_worth environment view.entangled valuation

  relation_covered : (relation : Identifier) → Covers (offered_in view relation)
      (record { relation = relation.name; values = map worth (head_terms view.entangled) })
  relation_covered relation =
      subst (λ (values : List Value). Covers (offered_in view relation)
      (record { relation = relation.name; values = values }))
      (sym (map-map worth (λ (item : EntangledItem). item.term) view.entangled.items))
      (row_covered (λ (item : EntangledItem). known_term view.known item.term)
      (λ (item : EntangledItem). worth item.term)
      relation.name (λ item value is. term_known view.known environment variables item.term value agrees is)
      view.entangled.items)

  pub head_covered : (head : Fact) → Contains (heads environment view.entangled valuation) head
      → IsCovered (view_offers view) head
  head_covered head has =
      let names : List Name = map (λ (relation : Identifier). relation.name) view.entangled.relations in
      let named = of_map (λ (relation : Name). record {
        relation = relation;
        values = map worth (head_terms view.entangled);
      })
      names head (contains_in (heads environment view.entangled valuation) head has) in
      let written = of_map (λ (relation : Identifier). relation.name) view.entangled.relations named.0 named.1 in (
        offered_in view written.0,
        in_contains (view_offers view) (offered_in view written.0)
            (to_map (offered_in view) view.entangled.relations written.0 written.1),
        subst (Covers (offered_in view written.0))
            (sym (named.2 ∙ ap (λ (relation : Name). record {
              relation = relation;
              values = map worth (head_terms view.entangled);
            }) written.2))
            (relation_covered written.0),
      )

  tuple_covered : (relation : Name) (tuple : List Term)
      → Covers (record { relation = relation; terms = map (known_term view.known) tuple })
      (record { relation = relation; values = map worth tuple })
  tuple_covered relation tuple =
      row_covered (known_term view.known) worth relation
      (λ term value is. term_known view.known environment variables term value agrees is) tuple

  condition_post : (condition : Condition) (post : Fact) → In post (condition_posts worth condition)
      → (demand : Pattern) × In demand (condition_demands view.known condition) × Covers demand post
  condition_post (InSelect tuple select) post at = absurd at
  condition_post (InAnswer tuple relation) post (inl same) = (
    record { relation = relation.name; terms = map (known_term view.known) tuple.terms },
    inl refl,
    subst (Covers (record { relation = relation.name; terms = map (known_term view.known) tuple.terms })) (sym same)
        (tuple_covered relation.name tuple.terms),
  )
  condition_post (InAnswer tuple relation) post (inr at) = absurd at
  condition_post (Test test) post at = absurd at

  condition_demand : (condition : Condition) (demand : Pattern) → In demand (condition_demands view.known condition)
      → (post : Fact) × In post (condition_posts worth condition) × Covers demand post
  condition_demand (InSelect tuple select) demand at = absurd at
  condition_demand (InAnswer tuple relation) demand (inl same) = (
    record { relation = relation.name; values = map worth tuple.terms },
    inl refl,
    subst (λ (pattern : Pattern). Covers pattern (record { relation = relation.name; values = map worth tuple.terms }))
        (sym same) (tuple_covered relation.name tuple.terms),
  )
  condition_demand (InAnswer tuple relation) demand (inr at) = absurd at
  condition_demand (Test test) demand at = absurd at

  pub post_covered : (post : Fact) → Contains (posts environment view.entangled valuation) post
      → IsCovered (view_demands view) post
  post_covered post has =
      let of = in_flat (condition_posts worth) view.entangled.conditions post
      (contains_in (posts environment view.entangled valuation) post has) in
      let demanded = condition_post of.0 post of.2 in (
        demanded.0,
        in_contains (view_demands view) demanded.0
            (to_flat (condition_demands view.known) view.entangled.conditions of.0 demanded.0 of.1 demanded.1),
        demanded.2,
      )

  pub demand_covers : (demand : Pattern) → Contains (view_demands view) demand
      → (post : Fact) × Contains (posts environment view.entangled valuation) post × Covers demand post
  demand_covers demand has =
      let of = in_flat (condition_demands view.known) view.entangled.conditions demand
      (contains_in (view_demands view) demand has) in
      let given = condition_demand of.0 demand of.2 in (
        given.0,
        in_contains (posts environment view.entangled valuation) given.0
            (to_flat (condition_posts worth) view.entangled.conditions of.0 given.0 of.1 given.1),
        given.2,
      )
