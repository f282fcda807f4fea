-- The heads, the postconditions and the bound values of a resolved statement.
use Rattle.std.proofs.Common.{◌≡◌, Bool, true, not, ◌&&◌, List, [], ◌∷◌, ◌++◌, map, length, Option, Some, None}
use Rattle.std.proofs.Common.{Ok, refl, sym, ap, ◌∙◌}
use Rattle.std.specs.List.{flat_map, list_all}
use Rattle.std.proofs.lemmas.List.{append-nil, append_assoc, map-append}
use Rattle.std.proofs.Math.Bool.{and_assoc, and-true}
use Rattle.ent_lists.proofs.Lists.{list_all-behind}
use Rattle.ent_value.specs.declared.value.Kind.{Kind}
use Rattle.ent_value.specs.declared.value.Value.{Value}
use Rattle.ent_tree.specs.declared.entangled.Condition.{Condition}
use Rattle.ent_tree.specs.declared.entangled.Condition.TheVariants as conditions
use Rattle.ent_tree.specs.declared.entangled.EntangledItem.{EntangledItem}
use Rattle.ent_tree.specs.declared.entangled.Term.{Term as TreeTerm}
use Rattle.ent_tree.specs.declared.entangled.Tuple.{Tuple}
use Rattle.ent_tree.specs.declared.operand.Identifier.{Identifier}
use Rattle.ent_tree.specs.declared.operand.Test.{Test}
use Rattle.ent_semantics.specs.Database.{Name, Environment, is_among}
use Rattle.ent_semantics.specs.declared.entangled.Atom.{Atom}
use Rattle.ent_semantics.specs.declared.entangled.Binding.{Binding as Bind}
use Rattle.ent_semantics.specs.declared.entangled.Term.{Term}
use Rattle.ent_semantics.specs.declared.operand.Known.{Known}
use Rattle.ent_semantics.specs.Form.{known_worth, atom_fact}
use Rattle.ent_semantics.specs.declared.answer.Fact.{Fact}
use Rattle.ent_semantics.specs.Entangled.{Valuation, facts, condition_posts, item_binds}
use Rattle.ent_semantics.specs.Selection.{holds}
use Rattle.ent_form.specs.declared.fault.FormFault.TheVariants.{Repeated}
use Rattle.ent_form.specs.Entangled.{term_in, terms_in, Offer, with_term, with_bind, bind_in, item_in, offer_from}
use Rattle.ent_form.specs.Entangled.{heads_from, atom_from, post_in, others_from}
use Rattle.ent_form.specs.Kinds.{Bound}
use Rattle.ent_form.specs.Lookup.{test_in}
use Rattle.ent_form.proofs.Heads.{found_of}
use Rattle.ent_form.proofs.ResolvedSteps.{one_answer, demand_given}
use Rattle.ent_form.proofs.Terms.{worth, form_worth, term_same, test_same, atom_same}

-- the host variable that is bound to a value, where one is
abbrev binds_of : Option Identifier → Value → List (Name × Value)
binds_of None value = []
binds_of (Some variable) value = (variable.name, value) ∷ []

item_binds_are : (worth : TreeTerm → Value) (term : TreeTerm) (binds : Option Identifier)
    → item_binds worth (record { term = term; binds = binds }) ≡ binds_of binds (worth term)
item_binds_are worth term None = refl
item_binds_are worth term (Some variable) = refl

-- one thing more behind those before, as it is seen
pub grown : {A B : Type 0} (f : A → B) (made : List A) (x : A) (y : B) (more : List B) → f x ≡ y
    → map f (made ++ x ∷ []) ++ more ≡ map f made ++ y ∷ more
grown f made x y more e =
    ap (λ xs. xs ++ more) (map-append f made (x ∷ []))
    ∙ append_assoc (map f made) (f x ∷ []) more
    ∙ ap (λ z. map f made ++ z ∷ more) e

module _ (environment : Environment) (names : List Name) (valuation : Valuation)
    (l : length valuation ≡ length names) where
  abbrev said : TreeTerm → Value
  said = worth environment names valuation l

  abbrev meant : Term Known → Value
  meant = form_worth environment names valuation l

  abbrev bound_value : Bind Known → Name × Value
  bound_value bind = (bind.variable, meant bind.term)

  abbrev fact : Atom Known → Fact
  fact atom = atom_fact (known_worth environment) valuation atom

  bind_same : (offer : Offer) (binds : Option Identifier) (found : Term Known × Kind) (out : Offer)
      → bind_in offer binds found ≡ Ok out
      → (out.terms ≡ offer.terms ++ found.0 ∷ [])
      × (map bound_value out.binds ≡ map bound_value offer.binds ++ binds_of binds (meant found.0))
  bind_same offer None found out e =
      let made : with_term offer found.0 ≡ out = one_answer (with_term offer found.0) out e in (
        ap (λ (o : Offer). o.terms) (sym made),
        ap (λ (o : Offer). map bound_value o.binds) (sym made)
            ∙ sym (append-nil (map bound_value offer.binds)),
      )
  bind_same offer (Some variable) found out e =
      let kept = demand_given (not (is_among (map (λ binding. binding.name) offer.bound) variable.name))
      (Repeated variable.place) (Ok (with_bind offer variable.name found)) out e in
      let made : with_bind offer variable.name found
      ≡ out = one_answer (with_bind offer variable.name found) out kept.1 in (
        ap (λ (o : Offer). o.terms) (sym made),
        ap (λ (o : Offer). map bound_value o.binds) (sym made)
            ∙ map-append bound_value offer.binds (record { variable = variable.name; term = found.0 } ∷ []),
      )

  pub offer_same : (demanded bound : Bound) (items : List EntangledItem) (offer out : Offer)
      → offer_from names demanded bound offer items ≡ Ok out
      → (map meant out.terms ≡ map meant offer.terms ++ map said (map (λ item. item.term) items))
      × (map bound_value out.binds ≡ map bound_value offer.binds ++ flat_map (item_binds said) items)
  unfolding item_in
  offer_same demanded bound [] offer out e =
      let made : offer ≡ out = one_answer offer out e in (
        ap (λ (o : Offer). map meant o.terms) (sym made)
            ∙ sym (append-nil (map meant offer.terms)),
        ap (λ (o : Offer). map bound_value o.binds) (sym made)
            ∙ sym (append-nil (map bound_value offer.binds)),
      )
  offer_same demanded bound (item ∷ more) offer out e =
      let step = found_of (item_in names demanded bound offer item) _ out e in
      let w = found_of (term_in names demanded bound item.term) _ step.0 step.1 in
      let same = term_same environment names valuation l demanded bound item.term w.0 w.1 in
      let one = bind_same offer item.binds w.0 step.0 w.2 in
      let rest = offer_same demanded bound more step.0 out step.2 in (
        rest.0
            ∙ ap (λ xs. map meant xs ++ map said (map (λ item. item.term) more)) one.0
            ∙ grown meant offer.terms w.0.0 (said item.term) (map said (map (λ item. item.term) more)) (sym same),
        rest.1
            ∙ ap (λ xs. xs ++ flat_map (item_binds said) more) one.1
            ∙ append_assoc (map bound_value offer.binds) (binds_of item.binds (meant w.0.0))
            (flat_map (item_binds said) more)
            ∙ ap (λ xs. map bound_value offer.binds ++ (xs ++ flat_map (item_binds said) more))
            (ap (binds_of item.binds) (sym same) ∙ sym (item_binds_are said item.term item.binds)),
      )

  pub heads_same : (terms : List (Term Known)) (relations : List Identifier) (earlier : List Name)
      (made out : List (Atom Known))
      → heads_from terms earlier made relations ≡ Ok out
      → map fact out ≡ map fact made ++ facts (map (λ relation. relation.name) relations) (map meant terms)
  heads_same terms [] earlier made out e = ap (map fact) (sym (one_answer made out e))
      ∙ sym (append-nil (map fact made))
  heads_same terms (relation ∷ more) earlier made out e =
      let head : Atom Known = record { relation = relation.name; terms = terms } in
      let kept = demand_given (not (is_among earlier relation.name)) (Repeated relation.place) _ out e in
      heads_same terms more (earlier ++ relation.name ∷ []) (made ++ head ∷ []) out kept.1
      ∙ grown fact made head (fact head) (facts (map (λ relation. relation.name) more) (map meant terms)) refl

  post_same : (demanded bound : Bound) (tuple : Tuple) (relation : Identifier) (post : Atom Known)
      → post_in names demanded bound tuple relation ≡ Ok post
      → fact post ≡ record { relation = relation.name; values = map said tuple.terms }
  unfolding post_in
  post_same demanded bound tuple relation post e =
      let w = found_of (atom_from names demanded bound [] tuple.terms) _ post e in
      ap fact (sym (one_answer _ post w.2))
      ∙ ap (λ (values : List Value). let f : Fact = record { relation = relation.name; values = values } in f)
      (atom_same environment names valuation l demanded bound tuple.terms [] w.0 w.1)

  -- the tests among conditions hold
  abbrev pub tests_hold : List Condition → Bool
  tests_hold [] = true
  tests_hold (conditions.InSelect tuple select ∷ more) = tests_hold more
  tests_hold (conditions.InAnswer tuple relation ∷ more) = tests_hold more
  tests_hold (conditions.Test test ∷ more) = holds said test && tests_hold more

  pub others_same : (demanded bound : Bound) (all : List Condition) (posts : List (Atom Known))
      → (tests : List (Test (Term Known))) (out : List (Atom Known) × List (Test (Term Known)))
      → others_from names demanded bound posts tests all ≡ Ok out
      → (map fact out.0 ≡ map fact posts ++ flat_map (condition_posts said) all)
      × (list_all (holds meant) out.1 ≡ (list_all (holds meant) tests && tests_hold all))
  others_same demanded bound [] posts tests out e =
      let made : (posts, tests) ≡ out = one_answer (posts, tests) out e in (
        ap (λ (o : List (Atom Known) × List (Test (Term Known))). map fact o.0) (sym made)
            ∙ sym (append-nil (map fact posts)),
        ap (λ (o : List (Atom Known) × List (Test (Term Known))). list_all (holds meant) o.1) (sym made)
            ∙ sym (and-true (list_all (holds meant) tests)),
      )
  others_same demanded bound (conditions.InSelect tuple select ∷ more) posts tests out e =
      others_same demanded bound more posts tests out e
  others_same demanded bound (conditions.InAnswer tuple relation ∷ more) posts tests out e =
      let w = found_of (post_in names demanded bound tuple relation) _ out e in
      let rest = others_same demanded bound more (posts ++ w.0 ∷ []) tests out w.2 in (
        rest.0
            ∙ grown fact posts w.0 _ (flat_map (condition_posts said) more)
            (post_same demanded bound tuple relation w.0 w.1),
        rest.1,
      )
  others_same demanded bound (conditions.Test test ∷ more) posts tests out e =
      let w = found_of (test_in (terms_in names demanded bound) test) _ out e in
      let same = test_same environment names valuation l demanded bound test w.0 w.1 in
      let rest = others_same demanded bound more posts (tests ++ w.0 ∷ []) out w.2 in (
        rest.0,
        rest.1
            ∙ ap (λ b. b && tests_hold more) (list_all-behind (holds meant) tests w.0)
            ∙ and_assoc (list_all (holds meant) tests) (holds meant w.0) (tests_hold more)
            ∙ ap (λ b. list_all (holds meant) tests && (b && tests_hold more)) (sym same),
      )
