-- The parts of a resolved statement together.
use Rattle.std.proofs.Common.{◌≡◌, List, [], map, length, Ok, sym, ap, ◌∙◌}
use Rattle.std.specs.List.{flat_map}
use Rattle.std.proofs.lemmas.List.{length-map}
use Rattle.ent_tree.specs.declared.entangled.Entangled.{Entangled as TreeEntangled}
use Rattle.ent_tree.specs.declared.entangled.Term.{Term as TreeTerm}
use Rattle.ent_tree.specs.declared.operand.Test.{Test}
use Rattle.ent_semantics.specs.declared.entangled.Atom.{Atom}
use Rattle.ent_semantics.specs.declared.entangled.Binding.{Binding as Bind}
use Rattle.ent_semantics.specs.declared.entangled.Entangled.{Entangled}
use Rattle.ent_semantics.specs.declared.entangled.Membership.{Membership}
use Rattle.ent_semantics.specs.declared.entangled.Term.{Term}
use Rattle.ent_semantics.specs.declared.operand.Known.{Known}
use Rattle.ent_semantics.specs.Form.{known_worth, term_worth, atom_fact, form_heads, form_posts, form_bound}
use Rattle.ent_value.specs.declared.value.Value.{Value}
use Rattle.ent_semantics.specs.Database.{Name, Environment}
use Rattle.ent_semantics.specs.Entangled.{Valuation, written_variables, head_terms, heads, posts, bound_values, facts}
use Rattle.ent_semantics.specs.Entangled.{condition_posts, item_binds, term_value, variable_value}
use Rattle.ent_form.specs.declared.catalogue.TableSchema.{TableSchema}
use Rattle.ent_form.specs.Entangled.{variables_of, memberships_from, Offer, no_offer, offer_from, heads_from}
use Rattle.ent_form.specs.Entangled.{others_from}
use Rattle.ent_form.specs.Entangled.{kinds_of, entangled_in}
use Rattle.ent_form.specs.Kinds.{Bound, none_bound}
use Rattle.ent_form.proofs.Heads.{found_of}
use Rattle.ent_form.proofs.ResolvedSteps.{one_answer}
use Rattle.ent_form.proofs.Variables.{variables_written}
use Rattle.ent_form.proofs.ResolvedHeads.{offer_same, heads_same, others_same}

-- what the parts of a statement gave
pub record Parts (tables : List TableSchema) (bound : Bound) (tree : TreeEntangled) (form : Entangled Known) : Type 0
  where
    pub body : List (Membership Known) × Bound
    pub offer : Offer
    pub answered : List (Atom Known)
    pub others : List (Atom Known) × List (Test (Term Known))
    pub body_given : memberships_from tables bound (variables_of tree) [] none_bound tree.conditions ≡ Ok body
    pub offer_given : offer_from (variables_of tree) body.1 bound no_offer tree.items ≡ Ok offer
    pub heads_given : heads_from offer.terms [] [] tree.relations ≡ Ok answered
    pub others_given : others_from (variables_of tree) body.1 bound [] [] tree.conditions ≡ Ok others
    pub variables_are : form.variables ≡ kinds_of body.1 (variables_of tree)
    pub posts_are : form.posts ≡ others.0
    pub heads_are : form.heads ≡ answered
    pub atoms_are : form.atoms ≡ body.0
    pub tests_are : form.tests ≡ others.1
    pub binds_are : form.binds ≡ offer.binds

pub parts_of : (tables : List TableSchema) (bound after : Bound) (tree : TreeEntangled) (form : Entangled Known)
    → entangled_in tables bound tree ≡ Ok (form, after) → Parts tables bound tree form
unfolding entangled_in
parts_of tables bound after tree form e =
    let body = found_of (memberships_from tables bound (variables_of tree) [] none_bound tree.conditions) _
    (form, after) e in
    let offer = found_of (offer_from (variables_of tree) body.0.1 bound no_offer tree.items) _ (form, after)
    body.2 in
    let answered = found_of (heads_from offer.0.terms [] [] tree.relations) _ (form, after) offer.2 in
    let others = found_of (others_from (variables_of tree) body.0.1 bound [] [] tree.conditions) _ (form, after)
    answered.2 in
    let made = ap (λ (both : Entangled Known × Bound). both.0) (sym (one_answer _ (form, after) others.2)) in
    record {
      body = body.0;
      offer = offer.0;
      answered = answered.0;
      others = others.0;
      body_given = body.1;
      offer_given = offer.1;
      heads_given = answered.1;
      others_given = others.1;
      variables_are = ap (λ (f : Entangled Known). f.variables) made;
      posts_are = ap (λ (f : Entangled Known). f.posts) made;
      heads_are = ap (λ (f : Entangled Known). f.heads) made;
      atoms_are = ap (λ (f : Entangled Known). f.atoms) made;
      tests_are = ap (λ (f : Entangled Known). f.tests) made;
      binds_are = ap (λ (f : Entangled Known). f.binds) made;
    }

pub kinds_counted : (tables : List TableSchema) (bound after : Bound) (tree : TreeEntangled) (form : Entangled Known)
    → entangled_in tables bound tree ≡ Ok (form, after) → length form.variables ≡ length (written_variables tree)
kinds_counted tables bound after tree form e =
    let parts = parts_of tables bound after tree form e in
    ap length parts.variables_are ∙ length-map _ _ ∙ ap length (variables_written tree)

module _ (environment : Environment) (tree : TreeEntangled) (valuation : Valuation) where
  -- what a term is worth, the variables having these names in order
  abbrev worth_by : List Name → TreeTerm → Value
  worth_by names term = term_value environment (variable_value names valuation) term

  pub as_long : length valuation ≡ length (written_variables tree) → length valuation ≡ length (variables_of tree)
  as_long l = l ∙ ap length (sym (variables_written tree))

  module _ (tables : List TableSchema) (bound after : Bound) (form : Entangled Known)
      (e : entangled_in tables bound tree ≡ Ok (form, after))
      (l : length valuation ≡ length (written_variables tree)) where
    pub heads_meant : heads environment tree valuation ≡ form_heads (known_worth environment) form valuation
    heads_meant =
        let parts = parts_of tables bound after tree form e in
        let names = variables_of tree in
        let offered = offer_same environment names valuation (as_long l) parts.body.1 bound tree.items no_offer
        parts.offer parts.offer_given in
        ap (λ names. facts (map (λ relation. relation.name) tree.relations) (map (worth_by names) (head_terms tree)))
        (sym (variables_written tree))
        ∙ ap (facts (map (λ relation. relation.name) tree.relations)) (sym offered.0)
        ∙ sym (heads_same environment names valuation (as_long l) parts.offer.terms tree.relations [] []
        parts.answered parts.heads_given)
        ∙ ap (map (atom_fact (known_worth environment) valuation)) (sym parts.heads_are)

    pub posts_meant : posts environment tree valuation ≡ form_posts (known_worth environment) form valuation
    posts_meant =
        let parts = parts_of tables bound after tree form e in
        let names = variables_of tree in
        let both = others_same environment names valuation (as_long l) parts.body.1 bound tree.conditions [] []
        parts.others parts.others_given in
        ap (λ names. flat_map (condition_posts (worth_by names)) tree.conditions) (sym (variables_written tree))
        ∙ sym both.0
        ∙ ap (map (atom_fact (known_worth environment) valuation)) (sym parts.posts_are)

    pub bound_meant : bound_values environment tree valuation ≡ form_bound (known_worth environment) form valuation
    bound_meant =
        let parts = parts_of tables bound after tree form e in
        let names = variables_of tree in
        let offered = offer_same environment names valuation (as_long l) parts.body.1 bound tree.items no_offer
        parts.offer parts.offer_given in
        ap (λ names. flat_map (item_binds (worth_by names)) tree.items) (sym (variables_written tree))
        ∙ sym offered.1
        ∙ ap (map (λ (bind : Bind Known). (let both : Name × Value =
        (bind.variable, term_worth (known_worth environment) valuation bind.term) in both))) (sym parts.binds_are)
