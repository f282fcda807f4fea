-- The groundings of a resolved statement.
use Rattle.std.proofs.Common.{◌≡◌, Bool, true, false, ◌&&◌, List, [], ◌∷◌, ◌++◌, map, length, Option, Some, None, Ok}
use Rattle.std.proofs.Common.{refl, sym, ap, ◌∙◌, arith}
use Rattle.std.specs.Prelude.{◌==◌}
use Rattle.std.specs.List.{list_all}
use Rattle.std.proofs.lemmas.List.{append-nil}
use Rattle.std.proofs.Math.Bool.{and_assoc, and-true}
use Rattle.ent_lists.specs.Elements.{same_number}
use Rattle.ent_lists.specs.Sets as set
use Rattle.ent_lists.proofs.Lists.{list_all-behind}
use Rattle.ent_value.specs.declared.value.Kind.{Kind}
use Rattle.ent_value.specs.declared.value.Value.{Value}
use Rattle.ent_value.specs.Kinds.{same_kind}
use Rattle.ent_tree.specs.declared.declaration.Create.{Create}
use Rattle.ent_tree.specs.declared.entangled.Condition.{Condition}
use Rattle.ent_tree.specs.declared.entangled.Condition.TheVariants as conditions
use Rattle.ent_tree.specs.declared.entangled.Entangled.{Entangled as TreeEntangled}
use Rattle.ent_tree.specs.declared.entangled.Term.{Term as TreeTerm}
use Rattle.ent_tree.specs.declared.entangled.Term.TheVariants as terms
use Rattle.ent_tree.specs.declared.entangled.Tuple.{Tuple}
use Rattle.ent_tree.specs.declared.operand.Identifier.{Identifier}
use Rattle.ent_tree.specs.declared.select.Select.{Select as TreeSelect}
use Rattle.ent_semantics.specs.Database.{Name, Environment, index_of}
use Rattle.ent_semantics.specs.declared.entangled.Entangled.{Entangled}
use Rattle.ent_semantics.specs.declared.entangled.Membership.{Membership}
use Rattle.ent_semantics.specs.declared.entangled.Term.{Term}
use Rattle.ent_semantics.specs.declared.entangled.Term.TheVariants as resolved
use Rattle.ent_semantics.specs.declared.operand.Known.{Known}
use Rattle.ent_semantics.specs.Form.{Tables, known_worth, term_worth, membership_holds, is_form_grounding}
use Rattle.ent_semantics.specs.Entangled.{Valuation, condition_holds, is_grounding, term_value}
use Rattle.ent_semantics.specs.Entangled.{variable_value}
use Rattle.ent_semantics.specs.Selection.{holds, select_rows}
use Rattle.ent_form.specs.declared.fault.FormFault.TheVariants.{WrongKind, Arity}
use Rattle.ent_form.specs.Catalogue.{schemas_of}
use Rattle.ent_form.specs.Entangled.{demanded_in, member_in, members_from, membership_in, memberships_from}
use Rattle.ent_form.specs.Entangled.{variables_of, entangled_in}
use Rattle.ent_form.specs.Kinds.{Bound, none_bound, with_kind}
use Rattle.ent_form.specs.Lookup.{values_in, kind_in}
use Rattle.ent_form.specs.Ordinary.{select_in}
use Rattle.ent_form.proofs.Heads.{found_of}
use Rattle.ent_form.specs.Tables.{database_of, AreWide}
use Rattle.ent_form.proofs.ResolvedHeads.{tests_hold, others_same, grown}
use Rattle.ent_form.proofs.Selecting.{select_same}
use Rattle.ent_form.proofs.ResolvedSteps.{one_answer, demand_given}
use Rattle.ent_form.proofs.Terms.{worth, form_worth, variable_same, kind_value_same}
use Rattle.ent_form.proofs.Variables.{variables_written}
use Rattle.ent_form.proofs.Whole.{parts_of, kinds_counted}

module _ (environment : Environment) (names : List Name) (valuation : Valuation)
    (l : length valuation ≡ length names) where
  abbrev said : TreeTerm → Value
  said = worth environment names valuation l

  abbrev meant : Term Known → Value
  meant = form_worth environment names valuation l

  variable_meant : (demanded : Bound) (variable : Identifier) (kind : Kind) (earlier : Option Kind)
      (out : Term Known × Bound)
      → demanded_in names demanded variable kind earlier ≡ Ok out → said (terms.Variable variable) ≡ meant out.0
  variable_meant demanded variable kind None out e =
      variable_same names valuation variable.name l
      ∙ ap (λ (o : Term Known × Bound). meant o.0) (one_answer
      (resolved.Variable (index_of names variable.name), with_kind demanded variable.name kind) out e)
  variable_meant demanded variable kind (Some earlier) out e =
      let kept = demand_given (same_kind earlier kind) (WrongKind variable.place) _ out e in
      variable_same names valuation variable.name l
      ∙ ap (λ (o : Term Known × Bound). meant o.0) (one_answer _ out kept.1)

  member_same : (bound demanded : Bound) (kind : Kind) (term : TreeTerm) (out : Term Known × Bound)
      → member_in names bound demanded kind term ≡ Ok out → said term ≡ meant out.0
  member_same bound demanded kind (terms.Value value) out e =
      let w = found_of (kind_in (values_in bound) kind value) _ out e in
      kind_value_same environment bound kind value w.0 w.1
      ∙ ap (λ (o : Term Known × Bound). meant o.0) (one_answer _ out w.2)
  member_same bound demanded kind (terms.Variable variable) out e =
      variable_meant demanded variable kind (demanded variable.name) out e

  members_same : (bound : Bound) (kinds : List Kind) (all : List TreeTerm) (made : List (Term Known)) (demanded : Bound)
      → (out : List (Term Known) × Bound) → length all ≡ length kinds
      → members_from names bound made demanded kinds all ≡ Ok out
      → map meant out.0 ≡ map meant made ++ map said all
  members_same bound [] [] made demanded out same e =
      ap (λ (o : List (Term Known) × Bound). map meant o.0) (sym (one_answer (made, demanded) out e))
      ∙ sym (append-nil (map meant made))
  members_same bound [] (term ∷ more) made demanded out same e = absurd (omega arith)
  members_same bound (kind ∷ kinds) [] made demanded out same e = absurd (omega arith)
  members_same bound (kind ∷ kinds) (term ∷ more) made demanded out same e =
      let w = found_of (member_in names bound demanded kind term) _ out e in
      members_same bound kinds more (made ++ w.0.0 ∷ []) w.0.1 out (omega arith) w.2
      ∙ grown meant made w.0.0 (said term) (map said more) (sym (member_same bound demanded kind term w.0 w.1))

  module _ (creates : List Create) (tables : Tables) (fitting : AreWide creates tables) where
    abbrev in_rows : Tuple → TreeSelect → Bool
    in_rows tuple select =
        set.contains (select_rows creates (database_of creates tables) environment select) (map said tuple.terms)

    abbrev holds_there : Membership Known → Bool
    holds_there membership = membership_holds (known_worth environment) tables valuation membership

    membership_same : (bound demanded : Bound) (tuple : Tuple) (select : TreeSelect) (out : Membership Known × Bound)
        → membership_in (schemas_of creates) bound names demanded tuple select ≡ Ok out
        → in_rows tuple select ≡ holds_there out.0
    unfolding membership_in
    membership_same bound demanded tuple select out e =
        let found = found_of (select_in (schemas_of creates) bound select) _ out e in
        let kept = demand_given (length tuple.terms == length found.0.1) (Arity tuple.place) _ out found.2 in
        let members = found_of (members_from names bound [] demanded found.0.1 tuple.terms) _ out kept.1 in
        let long : length tuple.terms ≡ length found.0.1 = same_number _ _ kept.0 in
        let values : map meant members.0.0 ≡ map said tuple.terms = members_same bound found.0.1 tuple.terms []
        demanded members.0 long members.1 in
        (λ i. set.contains (select_same creates tables fitting environment bound select found.0.0 found.0.1 found.1
        i) (sym values i))
        ∙ ap (λ (o : Membership Known × Bound). holds_there o.0) (one_answer _ out members.2)

    -- the tuples among conditions are rows of their selects
    abbrev selects_hold : List Condition → Bool
    selects_hold [] = true
    selects_hold (conditions.InSelect tuple select ∷ more) = in_rows tuple select && selects_hold more
    selects_hold (conditions.InAnswer tuple relation ∷ more) = selects_hold more
    selects_hold (conditions.Test test ∷ more) = selects_hold more

    memberships_same : (bound : Bound) (all : List Condition) (made : List (Membership Known)) (demanded : Bound)
        → (out : List (Membership Known) × Bound)
        → memberships_from (schemas_of creates) bound names made demanded all ≡ Ok out
        → list_all holds_there out.0 ≡ (list_all holds_there made && selects_hold all)
    memberships_same bound [] made demanded out e =
        ap (λ (o : List (Membership Known) × Bound). list_all holds_there o.0) (sym (one_answer (made, demanded) out e))
        ∙ sym (and-true (list_all holds_there made))
    memberships_same bound (conditions.InSelect tuple select ∷ more) made demanded out e =
        let w = found_of (membership_in (schemas_of creates) bound names demanded tuple select) _ out e in
        memberships_same bound more (made ++ w.0.0 ∷ []) w.0.1 out w.2
        ∙ ap (λ b. b && selects_hold more) (list_all-behind holds_there made w.0.0)
        ∙ and_assoc (list_all holds_there made) (holds_there w.0.0) (selects_hold more)
        ∙ ap (λ b. list_all holds_there made && (b && selects_hold more))
        (sym (membership_same bound demanded tuple select w.0 w.1))
    memberships_same bound (conditions.InAnswer tuple relation ∷ more) made demanded out e =
        memberships_same bound more made demanded out e
    memberships_same bound (conditions.Test test ∷ more) made demanded out e =
        memberships_same bound more made demanded out e

    and_between : (a b c : Bool) → (a && (b && c)) ≡ (b && (a && c))
    and_between true b c = refl
    and_between false true c = refl
    and_between false false c = refl

    -- the conditions of the body, taken apart
    body_apart : (all : List Condition)
        → list_all (condition_holds creates (database_of creates tables) environment said) all
        ≡ (selects_hold all && tests_hold environment names valuation l all)
    body_apart [] = refl
    body_apart (conditions.InSelect tuple select ∷ more) =
        ap (λ b. in_rows tuple select && b) (body_apart more)
        ∙ sym (and_assoc (in_rows tuple select) (selects_hold more) (tests_hold environment names valuation l more))
    body_apart (conditions.InAnswer tuple relation ∷ more) = body_apart more
    body_apart (conditions.Test test ∷ more) =
        ap (λ b. holds said test && b) (body_apart more)
        ∙ and_between (holds said test) (selects_hold more) (tests_hold environment names valuation l more)

module _ (creates : List Create) (tables : Tables) (fitting : AreWide creates tables) (environment : Environment)
    (bound after : Bound) (tree : TreeEntangled) (form : Entangled Known)
    (e : entangled_in (schemas_of creates) bound tree ≡ Ok (form, after)) (valuation : Valuation) where
  abbrev names : List Name
  names = variables_of tree

  -- under a value for each variable
  long_enough : (l : length valuation ≡ length (variables_of tree))
      → list_all (condition_holds creates (database_of creates tables) environment
      (term_value environment (variable_value (variables_of tree) valuation))) tree.conditions
      ≡ (list_all (membership_holds (known_worth environment) tables valuation) form.atoms && list_all
      (holds (term_worth (known_worth environment) valuation)) form.tests)
  long_enough l =
      let parts = parts_of (schemas_of creates) bound after tree form e in
      let selects = memberships_same environment names valuation l creates tables fitting bound tree.conditions []
      none_bound parts.body parts.body_given in
      let tests = (others_same environment names valuation l parts.body.1 bound tree.conditions [] [] parts.others
      parts.others_given).1 in
      body_apart environment names valuation l creates tables fitting tree.conditions
      ∙ (λ i. sym selects i && sym tests i)
      ∙ (λ i. list_all (membership_holds (known_worth environment) tables valuation) (sym parts.atoms_are i) &&
      list_all (holds (term_worth (known_worth environment) valuation)) (sym parts.tests_are i))

  counted : (b : Bool) → (length valuation == length (variables_of tree)) ≡ b
      → (b && list_all (condition_holds creates (database_of creates tables) environment
      (term_value environment (variable_value (variables_of tree) valuation))) tree.conditions)
      ≡ (b && (list_all (membership_holds (known_worth environment) tables valuation) form.atoms && list_all
      (holds (term_worth (known_worth environment) valuation)) form.tests))
  counted true here = long_enough (same_number _ _ here)
  counted false here = refl

  pub grounding_same : is_grounding creates (database_of creates tables) environment tree valuation
      ≡ is_form_grounding (known_worth environment) tables form valuation
  grounding_same =
      ap (λ names. (length valuation == length names) && list_all
      (condition_holds creates (database_of creates tables) environment
      (term_value environment (variable_value names valuation))) tree.conditions) (sym (variables_written tree))
      ∙ counted (length valuation == length (variables_of tree)) refl
      ∙ ap (λ n. (length valuation == n) && (list_all (membership_holds (known_worth environment) tables valuation)
      form.atoms && list_all (holds (term_worth (known_worth environment) valuation)) form.tests))
      (ap length (variables_written tree) ∙ sym (kinds_counted (schemas_of creates) bound after tree form e))
