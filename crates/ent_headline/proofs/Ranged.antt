-- Each written variable of a resolved statement stands in a tuple of some sub-select.
use Rattle.std.proofs.Common.{◌≡◌, ◌⊎◌, ◌<◌, Bool, true, false, ◌||◌, List, [], ◌∷◌, ◌++◌, length, map}
use Rattle.std.proofs.Common.{Option, Some, None, Ok, refl, subst, ◌∙◌, inl, inr, arith}
use Rattle.std.specs.Prelude.{◌==◌, Contains, if◌then◌else◌, unwrap_or}
use Rattle.std.specs.List.{AllByRecursion, list_any}
use Rattle.std.proofs.lemmas.Bool.{eqb-true}
use Rattle.std.proofs.lemmas.List.{length-map}
use Rattle.std.proofs.lemmas.List.Folds.{list_any-append}
use Rattle.ent_lists.specs.Elements.{or_first, or_second, number_itself}
use Rattle.ent_lists.specs.Laws.{any_map}
use Rattle.ent_value.specs.declared.value.Kind.{Kind}
use Rattle.ent_value.specs.declared.value.Kind.TheVariants.{Int}
use Rattle.ent_value.specs.Kinds.{same_kind}
use Rattle.ent_tree.specs.declared.entangled.Condition.{Condition}
use Rattle.ent_tree.specs.declared.entangled.Condition.TheVariants as conditions
use Rattle.ent_tree.specs.declared.entangled.Term.{Term as TreeTerm}
use Rattle.ent_tree.specs.declared.entangled.Term.TheVariants as terms
use Rattle.ent_tree.specs.declared.entangled.Tuple.{Tuple}
use Rattle.ent_tree.specs.declared.operand.Identifier.{Identifier}
use Rattle.ent_tree.specs.declared.script.Script.{Script}
use Rattle.ent_tree.specs.declared.select.Select.{Select as TreeSelect}
use Rattle.ent_semantics.specs.Database.{Environment, Name, same_name, index_of}
use Rattle.ent_semantics.specs.Names.{equal_names}
use Rattle.ent_semantics.specs.Closing.{closed_entangled, membership_over, term_over}
use Rattle.ent_semantics.specs.Form.{known_worth}
use Rattle.ent_semantics.specs.declared.entangled.Entangled.{Entangled}
use Rattle.ent_semantics.specs.declared.entangled.Membership.{Membership}
use Rattle.ent_semantics.specs.declared.entangled.Term.{Term}
use Rattle.ent_semantics.specs.declared.entangled.Term.TheVariants as resolved
use Rattle.ent_semantics.specs.declared.operand.Known.{Known}
use Rattle.ent_semantics.specs.declared.statement.Statement.TheVariants as statements
use Rattle.ent_form.specs.Entangled.{variables_of, demanded_in, member_in, members_from, membership_in}
use Rattle.ent_form.specs.Entangled.{memberships_from, no_offer, offer_from, heads_from, others_from, entangled_in}
use Rattle.ent_form.specs.Form.{script_in}
use Rattle.ent_form.specs.Kinds.{Bound, none_bound, with_kind}
use Rattle.ent_form.specs.Lookup.{values_in, kind_in}
use Rattle.ent_form.specs.Ordinary.{select_in}
use Rattle.ent_form.specs.declared.catalogue.TableSchema.{TableSchema}
use Rattle.ent_form.specs.declared.fault.FormFault.TheVariants.{Arity, WrongKind}
use Rattle.ent_form.specs.declared.script.Plain.{Plain}
use Rattle.ent_form.proofs.Heads.{found_of}
use Rattle.ent_form.proofs.Grounded.{IsDemanded, OfSubselect, OfOther, of_both, items_demanded, others_demanded}
use Rattle.ent_form.proofs.Noted.{OfVariable, OfVariables, variable_weaker, items_weaker, terms_weaker}
use Rattle.ent_form.proofs.ResolvedSteps.{one_answer, demand_given}
use Rattle.ent_plan.specs.Ranged.{is_variable, stands_in, IsRanged}
use Rattle.ent_headline.proofs.Noted.{variable_at}
use Rattle.ent_headline.proofs.Statements.{OfResolved, script_each}

-- ---- lists

module _ {X : Type 0} (p : X → Bool) where
  any_before : (xs ys : List X) → list_any p xs ≡ true → list_any p (xs ++ ys) ≡ true
  any_before xs ys e = list_any-append p xs ys ∙ or_first (list_any p xs) (list_any p ys) e

  any_last : (xs : List X) (x : X) → p x ≡ true → list_any p (xs ++ x ∷ []) ≡ true
  any_last xs x e =
      list_any-append p xs (x ∷ []) ∙ or_second (list_any p xs) (p x || false) (or_first (p x) false e)

module _ (environment : Environment) (names : List Name) where
  abbrev is_of : Name → Term Known → Bool
  is_of name term = is_variable (index_of names name) (term_over (known_worth environment) term)

  abbrev StandsIn : List (Term Known) → Name → Type 0
  StandsIn all name = list_any (is_of name) all ≡ true

  abbrev stands_at : Name → Membership Known → Bool
  stands_at name membership = stands_in (index_of names name) (membership_over (known_worth environment) membership)

  abbrev StandsAmong : List (Membership Known) → Name → Type 0
  StandsAmong atoms name = list_any (stands_at name) atoms ≡ true

  -- ---- tuples of sub-selects

  -- a term stands for its variable, and what is demanded behind it was demanded before, or is that
  abbrev MemberStands : Bound → TreeTerm → Term Known × Bound → Type 0
  MemberStands demanded term found =
      OfVariable (λ name. is_of name found.0 ≡ true) term
      × ((name : Name) → IsDemanded found.1 name → IsDemanded demanded name ⊎ (is_of name found.0 ≡ true))

  demand_stands : (demanded : Bound) (variable : Identifier) (kind : Kind) (earlier : Option Kind)
      → (found : Term Known × Bound) → demanded_in names demanded variable kind earlier ≡ Ok found
      → MemberStands demanded (terms.Variable variable) found
  demand_stands demanded variable kind None found e =
      subst (MemberStands demanded (terms.Variable variable))
      (one_answer (resolved.Variable (index_of names variable.name), with_kind demanded variable.name kind) found e) (
        number_itself (index_of names variable.name),
        λ name h.
            (elim (same_name variable.name name) as (λ b. same_name variable.name name ≡ b
            → ((found : Kind) × ((if b then Some kind else demanded name) ≡ Some found))
            → IsDemanded demanded name ⊎ ((index_of names variable.name == index_of names name) ≡ true)) [
              | true ↦ λ same _. inr (subst (λ other. (index_of names variable.name == index_of names other) ≡ true)
                  (equal_names variable.name name same) (number_itself (index_of names variable.name)))
              | false ↦ λ _ before. inl before
            ] refl h),
      )
  demand_stands demanded variable kind (Some earlier) found e =
      let kept = demand_given (same_kind earlier kind) (WrongKind variable.place) _ found e in
      subst (MemberStands demanded (terms.Variable variable))
      (one_answer (resolved.Variable (index_of names variable.name), demanded) found kept.1)
      (number_itself (index_of names variable.name), λ name h. inl h)

  member_stands : (bound demanded : Bound) (kind : Kind) (term : TreeTerm) (found : Term Known × Bound)
      → member_in names bound demanded kind term ≡ Ok found → MemberStands demanded term found
  member_stands bound demanded kind (terms.Value value) found e =
      let w = found_of (kind_in (values_in bound) kind value) _ found e in
      subst (MemberStands demanded (terms.Value value)) (one_answer (resolved.Known w.0, demanded) found w.2)
      (tt, λ name h. inl h)
  member_stands bound demanded kind (terms.Variable variable) found e =
      demand_stands demanded variable kind (demanded variable.name) found e

  record MembersStand (demanded : Bound) (all : List TreeTerm) (made : List (Term Known))
      (found : List (Term Known) × Bound) : Type 0 where
    kept : (name : Name) → StandsIn made name → StandsIn found.0 name
    each : OfVariables (StandsIn found.0) all
    demands : (name : Name) → IsDemanded found.1 name → IsDemanded demanded name ⊎ StandsIn found.0 name

  members_stand : (bound : Bound) (kinds : List Kind) (all : List TreeTerm) (made : List (Term Known))
      (demanded : Bound) (found : List (Term Known) × Bound) → length all ≡ length kinds
      → members_from names bound made demanded kinds all ≡ Ok found → MembersStand demanded all made found
  members_stand bound [] [] made demanded found l e =
      subst (MembersStand demanded [] made) (one_answer (made, demanded) found e)
      (record { kept = λ name h. h; each = tt; demands = λ name h. inl h })
  members_stand bound [] (term ∷ more) made demanded found l e = absurd (omega (arith, l))
  members_stand bound (kind ∷ kinds) [] made demanded found l e = absurd (omega (arith, l))
  members_stand bound (kind ∷ kinds) (term ∷ more) made demanded found l e =
      let w = found_of (member_in names bound demanded kind term) _ found e in
      let here = member_stands bound demanded kind term w.0 w.1 in
      let rest = members_stand bound kinds more (made ++ w.0.0 ∷ []) w.0.1 found (omega (arith, l)) w.2 in
      let put : (name : Name) → is_of name w.0.0 ≡ true → StandsIn found.0 name =
      λ name is. rest.kept name (any_last (is_of name) made w.0.0 is) in
      record {
        kept = λ name h. rest.kept name (any_before (is_of name) made (w.0.0 ∷ []) h);
        each = (
          variable_weaker (λ name. is_of name w.0.0 ≡ true) (StandsIn found.0) put term here.0,
          rest.each,
        );
        demands = λ name h. elim (rest.demands name h) [
          | inl before ↦ elim (here.1 name before) [ inl earlier ↦ inl earlier | inr is ↦ inr (put name is) ]
          | inr stands ↦ inr stands
        ];
      }

  -- ---- memberships

  abbrev MembershipStands : Bound → Tuple → Membership Known × Bound → Type 0
  MembershipStands demanded tuple found =
      OfVariables (λ name. stands_at name found.0 ≡ true) tuple.terms
      × ((name : Name) → IsDemanded found.1 name → IsDemanded demanded name ⊎ (stands_at name found.0 ≡ true))

  membership_stands : (schemas : List TableSchema) (bound demanded : Bound) (tuple : Tuple) (select : TreeSelect)
      (found : Membership Known × Bound) → membership_in schemas bound names demanded tuple select ≡ Ok found
      → MembershipStands demanded tuple found
  unfolding membership_in
  membership_stands schemas bound demanded tuple select found e =
      let inner = found_of (select_in schemas bound select) _ found e in
      let kept = demand_given (length tuple.terms == length inner.0.1) (Arity tuple.place) _ found inner.2 in
      let members = found_of (members_from names bound [] demanded inner.0.1 tuple.terms) _ found kept.1 in
      let stand = members_stand bound inner.0.1 tuple.terms [] demanded members.0 (eqb-true _ _ kept.0) members.1 in
      let membership : Membership Known = record { terms = members.0.0; select = inner.0.0 } in
      let at : (name : Name) → StandsIn members.0.0 name → stands_at name membership ≡ true =
      λ name h. any_map (is_variable (index_of names name)) (term_over (known_worth environment)) members.0.0 ∙ h in
      subst (MembershipStands demanded tuple) (one_answer (membership, members.0.1) found members.2) (
        terms_weaker (StandsIn members.0.0) (λ name. stands_at name membership ≡ true) at tuple.terms stand.each,
        λ name h. elim (stand.demands name h) [ inl before ↦ inl before | inr stands ↦ inr (at name stands) ],
      )

  record MembershipsStand (demanded : Bound) (all : List Condition) (made : List (Membership Known))
      (found : List (Membership Known) × Bound) : Type 0 where
    kept : (name : Name) → StandsAmong made name → StandsAmong found.0 name
    each : AllByRecursion (OfSubselect (StandsAmong found.0)) all
    demands : (name : Name) → IsDemanded found.1 name → IsDemanded demanded name ⊎ StandsAmong found.0 name

  memberships_stand : (schemas : List TableSchema) (bound : Bound) (all : List Condition)
      (made : List (Membership Known)) (demanded : Bound) (found : List (Membership Known) × Bound)
      → memberships_from schemas bound names made demanded all ≡ Ok found → MembershipsStand demanded all made found
  memberships_stand schemas bound [] made demanded found e =
      subst (MembershipsStand demanded [] made) (one_answer (made, demanded) found e)
      (record { kept = λ name h. h; each = tt; demands = λ name h. inl h })
  memberships_stand schemas bound (conditions.InSelect tuple select ∷ more) made demanded found e =
      let w = found_of (membership_in schemas bound names demanded tuple select) _ found e in
      let here = membership_stands schemas bound demanded tuple select w.0 w.1 in
      let rest = memberships_stand schemas bound more (made ++ w.0.0 ∷ []) w.0.1 found w.2 in
      let put : (name : Name) → stands_at name w.0.0 ≡ true → StandsAmong found.0 name =
      λ name is. rest.kept name (any_last (stands_at name) made w.0.0 is) in
      record {
        kept = λ name h. rest.kept name (any_before (stands_at name) made (w.0.0 ∷ []) h);
        each = (
          terms_weaker (λ name. stands_at name w.0.0 ≡ true) (StandsAmong found.0) put tuple.terms here.0,
          rest.each,
        );
        demands = λ name h. elim (rest.demands name h) [
          | inl before ↦ elim (here.1 name before) [ inl earlier ↦ inl earlier | inr is ↦ inr (put name is) ]
          | inr stands ↦ inr stands
        ];
      }
  memberships_stand schemas bound (conditions.InAnswer tuple relation ∷ more) made demanded found e =
      let rest = memberships_stand schemas bound more made demanded found e in
      record { kept = rest.kept; each = (tt, rest.each); demands = rest.demands }
  memberships_stand schemas bound (conditions.Test test ∷ more) made demanded found e =
      let rest = memberships_stand schemas bound more made demanded found e in
      record { kept = rest.kept; each = (tt, rest.each); demands = rest.demands }

-- ---- statements

others_weaker : (P Q : Name → Type 0) → ((name : Name) → P name → Q name) → (all : List Condition)
    → AllByRecursion (OfOther P) all → AllByRecursion (OfOther Q) all
others_weaker P Q each [] h = tt
others_weaker P Q each (conditions.InSelect tuple select ∷ more) h = (tt, others_weaker P Q each more h.1)
others_weaker P Q each (conditions.InAnswer tuple relation ∷ more) h =
    (terms_weaker P Q each tuple.terms h.0, others_weaker P Q each more h.1)
others_weaker P Q each (conditions.Test test ∷ more) h =
    (terms_weaker P Q each (test.left ∷ test.right ∷ []) h.0, others_weaker P Q each more h.1)

entangled_ranged : (environment : Environment)
    → OfResolved (λ entangled. IsRanged (closed_entangled environment entangled))
unfolding entangled_in
entangled_ranged environment schemas bound tree form e =
    let names = variables_of tree in
    let body = found_of (memberships_from schemas bound names [] none_bound tree.conditions) _ form e in
    let offer = found_of (offer_from names body.0.1 bound no_offer tree.items) _ form body.2 in
    let heads = found_of (heads_from offer.0.terms [] [] tree.relations) _ form offer.2 in
    let others = found_of (others_from names body.0.1 bound [] [] tree.conditions) _ form heads.2 in
    let stand = memberships_stand environment names schemas bound tree.conditions [] none_bound body.0 body.1 in
    let Stands : Name → Type 0 = StandsAmong environment names body.0.0 in
    let stands : (name : Name) → IsDemanded body.0.1 name → Stands name =
    λ name h. elim (stand.demands name h) [ inl none ↦ never none.0 none.1 | inr is ↦ is ] in
    let of_items = items_weaker (IsDemanded body.0.1) Stands stands tree.items
    (items_demanded names body.0.1 bound tree.items no_offer offer.0 offer.1) in
    let of_conditions = of_both Stands tree.conditions stand.each
    (others_weaker (IsDemanded body.0.1) Stands stands tree.conditions
    (others_demanded names body.0.1 bound tree.conditions [] [] others.0 others.1)) in
    subst (λ (f : Entangled Known × Bound). IsRanged (closed_entangled environment f.0)) (one_answer _ form others.2)
    (λ number low.
    let found = variable_at Stands tree of_items of_conditions number
    (subst (λ n. number < n) (length-map names (λ name. unwrap_or (body.0.1 name) Int)) low) in
    subst (λ n. list_any (stands_in n) (map (membership_over (known_worth environment)) body.0.0) ≡ true) found.1
    (any_map (stands_in (index_of names found.0)) (membership_over (known_worth environment)) body.0.0 ∙ found.2))
  where
    never : {A : Type 0} (kind : Kind) → None ≡ Some kind → A
    never kind e = cc

pub ranged_closed : (tables : List TableSchema) (script : Script) (plain : Plain) (entangled : Entangled Known)
    → script_in tables script ≡ Ok plain → Contains plain.statements (statements.Entangled entangled)
    → (environment : Environment) → IsRanged (closed_entangled environment entangled)
ranged_closed tables script plain entangled e there environment =
    script_each (λ entangled. IsRanged (closed_entangled environment entangled)) (entangled_ranged environment) tables
    script plain entangled e there
