-- The values of a grounding can be told, and are of their variables' kinds.
use Rattle.std.proofs.Common.{◌≡◌, ◌<◌, ℕ, suc, Bool, true, false, ◌||◌, ◌==◌, List, [], ◌∷◌, ◌++◌, map}
use Rattle.std.proofs.Common.{length, refl, sym, ap, subst, ◌∙◌, arith, inl, inr, Contains, Ok}
use Rattle.std.specs.Prelude.{slice_index_or}
use Rattle.std.specs.List.{AllByRecursion, list_all, list_any}
use Rattle.std.proofs.lemmas.Bool.{eqb-true}
use Rattle.ent_value.specs.Value.{kinds_of}
use Rattle.ent_value.specs.declared.value.Kind.{Kind}
use Rattle.ent_value.specs.declared.value.Value.{Value}
use Rattle.ent_tree.specs.declared.declaration.Create.{Create}
use Rattle.ent_tree.specs.declared.entangled.Condition.{Condition}
use Rattle.ent_tree.specs.declared.entangled.Condition.TheVariants as conditions
use Rattle.ent_tree.specs.declared.entangled.Entangled.{Entangled as TreeEntangled}
use Rattle.ent_tree.specs.declared.entangled.Tuple.{Tuple}
use Rattle.ent_tree.specs.declared.script.Script.{Script}
use Rattle.ent_tree.specs.declared.select.Select.{Select as TreeSelect}
use Rattle.ent_print.specs.Lexeme.{Lexeme, Token}
use Rattle.ent_print.specs.Reading.{CanBeRead}
use Rattle.ent_print.specs.Spelling.{comma_list, condition_spelling, entangled_item_spelling, entangled_spelling}
use Rattle.ent_print.specs.Spelling.{in_parentheses, relation_spelling, select_spelling, sign, tuple_spelling}
use Rattle.ent_print.specs.Spelling.{where_clause, word}
use Rattle.ent_text.specs.declared.keyword.Keyword.TheVariants as keywords
use Rattle.ent_text.specs.declared.symbol.Symbol.TheVariants as symbols
use Rattle.ent_text.specs.declared.token.TokenKind.TheVariants.{Number}
use Rattle.ent_semantics.specs.Database.{Database, Environment, Name, Rows}
use Rattle.ent_semantics.specs.Entangled.{Valuation, is_grounding, written_variables}
use Rattle.ent_semantics.specs.Term.{no_value}
use Rattle.ent_semantics.specs.Closing.{membership_over, term_over}
use Rattle.ent_semantics.specs.Form.{is_form_grounding, known_worth, membership_holds, term_worth}
use Rattle.ent_semantics.specs.declared.entangled.Entangled.{Entangled}
use Rattle.ent_semantics.specs.declared.entangled.Membership.{Membership}
use Rattle.ent_semantics.specs.declared.entangled.Term.{Term}
use Rattle.ent_semantics.specs.declared.entangled.Term.TheVariants as terms
use Rattle.ent_semantics.specs.declared.operand.Known.{Known}
use Rattle.ent_semantics.specs.declared.statement.Statement.TheVariants as forms
use Rattle.ent_form.specs.Catalogue.{schemas_of}
use Rattle.ent_form.specs.Entangled.{entangled_in, heads_from, members_from, membership_in, memberships_from, no_offer}
use Rattle.ent_form.specs.Entangled.{offer_from, others_from, variables_of}
use Rattle.ent_form.specs.Form.{script_in}
use Rattle.ent_form.specs.Kinds.{Bound, none_bound}
use Rattle.ent_form.specs.Ordinary.{select_in}
use Rattle.ent_form.specs.declared.catalogue.TableSchema.{TableSchema}
use Rattle.ent_form.specs.declared.fault.FormFault.{FormFault}
use Rattle.ent_form.specs.declared.fault.FormFault.TheVariants.{Arity}
use Rattle.ent_form.specs.declared.script.Plain.{Plain}
use Rattle.ent_form.proofs.Heads.{found_of}
use Rattle.ent_plan.specs.Ranged.{is_variable, stands_in}
use Rattle.ent_sql_laws.specs.Fits.{ConditionFits, Each, EntangledFits, SelectFits}
use Rattle.ent_form.specs.Tables.{database_of}
use Rattle.ent_history.specs.Parts.{IsRow, IsValue}
use Rattle.ent_form.proofs.ResolvedSteps.{demand_given, one_answer}
use Rattle.ent_lists.specs.Elements.{all_first, all_joined, all_second, and_both, or_cases, same_number}
use Rattle.ent_semantics.proofs.EachRow.{EachRow}
use Rattle.ent_program_laws.specs.Held.{HoldsValuesOf}
use Rattle.ent_program_laws.specs.Laws.{Laws}
use Rattle.ent_program_laws.proofs.Read.{AreRead, separated_are_read}
use Rattle.ent_program_laws.proofs.Results.{HoldsRows, select_is_told}
use Rattle.ent_program_laws.proofs.Stored.{IsStored}
use Rattle.ent_program_laws.proofs.Values.{AreValues}

-- ---- sub-selects that can be read

abbrev IsToldSelect : TreeSelect → Type 0
IsToldSelect select = AreRead (select_spelling select) × SelectFits select

abbrev IsToldCondition : Condition → Type 0
IsToldCondition (conditions.InSelect tuple select) = IsToldSelect select
IsToldCondition (conditions.InAnswer tuple relation) = Unit {0}
IsToldCondition (conditions.Test test) = Unit {0}

where_are_read : (all : List Condition) → AreRead (where_clause condition_spelling all)
    → AllByRecursion (λ (condition : Condition). AreRead (condition_spelling condition)) all
where_are_read [] can = tt
where_are_read (condition ∷ more) can =
    separated_are_read (word keywords.And) condition_spelling (condition ∷ more) can.1

condition_told : (condition : Condition) → AreRead (condition_spelling condition) → ConditionFits condition
    → IsToldCondition condition
condition_told (conditions.InSelect tuple select) can fits =
    let behind = all_second CanBeRead (tuple_spelling tuple)
    (word keywords.In ∷ in_parentheses (select_spelling select)) can in
    (all_first CanBeRead (select_spelling select) (sign symbols.Close ∷ []) behind.1.1, fits.1)
condition_told (conditions.InAnswer tuple relation) can fits = tt
condition_told (conditions.Test test) can fits = tt

conditions_told : (all : List Condition)
    → AllByRecursion (λ (condition : Condition). AreRead (condition_spelling condition)) all → Each ConditionFits all
    → AllByRecursion IsToldCondition all
conditions_told [] can fits = tt
conditions_told (condition ∷ more) can fits =
    (condition_told condition can.0 fits.0, conditions_told more can.1 fits.1)

entangled_conditions_told : (entangled : TreeEntangled) → AreRead (entangled_spelling entangled)
    → EntangledFits entangled → AllByRecursion IsToldCondition entangled.conditions
entangled_conditions_told entangled can fits =
    let choose : List Lexeme = word keywords.Choose ∷ Token (Number 1) ∷ [] in
    let clause = where_clause condition_spelling entangled.conditions in
    let relations = comma_list relation_spelling entangled.relations in
    let behind_items = all_second CanBeRead (comma_list entangled_item_spelling entangled.items)
    (word keywords.Into ∷ (relations ++ (clause ++ choose))) can.1 in
    conditions_told entangled.conditions
    (where_are_read entangled.conditions (all_first CanBeRead clause choose
    (all_second CanBeRead relations (clause ++ choose) behind_items.1))) fits.3

-- ---- memberships are of such

module _ (schemas : List TableSchema) (bound : Bound) where
  -- a membership is of a sub-select that can be read
  abbrev IsOfSelect : Membership Known → Type 0
  IsOfSelect membership =
      (select : TreeSelect) × (kinds : List Kind) × IsToldSelect select
      × (select_in schemas bound select ≡ Ok (membership.select, kinds))

  module _ (names : List Name) where
    membership_is : (demanded : Bound) (tuple : Tuple) (select : TreeSelect) (found : Membership Known × Bound)
        → IsToldSelect select → membership_in schemas bound names demanded tuple select ≡ Ok found
        → IsOfSelect found.0
    unfolding membership_in
    membership_is demanded tuple select found told e =
        let inner = found_of (select_in schemas bound select) _ found e in
        let kept = demand_given (length tuple.terms == length inner.0.1) (Arity tuple.place) _ found inner.2 in
        let members = found_of (members_from names bound [] demanded inner.0.1 tuple.terms) _ found kept.1 in
        subst (λ (f : Membership Known × Bound). IsOfSelect f.0)
        (one_answer (record { terms = members.0.0; select = inner.0.0 }, members.0.1) found members.2)
        (select, inner.0.1, told, inner.1)

    memberships_are : (all : List Condition) (made : List (Membership Known)) (demanded : Bound)
        (found : List (Membership Known) × Bound) → AllByRecursion IsToldCondition all
        → AllByRecursion IsOfSelect made → memberships_from schemas bound names made demanded all ≡ Ok found
        → AllByRecursion IsOfSelect found.0
    memberships_are [] made demanded found told so e =
        subst (λ (f : List (Membership Known) × Bound). AllByRecursion IsOfSelect f.0)
        (one_answer {E = FormFault} (made, demanded) found e) so
    memberships_are (conditions.InSelect tuple select ∷ more) made demanded found told so e =
        let w = found_of (membership_in schemas bound names demanded tuple select) _ found e in
        memberships_are more (made ++ w.0.0 ∷ []) w.0.1 found told.1
        (all_joined IsOfSelect made (w.0.0 ∷ []) so (membership_is demanded tuple select w.0 told.0 w.1, tt)) w.2
    memberships_are (conditions.InAnswer tuple relation ∷ more) made demanded found told so e =
        memberships_are more made demanded found told.1 so e
    memberships_are (conditions.Test test ∷ more) made demanded found told so e =
        memberships_are more made demanded found told.1 so e

  atoms_are : (entangled : TreeEntangled) (found : Entangled Known × Bound)
      → AllByRecursion IsToldCondition entangled.conditions → entangled_in schemas bound entangled ≡ Ok found
      → AllByRecursion IsOfSelect found.0.atoms
  unfolding entangled_in
  atoms_are entangled found told e =
      let names = variables_of entangled in
      let body = found_of (memberships_from schemas bound names [] none_bound entangled.conditions) _ found e in
      let offer = found_of (offer_from names body.0.1 bound no_offer entangled.items) _ found body.2 in
      let heads = found_of (heads_from offer.0.terms [] [] entangled.relations) _ found offer.2 in
      let others = found_of (others_from names body.0.1 bound [] [] entangled.conditions) _ found heads.2 in
      subst (λ (f : Entangled Known × Bound). AllByRecursion IsOfSelect f.0.atoms) (one_answer _ found others.2)
      (memberships_are names entangled.conditions [] none_bound body.0 told tt body.1)

-- ---- the values of variables

module _ (worth : Known → Value) (valuation : Valuation) (number : ℕ) where
  abbrev IsValueThere : Type 0
  IsValueThere = IsValue (slice_index_or valuation number no_value)

  among_terms : (all : List (Term Known)) → AreValues (map (term_worth worth valuation) all)
      → list_any (is_variable number) (map (term_over worth) all) ≡ true → IsValueThere
  among_terms [] values e = cc (e)
  among_terms (terms.Known known ∷ more) values e = among_terms more values.1 e
  among_terms (terms.Variable other ∷ more) values e =
      by (other == number) refl e (among_terms more values.1)
    where
      by : (b : Bool) → (other == number) ≡ b
          → (b || list_any (is_variable number) (map (term_over worth) more)) ≡ true
          → (list_any (is_variable number) (map (term_over worth) more) ≡ true → IsValueThere) → IsValueThere
      by true is here rest =
          subst (λ (n : ℕ). IsValue (slice_index_or valuation n no_value)) (same_number other number is) values.0
      by false is later rest = rest later

  among_atoms : (atoms : List (Membership Known))
      → AllByRecursion (λ (atom : Membership Known). AreValues (map (term_worth worth valuation) atom.terms)) atoms
      → list_any (stands_in number) (map (membership_over worth) atoms) ≡ true → IsValueThere
  among_atoms [] values e = cc (e)
  among_atoms (atom ∷ more) values e =
      elim (or_cases (stands_in number (membership_over worth atom))
      (list_any (stands_in number) (map (membership_over worth) more)) e) [
        | inl here ↦ among_terms atom.terms values.0 here
        | inr later ↦ among_atoms more values.1 later
      ]

values_each : (valuation : Valuation)
    → ((number : ℕ) → number < length valuation → IsValue (slice_index_or valuation number no_value))
    → AreValues valuation
values_each [] each = tt
values_each (value ∷ more) each =
    (each 0 (omega arith), values_each more (λ number low. each (suc number) (omega (arith, low))))

-- ---- under a grounding

-- an entangled statement of a script, and its form, under a grounding
pub record IsAnswered (entangled : TreeEntangled) (form : Entangled Known) (valuation : Valuation) : Type 0 where
  pub many : length valuation ≡ length (written_variables entangled)
  pub values : AreValues valuation
  pub kinds : kinds_of valuation ≡ form.variables

module _ (laws : Laws) (declared : List Create) (script : Script) (plain : Plain)
    (made : script_in (schemas_of declared) script ≡ Ok plain) (bound after : Bound) (entangled : TreeEntangled)
    (form : Entangled Known) (resolved : entangled_in (schemas_of declared) bound entangled ≡ Ok (form, after))
    (there : Contains plain.statements (forms.Entangled form)) (can : AreRead (entangled_spelling entangled))
    (fits : EntangledFits entangled) (database : Database) (stored : IsStored declared database)
    (environment : Environment) (held : HoldsValuesOf bound environment) (valuation : Valuation)
    (grounds : is_grounding declared database environment entangled valuation ≡ true) where
  abbrev worth : Known → Value
  worth = known_worth environment

  grounds_form : is_form_grounding worth stored.tables form valuation ≡ true
  grounds_form =
      sym (laws.forms.grounds declared stored.tables environment bound after entangled form valuation
      (laws.forms.wide declared stored.tables stored.kinded) resolved)
      ∙ ap (λ (d : Database). is_grounding declared d environment entangled valuation) (sym stored.is) ∙ grounds

  form_many : length valuation ≡ length form.variables
  form_many = eqb-true _ _ (and_both (length valuation == length form.variables) _ grounds_form).0

  atoms_hold : list_all (membership_holds worth stored.tables valuation) form.atoms ≡ true
  atoms_hold =
      (and_both (list_all (membership_holds worth stored.tables valuation) form.atoms) _
      (and_both (length valuation == length form.variables) _ grounds_form).1).0

  atom_values : (atom : Membership Known) → IsOfSelect (schemas_of declared) bound atom
      → membership_holds worth stored.tables valuation atom ≡ true
      → AreValues (map (term_worth worth valuation) atom.terms)
  atom_values atom of holds =
      let rows : HoldsRows (database_of declared stored.tables) =
      subst (λ (d : Database). HoldsRows d) stored.is stored.rows in
      let told = select_is_told declared (database_of declared stored.tables) environment rows held.values of.0 of.2.0
      of.2.1 in
      let same = laws.selects declared stored.tables environment bound of.0 atom.select of.1
      (laws.forms.wide declared stored.tables stored.kinded) of.3 in
      let row = map (term_worth worth valuation) atom.terms in
      (subst (λ (rows : Rows). EachRow IsRow rows) same told row holds).1

  atoms_values : (atoms : List (Membership Known)) → AllByRecursion (IsOfSelect (schemas_of declared) bound) atoms
      → list_all (membership_holds worth stored.tables valuation) atoms ≡ true
      → AllByRecursion (λ (atom : Membership Known). AreValues (map (term_worth worth valuation) atom.terms)) atoms
  atoms_values [] of holds = tt
  atoms_values (atom ∷ more) of holds =
      let both = and_both (membership_holds worth stored.tables valuation atom) _ holds in
      (atom_values atom of.0 both.0, atoms_values more of.1 both.1)

  pub grounding_answers : IsAnswered entangled form valuation
  grounding_answers =
      let told = entangled_conditions_told entangled can fits in
      let atoms = atoms_values form.atoms (atoms_are (schemas_of declared) bound entangled (form, after) told resolved)
      atoms_hold in
      let ranged = laws.ranged (schemas_of declared) script plain form made there environment in
      record {
        many = form_many ∙ laws.forms.variables (schemas_of declared) bound after entangled form resolved;
        values = values_each valuation (λ number low.
            among_atoms worth valuation number form.atoms atoms (ranged number (omega (arith, low, form_many))));
        kinds = laws.forms.grounded (schemas_of declared) bound after entangled form environment stored.tables valuation
            resolved stored.kinded held.kinds
            (laws.forms.closes_grounds environment stored.tables form valuation ∙ grounds_form);
      }
