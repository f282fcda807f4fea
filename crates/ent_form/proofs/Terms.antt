-- Terms, tests and lists of them are worth the same resolved.
use Rattle.std.proofs.Common.{◌≡◌, suc, true, false, List, [], ◌∷◌, ◌++◌, map, length}
use Rattle.std.proofs.Common.{Ok, refl, sym, ap, ◌∙◌, arith}
use Rattle.std.specs.Prelude.{slice_index_or, if◌then◌else◌}
use Rattle.std.proofs.lemmas.List.{append-nil, append_assoc, map-append}
use Rattle.ent_value.specs.Value.{value_cmp}
use Rattle.ent_value.specs.declared.value.Kind.{Kind}
use Rattle.ent_value.specs.declared.value.Value.{Value}
use Rattle.ent_value.specs.Kinds.{same_kind}
use Rattle.ent_tree.specs.declared.entangled.Term.{Term as TreeTerm}
use Rattle.ent_tree.specs.declared.entangled.Term.TheVariants as terms
use Rattle.ent_tree.specs.declared.operand.Test.{Test}
use Rattle.ent_tree.specs.declared.operand.ValueSpecification.{ValueSpecification}
use Rattle.ent_tree.specs.declared.operand.ValueSpecification.TheVariants as specifications
use Rattle.ent_tree.specs.Places.{value_place, term_place}
use Rattle.ent_semantics.specs.Database.{Name, Environment, same_name, index_of}
use Rattle.ent_semantics.specs.declared.entangled.Term.{Term}
use Rattle.ent_semantics.specs.declared.operand.Known.{Known}
use Rattle.ent_semantics.specs.Form.{known_worth, term_worth}
use Rattle.ent_semantics.specs.Entangled.{Valuation, variable_value, term_value}
use Rattle.ent_semantics.specs.Selection.{compares, holds}
use Rattle.ent_semantics.specs.Term.{no_value, known_value}
use Rattle.ent_form.specs.declared.fault.FormFault.TheVariants.{WrongKind, Unbound, NoHostVariable}
use Rattle.ent_form.specs.Entangled.{term_in, terms_in}
use Rattle.ent_form.specs.Entangled.{atom_from}
use Rattle.ent_form.specs.Kinds.{Bound}
use Rattle.ent_form.specs.Lookup.{value_in, values_in, kind_in, test_in}
use Rattle.ent_form.specs.Steps.{there}
use Rattle.ent_form.proofs.Heads.{found_of}
use Rattle.ent_form.proofs.ResolvedSteps.{one_answer, demand_given}

-- a value that is known before any row is read
pub value_same : (environment : Environment) (bound : Bound) (value : ValueSpecification) (found : Known × Kind)
    → value_in bound value ≡ Ok found → known_value environment value ≡ known_worth environment found.0
value_same environment bound (specifications.Literal literal) found e =
    ap (λ (found : Known × Kind). known_worth environment found.0) (one_answer _ found e)
value_same environment bound (specifications.HostVariable variable) found e =
    let w = found_of (there (bound variable.name) (NoHostVariable variable.place)) _ found e in
    ap (λ (found : Known × Kind). known_worth environment found.0) (one_answer _ found w.2)

pub kind_value_same : (environment : Environment) (bound : Bound) (kind : Kind) (value : ValueSpecification)
    (form : Known)
    → kind_in (values_in bound) kind value ≡ Ok form → known_value environment value ≡ known_worth environment form
kind_value_same environment bound kind value form e =
    let w = found_of (value_in bound value) _ form e in
    let kept = demand_given (same_kind kind w.0.1) (WrongKind (value_place value)) (Ok w.0.0) form w.2 in
    value_same environment bound value w.0 w.1 ∙ ap (known_worth environment) (one_answer w.0.0 form kept.1)

-- the value of a variable is that of its number
pub variable_same : (names : List Name) (valuation : Valuation) (name : Name) → length valuation ≡ length names
    → variable_value names valuation name ≡ slice_index_or valuation (index_of names name) no_value
variable_same [] [] name l = refl
variable_same [] (value ∷ valuation) name l = absurd (omega arith)
variable_same (first ∷ names) [] name l = absurd (omega arith)
variable_same (first ∷ names) (value ∷ valuation) name l =
    let rest = variable_same names valuation name (omega arith) in
    elim (same_name first name) as (λ b. (if b then value else variable_value names valuation name)
    ≡ slice_index_or (value ∷ valuation) (if b then 0 else suc (index_of names name)) no_value) [
      | true ↦ refl
      | false ↦ rest
    ]

module _ (environment : Environment) (names : List Name) (valuation : Valuation)
    (l : length valuation ≡ length names) where
  -- what a term of the statement is worth, and what a term of the form is
  abbrev pub worth : TreeTerm → Value
  worth term = term_value environment (variable_value names valuation) term

  abbrev pub form_worth : Term Known → Value
  form_worth term = term_worth (known_worth environment) valuation term

  pub term_same : (demanded bound : Bound) (term : TreeTerm) (found : Term Known × Kind)
      → term_in names demanded bound term ≡ Ok found → worth term ≡ form_worth found.0
  term_same demanded bound (terms.Value value) found e =
      let w = found_of (value_in bound value) _ found e in
      value_same environment bound value w.0 w.1
      ∙ ap (λ (found : Term Known × Kind). form_worth found.0) (one_answer _ found w.2)
  term_same demanded bound (terms.Variable variable) found e =
      let w = found_of (there (demanded variable.name) (Unbound variable.place)) _ found e in
      variable_same names valuation variable.name l
      ∙ ap (λ (found : Term Known × Kind). form_worth found.0) (one_answer _ found w.2)

  pub test_same : (demanded bound : Bound) (test : Test TreeTerm) (form : Test (Term Known))
      → test_in (terms_in names demanded bound) test ≡ Ok form → holds worth test ≡ holds form_worth form
  unfolding test_in
  test_same demanded bound test form e =
      let left = found_of (term_in names demanded bound test.left) _ form e in
      let right = found_of (term_in names demanded bound test.right) _ form left.2 in
      let kept = demand_given (same_kind left.0.1 right.0.1) (WrongKind (term_place test.right)) _ form right.2 in
      (λ i. compares test.comparison (value_cmp (term_same demanded bound test.left left.0 left.1 i)
      (term_same demanded bound test.right right.0 right.1 i)))
      ∙ ap (λ (form : Test (Term Known)). holds form_worth form) (one_answer _ form kept.1)

  pub atom_same : (demanded bound : Bound) (all : List TreeTerm) (made forms : List (Term Known))
      → atom_from names demanded bound made all ≡ Ok forms → map form_worth forms ≡ map form_worth made ++ map worth all
  atom_same demanded bound [] made forms e = ap (map form_worth) (sym (one_answer made forms e))
      ∙ sym (append-nil (map form_worth made))
  atom_same demanded bound (term ∷ more) made forms e =
      let w = found_of (term_in names demanded bound term) _ forms e in
      atom_same demanded bound more (made ++ w.0.0 ∷ []) forms w.2
      ∙ ap (λ xs. xs ++ map worth more) (map-append form_worth made (w.0.0 ∷ []))
      ∙ append_assoc (map form_worth made) (form_worth w.0.0 ∷ []) (map worth more)
      ∙ ap (λ x. map form_worth made ++ x ∷ map worth more) (sym (term_same demanded bound term w.0 w.1))
