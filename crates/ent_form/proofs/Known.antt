-- What is known before a row is read is of the kind that it was looked up in.
use Rattle.std.proofs.Common.{◌≡◌, List, [], ◌∷◌, ◌++◌, map, length, Option, Some, Ok, refl, sym, ap}
use Rattle.std.proofs.Common.{subst, ◌∙◌, arith}
use Rattle.std.specs.Prelude.{◌+ℤ◌, ◌-ℤ◌, unwrap_or}
use Rattle.std.proofs.lemmas.List.{append-nil, append_assoc, map-append}
use Rattle.std.proofs.lemmas.Option.{same_Some}
use Rattle.ent_value.specs.Value.{kind_of}
use Rattle.ent_value.specs.declared.value.Kind.{Kind}
use Rattle.ent_value.specs.declared.value.Kind.TheVariants as kinds
use Rattle.ent_value.specs.declared.value.Value.{Value}
use Rattle.ent_value.specs.declared.value.Value.TheVariants.{Int}
use Rattle.ent_value.specs.Kinds.{same_kind, equal_kinds}
use Rattle.ent_tree.specs.declared.operand.Expression.{Expression}
use Rattle.ent_tree.specs.declared.operand.Expression.TheVariants.{Single, Sum, Difference}
use Rattle.ent_tree.specs.declared.operand.ValueSpecification.{ValueSpecification}
use Rattle.ent_tree.specs.declared.operand.ValueSpecification.TheVariants as specifications
use Rattle.ent_tree.specs.Places.{value_place}
use Rattle.ent_semantics.specs.declared.operand.Known.{Known}
use Rattle.ent_semantics.specs.declared.operand.Known.TheVariants as known
use Rattle.ent_semantics.specs.Form.{known_worth}
use Rattle.ent_semantics.specs.Database.{Environment}
use Rattle.ent_semantics.specs.Term.{no_value, number_of, expression_value}
use Rattle.ent_semantics.proofs.NumberKinds.{number_kind}
use Rattle.ent_form.specs.declared.catalogue.ColumnSchema.{ColumnSchema}
use Rattle.ent_form.specs.declared.fault.FormFault.TheVariants.{WrongKind, NoHostVariable}
use Rattle.ent_form.specs.Kinds.{Bound}
use Rattle.ent_form.specs.Lookup.{Lookup, value_in, values_in, kind_in, expression_in}
use Rattle.ent_form.specs.Ordinary.{row_from}
use Rattle.ent_form.specs.Steps.{there}
use Rattle.ent_form.proofs.Heads.{found_of, there_of}
use Rattle.ent_form.specs.TableKinds.{HasKinds}
use Rattle.ent_form.proofs.ResolvedSteps.{one_answer, demand_given}

-- ---- sums and differences

-- an expression over terms of the kinds that they were looked up in
module _ {A B : Type 0} (lookup : Lookup A B) (worth : B → Value)
    (each : (term : A) (found : B × Kind) → lookup.find term ≡ Ok found → kind_of (worth found.0) ≡ found.1) where
  pub expression_kinded : (expression : Expression A) (found : Expression B × Kind)
      → expression_in lookup expression ≡ Ok found → (value : Value)
      → expression_value worth found.0 ≡ Some value → kind_of value ≡ found.1
  expression_kinded (Single term) found e value is =
      let w = found_of (lookup.find term) _ found e in
      let same : (Single w.0.0, w.0.1) ≡ found = one_answer (Single w.0.0, w.0.1) found w.2 in
      sym (ap kind_of (same_Some (worth w.0.0) value
      (ap (λ (f : Expression B × Kind). expression_value worth f.0) same ∙ is)))
      ∙ each term w.0 w.1 ∙ ap (λ (f : Expression B × Kind). f.1) same
  expression_kinded (Sum left right) found e value is =
      let l = found_of (kind_in lookup kinds.Int left) _ found e in
      let r = found_of (kind_in lookup kinds.Int right) _ found l.2 in
      let same : (Sum l.0 r.0, kinds.Int) ≡ found = one_answer (Sum l.0 r.0, kinds.Int) found r.2 in
      number_kind (number_of (worth l.0) +ℤ number_of (worth r.0)) value
      (ap (λ (f : Expression B × Kind). expression_value worth f.0) same ∙ is)
      ∙ ap (λ (f : Expression B × Kind). f.1) same
  expression_kinded (Difference left right) found e value is =
      let l = found_of (kind_in lookup kinds.Int left) _ found e in
      let r = found_of (kind_in lookup kinds.Int right) _ found l.2 in
      let same : (Difference l.0 r.0, kinds.Int) ≡ found = one_answer (Difference l.0 r.0, kinds.Int) found r.2 in
      number_kind (number_of (worth l.0) -ℤ number_of (worth r.0)) value
      (ap (λ (f : Expression B × Kind). expression_value worth f.0) same ∙ is)
      ∙ ap (λ (f : Expression B × Kind). f.1) same

-- ---- written values and host variables

module _ (bound : Bound) (environment : Environment) (have : HasKinds bound environment) where
  abbrev kind_known : Known → Kind
  kind_known k = kind_of (known_worth environment k)

  pub value_kinded : (value : ValueSpecification) (found : Known × Kind) → value_in bound value ≡ Ok found
      → kind_known found.0 ≡ found.1
  value_kinded (specifications.Literal literal) found e =
      subst (λ (f : Known × Kind). kind_known f.0 ≡ f.1)
      (one_answer (known.Constant literal.value, kind_of literal.value) found e) refl
  value_kinded (specifications.HostVariable variable) found e =
      let w = found_of (there (bound variable.name) (NoHostVariable variable.place)) _ found e in
      let value = have variable.name w.0 (there_of (bound variable.name) (NoHostVariable variable.place) w.0 w.1) in
      subst (λ (f : Known × Kind). kind_known f.0 ≡ f.1)
      (one_answer (known.HostVariable variable.name, w.0) found w.2)
      (ap (λ (there : Option Value). kind_of (unwrap_or there no_value)) value.1 ∙ value.2)

  pub wanted_kinded : (kind : Kind) (value : ValueSpecification) (found : Known)
      → kind_in (values_in bound) kind value ≡ Ok found → kind_known found ≡ kind
  wanted_kinded kind value found e =
      let w = found_of (value_in bound value) _ found e in
      let kept = demand_given (same_kind kind w.0.1) (WrongKind (value_place value)) (Ok w.0.0) found w.2 in
      sym (ap kind_known (one_answer w.0.0 found kept.1)) ∙ value_kinded value w.0 w.1
      ∙ sym (equal_kinds kind w.0.1 kept.0)

  pub row_kinded : (columns : List ColumnSchema) (values : List ValueSpecification) (made out : List Known)
      → length values ≡ length columns → row_from bound made columns values ≡ Ok out
      → map kind_known out ≡ map kind_known made ++ map (λ column. column.kind) columns
  row_kinded [] values made out l e =
      sym (ap (map kind_known) (one_answer made out e)) ∙ sym (append-nil (map kind_known made))
  row_kinded (column ∷ columns) [] made out l e = absurd (omega arith)
  row_kinded (column ∷ columns) (value ∷ values) made out l e =
      let w = found_of (kind_in (values_in bound) column.kind value) _ out e in
      row_kinded columns values (made ++ w.0 ∷ []) out (omega arith) w.2
      ∙ ap (λ xs. xs ++ map (λ (column : ColumnSchema). column.kind) columns) (map-append kind_known made (w.0 ∷ []))
      ∙ append_assoc (map kind_known made) (kind_known w.0 ∷ []) (map (λ (column : ColumnSchema). column.kind) columns)
      ∙ ap (λ kind. map kind_known made ++ kind ∷ map (λ (column : ColumnSchema). column.kind) columns)
      (wanted_kinded column.kind value w.0 w.1)
