-- Rows and images that are made for a table have a part for each of its columns.
use Rattle.std.proofs.Common.{◌≡◌, ℕ, suc, ◌+◌, List, [], ◌∷◌, ◌++◌, length, Ok, sym, ap, ◌∙◌, arith}
use Rattle.std.specs.Prelude.{not, slice_set}
use Rattle.std.proofs.lemmas.List.{length-append, length-set}
use Rattle.ent_lists.proofs.Numbers.{plus_zero}
use Rattle.ent_value.specs.Kinds.{same_kind}
use Rattle.ent_tree.specs.declared.operand.ValueSpecification.{ValueSpecification}
use Rattle.ent_tree.specs.declared.statement.Assignment.{Assignment}
use Rattle.ent_semantics.specs.Database.{Name, is_among}
use Rattle.ent_semantics.specs.declared.operand.Known.{Known}
use Rattle.ent_form.specs.declared.catalogue.ColumnSchema.{ColumnSchema}
use Rattle.ent_form.specs.declared.fault.FormFault.TheVariants.{NoColumn, Repeated, WrongKind}
use Rattle.ent_form.specs.Lookup.{values_in, kind_in, operands_in, operand_place, expression_in, expression_place}
use Rattle.ent_form.specs.Ordinary.{Image, row_from, own_from, assignment_in, assignments_from, image_in}
use Rattle.ent_form.specs.Scope.{Scope}
use Rattle.ent_form.specs.Steps.{there}
use Rattle.ent_form.specs.Kinds.{Bound}
use Rattle.ent_form.specs.Catalogue.{column_named}
use Rattle.ent_form.proofs.Columns.{own_length_from}
use Rattle.ent_form.proofs.Heads.{found_of}
use Rattle.ent_form.proofs.ResolvedSteps.{one_answer, demand_given}

one_more : (out made more columns : ℕ) → out ≡ more + columns → more ≡ made + 1 → out ≡ made + suc columns
one_more out made more columns e l = omega (arith, e, l)

behind_long : (bound : Bound) (columns : List ColumnSchema) (values : List ValueSpecification)
    (made out : List Known) → length values ≡ length columns → row_from bound made columns values ≡ Ok out
    → length out ≡ length made + length columns
behind_long bound [] [] made out l e = ap length (sym (one_answer made out e)) ∙ plus_zero (length made)
behind_long bound [] (value ∷ values) made out l e = absurd (omega arith)
behind_long bound (column ∷ columns) [] made out l e = absurd (omega arith)
behind_long bound (column ∷ columns) (value ∷ values) made out l e =
    let w = found_of (kind_in (values_in bound) column.kind value) _ out e in
    one_more (length out) (length made) (length (made ++ w.0 ∷ [])) (length columns)
    (behind_long bound columns values (made ++ w.0 ∷ []) out (omega arith) w.2) (length-append made (w.0 ∷ []))

pub row_long : (bound : Bound) (columns : List ColumnSchema) (values : List ValueSpecification) (out : List Known)
    → length values ≡ length columns → row_from bound [] columns values ≡ Ok out → length out ≡ length columns
row_long bound columns values out l e = let long = behind_long bound columns values [] out l e in omega (arith, long)

module _ (scope : Scope) (bound : Bound) (columns : List ColumnSchema) where
  assigned_long : (earlier : List Name) (image : Image) (assignment : Assignment) (out : Image)
      → assignment_in scope bound columns earlier image assignment ≡ Ok out → length out ≡ length image
  unfolding assignment_in
  assigned_long earlier image assignment out e =
      let column = found_of
      (there (column_named columns assignment.column.name) (NoColumn assignment.column.place)) _ out e in
      let kept = demand_given (not (is_among earlier assignment.column.name)) (Repeated assignment.column.place) _ out
      column.2 in
      let found = found_of (expression_in (operands_in scope bound) assignment.expression) _ out kept.1 in
      let compared = demand_given (same_kind column.0.1 found.0.1)
      (WrongKind (expression_place operand_place assignment.expression)) _ out found.2 in
      ap length (sym (one_answer (slice_set image column.0.0 found.0.0) out compared.1))
      ∙ length-set image column.0.0 found.0.0

  assignments_long : (assignments : List Assignment) (earlier : List Name) (image out : Image)
      → assignments_from scope bound columns earlier image assignments ≡ Ok out → length out ≡ length image
  assignments_long [] earlier image out e = ap length (sym (one_answer image out e))
  assignments_long (assignment ∷ more) earlier image out e =
      let w = found_of (assignment_in scope bound columns earlier image assignment) _ out e in
      assignments_long more (earlier ++ assignment.column.name ∷ []) w.0 out w.2
      ∙ assigned_long earlier image assignment w.0 w.1

  pub image_long : (assignments : List Assignment) (out : Image) → image_in scope bound columns assignments ≡ Ok out
      → length out ≡ length columns
  unfolding image_in
  image_long assignments out e =
      assignments_long assignments [] (own_from 0 columns) out e ∙ own_length_from 0 columns
