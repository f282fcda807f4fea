-- A resolved statement fits its tables, if it is ordinary.
use Rattle.std.proofs.Common.{◌≡◌, List, Ok, refl, subst}
use Rattle.ent_tree.specs.declared.script.Statement.{Statement as TreeStatement}
use Rattle.ent_tree.specs.declared.script.Statement.TheVariants as statements
use Rattle.ent_semantics.specs.Form.{Tables}
use Rattle.ent_semantics.specs.declared.operand.Known.{Known}
use Rattle.ent_semantics.specs.declared.statement.Statement.{Statement}
use Rattle.ent_semantics.specs.declared.statement.Statement.TheVariants as forms
use Rattle.ent_semantics.specs.Database.{Environment}
use Rattle.ent_form.specs.declared.catalogue.TableSchema.{TableSchema}
use Rattle.ent_form.specs.Entangled.{entangled_in}
use Rattle.ent_form.specs.Form.{statement_in}
use Rattle.ent_form.specs.Kinds.{Bound}
use Rattle.ent_form.proofs.Heads.{found_of}
use Rattle.ent_form.specs.TableKinds.{AreKinded, HasKinds}
use Rattle.ent_form.proofs.Fitted.{statement_fits}
use Rattle.ent_form.proofs.Kept.{FitsIfOrdinary, if_ordinary}
use Rattle.ent_form.proofs.ResolvedSteps.{one_answer}

module _ (schemas : List TableSchema) (bound : Bound) (tables : Tables) (environment : Environment)
    (kinded : AreKinded schemas tables) (have : HasKinds bound environment) where
  pub form_fits : (statement : TreeStatement) (form : Statement Known) (after : Bound)
      → statement_in schemas bound statement ≡ Ok (form, after)
      → FitsIfOrdinary schemas tables environment kinded form
  unfolding statement_in
  form_fits (statements.Entangled entangled) form after e =
      let w = found_of (entangled_in schemas bound entangled) _ (form, after) e in
      subst (λ (f : Statement Known × Bound). FitsIfOrdinary schemas tables environment kinded f.0)
      (one_answer (forms.Entangled w.0.0, w.0.1) (form, after) w.2) tt
  form_fits (statements.Select select) form after e =
      if_ordinary schemas tables environment kinded form
      (statement_fits schemas bound environment have (statements.Select select) form after e refl)
  form_fits (statements.Insert insert) form after e =
      if_ordinary schemas tables environment kinded form
      (statement_fits schemas bound environment have (statements.Insert insert) form after e refl)
  form_fits (statements.Delete delete) form after e =
      if_ordinary schemas tables environment kinded form
      (statement_fits schemas bound environment have (statements.Delete delete) form after e refl)
  form_fits (statements.Update update) form after e =
      if_ordinary schemas tables environment kinded form
      (statement_fits schemas bound environment have (statements.Update update) form after e refl)
  form_fits (statements.Set set) form after e =
      if_ordinary schemas tables environment kinded form
      (statement_fits schemas bound environment have (statements.Set set) form after e refl)
