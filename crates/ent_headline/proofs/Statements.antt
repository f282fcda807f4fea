-- What holds of each entangled statement that is resolved holds of those of a script.
use Rattle.std.proofs.Common.{◌≡◌, ◌<◌, ℕ, zero, suc, List, [], ◌∷◌, ◌++◌, length, Ok, ap, subst, arith}
use Rattle.std.specs.Prelude.{◌==◌, Contains, slice_index_or}
use Rattle.std.specs.List.{AllByRecursion}
use Rattle.ent_tree.specs.declared.entangled.Entangled.{Entangled as TreeEntangled}
use Rattle.ent_tree.specs.declared.script.Script.{Script}
use Rattle.ent_tree.specs.declared.statement.Insert.{Insert}
use Rattle.ent_tree.specs.declared.statement.Delete.{Delete}
use Rattle.ent_tree.specs.declared.statement.Update.{Update}
use Rattle.ent_tree.specs.declared.script.Statement.{Statement as TreeStatement}
use Rattle.ent_tree.specs.declared.script.Statement.TheVariants as trees
use Rattle.ent_semantics.specs.declared.entangled.Entangled.{Entangled}
use Rattle.ent_semantics.specs.declared.operand.Known.{Known}
use Rattle.ent_semantics.specs.declared.statement.Statement.{Statement}
use Rattle.ent_semantics.specs.declared.statement.Statement.TheVariants as statements
use Rattle.ent_form.specs.Entangled.{entangled_in}
use Rattle.ent_form.specs.Form.{statement_in, statements_from, script_in}
use Rattle.ent_form.specs.Kinds.{Bound, none_bound}
use Rattle.ent_form.specs.Lookup.{expression_in, values_in}
use Rattle.ent_form.specs.Ordinary.{select_in, insert_in, delete_in, update_in, set_in, row_from, tests_in, image_in}
use Rattle.ent_form.specs.Scope.{table_in, table_scope}
use Rattle.ent_form.specs.declared.catalogue.TableSchema.{TableSchema}
use Rattle.ent_form.specs.declared.fault.FormFault.TheVariants.{Arity}
use Rattle.ent_form.specs.declared.script.Plain.{Plain}
use Rattle.ent_form.proofs.Heads.{found_of}
use Rattle.ent_form.proofs.ResolvedSteps.{one_answer, demand_given}

-- what holds of each entangled statement that is resolved
abbrev pub OfResolved : (Entangled Known → Type 0) → Type 0
OfResolved P =
    (tables : List TableSchema) (bound : Bound) (tree : TreeEntangled) (form : Entangled Known × Bound)
    → entangled_in tables bound tree ≡ Ok form → P form.0

module _ (P : Entangled Known → Type 0) (resolved : OfResolved P) where
  abbrev Holds : Statement Known → Type 0
  Holds (statements.Entangled entangled) = P entangled
  Holds (statements.Select select) = Unit {0}
  Holds (statements.Insert table values) = Unit {0}
  Holds (statements.Delete table tests) = Unit {0}
  Holds (statements.Update table image tests) = Unit {0}
  Holds (statements.Set variable expression) = Unit {0}

  insert_holds : (tables : List TableSchema) (bound : Bound) (insert : Insert) (form : Statement Known)
      → insert_in tables bound insert ≡ Ok form → Holds form
  unfolding insert_in
  insert_holds tables bound insert form e =
      let table = found_of (table_in tables insert.table) _ form e in
      let kept = demand_given (length insert.values == length table.0.1.columns) (Arity insert.place) _ form table.2 in
      let values = found_of (row_from bound [] table.0.1.columns insert.values) _ form kept.1 in
      subst Holds (one_answer _ form values.2) tt

  delete_holds : (tables : List TableSchema) (bound : Bound) (delete : Delete) (form : Statement Known)
      → delete_in tables bound delete ≡ Ok form → Holds form
  unfolding delete_in
  delete_holds tables bound delete form e =
      let table = found_of (table_in tables delete.table) _ form e in
      let tests = found_of (tests_in (table_scope delete.table.name table.0) bound delete.tests) _ form table.2 in
      subst Holds (one_answer _ form tests.2) tt

  update_holds : (tables : List TableSchema) (bound : Bound) (update : Update) (form : Statement Known)
      → update_in tables bound update ≡ Ok form → Holds form
  unfolding update_in
  update_holds tables bound update form e =
      let table = found_of (table_in tables update.table) _ form e in
      let scope = table_scope update.table.name table.0 in
      let tests = found_of (tests_in scope bound update.tests) _ form table.2 in
      let image = found_of (image_in scope bound table.0.1.columns update.assignments) _ form tests.2 in
      subst Holds (one_answer _ form image.2) tt

  statement_holds : (tables : List TableSchema) (bound : Bound) (tree : TreeStatement) (form : Statement Known × Bound)
      → statement_in tables bound tree ≡ Ok form → Holds form.0
  unfolding statement_in set_in
  statement_holds tables bound (trees.Select select) form e =
      let found = found_of (select_in tables bound select) _ form e in
      subst (λ (f : Statement Known × Bound). Holds f.0) (one_answer _ form found.2) tt
  statement_holds tables bound (trees.Entangled tree) form e =
      let found = found_of (entangled_in tables bound tree) _ form e in
      subst (λ (f : Statement Known × Bound). Holds f.0) (one_answer _ form found.2)
      (resolved tables bound tree found.0 found.1)
  statement_holds tables bound (trees.Insert insert) form e =
      let found = found_of (insert_in tables bound insert) _ form e in
      subst (λ (f : Statement Known × Bound). Holds f.0) (one_answer _ form found.2)
      (insert_holds tables bound insert found.0 found.1)
  statement_holds tables bound (trees.Delete delete) form e =
      let found = found_of (delete_in tables bound delete) _ form e in
      subst (λ (f : Statement Known × Bound). Holds f.0) (one_answer _ form found.2)
      (delete_holds tables bound delete found.0 found.1)
  statement_holds tables bound (trees.Update update) form e =
      let found = found_of (update_in tables bound update) _ form e in
      subst (λ (f : Statement Known × Bound). Holds f.0) (one_answer _ form found.2)
      (update_holds tables bound update found.0 found.1)
  statement_holds tables bound (trees.Set setting) form e =
      let found = found_of (expression_in (values_in bound) setting.expression) _ form e in
      subst (λ (f : Statement Known × Bound). Holds f.0) (one_answer _ form found.2) tt

  -- ---- scripts

  abbrev Each : List (Statement Known) → Type 0
  Each = AllByRecursion Holds

  each_put : (made : List (Statement Known)) (form : Statement Known) → Each made → Holds form
      → Each (made ++ form ∷ [])
  each_put [] form each new = (new, tt)
  each_put (first ∷ made) form each new = (each.0, each_put made form each.1 new)

  statements_holds : (tables : List TableSchema) (bound : Bound) (made : List (Statement Known))
      (trees : List TreeStatement) (out : List (Statement Known)) → Each made
      → statements_from tables bound made trees ≡ Ok out → Each out
  statements_holds tables bound made [] out each e = subst Each (one_answer made out e) each
  statements_holds tables bound made (tree ∷ more) out each e =
      let found = found_of (statement_in tables bound tree) _ out e in
      statements_holds tables found.0.1 (made ++ found.0.0 ∷ []) more out
      (each_put made found.0.0 each (statement_holds tables bound tree found.0 found.1)) found.2

  script_holds : (tables : List TableSchema) (script : Script) (plain : Plain) → script_in tables script ≡ Ok plain
      → Each plain.statements
  script_holds tables script plain e =
      let found = found_of (statements_from tables none_bound [] script.statements) _ plain e in
      let made = ap (λ (p : Plain). p.statements) (one_answer _ plain found.2) in
      subst Each made (statements_holds tables none_bound [] script.statements found.0 tt found.1)

  -- ---- by index

  holds_at : (xs : List (Statement Known)) (x : Statement Known) (k : ℕ) → Each xs → k < length xs
      → slice_index_or xs k x ≡ x → Holds x
  holds_at [] x k each low at = absurd (omega (arith, low))
  holds_at (first ∷ more) x zero each low at = subst Holds at each.0
  holds_at (first ∷ more) x (suc k) each low at = holds_at more x k each.1 (omega (arith, low)) at

  pub script_each : (tables : List TableSchema) (script : Script) (plain : Plain) (entangled : Entangled Known)
      → script_in tables script ≡ Ok plain → Contains plain.statements (statements.Entangled entangled) → P entangled
  script_each tables script plain entangled e there =
      holds_at plain.statements (statements.Entangled entangled) there.0 (script_holds tables script plain e) there.1
      there.2
