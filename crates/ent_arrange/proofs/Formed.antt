-- Inputs with their scripts in another order have no fault of form where the input has none.
use Rattle.std.proofs.Common.{◌≡◌, List, [], ◌∷◌, map, None, Result, Ok, Err, ap, sym, ◌∙◌, refl, subst}
use Rattle.std.specs.List.{AllByRecursion}
use Rattle.std.specs.Result.{result_err}
use Rattle.std.proofs.lemmas.List.Sorted.{Contains-permutation, IsPermutation-sym}
use Rattle.ent_value.specs.Refusal.{◌>>=◌}
use Rattle.ent_lists.specs.Elements.{In, contains_in, in_contains, of_all, of_map, to_all, to_map}
use Rattle.ent_tree.specs.declared.declaration.Create.{Create}
use Rattle.ent_tree.specs.declared.declaration.Opening.{Opening}
use Rattle.ent_tree.specs.declared.script.Input.{Input}
use Rattle.ent_tree.specs.declared.script.Script.{Script}
use Rattle.ent_tree.specs.Places.{unplaced_script}
use Rattle.ent_form.specs.AllFaults.{fault_of, head_of}
use Rattle.ent_form.specs.Catalogue.{schemas_of}
use Rattle.ent_form.specs.Form.{script_in}
use Rattle.ent_form.specs.OpeningFault.{Check, first_of, opening_fault}
use Rattle.ent_form.specs.ScriptFaults.{script_faults}
use Rattle.ent_form.specs.declared.catalogue.TableSchema.{TableSchema}
use Rattle.ent_form.specs.declared.fault.FormFault.{FormFault}
use Rattle.ent_form.proofs.FirstFault.{headless}
use Rattle.ent_headline.specs.Resolved.{resolved_forms}
use Rattle.ent_form.specs.InputFault.{input_fault, scripts_fault}
use Rattle.ent_program_laws.specs.Faults.{unplaced_fault}
use Rattle.ent_program_laws.specs.Unplaced.{unplaced_create}
use Rattle.ent_form.proofs.ResolvedSteps.{nothing_first, nothing_later, both_nothing}
use Rattle.ent_arrange.specs.Arranged.{IsArranged}

-- ---- checks

module _ {A : Type 0} (check : A → Check) where
  all_pass : (xs : List A) → first_of check xs ≡ None → (x : A) → In x xs → check x ≡ None
  all_pass xs none x there = of_all (λ (y : A). check y ≡ None) xs x (passed xs none) there
    where
      passed : (ys : List A) → first_of check ys ≡ None → AllByRecursion (λ y. check y ≡ None) ys
      passed [] e = tt
      passed (y ∷ ys) e =
          (nothing_first (check y) (first_of check ys) e, passed ys (nothing_later (check y) (first_of check ys) e))

  none_fails : (xs : List A) → AllByRecursion (λ x. check x ≡ None) xs → first_of check xs ≡ None
  none_fails [] all = refl
  none_fails (x ∷ xs) all = both_nothing (check x) (first_of check xs) all.0 (none_fails xs all.1)

-- ---- scripts

no_image : (faults : List FormFault) → map unplaced_fault faults ≡ [] → faults ≡ []
no_image [] e = refl
no_image (fault ∷ more) e = cc

-- the fault of resolving a script
abbrev refusal : Opening → Script → Check
refusal opening script = result_err (resolved_forms.resolve opening script)

by_steps : {A B : Type 0} (r : Result A FormFault) (f : A → B) → result_err (r >>= λ x. Ok (f x)) ≡ fault_of r
by_steps (Ok x) f = refl
by_steps (Err fault) f = refl

abbrev pub FirstIsFirst : Type 0
FirstIsFirst = (tables : List TableSchema) (script : Script)
    → fault_of (script_in tables script) ≡ head_of (script_faults tables script)

abbrev pub PlacesMakeNoFault : Type 0
PlacesMakeNoFault = (creates : List Create) (script : Script)
    → script_faults (schemas_of (map unplaced_create creates)) (unplaced_script script)
    ≡ map unplaced_fault (script_faults (schemas_of creates) script)

module _ (first : FirstIsFirst) (unplaced : PlacesMakeNoFault) (opening : Opening) where
  refused : (script : Script) → refusal opening script ≡ head_of (script_faults (schemas_of opening.tables) script)
  refused script =
      by_steps (script_in (schemas_of opening.tables) script) (λ plain. plain.statements)
      ∙ first (schemas_of opening.tables) script

  -- a script that is one without a fault, places aside, has none
  alike : (script other : Script) → unplaced_script other ≡ unplaced_script script → refusal opening script ≡ None
      → refusal opening other ≡ None
  alike script other same none =
      refused other
      ∙ ap head_of
      (no_image (script_faults (schemas_of opening.tables) other)
      (sym (unplaced opening.tables other)
      ∙ ap (script_faults (schemas_of (map unplaced_create opening.tables))) same
      ∙ unplaced opening.tables script
      ∙ ap (map unplaced_fault)
      (headless (script_faults (schemas_of opening.tables) script) (sym (refused script) ∙ none))))

-- ---- inputs

module _ (first : FirstIsFirst) (unplaced : PlacesMakeNoFault) (input again : Input) where
  pub still_formed : IsArranged input again → input_fault input.opening input.scripts ≡ None
      → input_fault again.opening again.scripts ≡ None
  still_formed arranged none =
      subst (λ (opening : Opening). input_fault opening again.scripts ≡ None) (sym arranged.opening)
      (both_nothing (opening_fault input.opening) (scripts_fault input.opening again.scripts)
      (nothing_first (opening_fault input.opening) (scripts_fault input.opening input.scripts) none)
      (none_fails (refusal input.opening) again.scripts
      (to_all (λ (s : Script). refusal input.opening s ≡ None) again.scripts each)))
    where
      each : (script : Script) → In script again.scripts → refusal input.opening script ≡ None
      each script there =
          let moved =
          Contains-permutation (map unplaced_script again.scripts) (map unplaced_script input.scripts)
          (unplaced_script script)
          (IsPermutation-sym (map unplaced_script input.scripts) (map unplaced_script again.scripts) arranged.scripts)
          (in_contains (map unplaced_script again.scripts) (unplaced_script script)
          (to_map unplaced_script again.scripts script there)) in
          let own =
          of_map unplaced_script input.scripts (unplaced_script script)
          (contains_in (map unplaced_script input.scripts) (unplaced_script script) moved) in
          alike first unplaced input.opening own.0 script own.2
          (all_pass (refusal input.opening) input.scripts
          (nothing_later (opening_fault input.opening) (scripts_fault input.opening input.scripts) none) own.0 own.1)
