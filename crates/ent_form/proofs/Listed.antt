-- Steps of loops that take one thing of a list after the other.
use Rattle.std.proofs.Common.{◌≡◌, ℕ, ◌+◌, ◌<◌, List, [], ◌∷◌, ◌++◌, length, drop, get_or, Result, Ok, sym, ap, ◌∙◌}
use Rattle.std.proofs.lemmas.List.{at_drop_more}
use Rattle.ent_value.specs.Refusal.{Refuses, ◌>>=◌}
use Rattle.ent_value.specs.declared.refusal.Refusal.{Refusal}
use Rattle.ent_value.specs.declared.refusal.Refusal.TheVariants.{Memory, Fault}
use Rattle.ent_tree.specs.declared.operand.Operand.{Operand as TreeOperand}
use Rattle.ent_tree.specs.declared.operand.Test.{Test}
use Rattle.ent_semantics.specs.declared.operand.Known.{Known}
use Rattle.ent_semantics.specs.declared.operand.Operand.{Operand}
use Rattle.ent_form.specs.declared.fault.FormFault.{FormFault}
use Rattle.ent_form.specs.Lookup.{Lookup, test_in}
use Rattle.ent_form.specs.Ordinary.{tests_from}

module _ (lookup : Lookup TreeOperand (Operand Known)) where
  -- the tests that are left, at the first of them
  tests_at : (made : List (Test (Operand Known))) (xs : List (Test TreeOperand)) (i : ℕ) (x : Test TreeOperand)
      → i < length xs → x ≡ get_or xs i x
      → tests_from lookup made (drop i xs)
      ≡ (test_in lookup x >>= λ y. tests_from lookup (made ++ y ∷ []) (drop (i + 1) xs))
  tests_at made xs i x h is =
      at_drop_more (tests_from lookup made) xs i x h
      ∙ ap (λ (y : Test TreeOperand). tests_from lookup made (y ∷ drop (i + 1) xs)) (sym is)

  -- the fault of one test is that of all
  pub tests_refused : (made : List (Test (Operand Known))) (xs : List (Test TreeOperand)) (i : ℕ) (x : Test TreeOperand)
      → (total : Result (List (Test (Operand Known))) FormFault) (refusal : Refusal FormFault)
      → i < length xs → x ≡ get_or xs i x → Refuses refusal (test_in lookup x)
      → tests_from lookup made (drop i xs) ≡ total → Refuses refusal total
  tests_refused made xs i x total Memory h is e so = tt
  tests_refused made xs i x total (Fault fault) h is e so =
      sym so ∙ tests_at made xs i x h is
      ∙ ap (λ (r : Result (Test (Operand Known)) FormFault). r >>= λ y. tests_from lookup (made ++ y ∷ [])
      (drop (i + 1) xs)) e

  -- what one test gives goes behind what was made
  pub tests_passed : (made new : List (Test (Operand Known))) (xs : List (Test TreeOperand)) (i : ℕ)
      (x : Test TreeOperand)
      → (y : Test (Operand Known)) (total : Result (List (Test (Operand Known))) FormFault)
      → i < length xs → x ≡ get_or xs i x → test_in lookup x ≡ Ok y → new ≡ made ++ y ∷ []
      → tests_from lookup made (drop i xs) ≡ total → tests_from lookup new (drop (i + 1) xs) ≡ total
  tests_passed made new xs i x y total h is e grown so =
      ap (λ ys. tests_from lookup ys (drop (i + 1) xs)) grown
      ∙ sym (ap (λ (r : Result (Test (Operand Known)) FormFault). r >>= λ y. tests_from lookup (made ++ y ∷ [])
      (drop (i + 1) xs)) e)
      ∙ sym (tests_at made xs i x h is) ∙ so
