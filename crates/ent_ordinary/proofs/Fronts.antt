-- What fails over the front of a row fails over the row, and nothing is shown where every row fails.
use Rattle.std.proofs.Common.{◌≡◌, ℕ, zero, suc, Bool, true, false, cond, List, [], ◌∷◌, ◌++◌, map, Option, Some}
use Rattle.std.proofs.Common.{None, refl, sym, ap, ◌∙◌, append_assoc}
use Rattle.std.proofs.lemmas.List.{append-nil}
use Rattle.std.specs.Prelude.{◌&&◌, slice_get, slice_index_or}
use Rattle.std.specs.List.{list_all, flat_map}
use Rattle.ent_value.specs.Value.{value_cmp}
use Rattle.ent_value.specs.declared.value.Value.{Value}
use Rattle.ent_tree.specs.declared.operand.Test.{Test}
use Rattle.ent_semantics.specs.Selection.{compares, holds, meets}
use Rattle.ent_semantics.specs.Term.{no_value}
use Rattle.ent_semantics.specs.declared.operand.Operand.{Operand}
use Rattle.ent_semantics.specs.declared.operand.Operand.TheVariants as operands
use Rattle.ent_ordinary.specs.Combined.{combined, shown_of}
use Rattle.ent_ordinary.specs.Early.{value_there, may_compare, may_hold, may_meet}
use Rattle.ent_ordinary.specs.Worth.{worth_over}
use Rattle.ent_ordinary.proofs.Combinations.{shown_of-append}

column_there : (front rest : List Value) (number : ℕ) (value : Value) → slice_get front number ≡ Some value
    → slice_index_or (front ++ rest) number no_value ≡ value
column_there [] rest number value e = cc
column_there (first ∷ front) rest zero value e = cc
column_there (first ∷ front) rest (suc number) value e = column_there front rest number value e

-- what an operand is worth over a front, it is worth over the row
pub there_worth : (front rest : List Value) (operand : Operand Value) (value : Value)
    → value_there front operand ≡ Some value → worth_over (front ++ rest) operand ≡ value
there_worth front rest (operands.Known known) value e = cc
there_worth front rest (operands.Column number) value e = column_there front rest number value e

hold_fails : (front rest : List Value) (test : Test (Operand Value)) → may_hold front test ≡ false
    → holds (worth_over (front ++ rest)) test ≡ false
hold_fails front rest test = by (value_there front test.left) (value_there front test.right) refl refl
  where
    by : (left right : Option Value) → value_there front test.left ≡ left → value_there front test.right ≡ right
        → may_compare test.comparison left right ≡ false → holds (worth_over (front ++ rest)) test ≡ false
    by (Some left) (Some right) l r e =
        (λ i. compares test.comparison (value_cmp (there_worth front rest test.left left l i)
        (there_worth front rest test.right right r i))) ∙ e
    by (Some left) None l r e = absurd cc
    by None right l r e = absurd cc

and_false : (b : Bool) → b && false ≡ false
and_false true = refl
and_false false = refl

-- a list in which something fails by one test, and fails by another
fails_too : {A : Type 0} (p q : A → Bool) → ((x : A) → p x ≡ false → q x ≡ false) → (xs : List A)
    → list_all p xs ≡ false → list_all q xs ≡ false
fails_too p q each [] e = absurd cc
fails_too {A} p q each (x ∷ xs) e = by (p x) refl e (fails_too p q each xs)
  where
    by : (b : Bool) → p x ≡ b → b && list_all p xs ≡ false → (list_all p xs ≡ false → list_all q xs ≡ false)
        → q x && list_all q xs ≡ false
    by true is e others = ap (λ b. q x && b) (others e) ∙ and_false (q x)
    by false is e others = ap (λ b. b && list_all q xs) (each x is)

-- where a test fails over a front, it fails whatever follows
pub meet_fails : (tests : List (Test (Operand Value))) (front rest : List Value) → may_meet tests front ≡ false
    → meets worth_over tests (front ++ rest) ≡ false
meet_fails tests front rest e =
    fails_too (may_hold front) (holds (worth_over (front ++ rest))) (hold_fails front rest) tests e

-- where nothing that begins with a front meets the tests, nothing is shown of it
pub nothing_shown : (items : List (Operand Value)) (tests : List (Test (Operand Value))) (front : List Value)
    (sources : List (List (List Value))) → ((rest : List Value) → meets worth_over tests (front ++ rest) ≡ false)
    → shown_of items tests (combined front sources) ≡ []
nothing_shown items tests front [] fails =
    ap (λ b. map (λ row. map (worth_over row) items) (cond b (front ∷ []) []))
    (sym (ap (meets worth_over tests) (append-nil front)) ∙ fails [])
nothing_shown items tests front (rows ∷ more) fails =
    all (λ row. nothing_shown items tests (front ++ row) more
    (λ rest. ap (meets worth_over tests) (append_assoc front row rest) ∙ fails (row ++ rest))) rows
  where
    each : List Value → List (List Value)
    each row = combined (front ++ row) more

    all : ((row : List Value) → shown_of items tests (each row) ≡ []) → (rows : List (List Value))
        → shown_of items tests (flat_map each rows) ≡ []
    all none [] = refl
    all none (row ∷ rows) =
        shown_of-append items tests (each row) (flat_map each rows)
        ∙ ap (λ xs. xs ++ shown_of items tests (flat_map each rows)) (none row) ∙ all none rows
