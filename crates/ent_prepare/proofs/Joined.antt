-- Faults of rows that stand behind others.
use Rattle.std.proofs.Common.{◌≡◌, ◌∙◌, ℕ, suc, List, [], ◌∷◌, ◌++◌, length, Some, None, refl, ap, arith}
use Rattle.ent_tree.specs.declared.declaration.Opening.{Opening}
use Rattle.ent_form.specs.Catalogue.{schemas_of}
use Rattle.ent_form.specs.OpeningFault.{Check, ◌before◌, declarations_fault, first_of, opening_fault, opening_row_fault}
use Rattle.ent_prepare.specs.Given.{opening_rows, rows_fault, with_rows}
use Rattle.ent_prepare.specs.declared.row.GivenRow.{GivenRow}

-- one check before another, however they are grouped
grouped : (first second third : Check) → (first before (second before third)) ≡ ((first before second) before third)
grouped None second third = refl
grouped (Some fault) second third = refl

-- a list in two parts
joined : {A : Type 0} (check : A → Check) (xs ys : List A)
    → first_of check (xs ++ ys) ≡ (first_of check xs before first_of check ys)
joined check [] ys = refl
joined check (x ∷ xs) ys =
    ap (λ (later : Check). check x before later) (joined check xs ys)
    ∙ grouped (check x) (first_of check xs) (first_of check ys)

pub come_last : (opening : Opening) (rows : List GivenRow)
    → opening_fault (with_rows rows opening)
    ≡ (opening_fault opening before rows_fault (schemas_of opening.tables) rows)
come_last opening rows =
    let check = opening_row_fault (schemas_of opening.tables) in
    let declared = declarations_fault [] opening.tables in
    ap (λ (later : Check). declared before later) (joined check opening.rows (opening_rows 0 rows))
    ∙ grouped declared (first_of check opening.rows) (first_of check (opening_rows 0 rows))

-- each row is there
pub all_numbered : (number : ℕ) (rows : List GivenRow) → length (opening_rows number rows) ≡ length rows
all_numbered number [] = refl
all_numbered number (row ∷ more) = omega (arith, all_numbered (suc number) more)
