-- The text of a table of no row.
use Rattle.std.proofs.Common.{◌≡◌, ℕ, List, [], ◌∷◌, ◌++◌, ap, ◌∙◌, append_assoc, arith}
use Rattle.std.proofs.lemmas.List.{append-nil}
use Rattle.std.proofs.lemmas.Fmt.{decimal_digit}
use Rattle.std.specs.Prelude.{codes}
use Rattle.std.specs.Fmt.{decimal}
use Rattle.ent_lists.specs.Sets as set
use Rattle.ent_lists.specs.Laws.{len-empty, ascending-from_list}
use Rattle.ent_value.specs.Value.{row_cmp}
use Rattle.ent_value.specs.Order.{rows_total, exact_rows}
use Rattle.ent_book.specs.Report.{table_text}

no_rows : set.ascending (set.empty {R = row_cmp}) ≡ []
no_rows = ascending-from_list rows_total exact_rows [] tt

none_text : decimal (set.len (set.empty {R = row_cmp})) ≡ 48 ∷ []
none_text = ap decimal (len-empty row_cmp) ∙ decimal_digit 0 (omega arith)

pub empty_table : (name : List ℕ) → table_text name set.empty ≡ codes "table " ++ (name ++ codes " 0\n")
empty_table name =
    rw (none_text, no_rows)
    (ap (λ ys. codes "table " ++ ys)
    (append-nil ((name ++ 32 ∷ 48 ∷ []) ++ 10 ∷ []) ∙ append_assoc name (32 ∷ 48 ∷ []) (10 ∷ [])))
