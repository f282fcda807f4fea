-- The first line and the last.
use Rattle.std.proofs.Common.{◌≡◌, ℕ, true, false, List, length, refl, ap, sym, subst, ◌∙◌}
use Rattle.std.specs.Prelude.{codes, nat_eq, not}
use Rattle.std.specs.Cmp.Lexicographic.{pointwise, nat_list_eq_equiv}
use Rattle.ent_book.specs.Report.{line}
use Rattle.ent_history.specs.Draft.{Draft, Free, Ended, Heading}
use Rattle.ent_history.specs.Opening.{HeadingStands}
use Rattle.ent_history.specs.Tables.{EndStands}
use Rattle.ent_report_reader.specs.Due.{TablesAreNext}
use Rattle.ent_report_reader.proofs.Steps.{same_line}

pub heading_is : (old : Draft) (text : List ℕ) (next : Draft) → HeadingStands old (line text) next
    → text ≡ codes "report 2"
heading_is old text next stands = same_line text (codes "report 2") stands.text_is

pub heading_stands : (old : Draft) (text : List ℕ) → old.due ≡ Heading → text ≡ codes "report 2"
    → HeadingStands old (line text) (record { told = old.told; due = Free })
heading_stands old text due is = record { due = due; text_is = ap line is; next_is = refl }

pub end_is : (old : Draft) (text : List ℕ) (next : Draft) → EndStands old (line text) next → text ≡ codes "end"
end_is old text next stands = same_line text (codes "end") stands.text_is

pub end_is_next : (old : Draft) (text : List ℕ) (next : Draft) → EndStands old (line text) next → TablesAreNext old
end_is_next old text next stands = record { free = stands.free; told = stands.told }

pub end_stands : (old : Draft) (text : List ℕ) → TablesAreNext old
    → length old.told.tables ≡ length old.told.opening.tables → text ≡ codes "end"
    → EndStands old (line text) (record { told = old.told; due = Ended })
end_stands old text due tables is =
    record { free = due.free; told = due.told; tables = tables; text_is = ap line is; next_is = refl }

pub other_bytes : (text bytes : List ℕ) → true ≡ not (pointwise nat_eq text bytes) → text ≡ bytes → ⊥
other_bytes text bytes h e =
    let same : pointwise nat_eq text bytes ≡ true =
    subst (λ t. pointwise nat_eq t bytes ≡ true) (sym e) (nat_list_eq_equiv.refl bytes) in
    let k : true ≡ false = h ∙ ap not same in cc
