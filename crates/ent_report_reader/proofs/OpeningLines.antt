-- The lines that open tables.
use Rattle.std.proofs.Common.{◌≡◌, ℕ, zero, suc, ◌+◌, ◌<◌, ◌≤◌, List, [], ◌∷◌, ◌++◌, length, refl, ap, sym, subst, ◌∙◌}
use Rattle.std.proofs.Common.{arith}
use Rattle.ent_tree.specs.declared.declaration.Create.{Create}
use Rattle.ent_tree.specs.declared.declaration.Opening.{Opening}
use Rattle.ent_tree.specs.declared.limits.TheConstants.{MOST_OPENING_ROWS}
use Rattle.ent_book.specs.Report.{line}
use Rattle.ent_history.specs.Openings.{opening_text}
use Rattle.ent_history.specs.Draft.{Draft, Due, OpeningRows, rows_due}
use Rattle.ent_history.specs.Opening.{OpeningStands, with_table}
use Rattle.ent_report_reader.specs.Opened.{Opens}
use Rattle.ent_report_reader.specs.Due.{OpeningIsNext}
use Rattle.ent_report_reader.specs.Reading.{IsOpeningLine}
use Rattle.ent_report_reader.specs.View.{HasRoom}
use Rattle.ent_report_reader.proofs.Steps.{same_line}

pub opening_is_next : (old : Draft) (text : List ℕ) (next : Draft) → OpeningStands old (line text) next
    → OpeningIsNext old
opening_is_next old text next stands = record {
  free = stands.free;
  no_scripts = stands.no_scripts;
  nothing_below = stands.nothing_below;
  few_tables = stands.few_tables;
}

pub opening_has : (old : Draft) (text : List ℕ) (next : Draft) → (stands : OpeningStands old (line text) next)
    → IsOpeningLine text (stands.create, stands.count)
opening_has old text next stands = (
  same_line text (opening_text stands.create stands.count) stands.text_is,
  stands.declaration,
  omega (arith, stands.few_rows),
)

pub opening_opens : (old : Draft) (text : List ℕ) (next : Draft) → (stands : OpeningStands old (line text) next)
    → Opens old.told.opening stands.create stands.count
opening_opens old text next stands = record { ascends = stands.ascends; few_rows = stands.few_rows }

pub opening_stands : (old : Draft) (text : List ℕ) (create : Create) (count : ℕ) → OpeningIsNext old
    → IsOpeningLine text (create, count) → Opens old.told.opening create count → (opening : Opening)
    → opening ≡ with_table create old.told.opening → (due : Due) → due ≡ rows_due OpeningRows count
    → OpeningStands old (line text) (record { told = record old.told { opening = opening }; due = due })
opening_stands old text create count is_due is opens opening grown due rows = record {
  create = create;
  count = count;
  free = is_due.free;
  no_scripts = is_due.no_scripts;
  nothing_below = is_due.nothing_below;
  text_is = ap line is.0;
  declaration = is.1;
  ascends = opens.ascends;
  few_tables = is_due.few_tables;
  few_rows = opens.few_rows;
  next_is = λ i. record { told = record old.told { opening = grown i }; due = rows i };
}

-- ---- room for the rows that are due

room_first : (count rows : ℕ) → rows + count ≤ MOST_OPENING_ROWS → HasRoom (rows_due OpeningRows count) rows
room_first zero rows h = tt
room_first (suc more) rows h = omega (arith, h)

pub room_opened : (due : Due) (count : ℕ) (before after : Opening) → length before.rows + count ≤ MOST_OPENING_ROWS
    → after.rows ≡ before.rows → due ≡ rows_due OpeningRows count → HasRoom due (length after.rows)
room_opened due count before after few same rows =
    subst (λ n. HasRoom due n) (ap length (sym same))
    (subst (λ d. HasRoom d (length before.rows)) (sym rows) (room_first count (length before.rows) few))
