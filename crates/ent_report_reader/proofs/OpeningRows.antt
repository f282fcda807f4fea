-- The rows of the opening.
use Rattle.std.proofs.Common.{◌≡◌, ℕ, zero, suc, ◌+◌, ◌<◌, List, [], ◌∷◌, length, ap, sym, subst, arith}
use Rattle.std.proofs.lemmas.List.{length-append}
use Rattle.ent_value.specs.Print.{row_text}
use Rattle.ent_value.specs.declared.value.Value.{Value}
use Rattle.ent_tree.specs.declared.declaration.Create.{Create}
use Rattle.ent_tree.specs.declared.declaration.Opening.{Opening}
use Rattle.ent_tree.specs.declared.limits.TheConstants.{MOST_OPENING_ROWS}
use Rattle.ent_book.specs.Report.{line}
use Rattle.ent_history.specs.Told.{opening_row}
use Rattle.ent_history.specs.Draft.{Draft, Due, OpeningRows, rows_due}
use Rattle.ent_history.specs.Opening.{OpeningRowStands, with_row}
use Rattle.ent_report_reader.specs.Opened.{OpeningTakes}
use Rattle.ent_report_reader.specs.Reading.{IsRowLine}
use Rattle.ent_report_reader.specs.View.{HasRoom}
use Rattle.ent_report_reader.proofs.Steps.{same_line}

pub opening_row_has : (old : Draft) (text : List ℕ) (next : Draft) → (stands : OpeningRowStands old (line text) next)
    → IsRowLine text stands.row
opening_row_has old text next stands = (same_line text (row_text stands.row) stands.text_is, stands.is_row)

pub opening_row_takes : (old : Draft) (text : List ℕ) (next : Draft) → (stands : OpeningRowStands old (line text) next)
    → OpeningTakes old.told.opening stands.row
opening_row_takes old text next stands = record {
  create = stands.create;
  last = stands.last;
  kinds = stands.kinds;
  ascends = stands.ascends;
}

pub opening_row_stands : (old : Draft) (text : List ℕ) (more : ℕ) (row : List Value) → old.due ≡ OpeningRows more
    → IsRowLine text row → (takes : OpeningTakes old.told.opening row) → (opening : Opening)
    → opening ≡ with_row takes.create row old.told.opening → (due : Due) → due ≡ rows_due OpeningRows more
    → OpeningRowStands old (line text) (record { told = record old.told { opening = opening }; due = due })
opening_row_stands old text more row is_due is takes opening grown due rows = record {
  more = more;
  create = takes.create;
  row = row;
  due = is_due;
  last = takes.last;
  text_is = ap line is.0;
  is_row = is.1;
  kinds = takes.kinds;
  ascends = takes.ascends;
  next_is = λ i. record { told = record old.told { opening = grown i }; due = rows i };
}

-- ---- room for the rows that are due

room_after : (more rows : ℕ) → rows + more < MOST_OPENING_ROWS → HasRoom (rows_due OpeningRows more) (rows + 1)
room_after zero rows h = tt
room_after (suc more) rows h = omega (arith, h)

pub one_more : (before after : Opening) (create : Create) (row : List Value) → after ≡ with_row create row before
    → length after.rows ≡ length before.rows + 1
one_more before after create row e =
    let same = ap (λ (o : Opening). length o.rows) e in
    omega (arith, same, length-append before.rows (opening_row create.name.name row ∷ []))

-- one row more stands, and one less is due
pub room_left : (old next : Due) (more : ℕ) (before after : Opening)
    → old ≡ OpeningRows more → HasRoom old (length before.rows) → length after.rows ≡ length before.rows + 1
    → next ≡ rows_due OpeningRows more → HasRoom next (length after.rows)
room_left old next more before after is room grown rows =
    let h : length before.rows + more < MOST_OPENING_ROWS = subst (λ d. HasRoom d (length before.rows)) is room in
    subst (λ n. HasRoom next n) (sym grown)
    (subst (λ d. HasRoom d (length before.rows + 1)) (sym rows) (room_after more (length before.rows) h))

-- there is room for a row where one is due
pub has_room : (due : Due) (more rows : ℕ) → due ≡ OpeningRows more → HasRoom due rows → rows < MOST_OPENING_ROWS
has_room due more rows is room =
    let h : rows + more < MOST_OPENING_ROWS = subst (λ d. HasRoom d rows) is room in omega (arith, h)
