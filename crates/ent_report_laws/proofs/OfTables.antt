-- The tables at the end that a text tells can be told.
use Rattle.std.proofs.Common.{◌≡◌, ◌≤◌, ◌+◌, ℕ, zero, suc, List, [], ◌∷◌, ◌++◌, length, map, refl, sym, ap, subst}
use Rattle.std.proofs.Common.{◌∙◌, arith}
use Rattle.std.proofs.Common.{Some, slice_get}
use Rattle.std.specs.List.{AllByRecursion}
use Rattle.ent_value.specs.Value.{kinds_of}
use Rattle.ent_value.specs.declared.value.Value.{Value}
use Rattle.ent_tree.specs.declared.declaration.Create.{Create}
use Rattle.ent_semantics.specs.Database.{Name}
use Rattle.ent_semantics.specs.Serial.{numbered}
use Rattle.ent_history.specs.declared.history.History.{History}
use Rattle.ent_history.specs.declared.history.Shown.{Shown}
use Rattle.ent_history.specs.Draft.{Draft, Due, Heading as Headed, Free, OpeningRows, AnswerRows, Members}
use Rattle.ent_history.specs.Draft.{TableRows, Ended, blank, members_due, on_last, rows_due}
use Rattle.ent_history.specs.Parts.{IsRow}
use Rattle.ent_history.specs.Stands.{Stands, Heading, Opening, OpeningRow, Script, Tx, Answer, AnswerRow, Joint}
use Rattle.ent_history.specs.Stands.{Member, Table, TableRow, End, AllStand, Tells}
use Rattle.ent_history.specs.Tables.{with_table_row}
use Rattle.ent_lists.specs.Elements.{all_joined, pairs_index}
use Rattle.ent_report_laws.specs.Tellable.{AreTablesOf}
use Rattle.ent_report_laws.proofs.Kept.{IsSound}
use Rattle.ent_report_laws.proofs.Lists.{longer}
use Rattle.ent_report_laws.proofs.Shown.{AreShown, Ascend, IsBelow}
use Rattle.ent_report_laws.proofs.ToOpening.{AreOfKinds}

-- how many rows of a table at the end are due
abbrev table_due : Due → ℕ
table_due Headed = 0
table_due Free = 0
table_due (OpeningRows more) = 0
table_due (AnswerRows more) = 0
table_due (Members tx place more) = 0
table_due (TableRows more) = suc more
table_due Ended = 0

table_rows_due : (count : ℕ) → table_due (rows_due TableRows count) ≡ count
table_rows_due zero = refl
table_rows_due (suc more) = refl

opening_rows_due : (count : ℕ) → table_due (rows_due OpeningRows count) ≡ 0
opening_rows_due zero = refl
opening_rows_due (suc more) = refl

answer_rows_due : (count : ℕ) → table_due (rows_due AnswerRows count) ≡ 0
answer_rows_due zero = refl
answer_rows_due (suc more) = refl

no_members_due : (places : List (ℕ × ℕ)) → table_due (members_due places) ≡ 0
no_members_due [] = refl
no_members_due (place ∷ more) = refl

-- tables of few rows, of the kinds of their columns; of the last so many are due
abbrev AreFilled : List Create → List Shown → ℕ → Type 0
AreFilled creates [] due = Unit {0}
AreFilled [] (shown ∷ more) due = ⊥
AreFilled (create ∷ creates) (shown ∷ []) due =
    (length shown.rows + due ≤ 65536) × AreOfKinds create.columns shown.rows
AreFilled (create ∷ creates) (shown ∷ next ∷ more) due =
    (length shown.rows ≤ 65536) × AreOfKinds create.columns shown.rows × AreFilled creates (next ∷ more) due

none_filled : (creates : List Create) (due : ℕ) → AreFilled creates [] due
none_filled [] due = tt
none_filled (create ∷ creates) due = tt

table_filled : (creates : List Create) (tables : List Shown) (create : Create) (name : Name) (count : ℕ)
    → AreFilled creates tables 0 → slice_get creates (length tables) ≡ Some create → count ≤ 65536
    → AreFilled creates (tables ++ record { name = name; rows = [] } ∷ []) count
table_filled [] tables create name count fit e few = cc (e)
table_filled (first ∷ creates) [] create name count fit e few = (omega (arith, few), tt)
table_filled (first ∷ creates) (shown ∷ []) create name count fit e few =
    (omega (arith, fit.0), fit.1, table_filled creates [] create name count (none_filled creates 0) e few)
table_filled (first ∷ creates) (shown ∷ next ∷ more) create name count fit e few =
    (fit.0, fit.1, table_filled creates (next ∷ more) create name count fit.2 e few)

same_some : (a b : Create) → Some a ≡ Some b → a ≡ b
same_some a b e = cc

row_filled : (creates : List Create) (tables : List Shown) (create : Create) (row : List Value) (more : ℕ)
    → AreFilled creates tables (suc more) → numbered creates (length tables) ≡ Some create
    → IsRow row × (kinds_of row ≡ map (λ column. column.kind) create.columns)
    → AreFilled creates (on_last (with_table_row row) tables) more
row_filled creates [] create row more fit e is = cc
row_filled [] (shown ∷ tables) create row more fit e is = absurd fit
row_filled (first ∷ creates) (shown ∷ []) create row more fit e is = (
  omega (arith, fit.0, longer shown.rows row),
  all_joined (λ row. IsRow row × (kinds_of row ≡ map (λ column. column.kind) first.columns)) shown.rows (row ∷ [])
      fit.1 (
        subst (λ (c : Create). IsRow row × (kinds_of row ≡ map (λ column. column.kind) c.columns))
            (sym (same_some first create e)) is,
        tt,
      ),
)
row_filled (first ∷ creates) (shown ∷ next ∷ []) create row more fit e is =
    (fit.0, fit.1, row_filled creates (next ∷ []) create row more fit.2 e is)
row_filled (first ∷ creates) (shown ∷ next ∷ other ∷ tables) create row more fit e is =
    (fit.0, fit.1, row_filled creates (next ∷ other ∷ tables) create row more fit.2 e is)

abbrev FilledSoFar : Draft → Type 0
FilledSoFar draft = AreFilled draft.told.opening.tables draft.told.tables (table_due draft.due)

module _ (draft : Draft) (piece : List ℕ) (next : Draft) (fit : FilledSoFar draft) where
  filled_at : (due : ℕ) → table_due draft.due ≡ due → AreFilled draft.told.opening.tables draft.told.tables due
  filled_at due e = subst (AreFilled draft.told.opening.tables draft.told.tables) e fit

  -- where no row is due before and behind
  still : (other : ℕ) → table_due draft.due ≡ 0 → other ≡ 0
      → AreFilled draft.told.opening.tables draft.told.tables other
  still other e none = subst (AreFilled draft.told.opening.tables draft.told.tables) (e ∙ sym none) fit

  filled_kept : Stands draft piece next → FilledSoFar next
  filled_kept (Heading s) = subst FilledSoFar (sym s.next_is) (still 0 (ap table_due s.due) refl)
  filled_kept (Opening s) =
      subst FilledSoFar (sym s.next_is)
      (subst
      (λ (tables : List Shown). AreFilled (draft.told.opening.tables ++ s.create ∷ []) tables
      (table_due (rows_due OpeningRows s.count)))
      (sym s.nothing_below.tables)
      (none_filled (draft.told.opening.tables ++ s.create ∷ []) (table_due (rows_due OpeningRows s.count))))
  filled_kept (OpeningRow s) =
      subst FilledSoFar (sym s.next_is) (still _ (ap table_due s.due) (opening_rows_due s.more))
  filled_kept (Script s) = subst FilledSoFar (sym s.next_is) (still 0 (ap table_due s.is_next.free) refl)
  filled_kept (Tx s) = subst FilledSoFar (sym s.next_is) (still 0 (ap table_due s.free) refl)
  filled_kept (Answer s) = subst FilledSoFar (sym s.next_is) (still _ (ap table_due s.free) (answer_rows_due s.count))
  filled_kept (AnswerRow s) = subst FilledSoFar (sym s.next_is) (still _ (ap table_due s.due) (answer_rows_due s.more))
  filled_kept (Joint s) = subst FilledSoFar (sym s.next_is) (still _ (ap table_due s.free) (no_members_due s.places))
  filled_kept (Member s) = subst FilledSoFar (sym s.next_is) (still _ (ap table_due s.due) (no_members_due s.more))
  filled_kept (Table s) =
      subst FilledSoFar (sym s.next_is)
      (subst
      (AreFilled draft.told.opening.tables (draft.told.tables ++ record { name = s.create.name.name; rows = [] } ∷ []))
      (sym (table_rows_due s.count))
      (table_filled draft.told.opening.tables draft.told.tables s.create s.create.name.name s.count
      (filled_at 0 (ap table_due s.free)) s.of_opening s.few))
  filled_kept (TableRow s) =
      subst FilledSoFar (sym s.next_is)
      (subst (AreFilled draft.told.opening.tables (on_last (with_table_row s.row) draft.told.tables))
      (sym (table_rows_due s.more))
      (row_filled draft.told.opening.tables draft.told.tables s.create s.row s.more
      (filled_at (suc s.more) (ap table_due s.due)) s.of_opening (s.is_row, s.kinds)))
  filled_kept (End s) = subst FilledSoFar (sym s.next_is) (still 0 (ap table_due s.free) refl)

all_filled : (pieces : List (List ℕ)) (draft next : Draft) → FilledSoFar draft → AllStand draft pieces next
    → FilledSoFar next
all_filled [] draft next fit e = subst FilledSoFar e fit
all_filled (piece ∷ pieces) draft next fit stand =
    all_filled pieces stand.0 next (filled_kept draft piece stand.0 fit stand.1) stand.2

together : (creates : List Create) (tables : List Shown) → length tables ≡ length creates → AreShown creates tables
    → AllByRecursion Ascend tables → AreFilled creates tables 0 → AreTablesOf creates tables
together [] [] same shown ascend fit = tt
together [] (one ∷ tables) same shown ascend fit = absurd fit
together (create ∷ creates) [] same shown ascend fit = absurd (omega (arith, same))
together (create ∷ creates) (one ∷ []) same shown ascend fit = (
  shown.0,
  omega (arith, fit.0),
  (fit.1, pairs_index IsBelow one.rows ascend.0),
  together creates [] (omega (arith, same)) shown.1 ascend.1 (none_filled creates 0),
)
together (create ∷ creates) (one ∷ next ∷ tables) same shown ascend fit = (
  shown.0,
  fit.0,
  (fit.1, pairs_index IsBelow one.rows ascend.0),
  together creates (next ∷ tables) (omega (arith, same)) shown.1 ascend.1 fit.2,
)

pub tables_are_told : (text : List ℕ) (history : History) → IsSound (record { told = history; due = Ended })
    → Tells text history → AreTablesOf history.opening.tables history.tables
tables_are_told text history so tells =
    together history.opening.tables history.tables (so.ended refl).tables so.shown so.ascend
    (all_filled tells.0 blank (record { told = history; due = Ended }) tt tells.2)
