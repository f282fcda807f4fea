-- The tables at the end of a history that can be told stand.
use Rattle.std.proofs.Common.{◌≡◌, ◌≤◌, suc, List, [], ◌∷◌, ◌++◌, length, refl, sym, ap, ◌∙◌, arith, Some}
use Rattle.std.proofs.lemmas.List.{append-nil, append_assoc}
use Rattle.std.proofs.Common.{flat_map}
use Rattle.ent_value.specs.declared.value.Value.{Value}
use Rattle.ent_tree.specs.declared.declaration.Create.{Create}
use Rattle.ent_semantics.specs.Database.{Name}
use Rattle.ent_semantics.specs.Serial.{numbered}
use Rattle.ent_book.specs.Report.{row_line, rows_text}
use Rattle.ent_history.specs.declared.history.History.{History}
use Rattle.ent_history.specs.declared.history.Shown.{Shown}
use Rattle.ent_history.specs.Text.{shown_text}
use Rattle.ent_history.specs.Draft.{Draft, TableRows, TransactionsAreTold, last_of, on_last, rows_due}
use Rattle.ent_history.specs.Stands as stands
use Rattle.ent_history.specs.Tables.{TableRowStands, TableStands, table_line_text, with_table_row}
use Rattle.ent_history.proofs.Lists.{last_of-push}
use Rattle.ent_lists.specs.Elements.{Pairs, index_pairs}
use Rattle.ent_report_laws.specs.Tellable.{AreRowsOf, AreTablesOf}
use Rattle.ent_report_laws.proofs.Lists.{changed, length_changed, longer}
use Rattle.ent_report_laws.proofs.Reaching.{Leads, behind_it, first_piece, stay, to_draft}
use Rattle.ent_report_laws.proofs.Shown.{IsBelow}
use Rattle.ent_report_laws.proofs.ToOpening.{AreOfKinds, ascends_behind, shifted_pairs}
use Rattle.ent_report_laws.proofs.ToTransactions.{at_free, get_behind}

abbrev pub with_shown : History → List Shown → History
with_shown told tables = record told { tables = tables }

abbrev shown_of : Name → List (List Value) → Shown
shown_of name rows = record { name = name; rows = rows }

module _ (create : Create) (front : List Shown) where
  abbrev shown_so_far : List (List Value) → List Shown
  shown_so_far rows = front ++ shown_of create.name.name rows ∷ []

  table_rows_lead : (told : History) (done rest : List (List Value)) → told.tables ≡ shown_so_far done
      → numbered told.opening.tables (length told.tables) ≡ Some create → AreOfKinds create.columns rest
      → Pairs IsBelow (done ++ rest)
      → Leads (record { told = told; due = rows_due TableRows (length rest) }) (rows_text rest)
      (at_free (with_shown told (shown_so_far (done ++ rest))))
  table_rows_lead told done [] e of_opening fit pairs =
      stay (at_free told) (at_free (with_shown told (shown_so_far (done ++ []))))
      (λ i. at_free (with_shown told ((e ∙ ap shown_so_far (sym (append-nil done))) i)))
  table_rows_lead told done (row ∷ more) e of_opening fit pairs =
      first_piece (record { told = told; due = TableRows (length more) }) between
      (at_free (with_shown told (shown_so_far (done ++ row ∷ more)))) (row_line row) (rows_text more)
      (stands.TableRow stand)
      (to_draft between (at_free (with_shown told (shown_so_far ((done ++ row ∷ []) ++ more))))
      (at_free (with_shown told (shown_so_far (done ++ row ∷ more)))) (rows_text more)
      (λ i. at_free (with_shown told (shown_so_far (append_assoc done (row ∷ []) more i))))
      (table_rows_lead next (done ++ row ∷ []) more
      (ap (on_last (with_table_row row)) e ∙ changed (with_table_row row) front (shown_of create.name.name done))
      (ap (numbered told.opening.tables) (length_changed (with_table_row row) told.tables) ∙ of_opening) fit.1
      (shifted_pairs done row more pairs)))
    where
      next : History
      next = with_shown told (on_last (with_table_row row) told.tables)

      between : Draft
      between = record { told = next; due = rows_due TableRows (length more) }

      stand : TableRowStands (record { told = told; due = TableRows (length more) }) (row_line row) between
      stand = record {
        more = length more;
        shown = shown_of create.name.name done;
        create = create;
        row = row;
        due = refl;
        last_is = ap last_of e ∙ last_of-push front (shown_of create.name.name done);
        of_opening = of_opening;
        text_is = refl;
        is_row = fit.0.0;
        kinds = fit.0.1;
        ascends = ascends_behind done done row more refl pairs;
        next_is = refl;
      }

table_lead : (told : History) (done : List Create) (create : Create) (others : List Create) (shown : Shown)
    → TransactionsAreTold told → told.opening.tables ≡ done ++ create ∷ others → length done ≡ length told.tables
    → shown.name ≡ create.name.name → length shown.rows ≤ 65536 → AreRowsOf create.columns shown.rows
    → Leads (at_free told) (shown_text shown) (at_free (with_shown told (told.tables ++ shown ∷ [])))
table_lead told done create others shown all tables same name few fit =
    first_piece (at_free told) (record { told = next; due = rows_due TableRows (length shown.rows) })
    (at_free (with_shown told (told.tables ++ shown ∷ []))) (table_line_text shown.name (length shown.rows))
    (rows_text shown.rows) (stands.Table stand)
    (to_draft (record { told = next; due = rows_due TableRows (length shown.rows) })
    (at_free (with_shown told (told.tables ++ shown_of create.name.name shown.rows ∷ [])))
    (at_free (with_shown told (told.tables ++ shown ∷ []))) (rows_text shown.rows)
    (λ i. at_free (with_shown told (told.tables ++ shown_of (sym name i) shown.rows ∷ [])))
    (table_rows_lead create told.tables next [] shown.rows refl of_opening fit.0
    (index_pairs IsBelow shown.rows fit.1)))
  where
    next : History
    next = with_shown told (told.tables ++ shown_of create.name.name [] ∷ [])

    counted : length (told.tables ++ shown_of create.name.name [] ∷ []) ≡ suc (length told.tables)
    counted = omega (arith, longer told.tables (shown_of create.name.name []))

    of_opening : numbered told.opening.tables (length next.tables) ≡ Some create
    of_opening =
        ap (numbered told.opening.tables) counted
        ∙ (λ i. numbered (tables i) (suc (length told.tables)))
        ∙ get_behind done create others (length told.tables) same

    stand : TableStands (at_free told) (table_line_text shown.name (length shown.rows))
        (record { told = next; due = rows_due TableRows (length shown.rows) })
    stand = record {
      create = create;
      count = length shown.rows;
      free = refl;
      told = record { each = all.each; answered = all.answered };
      of_opening = (λ i. numbered (tables i) (suc (length told.tables)))
          ∙ get_behind done create others (length told.tables) same;
      text_is = ap (λ (n : Name). table_line_text n (length shown.rows)) name;
      few = few;
      next_is = refl;
    }

pub all_tables_lead : (told : History) (done rest : List Create) (more : List Shown) → TransactionsAreTold told
    → told.opening.tables ≡ done ++ rest → length done ≡ length told.tables → AreTablesOf rest more
    → Leads (at_free told) (flat_map shown_text more) (at_free (with_shown told (told.tables ++ more)))
all_tables_lead told done [] [] all tables same fit =
    stay (at_free told) (at_free (with_shown told (told.tables ++ [])))
    (λ i. at_free (with_shown told (sym (append-nil told.tables) i)))
all_tables_lead told done [] (shown ∷ more) all tables same fit = absurd fit
all_tables_lead told done (create ∷ rest) [] all tables same fit = absurd fit
all_tables_lead told done (create ∷ rest) (shown ∷ more) all tables same fit =
    behind_it (at_free told) (at_free next) (at_free (with_shown told (told.tables ++ shown ∷ more))) (shown_text shown)
    (flat_map shown_text more)
    (table_lead told done create rest shown all tables same fit.0 fit.1 fit.2)
    (to_draft (at_free next) (at_free (with_shown told ((told.tables ++ shown ∷ []) ++ more)))
    (at_free (with_shown told (told.tables ++ shown ∷ more))) (flat_map shown_text more)
    (λ i. at_free (with_shown told (append_assoc told.tables (shown ∷ []) more i)))
    (all_tables_lead next (done ++ create ∷ []) rest more (record { each = all.each; answered = all.answered })
    (tables ∙ sym (append_assoc done (create ∷ []) rest))
    (omega (arith, same, longer done create, longer told.tables shown)) fit.3))
  where
    next : History
    next = with_shown told (told.tables ++ shown ∷ [])
