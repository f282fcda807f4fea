-- The lines of an opening that can be told stand.
use Rattle.std.proofs.Common.{◌≡◌, ◌≤◌, ◌<◌, ◌+◌, List, [], ◌∷◌, ◌++◌, map, length, refl, sym, ap, subst, ◌∙◌, arith}
use Rattle.std.proofs.Common.{inl}
use Rattle.std.proofs.Common.{Some, flat_map}
use Rattle.std.specs.List.{AllByRecursion}
use Rattle.std.proofs.lemmas.List.{append-nil, append_assoc, length-append, length-map}
use Rattle.ent_value.specs.Value.{kinds_of}
use Rattle.ent_value.specs.declared.value.Value.{Value}
use Rattle.ent_tree.specs.declared.declaration.Column.{Column}
use Rattle.ent_tree.specs.declared.declaration.Create.{Create}
use Rattle.ent_tree.specs.declared.declaration.Opening.{Opening}
use Rattle.ent_tree.specs.declared.declaration.OpeningRow.{OpeningRow}
use Rattle.ent_semantics.specs.Database.{rows_named}
use Rattle.ent_book.specs.Report.{row_line, rows_text}
use Rattle.ent_book.specs.Report2.{opening_line}
use Rattle.ent_history.specs.declared.history.History.{History}
use Rattle.ent_history.specs.Told.{opening_row}
use Rattle.ent_history.specs.Draft.{Draft, Free, OpeningRows, NothingBelowScripts, last_of, rows_due}
use Rattle.ent_history.specs.Opening.{IsDeclaration, NamesAscend, OpeningStands, OpeningRowStands}
use Rattle.ent_history.specs.Parts.{Ascends, IsRow}
use Rattle.ent_history.specs.Stands as stands
use Rattle.ent_lists.specs.Elements.{In, Pairs, all_joined, in_second, index_pairs, pairs_across}
use Rattle.ent_history.specs.Text.{opened_text}
use Rattle.ent_history.proofs.Opened.{row_again}
use Rattle.ent_history.proofs.Lists.{last_of-push}
use Rattle.ent_report_laws.specs.Tellable.{AreRowsOf}
use Rattle.ent_report_laws.proofs.Opened.{Before, IsOpened, IsRowOf, none_under, row_opened, table_opened}
use Rattle.ent_report_laws.proofs.Opened.{under_itself, with_row, with_table}
use Rattle.ent_report_laws.proofs.Reaching.{Leads, behind_it, first_piece, stay, to_draft}
use Rattle.ent_report_laws.proofs.Shown.{IsBelow}

-- a row that stands behind these, all ascending
pub ascends_behind : (rows done : List (List Value)) (row : List Value) (more : List (List Value)) → rows ≡ done
    → Pairs IsBelow (done ++ row ∷ more) → Ascends rows row
ascends_behind rows done row more same pairs front last e =
    pairs_across IsBelow done (row ∷ more) last row pairs
    (subst (In last) (sym (sym same ∙ e)) (in_second front (last ∷ []) last (inl refl))) (inl refl)

pub shifted_pairs : (done : List (List Value)) (row : List Value) (more : List (List Value))
    → Pairs IsBelow (done ++ row ∷ more) → Pairs IsBelow ((done ++ row ∷ []) ++ more)
shifted_pairs done row more pairs = subst (Pairs IsBelow) (sym (append_assoc done (row ∷ []) more)) pairs

abbrev pub AreOfKinds : List Column → List (List Value) → Type 0
AreOfKinds columns rows = AllByRecursion (λ row. IsRow row × (kinds_of row ≡ map (λ column. column.kind) columns)) rows

module _ (create : Create) where
  abbrev pub these_rows : List (List Value) → List OpeningRow
  these_rows rows = map (opening_row create.name.name) rows

  abbrev pub with_rows : History → List (List Value) → History
  with_rows told rows =
      record told { opening = record told.opening { rows = told.opening.rows ++ these_rows rows } }

  rows_opened : (opening : Opening) (rows : List (List Value)) → IsOpened opening → In create opening.tables
      → AreOfKinds create.columns rows → AllByRecursion (IsRowOf opening.tables) (these_rows rows)
  rows_opened opening [] opened there fit = tt
  rows_opened opening (row ∷ more) opened there fit = (
    (create, there, refl, ap kinds_of (row_again create.name.name row) ∙ fit.0.1),
    rows_opened opening more opened there fit.1,
  )

  pub rows_lead : (told : History) (done rest : List (List Value)) → IsOpened told.opening
      → last_of told.opening.tables ≡ Some create → rows_named told.opening create.name.name ≡ done
      → AreOfKinds create.columns rest → Pairs IsBelow (done ++ rest)
      → Leads (record { told = told; due = rows_due OpeningRows (length rest) }) (rows_text rest)
      (record { told = with_rows told rest; due = Free })
  rows_lead told done [] opened last under fit pairs =
      stay (record { told = told; due = Free }) (record { told = with_rows told []; due = Free })
      (λ i. record {
        told = record told { opening = record told.opening { rows = sym (append-nil told.opening.rows) i } };
        due = Free;
      })
  rows_lead told done (row ∷ more) opened last under fit pairs =
      first_piece (record { told = told; due = OpeningRows (length more) }) between
      (record { told = with_rows told (row ∷ more); due = Free }) (row_line row) (rows_text more)
      (stands.OpeningRow stand)
      (to_draft between (record { told = with_rows next more; due = Free })
      (record { told = with_rows told (row ∷ more); due = Free }) (rows_text more)
      (λ i. record {
        told = record told {
          opening = record told.opening {
            rows = append_assoc told.opening.rows (opening_row create.name.name row ∷ []) (these_rows more) i;
          };
        };
        due = Free;
      })
      (rows_lead next (done ++ row ∷ []) more (row_opened told.opening create row opened last fit.0.1) last
      (under_itself told.opening create.name.name row ∙ ap (λ us. us ++ row ∷ []) under) fit.1
      (shifted_pairs done row more pairs)))
    where
      next : History
      next = record told { opening = with_row told.opening create.name.name row }

      between : Draft
      between = record { told = next; due = rows_due OpeningRows (length more) }

      stand : OpeningRowStands (record { told = told; due = OpeningRows (length more) }) (row_line row) between
      stand = record {
        more = length more;
        create = create;
        row = row;
        due = refl;
        last = last;
        text_is = refl;
        is_row = fit.0.0;
        kinds = fit.0.1;
        ascends = ascends_behind (rows_named told.opening create.name.name) done row more under pairs;
        next_is = refl;
      }

-- ---- tables

module _ (full : Opening) where
  abbrev pub own_rows : Create → List OpeningRow
  own_rows create = map (opening_row create.name.name) (rows_named full create.name.name)

  abbrev pub with_tables : History → List Create → History
  with_tables told rest =
      record told {
        opening = record {
          tables = told.opening.tables ++ rest;
          rows = told.opening.rows ++ flat_map own_rows rest;
        };
      }

  pub tables_lead : (told : History) (rest : List Create) → IsOpened told.opening → told.scripts ≡ []
      → NothingBelowScripts told → Pairs Before (told.opening.tables ++ rest) → AllByRecursion IsDeclaration rest
      → AllByRecursion (λ create. AreRowsOf create.columns (rows_named full create.name.name)) rest
      → length (told.opening.tables ++ rest) ≤ 64
      → length (told.opening.rows ++ flat_map own_rows rest) ≤ 65536
      → Leads (record { told = told; due = Free }) (flat_map (opened_text full) rest)
      (record { told = with_tables told rest; due = Free })
  tables_lead told [] opened scripts below apart declarations rows few many =
      stay (record { told = told; due = Free }) (record { told = with_tables told []; due = Free })
      (λ i. record {
        told = record told {
          opening = record {
            tables = sym (append-nil told.opening.tables) i;
            rows = sym (append-nil told.opening.rows) i;
          };
        };
        due = Free;
      })
  tables_lead told (create ∷ more) opened scripts below apart declarations rows few many =
      behind_it (record { told = told; due = Free }) (record { told = second; due = Free })
      (record { told = with_tables told (create ∷ more); due = Free }) (opened_text full create)
      (flat_map (opened_text full) more)
      (first_piece (record { told = told; due = Free })
      (record { told = first; due = rows_due OpeningRows (length own) }) (record { told = second; due = Free })
      (opening_line create.name.name create.columns (length own)) (rows_text own) (stands.Opening stand)
      (rows_lead create first [] own opened_first last (none_under told.opening create opened ascend) rows.0.0
      (index_pairs IsBelow own rows.0.1)))
      (to_draft (record { told = second; due = Free }) (record { told = with_tables second more; due = Free })
      (record { told = with_tables told (create ∷ more); due = Free }) (flat_map (opened_text full) more)
      (λ i. record {
        told = record told { opening = record { tables = same_tables i; rows = same_rows i } };
        due = Free;
      })
      (tables_lead second more opened_second scripts (record {
        transactions = below.transactions;
        joint_answers = below.joint_answers;
        tables = below.tables;
      })
      (subst (Pairs Before) (sym same_tables) apart) declarations.1 rows.1
      (subst (λ (ts : List Create). length ts ≤ 64) (sym same_tables) few)
      (subst (λ (rs : List OpeningRow). length rs ≤ 65536) (sym same_rows) many)))
    where
      own : List (List Value)
      own = rows_named full create.name.name

      first : History
      first = record told { opening = with_table told.opening create }

      second : History
      second = with_rows create first own

      same_tables : (told.opening.tables ++ create ∷ []) ++ more ≡ told.opening.tables ++ create ∷ more
      same_tables = append_assoc told.opening.tables (create ∷ []) more

      same_rows : (told.opening.rows ++ own_rows create) ++ flat_map own_rows more
          ≡ told.opening.rows ++ flat_map own_rows (create ∷ more)
      same_rows = append_assoc told.opening.rows (own_rows create) (flat_map own_rows more)

      ascend : NamesAscend told.opening.tables create
      ascend front last e =
          pairs_across Before told.opening.tables (create ∷ more) last create apart
          (subst (In last) (sym e) (in_second front (last ∷ []) last (inl refl))) (inl refl)

      opened_first : IsOpened first.opening
      opened_first = table_opened told.opening create opened declarations.0 ascend

      last : last_of first.opening.tables ≡ Some create
      last = last_of-push told.opening.tables create

      opened_second : IsOpened second.opening
      opened_second = record {
        apart = opened_first.apart;
        declarations = opened_first.declarations;
        rows = all_joined (IsRowOf first.opening.tables) told.opening.rows (own_rows create) opened_first.rows
            (rows_opened create first.opening own opened_first
            (in_second told.opening.tables (create ∷ []) create (inl refl)) rows.0.0);
      }

      room : length told.opening.tables < 64
      room = omega (arith, few, length-append told.opening.tables (create ∷ more))

      fits : length told.opening.rows + length own ≤ 65536
      fits =
          omega (
            arith,
            many,
            length-append told.opening.rows (own_rows create ++ flat_map own_rows more),
            length-append (own_rows create) (flat_map own_rows more),
            length-map own (opening_row create.name.name),
          )

      stand : OpeningStands (record { told = told; due = Free })
          (opening_line create.name.name create.columns (length own))
          (record { told = first; due = rows_due OpeningRows (length own) })
      stand = record {
        create = create;
        count = length own;
        free = refl;
        no_scripts = scripts;
        nothing_below = record {
          transactions = below.transactions;
          joint_answers = below.joint_answers;
          tables = below.tables;
        };
        text_is = refl;
        declaration = declarations.0;
        ascends = ascend;
        few_tables = room;
        few_rows = fits;
        next_is = refl;
      }
