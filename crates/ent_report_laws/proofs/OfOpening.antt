-- The opening that a text tells can be told.
use Rattle.std.proofs.Common.{◌≡◌, ◌≤◌, ◌+◌, ℕ, zero, suc, List, [], ◌∷◌, ◌++◌, map, length, refl, sym, ap, subst}
use Rattle.std.proofs.Common.{◌∙◌, arith, inl, inr, flat_map, Some}
use Rattle.std.specs.List.{AllByRecursion}
use Rattle.std.proofs.lemmas.List.{append-nil, append_assoc, map-append}
use Rattle.std.proofs.lemmas.List.Concat.{flat_map-append}
use Rattle.ent_value.specs.Value.{kinds_of}
use Rattle.ent_value.specs.declared.value.Value.{Value}
use Rattle.ent_tree.specs.declared.declaration.Create.{Create}
use Rattle.ent_tree.specs.declared.declaration.Opening.{Opening}
use Rattle.ent_tree.specs.declared.declaration.OpeningRow.{OpeningRow}
use Rattle.ent_semantics.specs.Names.{names_turned}
use Rattle.ent_history.specs.declared.history.History.{History}
use Rattle.ent_history.specs.Told.{opening_row}
use Rattle.ent_history.specs.Draft.{Draft, Due, Heading as Headed, Free, OpeningRows, AnswerRows, Members}
use Rattle.ent_history.specs.Draft.{TableRows, Ended, blank, last_of, members_due, rows_due}
use Rattle.ent_history.specs.Opening.{NamesAscend}
use Rattle.ent_history.specs.Parts.{Ascends, IsRow}
use Rattle.ent_history.specs.Stands.{Stands, Heading, Opening as Opens, OpeningRow as OpensRow, Script, Tx}
use Rattle.ent_history.specs.Stands.{Answer}
use Rattle.ent_history.specs.Stands.{AnswerRow, Joint, Member, Table, TableRow, End, AllStand, Tells}
use Rattle.ent_value.specs.Order.{rows_total}
use Rattle.ent_lists.specs.Elements.{In, Pairs, all_by, all_first, all_joined, all_second, of_all, pairs_across}
use Rattle.ent_lists.specs.Elements.{pairs_behind, pairs_index, to_all}
use Rattle.ent_semantics.specs.Database.{rows_named}
use Rattle.ent_report_laws.specs.Tellable.{AreRowsOf, IsOpeningTold}
use Rattle.ent_report_laws.proofs.Kept.{IsSound, blank_sound, sound_kept}
use Rattle.ent_report_laws.proofs.Lists.{all_before, ends, longer}
use Rattle.ent_report_laws.proofs.Opened.{Before, IsOpened, none_under, other_name, under_itself, under_other}
use Rattle.ent_report_laws.proofs.Opened.{with_row}
use Rattle.ent_report_laws.proofs.Opened.{with_table}
use Rattle.ent_report_laws.proofs.Shown.{IsBelow}
use Rattle.ent_report_laws.proofs.ToOpening.{AreOfKinds, own_rows}

-- how many rows of the opening are due
abbrev opening_due : Due → ℕ
opening_due Headed = 0
opening_due Free = 0
opening_due (OpeningRows more) = suc more
opening_due (AnswerRows more) = 0
opening_due (Members tx place more) = 0
opening_due (TableRows more) = 0
opening_due Ended = 0

opening_rows_due : (count : ℕ) → opening_due (rows_due OpeningRows count) ≡ count
opening_rows_due zero = refl
opening_rows_due (suc more) = refl

answer_rows_due : (count : ℕ) → opening_due (rows_due AnswerRows count) ≡ 0
answer_rows_due zero = refl
answer_rows_due (suc more) = refl

table_rows_due : (count : ℕ) → opening_due (rows_due TableRows count) ≡ 0
table_rows_due zero = refl
table_rows_due (suc more) = refl

no_members_due : (places : List (ℕ × ℕ)) → opening_due (members_due places) ≡ 0
no_members_due [] = refl
no_members_due (place ∷ more) = refl

-- the rows under a table's name are of its kinds, ascending
abbrev HasRows : Opening → Create → Type 0
HasRows opening create =
    AreOfKinds create.columns (rows_named opening create.name.name)
    × Pairs IsBelow (rows_named opening create.name.name)

record IsFit (opening : Opening) (due : ℕ) : Type 0 where
  few_tables : length opening.tables ≤ 64
  few_rows : length opening.rows + due ≤ 65536
  in_order : opening.rows ≡ flat_map (own_rows opening) opening.tables
  rows : AllByRecursion (HasRows opening) opening.tables

flat_behind : {X Y : Type 0} (f : X → List Y) (xs : List X) (x : X)
    → flat_map f (xs ++ x ∷ []) ≡ flat_map f xs ++ f x
flat_behind f xs x = flat_map-append f xs (x ∷ []) ∙ ap (λ more. flat_map f xs ++ more) (append-nil (f x))

flat_same : {X Y : Type 0} (f g : X → List Y) (xs : List X) → ((x : X) → In x xs → f x ≡ g x)
    → flat_map f xs ≡ flat_map g xs
flat_same f g [] same = refl
flat_same f g (x ∷ xs) same =
    (λ i. same x (inl refl) i ++ flat_map f xs)
    ∙ ap (λ more. g x ++ more) (flat_same f g xs (λ y at. same y (inr at)))

-- ---- a table more

table_fit : (opening : Opening) (due count : ℕ) (create : Create) → IsOpened opening → IsFit opening due
    → NamesAscend opening.tables create → length opening.tables ≤ 63 → length opening.rows + count ≤ 65536
    → IsFit (with_table opening create) count
table_fit opening due count create opened fit ascend few many = record {
  few_tables = omega (arith, few, longer opening.tables create);
  few_rows = many;
  in_order = fit.in_order
      ∙ sym (append-nil (flat_map (own_rows opening) opening.tables))
      ∙ ap (λ more. flat_map (own_rows opening) opening.tables ++ more)
      (sym (ap (map (opening_row create.name.name)) none))
      ∙ sym (flat_behind (own_rows opening) opening.tables create);
  rows = all_joined (HasRows opening) opening.tables (create ∷ []) fit.rows
      (subst (λ rows. AreOfKinds create.columns rows × Pairs IsBelow rows) (sym none) (tt, tt), tt);
}
  where
    none : rows_named opening create.name.name ≡ []
    none = none_under opening create opened ascend

-- ---- a row more

module _ (opening : Opening) (create : Create) (row : List Value) (opened : IsOpened opening)
    (last : last_of opening.tables ≡ Some create) where
  abbrev front : List Create
  front = (ends opening.tables create last).0

  tables_are : opening.tables ≡ front ++ create ∷ []
  tables_are = (ends opening.tables create last).1

  abbrev longer_opening : Opening
  longer_opening = with_row opening create.name.name row

  same_rows : (other : Create) → In other front
      → rows_named longer_opening other.name.name ≡ rows_named opening other.name.name
  same_rows other at =
      under_other opening create.name.name other.name.name row
      (names_turned create.name.name other.name.name
      ∙ other_name other create
      (pairs_across Before front (create ∷ []) other create (subst (Pairs Before) tables_are opened.apart) at
      (inl refl)))

  row_in_order : opening.rows ≡ flat_map (own_rows opening) opening.tables
      → longer_opening.rows ≡ flat_map (own_rows longer_opening) opening.tables
  row_in_order e =
      ap (λ (rows : List OpeningRow). rows ++ opening_row create.name.name row ∷ []) (e
      ∙ ap (flat_map (own_rows opening)) tables_are
      ∙ flat_behind (own_rows opening) front create
      ∙ ap (λ more. more ++ own_rows opening create)
      (flat_same (own_rows opening) (own_rows longer_opening) front
      (λ other at. ap (map (opening_row other.name.name)) (sym (same_rows other at)))))
      ∙ append_assoc (flat_map (own_rows longer_opening) front) (own_rows opening create)
      (opening_row create.name.name row ∷ [])
      ∙ ap (λ more. flat_map (own_rows longer_opening) front ++ more)
      (sym (map-append (opening_row create.name.name) (rows_named opening create.name.name) (row ∷ []))
      ∙ ap (map (opening_row create.name.name)) (sym (under_itself opening create.name.name row)))
      ∙ sym (flat_behind (own_rows longer_opening) front create)
      ∙ ap (flat_map (own_rows longer_opening)) (sym tables_are)

  rows_fit : AllByRecursion (HasRows opening) opening.tables → IsRow row
      → kinds_of row ≡ map (λ column. column.kind) create.columns
      → Ascends (rows_named opening create.name.name) row
      → AllByRecursion (HasRows longer_opening) opening.tables
  rows_fit fit is_row kinds ascends =
      subst (AllByRecursion (HasRows longer_opening)) (sym tables_are)
      (all_joined (HasRows longer_opening) front (create ∷ [])
      (to_all (HasRows longer_opening) front (λ other at.
      subst (λ rows. AreOfKinds other.columns rows × Pairs IsBelow rows) (sym (same_rows other at))
      (of_all (HasRows opening) front other (all_first (HasRows opening) front (create ∷ []) split) at))) (
        subst (λ rows. AreOfKinds create.columns rows × Pairs IsBelow rows)
            (sym (under_itself opening create.name.name row)) (
              all_joined _ (rows_named opening create.name.name) (row ∷ []) was.0 ((is_row, kinds), tt),
              pairs_behind IsBelow (rows_named opening create.name.name) row was.1
                  (all_before IsBelow (λ a b c. rows_total.trans a b c) (rows_named opening create.name.name) row was.1
                  ascends),
            ),
        tt,
      ))
    where
      split : AllByRecursion (HasRows opening) (front ++ create ∷ [])
      split = subst (AllByRecursion (HasRows opening)) tables_are fit

      was : HasRows opening create
      was = (all_second (HasRows opening) front (create ∷ []) split).0

-- ---- all lines

abbrev FitsSoFar : Draft → Type 0
FitsSoFar draft = IsFit draft.told.opening (opening_due draft.due)

plain_fit : (opening : Opening) (due other : ℕ) → other ≡ 0 → IsFit opening due → IsFit opening other
plain_fit opening due other none fit = record {
  few_tables = fit.few_tables;
  few_rows = omega (arith, fit.few_rows, none);
  in_order = fit.in_order;
  rows = fit.rows;
}

fit_kept : (draft : Draft) (piece : List ℕ) (next : Draft) → IsOpened draft.told.opening → FitsSoFar draft
    → Stands draft piece next → FitsSoFar next
fit_kept draft piece next opened fit (Heading s) =
    subst FitsSoFar (sym s.next_is) (plain_fit draft.told.opening (opening_due draft.due) 0 refl fit)
fit_kept draft piece next opened fit (Opens s) =
    subst FitsSoFar (sym s.next_is)
    (table_fit draft.told.opening (opening_due draft.due) (opening_due (rows_due OpeningRows s.count)) s.create opened
    fit s.ascends (omega (arith, s.few_tables)) (omega (arith, s.few_rows, opening_rows_due s.count)))
fit_kept draft piece next opened fit (OpensRow s) =
    subst FitsSoFar (sym s.next_is) (record {
      few_tables = fit.few_tables;
      few_rows = omega (
        arith,
        fit.few_rows,
        ap opening_due s.due,
        opening_rows_due s.more,
        longer draft.told.opening.rows (opening_row s.create.name.name s.row),
      );
      in_order = row_in_order draft.told.opening s.create s.row opened s.last fit.in_order;
      rows = rows_fit draft.told.opening s.create s.row opened s.last fit.rows s.is_row s.kinds s.ascends;
    })
fit_kept draft piece next opened fit (Script s) =
    subst FitsSoFar (sym s.next_is) (plain_fit draft.told.opening (opening_due draft.due) 0 refl fit)
fit_kept draft piece next opened fit (Tx s) =
    subst FitsSoFar (sym s.next_is) (plain_fit draft.told.opening (opening_due draft.due) 0 refl fit)
fit_kept draft piece next opened fit (Answer s) =
    subst FitsSoFar (sym s.next_is)
    (plain_fit draft.told.opening (opening_due draft.due) _ (answer_rows_due s.count) fit)
fit_kept draft piece next opened fit (AnswerRow s) =
    subst FitsSoFar (sym s.next_is)
    (plain_fit draft.told.opening (opening_due draft.due) _ (answer_rows_due s.more) fit)
fit_kept draft piece next opened fit (Joint s) =
    subst FitsSoFar (sym s.next_is)
    (plain_fit draft.told.opening (opening_due draft.due) _ (no_members_due s.places) fit)
fit_kept draft piece next opened fit (Member s) =
    subst FitsSoFar (sym s.next_is)
    (plain_fit draft.told.opening (opening_due draft.due) _ (no_members_due s.more) fit)
fit_kept draft piece next opened fit (Table s) =
    subst FitsSoFar (sym s.next_is)
    (plain_fit draft.told.opening (opening_due draft.due) _ (table_rows_due s.count) fit)
fit_kept draft piece next opened fit (TableRow s) =
    subst FitsSoFar (sym s.next_is)
    (plain_fit draft.told.opening (opening_due draft.due) _ (table_rows_due s.more) fit)
fit_kept draft piece next opened fit (End s) =
    subst FitsSoFar (sym s.next_is) (plain_fit draft.told.opening (opening_due draft.due) 0 refl fit)

all_fit : (pieces : List (List ℕ)) (draft next : Draft) → IsSound draft → FitsSoFar draft
    → AllStand draft pieces next → FitsSoFar next
all_fit [] draft next so fit e = subst FitsSoFar e fit
all_fit (piece ∷ pieces) draft next so fit stand =
    all_fit pieces stand.0 next (sound_kept draft piece stand.0 so stand.1)
    (fit_kept draft piece stand.0 so.opened fit stand.1) stand.2

blank_fit : FitsSoFar blank
blank_fit = record { few_tables = omega arith; few_rows = omega arith; in_order = refl; rows = tt }

pub opening_is_told : (text : List ℕ) (history : History) → IsSound (record { told = history; due = Ended })
    → Tells text history → IsOpeningTold history.opening
opening_is_told text history so tells =
    let fit : IsFit history.opening 0 =
    all_fit tells.0 blank (record { told = history; due = Ended }) blank_sound blank_fit tells.2 in
    record {
      few_tables = fit.few_tables;
      few_rows = omega (arith, fit.few_rows);
      declarations = so.opened.declarations;
      rise = pairs_index Before history.opening.tables so.opened.apart;
      in_order = fit.in_order;
      rows = all_by (HasRows history.opening)
          (λ create. AreRowsOf create.columns (rows_named history.opening create.name.name)) history.opening.tables
          (λ create has. (has.0, pairs_index IsBelow (rows_named history.opening create.name.name) has.1)) fit.rows;
    }
