-- Transactions leave: what they changed is put back, or stays.
use Rattle.std.proofs.Common.{◌≡◌, ℕ, ◌==◌, ◌||◌, not, List, [], ◌∷◌, map, refl, sym, ap, ◌∙◌, Some}
use Rattle.std.specs.Prelude.{slice_get}
use Rattle.std.specs.List.{filter, list_any}
use Rattle.ent_rel.specs.Relation.{Relation}
use Rattle.ent_undo.specs.Change.{Change as Noted, is_of, is_of_others, of_others, put_back as put_back_noted}
use Rattle.ent_undo.specs.Change.{rolled_back as rolled_back_noted}
use Rattle.ent_ordinary.specs.Tables.{kinds_in, rows_in}
use Rattle.ent_protocol.specs.Rollback.{is_among, put_back}
use Rattle.ent_protocol.specs.State.{Member}
use Rattle.ent_tables.specs.Stored.{AreOfTables, Stored, is_by, rolled_back, rolled_back_with, settled, settled_with}
use Rattle.ent_tables.specs.Stored.{stored_of}
use Rattle.ent_tables.proofs.Notes.{all_filter, filter_seen, kinds_put_back, rows_put_back}

abbrev IsOfTable : List Relation → Noted → Type 0
IsOfTable tables change = slice_get (kinds_in tables) change.table ≡ Some change.before.kinds

pub settles : (numbers : List ℕ) (tables : List Relation) (log : List Noted)
    → stored_of tables (of_others numbers log) ≡ settled numbers (stored_of tables log)
settles numbers tables log =
    let changes = filter_seen (λ change. not (is_by numbers change)) log in
    λ i. record (stored_of tables log) { changes = sym changes i }

pub settled_of_tables : (numbers : List ℕ) (tables : List Relation) (log : List Noted)
    → AreOfTables (kinds_in tables) log
    → AreOfTables (kinds_in tables) (of_others numbers log)
settled_of_tables numbers tables log all = all_filter (IsOfTable tables) (is_of_others numbers) log all

module _ (numbers : List ℕ) (tables : List Relation) (log : List Noted) (all : AreOfTables (kinds_in tables) log)
    (newest_first : rolled_back_noted numbers log tables ≡ put_back_noted (filter (is_of numbers) log) tables) where
  kinds_kept : kinds_in (rolled_back_noted numbers log tables) ≡ kinds_in tables
  kinds_kept =
      ap kinds_in newest_first
      ∙ kinds_put_back (kinds_in tables) (filter (is_of numbers) log) tables
      (all_filter (IsOfTable tables) (is_of numbers) log all) refl

  pub rolls_back : stored_of (rolled_back_noted numbers log tables) (of_others numbers log) ≡ rolled_back numbers
      (stored_of tables log)
  rolls_back =
      let rows = ap rows_in newest_first ∙ rows_put_back (filter (is_of numbers) log) tables
      ∙ sym (ap (λ cs. put_back cs (rows_in tables)) (filter_seen (is_by numbers) log)) in
      let changes = filter_seen (λ change. not (is_by numbers change)) log in
      λ i. record { kinds = kinds_kept i; tables = rows i; changes = sym changes i }

  pub rolled_back_of_tables : AreOfTables (kinds_in (rolled_back_noted numbers log tables)) (of_others numbers log)
  rolled_back_of_tables = rw kinds_kept (settled_of_tables numbers tables log all)

-- as it is done
module _ (numbers : List ℕ) (tables tables' : List Relation) (log log' : List Noted) (s : Stored)
    (view : stored_of tables log ≡ s) (all : AreOfTables (kinds_in tables) log)
    (newest_first : rolled_back_noted numbers log tables ≡ put_back_noted (filter (is_of numbers) log) tables)
    (put : tables' ≡ rolled_back_noted numbers log tables) (left : log' ≡ of_others numbers log) where
  pub changes_are_put_back : stored_of tables' log' ≡ rolled_back numbers s
  changes_are_put_back =
      (λ i. stored_of (put i) (left i)) ∙ rolls_back numbers tables log all newest_first ∙ ap (rolled_back numbers) view

  pub others_are_noted : AreOfTables (kinds_in tables') log'
  others_are_noted = rw (put, left) (rolled_back_of_tables numbers tables log all newest_first)

-- ---- of members

among_is : (members : List Member) (tx : ℕ)
    → list_any (λ n. n == tx) (map (λ member. member.tx) members) ≡ is_among members tx
among_is [] tx = refl
among_is (member ∷ members) tx = ap (λ b. (member.tx == tx) || b) (among_is members tx)

pub settles_with : (numbers : List ℕ) (members : List Member) (s : Stored) → numbers ≡ map (λ member. member.tx) members
    → settled numbers s ≡ settled_with members s
settles_with numbers members s is =
    ap (λ ns. settled ns s) is
    ∙ (λ i. record s { changes = filter (λ change. not (among_is members change.tx i)) s.changes })

pub rolls_back_with : (numbers : List ℕ) (members : List Member) (s : Stored)
    → numbers ≡ map (λ member. member.tx) members
    → rolled_back numbers s ≡ rolled_back_with members s
rolls_back_with numbers members s is =
    ap (λ ns. rolled_back ns s) is
    ∙ (λ i. record s {
      tables = put_back (filter (λ change. among_is members change.tx i) s.changes) s.tables;
      changes = filter (λ change. not (among_is members change.tx i)) s.changes;
    })
