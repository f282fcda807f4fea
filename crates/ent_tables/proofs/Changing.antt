-- A change is made, and taken back.
use Rattle.std.proofs.Common.{◌≡◌, ◌<◌, ◌⊎◌, inl, inr, ℕ, List, [], ◌∷◌, ◌++◌, length, sym, ap, ◌∙◌, arith, Some}
use Rattle.std.specs.Prelude.{slice_get, slice_index_or, slice_set}
use Rattle.std.proofs.lemmas.List.{length-map, map-set, set-set}
use Rattle.ent_lists.specs.Sets as set
use Rattle.ent_lists.proofs.Lists.{got_mapped, all_behind, split_last}
use Rattle.ent_value.specs.declared.value.Kind.{Kind}
use Rattle.ent_value.specs.declared.value.Value.{Value}
use Rattle.ent_rel.specs.Relation.{Relation}
use Rattle.ent_undo.specs.Change.{Change as Noted}
use Rattle.ent_semantics.specs.Form.{Tables}
use Rattle.ent_ordinary.specs.Tables.{kinds_in, no_table, rows_in}
use Rattle.ent_protocol.specs.Job.{applied}
use Rattle.ent_tables.specs.Stored.{AreOfTables, Stored, changed, changes_seen, stored_of, taken_back}
use Rattle.ent_tables.proofs.Notes.{all_pop, seen_newest}
use Rattle.ent_tables.proofs.Places.{index_map, set_there}

abbrev noted_at : ℕ → ℕ → List Relation → Noted
noted_at tx table tables = record { tx = tx; table = table; before = slice_index_or tables table no_table }

module _ (tables : List Relation) (log : List Noted) (tx table : ℕ) (after : Relation) (there : table < length tables)
    (same : after.kinds ≡ (slice_index_or tables table no_table).kinds) where
  kinds_at : slice_get (kinds_in tables) table ≡ Some (slice_index_or tables table no_table).kinds
  kinds_at = got_mapped (λ (t : Relation). t.kinds) tables table no_table there

  kinds_kept : kinds_in (slice_set tables table after) ≡ kinds_in tables
  kinds_kept =
      map-set (λ (t : Relation). t.kinds) tables table after
      ∙ ap (λ (ks : List Kind). slice_set (kinds_in tables) table ks) same
      ∙ set_there (kinds_in tables) table (slice_index_or tables table no_table).kinds kinds_at

  -- the notes are of the tables that stand then
  pub noted_too : AreOfTables (kinds_in tables) log
      → AreOfTables (kinds_in (slice_set tables table after)) (log ++ noted_at tx table tables ∷ [])
  noted_too all =
      rw kinds_kept (all_behind (λ change. slice_get (kinds_in tables) change.table ≡ Some change.before.kinds) log
      (noted_at tx table tables) all kinds_at)

  pub made : (removed added : List (List Value))
      → after.rows ≡ applied removed added (slice_index_or tables table no_table).rows
      → stored_of (slice_set tables table after) (log ++ noted_at tx table tables ∷ []) ≡ changed tx table removed added
      (stored_of tables log)
  made removed added is =
      let at : slice_index_or (rows_in tables) table set.empty ≡ (slice_index_or tables table no_table).rows =
      index_map (λ (t : Relation). t.rows) tables table no_table in
      let rows : rows_in (slice_set tables table after) ≡ slice_set (rows_in tables) table
      (applied removed added (slice_index_or (rows_in tables) table set.empty)) =
      map-set (λ (t : Relation). t.rows) tables table after
      ∙ ap (λ rs. slice_set (rows_in tables) table rs) (is ∙ ap (applied removed added) (sym at)) in
      let changes : changes_seen
      (log ++ noted_at tx table tables ∷ []) ≡ record {
        tx = tx;
        table = table;
        before = slice_index_or
            (rows_in tables) table set.empty;
      } ∷ changes_seen log =
      seen_newest log (noted_at tx table tables)
      ∙ (λ i. record { tx = tx; table = table; before = sym at i } ∷ changes_seen log) in
      λ i. record { kinds = kinds_kept i; tables = rows i; changes = changes i }

  pub undone : taken_back (stored_of (slice_set tables table after) (log ++ noted_at tx table tables ∷ [])) ≡ stored_of
      tables log
  undone =
      let newest = seen_newest log (noted_at tx table tables) in
      let before = slice_index_or tables table no_table in
      let rows : slice_set (rows_in (slice_set tables table after)) table before.rows ≡ rows_in tables =
      ap (λ (rs : Tables). slice_set rs table before.rows) (map-set (λ (t : Relation). t.rows) tables table after)
      ∙ set-set (rows_in tables) table after.rows before.rows
      ∙ set_there (rows_in tables) table before.rows
      (got_mapped (λ (t : Relation). t.rows) tables table no_table there) in
      (λ i. taken_back (record
      (stored_of (slice_set tables table after) (log ++ noted_at tx table tables ∷ [])) { changes = newest i }))
      ∙ (λ i. record { kinds = kinds_kept i; tables = rows i; changes = changes_seen log })

-- as it is done
module _ (tables tables' : List Relation) (log log' : List Noted) (s : Stored) (tx table : ℕ) (after before : Relation)
    (view : stored_of tables log ≡ s) (there : table < length s.tables)
    (put : tables' ≡ slice_set tables table after)
    (noted : log' ≡ log ++ record { tx = tx; table = table; before = before } ∷ [])
    (is_before : before ≡ slice_index_or tables table no_table)
    (same : after.kinds ≡ (slice_index_or tables table no_table).kinds) where
  below : table < length tables
  below = omega (
    arith,
    there,
    ap (λ (stored : Stored). length stored.tables) view,
    length-map tables
        (λ (t : Relation). t.rows),
  )

  log_is : log' ≡ log ++ noted_at tx table tables ∷ []
  log_is = noted ∙ (λ i. log ++ record { tx = tx; table = table; before = is_before i } ∷ [])

  pub change_is_noted : AreOfTables (kinds_in tables) log → AreOfTables (kinds_in tables') log'
  change_is_noted all = rw (put, log_is) (noted_too tables log tx table after below same all)

  pub change_is_made : (removed added : List (List Value))
      → after.rows ≡ applied removed added (slice_index_or tables table no_table).rows
      → stored_of tables' log' ≡ changed tx table removed added s
  change_is_made removed added rows =
      (λ i. stored_of (put i) (log_is i)) ∙ made tables log tx table after below same removed added rows
      ∙ ap (changed tx table removed added) view

  pub change_is_undone : taken_back (stored_of tables' log') ≡ s
  change_is_undone =
      (λ i. taken_back (stored_of (put i) (log_is i))) ∙ undone tables log tx table after below same ∙ view

-- ---- the newest change is taken back

kinds_set : (tables : List Relation) (newest : Noted)
    → slice_get (kinds_in tables) newest.table ≡ Some newest.before.kinds
    → kinds_in (slice_set tables newest.table newest.before) ≡ kinds_in tables
kinds_set tables newest at =
    map-set (λ (t : Relation). t.kinds) tables newest.table newest.before
    ∙ set_there (kinds_in tables) newest.table newest.before.kinds at

without_newest : (tables : List Relation) (earlier : List Noted) (newest : Noted)
    → slice_get (kinds_in tables) newest.table ≡ Some newest.before.kinds
    → stored_of (slice_set tables newest.table newest.before) earlier ≡ taken_back
    (stored_of tables (earlier ++ newest ∷ []))
without_newest tables earlier newest at =
    let rows = map-set (λ (t : Relation). t.rows) tables newest.table newest.before in
    (λ i. record { kinds = kinds_set tables newest at i; tables = rows i; changes = changes_seen earlier })
    ∙ sym (λ i. taken_back (record
    (stored_of tables (earlier ++ newest ∷ [])) { changes = seen_newest earlier newest i }))

module _ (tables tables' : List Relation) (log log' : List Noted)
    (none : log ≡ [] → (log' ≡ []) × (tables' ≡ tables))
    (left : (earlier : List Noted) (newest : Noted) → log ≡ earlier ++ newest ∷ [] → log' ≡ earlier)
    (put : (earlier : List Noted) (newest : Noted) → log ≡ earlier ++ newest ∷ []
    → tables' ≡ slice_set tables newest.table newest.before)
    (all : AreOfTables (kinds_in tables) log) where
  newest_at : (earlier : List Noted) (newest : Noted) → log ≡ earlier ++ newest ∷ []
      → AreOfTables (kinds_in tables) earlier × (slice_get (kinds_in tables) newest.table ≡ Some newest.before.kinds)
  newest_at earlier newest is =
      all_pop (λ change. slice_get (kinds_in tables) change.table ≡ Some change.before.kinds) earlier newest
      (rw (← is) all)

  pub taken : stored_of tables' log' ≡ taken_back (stored_of tables log)
  taken = by (split_last log)
    where
      by : (log ≡ []) ⊎ ((earlier : List Noted) × (newest : Noted) × (log ≡ earlier ++ newest ∷ []))
          → stored_of tables' log' ≡ taken_back (stored_of tables log)
      by (inl empty) =
          let e = none empty in
          (λ i. stored_of (e.1 i) (e.0 i)) ∙ sym (ap (λ notes. taken_back (stored_of tables notes)) empty)
      by (inr e) =
          let rest = left e.0 e.1 e.2 in
          let put_is = put e.0 e.1 e.2 in
          (λ i. stored_of (put_is i) (rest i)) ∙ without_newest tables e.0 e.1 (newest_at e.0 e.1 e.2).1
          ∙ sym (ap (λ notes. taken_back (stored_of tables notes)) e.2)

  pub still_of_tables : AreOfTables (kinds_in tables') log'
  still_of_tables = by (split_last log)
    where
      by : (log ≡ []) ⊎ ((earlier : List Noted) × (newest : Noted) × (log ≡ earlier ++ newest ∷ []))
          → AreOfTables (kinds_in tables') log'
      by (inl empty) = rw (none empty).0 tt
      by (inr e) =
          let at = newest_at e.0 e.1 e.2 in
          rw (left e.0 e.1 e.2, ap kinds_in (put e.0 e.1 e.2) ∙ kinds_set tables e.1 at.1) at.0
