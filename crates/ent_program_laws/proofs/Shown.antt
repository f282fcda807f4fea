-- The database of a book is what its report shows, where it has no rows under a name that isn't declared.
use Rattle.std.proofs.Common.{◌≡◌, Bool, true, false, ◌||◌, List, [], ◌∷◌, map, refl, sym, ap, ◌∙◌}
use Rattle.ent_lists.specs.Sets as set
use Rattle.ent_tree.specs.declared.declaration.Opening.{Opening}
use Rattle.ent_book.specs.Report.{names_by_bytes}
use Rattle.ent_history.specs.declared.history.Shown.{Shown}
use Rattle.ent_history.specs.Told.{shown_database, shown_table}
use Rattle.ent_lists.specs.Elements.{In, of_map}
use Rattle.ent_semantics.specs.Database.{Database, Name, same_name, is_among}
use Rattle.ent_report_laws.proofs.OpeningDeclared.{named}
use Rattle.ent_history.specs.Formed.{is_declared, is_shown}
use Rattle.ent_history.proofs.Tables.{not_shown, shown_is}

shown_names : (database : Database) (names : List Name) (name : Name)
    → is_shown (map (shown_table database) names) name ≡ is_among names name
shown_names database [] name = refl
shown_names database (other ∷ names) name = ap (λ b. same_name other name || b) (shown_names database names name)

module _ (opening : Opening) (database : Database)
    (empty : (name : Name) → is_declared opening.tables name ≡ false → database name ≡ set.empty) where
  abbrev tables : List Shown
  tables = map (shown_table database) (names_by_bytes opening)

  shown_declared : (name : Name) → is_shown tables name ≡ is_declared opening.tables name
  shown_declared name = shown_names database (names_by_bytes opening) name ∙ named opening name

  rows_shown : (shown : Shown) → In shown tables → shown.rows ≡ set.ascending (database shown.name)
  rows_shown shown at =
      let one = of_map (shown_table database) (names_by_bytes opening) shown at in
      ap (λ (s : Shown). s.rows) one.2 ∙ ap (λ (s : Shown). set.ascending (database s.name)) (sym one.2)

  at_name : (name : Name) → shown_database tables name ≡ database name
  at_name name = by (is_declared opening.tables name) refl
    where
      by : (b : Bool) → is_declared opening.tables name ≡ b → shown_database tables name ≡ database name
      by true is = sym (shown_is database tables name rows_shown (shown_declared name ∙ is))
      by false is = not_shown tables name (shown_declared name ∙ is) ∙ sym (empty name is)

  pub database_again : shown_database tables ≡ database
  database_again = λ i name. at_name name i
