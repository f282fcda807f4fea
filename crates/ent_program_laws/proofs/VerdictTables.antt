-- The tables at the end that the report of a book tells, in the order of the opening that it tells.
use Rattle.std.proofs.Common.{◌≡◌, true, List, [], ◌∷◌, ◌++◌, map, refl, sym, ap, ◌∙◌, inl, inr, flat_map}
use Rattle.ent_tree.specs.declared.declaration.Create.{Create}
use Rattle.ent_tree.specs.declared.declaration.Opening.{Opening}
use Rattle.ent_semantics.specs.Database.{Database, Name, same_name}
use Rattle.ent_semantics.specs.Names.{name_itself}
use Rattle.ent_book.specs.Report.{names_by_bytes}
use Rattle.ent_history.specs.declared.history.Shown.{Shown}
use Rattle.ent_history.specs.Told.{declared_under, shown_table, told_opening}
use Rattle.ent_lists.specs.Elements.{In, any_in, map_joined}
use Rattle.ent_history.specs.Formed.{is_declared}
use Rattle.ent_report_laws.proofs.OpeningDeclared.{named, one_under}

module _ (database : Database) where
  abbrev pub shown_create : Create → Shown
  shown_create create = shown_table database create.name.name

  same_names : (creates : List Create) (names : List Name)
      → ((name : Name) → In name names → is_declared creates name ≡ true)
      → map shown_create (flat_map (declared_under creates) names) ≡ map (shown_table database) names
  same_names creates [] there = refl
  same_names creates (name ∷ more) there =
      let found = one_under creates name (there name (inl refl)) in
      map_joined shown_create (declared_under creates name) (flat_map (declared_under creates) more)
      ∙ ap (λ (some : List Create). map shown_create some ++ map shown_create (flat_map (declared_under creates) more))
      found.1
      ∙ (λ i. shown_table database (found.2 i) ∷ same_names creates more (λ other at. there other (inr at)) i)

  -- the tables by name are those that are declared
  pub tables_by_name : (opening : Opening)
      → map shown_create (told_opening opening).tables ≡ map (shown_table database) (names_by_bytes opening)
  tables_by_name opening =
      same_names opening.tables (names_by_bytes opening) (λ name at.
      sym (named opening name)
      ∙ any_in (λ other. same_name other name) (names_by_bytes opening) name at (name_itself name))
