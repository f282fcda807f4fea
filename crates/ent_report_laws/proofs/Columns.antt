-- What a list of tables has under a name follows from the table that is declared under it.
use Rattle.std.proofs.Common.{◌≡◌, Bool, true, false, cond, List, [], ◌∷◌, map, refl, sym, ap, ◌∙◌}
use Rattle.ent_tree.specs.declared.declaration.Create.{Create}
use Rattle.ent_semantics.specs.Database.{Name, columns_of, same_name}
use Rattle.ent_history.specs.Told.{declared_under}
use Rattle.ent_report_laws.specs.Alike.{AreDeclaredAlike}

abbrev first_columns : List Create → List Name
first_columns [] = []
first_columns (create ∷ more) = map (λ column. column.name.name) create.columns

columns_under : (tables : List Create) (name : Name)
    → columns_of tables name ≡ first_columns (declared_under tables name)
columns_under [] name = refl
columns_under (create ∷ more) name = by (same_name create.name.name name) (columns_under more name)
  where
    by : (b : Bool) → columns_of more name ≡ first_columns (declared_under more name)
        → cond b (first_columns (create ∷ [])) (columns_of more name)
        ≡ first_columns (cond b (create ∷ []) (declared_under more name))
    by true rest = refl
    by false rest = rest

pub same_columns : (first second : List Create) → AreDeclaredAlike first second
    → (name : Name) → columns_of first name ≡ columns_of second name
same_columns first second alike name =
    columns_under first name ∙ ap first_columns (alike name) ∙ sym (columns_under second name)
