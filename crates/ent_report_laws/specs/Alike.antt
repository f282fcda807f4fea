-- Openings that differ in their order alone: they have the same under each name.
use Rattle.std.specs.Prelude.{◌≡◌, List}
use Rattle.ent_tree.specs.declared.declaration.Create.{Create}
use Rattle.ent_tree.specs.declared.declaration.Opening.{Opening}
use Rattle.ent_semantics.specs.Database.{Name, opening_database}
use Rattle.ent_history.specs.Told.{declared_under}

-- the same table under each name
abbrev pub AreDeclaredAlike : List Create → List Create → Type 0
AreDeclaredAlike first second = (name : Name) → declared_under first name ≡ declared_under second name

-- and the same rows
pub record AreAlike (first second : Opening) : Type 0 where
  pub tables : AreDeclaredAlike first.tables second.tables
  pub rows : opening_database first ≡ opening_database second
