-- Tables under the names that are declared, each once.
use Rattle.std.proofs.Common.{◌≡◌, List, [], None}
use Rattle.ent_tree.specs.declared.declaration.Create.{Create}
use Rattle.ent_semantics.specs.Form.{Tables}
use Rattle.ent_form.specs.Catalogue.{schemas_of}
use Rattle.ent_form.specs.OpeningFault.{declarations_fault}
use Rattle.ent_form.specs.TableKinds.{AreKinded}
use Rattle.ent_form.specs.Tables.{database_of}
use Rattle.ent_form.proofs.NamesApart.{kinds_under, names_apart, nothing_under}
use Rattle.ent_lists.specs.Elements.{nth_in}
use Rattle.ent_renewal.specs.Renewal.{HoldsTablesOf}

-- kinded tables under names that are declared once
pub held_tables : (creates : List Create) (tables : Tables) → declarations_fault [] creates ≡ None
    → AreKinded (schemas_of creates) tables → HoldsTablesOf creates (database_of creates tables)
held_tables creates tables once kinded =
    record {
      kinds = λ k d low.
          kinds_under creates tables kinded (names_apart creates once) _ (nth_in creates k d low);
      others = nothing_under creates tables;
    }
