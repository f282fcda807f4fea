-- The tables that a history shows are shown so by its book.
use Rattle.std.proofs.Common.{◌≡◌, ◌≢◌, List, [], ◌∷◌, map, refl, sym, ap, ◌∙◌, inl, inr}
use Rattle.ent_lists.specs.Sets as set
use Rattle.ent_tree.specs.declared.declaration.Create.{Create}
use Rattle.ent_semantics.specs.Database.{Database, Name}
use Rattle.ent_history.specs.declared.history.History.{History}
use Rattle.ent_history.specs.declared.history.Shown.{Shown}
use Rattle.ent_history.specs.Told.{shown_database, shown_table}
use Rattle.ent_lists.specs.Elements.{In, in_contains, index_pairs}
use Rattle.ent_report_laws.specs.Tellable.{AreTablesOf}
use Rattle.ent_history.specs.Formed.{IsFormed}
use Rattle.ent_history.proofs.Tables.{shown_own}
use Rattle.ent_program_laws.proofs.VerdictOpened.{name_of}

each_again : (database : Database) (creates : List Create) (tables : List Shown) → AreTablesOf creates tables
    → ((shown : Shown) → In shown tables → set.ascending (database shown.name) ≡ shown.rows)
    → map (shown_table database) (map name_of creates) ≡ tables
each_again database [] [] are own = refl
each_again database [] (shown ∷ more) are own = absurd are
each_again database (create ∷ creates) [] are own = absurd are
each_again database (create ∷ creates) (shown ∷ more) are own =
    λ i. record {
      name = sym are.0 i;
      rows = (ap (λ (name : Name). set.ascending (database name)) (sym are.0) ∙ own shown (inl refl)) i;
    }
    ∷ each_again database creates more are.3 (λ other at. own other (inr at)) i

pub tables_again : (history : History) → IsFormed history → AreTablesOf history.opening.tables history.tables
    → map (shown_table (shown_database history.tables)) (map name_of history.opening.tables) ≡ history.tables
tables_again history formed are =
    each_again (shown_database history.tables) history.opening.tables history.tables are (λ shown at.
    ap set.ascending
    (shown_own history.tables
    (index_pairs (λ (first second : Shown). first.name ≢ second.name) history.tables formed.once) shown at)
    ∙ formed.ascending shown (in_contains history.tables shown at))
