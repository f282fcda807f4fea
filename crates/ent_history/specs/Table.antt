-- The rule of tables: each is shown as the scripts leave it.
use Rattle.std.specs.Prelude.{ℕ, suc, List, [], ◌∷◌, ◌++◌, Option, Some, None}
use Rattle.ent_lists.specs.Sets as set
use Rattle.ent_semantics.specs.Database.{Database}
use Rattle.ent_history.specs.declared.history.Shown.{Shown}
use Rattle.ent_history.specs.Alike.{same_rows}
use Rattle.ent_history.specs.Journal.{unless}
use Rattle.ent_history.specs.declared.finding.Finding.{Finding}
use Rattle.ent_history.specs.declared.finding.Rule.TheVariants as rules
use Rattle.ent_history.specs.declared.finding.Thing.TheVariants as things

-- tables, the first of this number
abbrev pub tables_findings : ℕ → Database → List Shown → List Finding
tables_findings number database [] = []
tables_findings number database (shown ∷ more) =
    unless (same_rows shown.rows (set.ascending (database shown.name))) rules.Table (things.Table number)
    ++ tables_findings (suc number) database more

-- over the database that is left at the end, if any
abbrev pub end_findings : Option Database → List Shown → List Finding
end_findings None tables = []
end_findings (Some database) tables = tables_findings 1 database tables
