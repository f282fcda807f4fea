use Rattle.std.proofs.Common.{◌∙◌, ap, map}
use Rattle.ent_form.specs.TableKinds.{column_kinds}
use Rattle.ent_tables.proofs.Opening.{kinds_opened, tables_opened}
use Rattle.ent_tables.proofs.stored.StoredTables.open.Goals as goal

pub returns-clause-kinds : goal.returns-clause-kinds
returns-clause-kinds c =
    c.in_ok-tables.ensures.kinds ∙ ap (map column_kinds) c.requires.tables ∙ kinds_opened c.args.opening.now.tables

pub returns-clause-tables : goal.returns-clause-tables
returns-clause-tables c = c.in_ok-tables.ensures.rows ∙ tables_opened c.args.opening.now
