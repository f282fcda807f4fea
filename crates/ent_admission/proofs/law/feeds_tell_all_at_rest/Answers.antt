use Rattle.std.proofs.Common.{◌∙◌, length, take, ap, arith}
use Rattle.std.proofs.lemmas.List.{take_all}
use Rattle.ent_protocol.specs.Reached.{named_tables, table_names}
use Rattle.ent_semantics.specs.Form.{Tables}
use Rattle.ent_admission.proofs.law.feeds_tell_all_at_rest.Goals as goal

pub returns-clause-journal : goal.returns-clause-journal
returns-clause-journal c = λ a told.
    let journal = a.epoch.core.journal in
    ap (λ n. take n journal) told.commits.entries ∙ take_all (length journal) journal (omega arith)

pub returns-clause-tables : goal.returns-clause-tables
returns-clause-tables c = λ a told.
    ap (λ (tables : Tables). named_tables (table_names a.epoch.core.opening) tables) told.commits.tables
