-- Tables of states that can be closed.
use Rattle.std.proofs.Common.{◌≡◌, None, ap, subst}
use Rattle.ent_semantics.specs.Form.{Tables}
use Rattle.ent_semantics.specs.Database.{Database}
use Rattle.ent_form.specs.OpeningFault.{opening_fault}
use Rattle.ent_protocol.specs.Reached.{named_tables, settled, table_names}
use Rattle.ent_protocol.specs.State.{State}
use Rattle.ent_headline.specs.Kinds.{HasSettledKinds}
use Rattle.ent_renewal.specs.Renewal.{HoldsTablesOf, present_database}
use Rattle.ent_renewal.proofs.Finished.{settled_held}

pub settled_present : (s : State) → settled s ≡ s.tables
    → named_tables (table_names s.opening) (settled s) ≡ present_database s
settled_present s e = ap (λ (tables : Tables). named_tables (table_names s.opening) tables) e

pub present_held : (s : State) → HasSettledKinds s → opening_fault s.opening ≡ None → settled s ≡ s.tables
    → HoldsTablesOf s.opening.tables (present_database s)
present_held s kinds formed e =
    subst (λ (database : Database). HoldsTablesOf s.opening.tables database) (settled_present s e)
    (settled_held s kinds formed)
