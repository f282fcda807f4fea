use Rattle.ent_protocol.specs.Reached.{table_names}
use Rattle.ent_renewal.proofs.Under.{found_by_name}
use Rattle.ent_desk.proofs.next.PresentTablesTablesByName.table_named.Goals as goal

pub returns : goal.returns
returns c =
    let s = c.args.self.now.core.now in
    found_by_name (λ table. table.now.rows) c.table.result (table_names s.opening) s.tables c.args.name.now
    c.table.ensures.rows
