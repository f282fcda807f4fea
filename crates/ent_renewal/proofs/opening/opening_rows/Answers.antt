use Rattle.std.proofs.Common.{◌≡◌, length, take, get_or, ap, arith}
use Rattle.ent_lists.specs.Sets as set
use Rattle.ent_tree.specs.declared.declaration.Create.{Create}
use Rattle.ent_renewal.specs.Rows.{opening_rows}
use Rattle.ent_renewal.proofs.Counted.{room}
use Rattle.ent_renewal.proofs.opening.opening_rows.Goals as goal

pub push_table-requires-clause-room : goal.push_table-requires-clause-room
push_table-requires-clause-room g c =
    let declared = c.args.declared.now in
    let database = g.T.TablesByName.database c.args.tables.now in
    let n = c.loop-create.create-index in
    let create = c.create-item.result in
    let before : length c.loop-create.rows ≡ length (opening_rows (take n declared) database) =
    ap length c.loop-create.invariant in
    let here : set.len (database create.name.name) ≡ set.len (database (get_or declared n create).name.name) =
    ap (λ (other : Create). set.len (database other.name.name)) c.create-item.is in
    let fits = room declared database n create c.loop-create-test.true in
    let few = c.requires.limit in
    omega (arith, before, here, fits, few)
