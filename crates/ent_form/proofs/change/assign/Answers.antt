use Rattle.std.proofs.Common.{arith}
use Rattle.ent_form.proofs.Columns.{column_within}
use Rattle.ent_form.proofs.change.assign.Goals as goal

pub index_mut-requires : goal.index_mut-requires
index_mut-requires c =
    let within = column_within c.args.table.now.columns c.args.assignment.now.column.name c.in-Some.number
    c.in-Some.wanted c.in-Some.ensures in
    omega (arith, c.requires)
