use Rattle.ent_book.proofs.NoRows.{empty_table}
use Rattle.std.proofs.lemmas.Grind.{common_steps}
use Rattle.std.proofs.Common.{arith}
use Rattle.ent_meet.proofs.tables.append_no_table.Goals as goal

pub returns : goal.returns
returns c = rw (empty_table c.args.name.now) (grind (arith, common_steps))
