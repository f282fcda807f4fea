use Rattle.std.proofs.Common.{append_assoc}
use Rattle.ent_book.specs.Report.{after_text}
use Rattle.ent_book.proofs.transaction.put_fate.Goals as goal

pub returns-in_ok-extend_from_slice-in-RolledBack : goal.returns-in_ok-extend_from_slice-in-RolledBack
returns-in_ok-extend_from_slice-in-RolledBack c =
    rw (c.in-RolledBack.is)
    (rw (← append_assoc c.args.out.now.items _ (after_text c.in-RolledBack.runs))
    (rw (← c.in_ok-extend_from_slice-in-RolledBack.ensures.items) c.put_after-in-RolledBack.ensures))
