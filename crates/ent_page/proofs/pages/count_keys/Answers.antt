use Rattle.std.proofs.Common.{arith, ap, length}
use Rattle.std.specs.Arc.{arc_value}
use Rattle.ent_page.proofs.Paging.{count_within}
use Rattle.ent_page.proofs.pages.count_keys.Goals as goal

pub overflow_add-count : goal.overflow_add-count
overflow_add-count c =
    record {
      fits = omega (
        arith,
        count_within arc_value c.args.pages.now c.loop-page.page-index c.page-item.result
            (omega arith) c.page-item.is,
        c.loop-page.invariant,
        c.len-count.ensures,
        ap length c.deref.ensures,
        c.requires,
      );
    }
