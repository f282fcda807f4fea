use Rattle.std.proofs.Common.{append_assoc}
use Rattle.ent_driver.specs.Why.{both_text}
use Rattle.ent_driver.proofs.why.append_offers.Goals as goal

pub returns : goal.returns
returns c =
    rw (← append_assoc c.args.out.now.items _ (both_text c.args.first c.args.second))
    (rw (← c.in_ok-extend_from_slice.ensures.items) c.append_both.ensures)
