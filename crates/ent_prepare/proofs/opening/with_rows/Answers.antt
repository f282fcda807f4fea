use Rattle.std.proofs.Common.{ap, arith, length}
use Rattle.ent_prepare.proofs.Joined.{all_numbered}
use Rattle.ent_prepare.proofs.opening.with_rows.Goals as goal

pub joined-requires : goal.joined-requires
joined-requires c =
    omega (
      arith,
      c.requires,
      ap length c.replace-own.ensures.value,
      ap length c.in_ok-given.ensures,
      all_numbered 0 c.args.rows.now,
    )
