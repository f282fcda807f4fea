use Rattle.std.proofs.Common.{inl, inr, ap, arith, length}
use Rattle.ent_core.proofs.Booked.{named_so_far}
use Rattle.ent_core.proofs.closing.named.Goals as goal

pub returns-in_default : goal.returns-in_default
returns-in_default c =
    named_so_far c.loop-number.named c.args.catalogue.now.tables c.args.tables.now c.loop-number.number
    c.loop-number.invariant.names
    c.loop-number.invariant.tables (inl c.in_default.ensures.lookup.3)

pub returns : goal.returns
returns c =
    named_so_far c.loop-number.named c.args.catalogue.now.tables c.args.tables.now c.loop-number.number
    c.loop-number.invariant.names
    c.loop-number.invariant.tables (inr (omega (
      arith,
      c.loop-number-test.false,
      ap length
          c.as_slice-schema-items.ensures,
    )))
