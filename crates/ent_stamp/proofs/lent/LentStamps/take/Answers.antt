use Rattle.std.proofs.Common.{◌≤◌, List, arith, subst, sym}
use Rattle.std.specs.List.{remove}
use Rattle.std.proofs.lemmas.Bool.Decides.{nat_tests}
use Rattle.ent_stamp.specs.Stamps.{AreStampsBehind, LentStamp}
use Rattle.ent_stamp.proofs.Knowing.{known_less, unknown_less}
use Rattle.ent_stamp.proofs.lent.LentStamps.take.Goals as goal

pub returns-then-index-self : goal.returns-then-index-self
returns-then-index-self g c = λ jobs are.
    let own = c.args.self.now in
    unknown_less own.older c.args.index own.stamps.items jobs (grind (arith, nat_tests, c.if-index-self.true)) are

pub returns-else-index-self : goal.returns-else-index-self
returns-else-index-self g c = λ jobs are.
    let own = c.args.self.now in
    let index = c.args.index in
    let behind : own.older ≤ index = grind (arith, nat_tests, c.if-index-self.false) in
    subst (λ (stamps : List LentStamp). AreStampsBehind own.older stamps (remove jobs index))
    (sym c.remove.ensures.items)
    (known_less own.older index own.stamps.items jobs behind are)
