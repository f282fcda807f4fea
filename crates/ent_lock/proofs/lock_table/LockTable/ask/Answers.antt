use Rattle.std.proofs.Common.{◌≡◌, subst}
use Rattle.ent_lock.specs.Use.{Blocks, IsLeast, keyed}
use Rattle.ent_lock.proofs.lock_table.LockTable.ask.Goals as goal

pub returns-in-Some-clause-blocked : goal.returns-in-Some-clause-blocked
returns-in-Some-clause-blocked g c = λ v e.
    let same : c.in-Some.holder ≡ v = cc in
    subst (IsLeast (Blocks c.args.self.now c.args.tx (keyed g.T.TableKey.key c.args.asked.now) c.args.pass.now)) same
    c.in-Some.ensures
