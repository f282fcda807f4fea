use Rattle.std.proofs.Common.{get_or, sym, ◌∙◌, arith, true≢false}
use Rattle.std.proofs.lemmas.List.{get_or_default}
use Rattle.ent_lock.proofs.Held.{Holds_here, Holds_nowhere}
use Rattle.ent_lock.proofs.table_uses.holders_of.Goals as goal

pub returns-in-Ok : goal.returns-in-Ok
returns-in-Ok g c = λ tx mode.
    let ts = c.args.tables.now in
    let at = c.in-Ok.ensures.found in
    let t = get_or ts c.in-Ok.at c.index-tables-at.result in
    rw c.as_slice.ensures.value
    (Holds_here g.T.TableKey.key ts c.in-Ok.at t (g.T.TableKey.key c.args.table.now) tx mode c.requires at
    (get_or_default ts c.in-Ok.at c.index-tables-at.result t at.in_range))

pub returns-in-Err : goal.returns-in-Err
returns-in-Err g c = λ tx mode. (
  λ inside. absurd (omega arith),
  λ held. absurd
      (true≢false (sym held ∙ Holds_nowhere g.T.TableKey.key c.args.tables.now c.in-Err.field-0
      (g.T.TableKey.key c.args.table.now) tx mode c.in-Err.ensures.missing)),
)
