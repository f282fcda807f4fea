use Rattle.std.proofs.Common.{◌≡◌, ◌<◌, ◌&&◌, List, length, get_or, refl, sym, ap, ◌∙◌, arith}
use Rattle.std.specs.List.{list_any}
use Rattle.ent_lock.specs.declared.table_uses.TableUses.{TableUses}
use Rattle.ent_lock.specs.Layout.{is_use_of_none}
use Rattle.std.proofs.lemmas.List.{get_or_default, take_all}
use Rattle.ent_lock.proofs.Held.{has_in, keys-set, dropped_table, dropped_more, dropped_rest, dropped_all}
use Rattle.ent_lock.proofs.table_uses.drop_members.Goals as goal

pub loop-uses-preserved : goal.loop-uses-preserved
loop-uses-preserved g c =
    let ts = c.loop-uses.tables in
    let old = c.args.tables.now in
    let i = c.loop-uses.uses-index in
    let t = get_or ts i c.uses-item.result in
    let t' : TableUses _ = record { table = t.table; holders = c.drop_holders.new.holders } in
    let in_old : i < length old = c.loop-uses-test.true in
    let in_ts : i < length ts = omega (arith, c.loop-uses.auto.tables, in_old) in
    let here : t ≡ get_or ts i t = get_or_default ts i c.uses-item.result t in_ts in
    record {
      so_far = λ q. dropped_more g.T.TableKey.key ts old i t t' q (is_use_of_none c.args.members.now q) in_ts in_old
          c.loop-uses.invariant.rest here
          (dropped_table g.T.TableKey.key c.args.members.now q t t' refl c.drop_holders.ensures)
          (c.loop-uses.invariant.so_far q);
      rest = dropped_rest ts old i t t' in_ts in_old c.loop-uses.invariant.rest;
      names = keys-set g.T.TableKey.key ts i t t' in_ts here refl ∙ c.loop-uses.invariant.names;
    }

pub returns-clause-held : goal.returns-clause-held
returns-clause-held g c =
    let ts = c.loop-uses.tables in
    let old = c.args.tables.now in
    let i = c.loop-uses.uses-index in
    dropped_all g.T.TableKey.key ts old c.args.members.now (λ q.
    ap (list_any (has_in g.T.TableKey.key q))
    (sym (take_all i ts (omega (arith, c.loop-uses.auto.tables, c.loop-uses-test.false))))
    ∙ c.loop-uses.invariant.so_far q
    ∙ ap (λ (xs : List (TableUses _)). is_use_of_none c.args.members.now q && list_any (has_in g.T.TableKey.key q) xs)
    (take_all i old c.loop-uses-test.false))
