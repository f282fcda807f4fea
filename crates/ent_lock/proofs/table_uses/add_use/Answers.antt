use Rattle.std.proofs.Common.{◌≡◌, true, false, not, List, set, refl, sym, ap, subst, ◌∙◌}
use Rattle.std.specs.List.{list_any}
use Rattle.std.specs.FinSet as finite
use Rattle.ent_lock.specs.declared.table_uses.TableUses.{TableUses}
use Rattle.ent_lock.specs.Layout.{held_in, IsByKey, IsAt, IsGapFor}
use Rattle.ent_lock.specs.Holders.{is_holder}
use Rattle.ent_lock.proofs.Held.{the_use, is_held_here, insert_again, by_key-set, by_key-insert, kept_table, pushed_use}
use Rattle.ent_lock.proofs.Held.{inserted_use, Holds_nowhere, on_err}
use Rattle.ent_lock.proofs.table_uses.add_use.Goals as goal

pub returns-then-is_held-clause-ok : goal.returns-then-is_held-clause-ok
returns-then-is_held-clause-ok g c =
    let at = subst (λ (ts : List (TableUses _)). IsAt g.T.TableKey.key ts (g.T.TableKey.key c.args.table.now)
    c.in-Ok.at) c.deref.ensures.value c.in-Ok.ensures.found in
    let u = the_use c.args.tx (g.T.TableKey.key c.args.table.now) c.args.mode in
    let there : finite.contains (held_in g.T.TableKey.key c.args.tables.now.items) u ≡ true =
    is_held_here g.T.TableKey.key c.args.tables.now.items c.in-Ok.at c.index.result.now
    (g.T.TableKey.key c.args.table.now) c.args.tx c.args.mode c.requires at c.index.ensures
    ∙ ap (list_any (is_holder c.args.tx c.args.mode)) (sym c.deref-in-Ok.ensures.value) ∙ sym c.is_held.ensures
    ∙ c.if-is_held.true in
    insert_again (held_in g.T.TableKey.key c.args.tables.now.items) u there

pub returns-then-is_held-clause-is_new : goal.returns-then-is_held-clause-is_new
returns-then-is_held-clause-is_new g c =
    let at = subst (λ (ts : List (TableUses _)). IsAt g.T.TableKey.key ts (g.T.TableKey.key c.args.table.now)
    c.in-Ok.at) c.deref.ensures.value c.in-Ok.ensures.found in
    let u = the_use c.args.tx (g.T.TableKey.key c.args.table.now) c.args.mode in
    let there : finite.contains (held_in g.T.TableKey.key c.args.tables.now.items) u ≡ true =
    is_held_here g.T.TableKey.key c.args.tables.now.items c.in-Ok.at c.index.result.now
    (g.T.TableKey.key c.args.table.now) c.args.tx c.args.mode c.requires at c.index.ensures
    ∙ ap (list_any (is_holder c.args.tx c.args.mode)) (sym c.deref-in-Ok.ensures.value) ∙ sym c.is_held.ensures
    ∙ c.if-is_held.true in
    ap not (sym there)

pub returns-in_err-push-in-Ok-clause-by_key : goal.returns-in_err-push-in-Ok-clause-by_key
returns-in_err-push-in-Ok-clause-by_key g c =
    let at = subst (λ (ts : List (TableUses _)). IsAt g.T.TableKey.key ts (g.T.TableKey.key c.args.table.now)
    c.in-Ok.at) c.deref.ensures.value c.in-Ok.ensures.found in
    by_key-set g.T.TableKey.key c.args.tables.now.items c.in-Ok.at c.index_mut.result.now
    (record { table = c.index_mut.result.now.table; holders = c.push.new.self }) c.requires at.in_range
    c.index_mut.ensures.value refl

pub returns-in_err-push-in-Ok-clause-err : goal.returns-in_err-push-in-Ok-clause-err
returns-in_err-push-in-Ok-clause-err g c =
    let at = subst (λ (ts : List (TableUses _)). IsAt g.T.TableKey.key ts (g.T.TableKey.key c.args.table.now)
    c.in-Ok.at) c.deref.ensures.value c.in-Ok.ensures.found in
    on_err c.from_residual.result
    (held_in g.T.TableKey.key
    (set c.args.tables.now.items c.in-Ok.at
    (record { table = c.index_mut.result.now.table; holders = c.push.new.self })) ≡ held_in g.T.TableKey.key
    c.args.tables.now.items)
    (kept_table g.T.TableKey.key c.args.tables.now.items c.in-Ok.at c.index_mut.result.now
    (record { table = c.index_mut.result.now.table; holders = c.push.new.self }) at.in_range
    c.index_mut.ensures.value refl c.in_err-push-in-Ok.ensures.items)

pub returns-in_ok-push-in-Ok-clause-by_key : goal.returns-in_ok-push-in-Ok-clause-by_key
returns-in_ok-push-in-Ok-clause-by_key g c =
    let at = subst (λ (ts : List (TableUses _)). IsAt g.T.TableKey.key ts (g.T.TableKey.key c.args.table.now)
    c.in-Ok.at) c.deref.ensures.value c.in-Ok.ensures.found in
    by_key-set g.T.TableKey.key c.args.tables.now.items c.in-Ok.at c.index_mut.result.now
    (record { table = c.index_mut.result.now.table; holders = c.push.new.self }) c.requires at.in_range
    c.index_mut.ensures.value refl

pub returns-in_ok-push-in-Ok-clause-ok : goal.returns-in_ok-push-in-Ok-clause-ok
returns-in_ok-push-in-Ok-clause-ok g c =
    let at = subst (λ (ts : List (TableUses _)). IsAt g.T.TableKey.key ts (g.T.TableKey.key c.args.table.now)
    c.in-Ok.at) c.deref.ensures.value c.in-Ok.ensures.found in
    pushed_use g.T.TableKey.key c.args.tables.now.items c.in-Ok.at c.index_mut.result.now
    (record { table = c.index_mut.result.now.table; holders = c.push.new.self })
    (g.T.TableKey.key c.args.table.now) (record { holder = c.args.tx; mode = c.args.mode }) at c.index_mut.ensures.value
    refl c.in_ok-push-in-Ok.ensures.items

pub returns-in_ok-push-in-Ok-clause-is_new : goal.returns-in_ok-push-in-Ok-clause-is_new
returns-in_ok-push-in-Ok-clause-is_new g c =
    let at = subst (λ (ts : List (TableUses _)). IsAt g.T.TableKey.key ts (g.T.TableKey.key c.args.table.now)
    c.in-Ok.at) c.deref.ensures.value c.in-Ok.ensures.found in
    let u = the_use c.args.tx (g.T.TableKey.key c.args.table.now) c.args.mode in
    let absent : finite.contains (held_in g.T.TableKey.key c.args.tables.now.items) u ≡ false =
    is_held_here g.T.TableKey.key c.args.tables.now.items c.in-Ok.at c.index.result.now
    (g.T.TableKey.key c.args.table.now) c.args.tx c.args.mode c.requires at c.index.ensures
    ∙ ap (list_any (is_holder c.args.tx c.args.mode)) (sym c.deref-in-Ok.ensures.value) ∙ sym c.is_held.ensures
    ∙ c.if-is_held.false in
    ap not (sym absent)

pub returns-in_ok-insert-in-Err-clause-by_key : goal.returns-in_ok-insert-in-Err-clause-by_key
returns-in_ok-insert-in-Err-clause-by_key g c =
    let gap = subst (λ (ts : List (TableUses _)). IsGapFor g.T.TableKey.key ts (g.T.TableKey.key c.args.table.now)
    c.in-Err.at) c.deref.ensures.value c.in-Err.ensures.missing in
    let t : TableUses _ = record { table = c.in_ok-table-in-Err.table; holders = c.in_ok-holders-in-Err.holders } in
    subst (IsByKey g.T.TableKey.key) (sym c.in_ok-insert-in-Err.ensures.items)
    (by_key-insert g.T.TableKey.key c.args.tables.now.items c.in-Err.at t (g.T.TableKey.key c.args.table.now)
    c.requires gap (ap g.T.TableKey.key c.in_ok-table-in-Err.ensures))

pub returns-in_ok-insert-in-Err-clause-ok : goal.returns-in_ok-insert-in-Err-clause-ok
returns-in_ok-insert-in-Err-clause-ok g c =
    let t : TableUses _ = record { table = c.in_ok-table-in-Err.table; holders = c.in_ok-holders-in-Err.holders } in
    ap (held_in g.T.TableKey.key) c.in_ok-insert-in-Err.ensures.items
    ∙ inserted_use g.T.TableKey.key c.args.tables.now.items c.in-Err.at t (g.T.TableKey.key c.args.table.now)
    (record { holder = c.args.tx; mode = c.args.mode }) (ap g.T.TableKey.key c.in_ok-table-in-Err.ensures)
    c.in_ok-holders-in-Err.ensures.items

pub returns-in_ok-insert-in-Err-clause-is_new : goal.returns-in_ok-insert-in-Err-clause-is_new
returns-in_ok-insert-in-Err-clause-is_new g c =
    let gap = subst (λ (ts : List (TableUses _)). IsGapFor g.T.TableKey.key ts (g.T.TableKey.key c.args.table.now)
    c.in-Err.at) c.deref.ensures.value c.in-Err.ensures.missing in
    ap not (sym (Holds_nowhere g.T.TableKey.key c.args.tables.now.items c.in-Err.at (g.T.TableKey.key c.args.table.now)
    c.args.tx c.args.mode gap))
