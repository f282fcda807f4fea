use Rattle.std.proofs.Common.{not, List, refl, ap, subst}
use Rattle.ent_lock.specs.declared.table_uses.TableUses.{TableUses}
use Rattle.ent_lock.specs.Layout.{IsAt, IsGapFor}
use Rattle.ent_lock.specs.Holders.{is_no_holder}
use Rattle.ent_lock.proofs.Held.{by_key-set, removed_use, removed_nowhere, same_holder}
use Rattle.ent_lock.proofs.table_uses.remove_use.Goals as goal

pub returns-in-Ok-clause-by_key : goal.returns-in-Ok-clause-by_key
returns-in-Ok-clause-by_key g c =
    let at = subst (λ (ts : List (TableUses _)). IsAt g.T.TableKey.key ts (g.T.TableKey.key c.args.table.now)
    c.in-Ok.at) c.deref.ensures.value c.in-Ok.ensures.found in
    by_key-set g.T.TableKey.key c.args.tables.now.items c.in-Ok.at c.index_mut.result.now
    (record { table = c.index_mut.result.now.table; holders = c.remove_holder.new.holders }) c.requires at.in_range
    c.index_mut.ensures.value refl

pub returns-in-Ok-clause-held : goal.returns-in-Ok-clause-held
returns-in-Ok-clause-held g c =
    let at = subst (λ (ts : List (TableUses _)). IsAt g.T.TableKey.key ts (g.T.TableKey.key c.args.table.now)
    c.in-Ok.at) c.deref.ensures.value c.in-Ok.ensures.found in
    removed_use g.T.TableKey.key c.args.tables.now.items c.in-Ok.at c.index_mut.result.now
    (record { table = c.index_mut.result.now.table; holders = c.remove_holder.new.holders })
    (g.T.TableKey.key c.args.table.now) c.args.tx c.args.mode (is_no_holder c.args.tx c.args.mode) c.requires at
    c.index_mut.ensures.value refl
    (λ h. ap not (same_holder c.args.tx c.args.mode (g.T.TableKey.key c.args.table.now) h)) c.remove_holder.ensures

pub returns-in_default-clause-held : goal.returns-in_default-clause-held
returns-in_default-clause-held g c =
    removed_nowhere g.T.TableKey.key c.args.tables.now.items c.in_default.field-0 (g.T.TableKey.key c.args.table.now)
    c.args.tx c.args.mode
    (subst (λ (ts : List (TableUses _)). IsGapFor g.T.TableKey.key ts (g.T.TableKey.key c.args.table.now)
    c.in_default.field-0) c.deref.ensures.value c.in_default.ensures.missing)
