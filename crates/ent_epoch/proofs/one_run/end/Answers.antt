use Rattle.std.proofs.Common.{sym, subst}
use Rattle.ent_epoch.specs.Telling.{KeepsUp}
use Rattle.ent_protocol.specs.State.{State}
use Rattle.ent_epoch.proofs.one_run.end.Goals as goal

pub returns-in-Ok-clause-keeps_up : goal.returns-in-Ok-clause-keeps_up
returns-in-Ok-clause-keeps_up c =
    let before = c.args.telling.now in
    let behind = c.run_watched-ran.new.watcher in
    let s = c.new-counted.result.core in
    let new = c.run_watched-ran.new.counted.core in
    let all = c.run_watched-ran.ensures.watched.0 in
    let keeps = subst (λ (t : State). KeepsUp before t) (sym c.new-counted.ensures.core) c.requires.keeps_up in
    subst (λ (t : State). KeepsUp behind t) (sym c.into_parts-core.ensures.core)
    (c.tellings_keep_up.ensures.heard before s all.told behind new keeps all.through all.heard)

pub returns-in-Err-clause-handed_back_keeps_up : goal.returns-in-Err-clause-handed_back_keeps_up
returns-in-Err-clause-handed_back_keeps_up c =
    let before = c.args.telling.now in
    let behind = c.run_watched-ran.new.watcher in
    let s = c.new-counted.result.core in
    let new = c.run_watched-ran.new.counted.core in
    let all = c.run_watched-ran.ensures.watched.0 in
    let keeps = subst (λ (t : State). KeepsUp before t) (sym c.new-counted.ensures.core) c.requires.keeps_up in
    subst (λ (t : State). KeepsUp behind t) (sym c.into_parts-core.ensures.core)
    (c.tellings_keep_up.ensures.heard before s all.told behind new keeps all.through all.heard)
