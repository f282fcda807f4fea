use Rattle.std.proofs.Common.{◌≡◌, ◌<◌, ◌+◌, arith, false}
use Rattle.ent_protocol_laws.specs.Tries.{tries_left}
use Rattle.ent_core.specs.Passed.{resolved_forms}
use Rattle.ent_sched.specs.Bounds.{events_of_rounds, run_start}
use Rattle.ent_sched.proofs.Counting.{AddUp, rounds_made, run_made}
use Rattle.ent_sched.proofs.Started.{on_ok}
use Rattle.ent_sched.proofs.Watched.{run_on}
use Rattle.ent_sched.proofs.one_run.run_watched.Goals as goal

pub returns-in_err-rounds-clause-events : goal.returns-in_err-rounds-clause-events
returns-in_err-rounds-clause-events g c =
    let adds : AddUp resolved_forms = record {
      joined = c.events_add_up.ensures.joined resolved_forms;
      widened = c.events_add_up.ensures.widened resolved_forms;
    } in
    let first = c.args.counted.now in
    let on = c.in_ok-start.ensures.on c.if-not-branch.false in
    adds.widened (events_of_rounds (run_start first.core) + 1) _ first c.rounds.new.counted (omega arith)
    (rounds_made resolved_forms adds first c.start.new.counted c.rounds.new.counted on.1 c.start.ensures.events
    c.rounds.ensures.events)

pub returns-clause-events : goal.returns-clause-events
returns-clause-events g c =
    let adds : AddUp resolved_forms = record {
      joined = c.events_add_up.ensures.joined resolved_forms;
      widened = c.events_add_up.ensures.widened resolved_forms;
    } in
    let first = c.args.counted.now in
    let on = c.in_ok-start.ensures.on c.if-not-branch.false in
    run_made resolved_forms adds first c.rounds.new.counted c.end.new.counted
    (rounds_made resolved_forms adds first c.start.new.counted c.rounds.new.counted on.1 c.start.ensures.events
    c.rounds.ensures.events) c.end.ensures.events

pub returns-clause-tries : goal.returns-clause-tries
returns-clause-tries g c =
    let first = c.args.counted.now.core in
    let middle = c.start.new.counted.core in
    let last = c.end.new.counted.core in
    let on = c.in_ok-start.ensures.on c.if-not-branch.false in
    let start = c.start.ensures.events in
    let before = c.events_use_up_tries.ensures resolved_forms start.count first middle c.is_reached.ensures.reached
    c.is_reached.ensures.asks start.leads_on in
    let rest = c.events_add_up.ensures.joined resolved_forms (events_of_rounds middle) 1 c.start.new.counted
    c.rounds.new.counted c.end.new.counted c.rounds.ensures.events c.end.ensures.events in
    let behind = c.events_use_up_tries.ensures resolved_forms rest.count middle last c.is_reached-2.ensures.reached
    c.is_reached-2.ensures.asks rest.leads_on in
    let fewer : last.running ≡ false → tries_left last < tries_left first =
    λ off. (let a = before.kept in let b = behind.used on.2 off in omega (arith, a, b)) in
    on_ok c.end.result (λ off undone. fewer off) c.end.ensures.ended

pub returns-clause-same : goal.returns-clause-same
returns-clause-same g c =
    let on = c.in_ok-start.ensures.on c.if-not-branch.false in
    on_ok c.end.result (λ off done. absurd (on.0 done)) c.end.ensures.ended

pub returns-in_err-rounds-clause-watched : goal.returns-in_err-rounds-clause-watched
returns-in_err-rounds-clause-watched g c =
    run_on resolved_forms g.W.Watcher.hears c.args.counted.now c.start.new.counted c.rounds.new.counted
    c.args.watcher.now c.start.new.watcher c.rounds.new.watcher c.start.ensures.watched c.rounds.ensures.watched

pub returns-clause-watched : goal.returns-clause-watched
returns-clause-watched g c =
    let first = c.args.counted.now in
    let middle = c.rounds.new.counted in
    let before = run_on resolved_forms g.W.Watcher.hears first c.start.new.counted middle c.args.watcher.now
    c.start.new.watcher c.rounds.new.watcher c.start.ensures.watched c.rounds.ensures.watched in
    run_on resolved_forms g.W.Watcher.hears first middle c.end.new.counted c.args.watcher.now
    c.rounds.new.watcher c.end.new.watcher before c.end.ensures.watched
