use Rattle.std.proofs.Common.{◌-◌, ◌∙◌, length, refl, rules, subst, sym}
use Rattle.ent_protocol_laws.specs.Idle.{IsIdleRound}
use Rattle.ent_protocol.specs.State.{members}
use Rattle.ent_core.specs.Passed.{resolved_forms}
use Rattle.ent_sched.specs.Bounds.{most_progress}
use Rattle.ent_sched.proofs.Counting.{AddUp, last_round_made, one_made, round_made}
use Rattle.ent_sched.proofs.Watched.{unwatched, watched_on}
use Rattle.ent_sched.proofs.rounds.counted_rounds.Goals as goal

pub returns-in_err-round_watched-clause-events : goal.returns-in_err-round_watched-clause-events
returns-in_err-round_watched-clause-events g c =
    let now = c.rounds in
    let adds : AddUp resolved_forms = record {
      joined = c.events_add_up.ensures.joined resolved_forms;
      widened = c.events_add_up.ensures.widened resolved_forms;
    } in
    last_round_made resolved_forms adds c.args.counted.now now.counted c.round_watched.new.counted now.progress.total _
    now.invariant.few now.invariant.within now.invariant.events c.round_watched.ensures.events

pub rounds-preserved : goal.rounds-preserved
rounds-preserved g c =
    let now = c.rounds in
    let first = c.args.counted.now in
    let adds : AddUp resolved_forms = record {
      joined = c.events_add_up.ensures.joined resolved_forms;
      widened = c.events_add_up.ensures.widened resolved_forms;
    } in
    let below = c.in_ok-round_watched.ensures.progress c.if-branch.true (length (members first.core))
    (most_progress first.core - now.progress.total) now.invariant.within in
    let made = one_made (length (members first.core)) (most_progress first.core) now.progress.total
    c.add.new.self.total c.round_watched.new.counted.core c.add.ensures.total below in
    record {
      whole = c.add.ensures.parts ∙ now.invariant.whole;
      none_lent = c.in_ok-round_watched.ensures.none_lent;
      few = made.0;
      within = made.1;
      events = round_made resolved_forms adds first now.counted c.round_watched.new.counted now.progress.total
          c.add.new.self.total _ c.add.ensures.total now.invariant.within now.invariant.events
          c.round_watched.ensures.events;
      watched = watched_on resolved_forms g.W.Watcher.hears first now.counted c.round_watched.new.counted
          c.args.watcher.now now.watcher c.round_watched.new.watcher now.invariant.watched
          c.round_watched.ensures.watched;
    }

pub returns-clause-events : goal.returns-clause-events
returns-clause-events g c =
    let now = c.rounds in
    let adds : AddUp resolved_forms = record {
      joined = c.events_add_up.ensures.joined resolved_forms;
      widened = c.events_add_up.ensures.widened resolved_forms;
    } in
    last_round_made resolved_forms adds c.args.counted.now now.counted c.round_watched.new.counted now.progress.total _
    now.invariant.few now.invariant.within now.invariant.events c.round_watched.ensures.events

pub returns-clause-idle : goal.returns-clause-idle
returns-clause-idle g c =
    let idle = c.in_ok-round_watched.ensures.idle c.if-branch.false in
    subst (IsIdleRound resolved_forms) (sym idle.0) idle.1

pub returns-in_err-round_watched-clause-watched : goal.returns-in_err-round_watched-clause-watched
returns-in_err-round_watched-clause-watched g c =
    let now = c.rounds in
    watched_on resolved_forms g.W.Watcher.hears c.args.counted.now now.counted c.round_watched.new.counted
    c.args.watcher.now now.watcher c.round_watched.new.watcher now.invariant.watched c.round_watched.ensures.watched

pub returns-clause-watched : goal.returns-clause-watched
returns-clause-watched g c =
    let now = c.rounds in
    watched_on resolved_forms g.W.Watcher.hears c.args.counted.now now.counted c.round_watched.new.counted
    c.args.watcher.now now.watcher c.round_watched.new.watcher now.invariant.watched c.round_watched.ensures.watched

pub rounds-init : goal.rounds-init
rounds-init g c =
    record {
      whole = search rules;
      none_lent = search rules;
      few = search rules;
      within = search rules;
      events = search rules;
      watched = unwatched resolved_forms g.W.Watcher.hears c.args.counted.now c.args.counted.now c.args.watcher.now
          c.args.watcher.now c.is_reached.ensures.bound refl refl;
    }
