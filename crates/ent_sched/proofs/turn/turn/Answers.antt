use Rattle.std.proofs.Common.{refl, arith, rules}
use Rattle.ent_core.specs.Begin.{begin_refusal_seen}
use Rattle.ent_protocol.specs.Event.{Begin}
use Rattle.ent_core.specs.Passed.{resolved_forms}
use Rattle.ent_sched.proofs.Watched.{one_watched, unwatched}
use Rattle.ent_sched.proofs.turn.turn.Goals as goal

pub returns-in-Blocked-clause-events : goal.returns-in-Blocked-clause-events
returns-in-Blocked-clause-events g c =
    let first = c.args.counted.now in
    let last = c.refuse_begin.new.self in
    c.events_add_up.ensures.widened resolved_forms 1 2 first last (omega arith)
    (c.events_add_up.ensures.one resolved_forms (Begin c.args.tx) (begin_refusal_seen c.in-Err.refusal) first last
    c.refuse_begin.ensures.made refl)

pub returns-in-Blocked-clause-watched : goal.returns-in-Blocked-clause-watched
returns-in-Blocked-clause-watched g c =
    one_watched resolved_forms g.W.Watcher.hears (Begin c.args.tx) (begin_refusal_seen c.in-Err.refusal)
    c.args.counted.now c.refuse_begin.new.self c.args.watcher.now c.refuse_begin.new.watcher
    c.refuse_begin.ensures.made c.refuse_begin.ensures.told (λ e. cc)

pub returns-in_default : goal.returns-in_default
returns-in_default g c =
    record {
      events = search rules;
      watched = unwatched resolved_forms g.W.Watcher.hears c.args.counted.now c.args.counted.now c.args.watcher.now
          c.args.watcher.now c.is_reached.ensures.bound refl refl;
      none_lent = search rules;
      progress = search rules;
      idle = search rules;
    }
