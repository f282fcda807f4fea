use Rattle.std.proofs.Common.{refl}
use Rattle.ent_core.specs.Reply.{reply_seen}
use Rattle.ent_sched.specs.Passed.{resolved_forms}
use Rattle.ent_protocol.specs.Event.{Begin, Lent}
use Rattle.ent_protocol_laws.specs.Lending.{IsLentAlone}
use Rattle.ent_driver.proofs.moves.finish.Goals as goal

pub finish_at_once-requires : goal.finish_at_once-requires
finish_at_once-requires c =
    let lent = c.requires.lent.1 in
    c.jobs_are_lent_by_replies.ensures.lent resolved_forms lent.before (Begin c.requires.lent.0)
    (Lent c.args.done.job) c.args.core.now lent.none_lent lent.lends

pub returns-in-Ok-clause-ok : goal.returns-in-Ok-clause-ok
returns-in-Ok-clause-ok c = λ tx.
    let first = c.requires.lent.0 in
    let lent = c.requires.lent.1 in
    let s = c.args.core.now in
    let new = c.finish_at_once.new.self in
    let reply = reply_seen c.in-Ok.reply in
    let alone : IsLentAlone resolved_forms lent.before (Begin first) c.args.done s =
    record { none_lent = lent.none_lent; lends = lent.lends } in
    let step = c.in-Ok.ensures.ok in
    record {
      done = c.args.done;
      of_job = refl;
      meant = c.requires.meaning;
      comes_in = step;
      taken = c.results_are_taken_at_once.ensures.single_taken resolved_forms lent.before first c.args.done s reply new
          alone step;
      none_lent = c.results_are_taken_at_once.ensures.single_returned resolved_forms lent.before first c.args.done s
          reply new alone step;
    }
