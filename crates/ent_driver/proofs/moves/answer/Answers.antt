use Rattle.std.proofs.Common.{refl}
use Rattle.ent_core.specs.Reply.{reply_seen}
use Rattle.ent_sched.specs.Passed.{resolved_forms}
use Rattle.ent_protocol.specs.Event.{Lent, Pick}
use Rattle.ent_protocol_laws.specs.Lending.{IsLentAlone}
use Rattle.ent_driver.proofs.moves.answer.Goals as goal

pub join_answer_at_once-requires-clause-alone : goal.join_answer_at_once-requires-clause-alone
join_answer_at_once-requires-clause-alone c =
    let lent = c.requires.lent in
    c.jobs_are_lent_by_replies.ensures.lent resolved_forms lent.before Pick (Lent c.args.done.job) c.args.core.now
    lent.none_lent lent.lends

pub join_answer_at_once-requires-clause-outstanding : goal.join_answer_at_once-requires-clause-outstanding
join_answer_at_once-requires-clause-outstanding c =
    let lent = c.requires.lent in
    let alone : IsLentAlone resolved_forms lent.before Pick c.args.done c.args.core.now =
    record { none_lent = lent.none_lent; lends = lent.lends } in
    c.results_are_taken_at_once.ensures.joint resolved_forms lent.before c.args.done c.args.core.now alone

pub returns-in-Ok-clause-ok : goal.returns-in-Ok-clause-ok
returns-in-Ok-clause-ok c =
    let lent = c.requires.lent in
    let s = c.args.core.now in
    let new = c.join_answer_at_once.new.self in
    let reply = reply_seen c.in-Ok.reply in
    let alone : IsLentAlone resolved_forms lent.before Pick c.args.done s =
    record { none_lent = lent.none_lent; lends = lent.lends } in
    let step = c.in-Ok.ensures.ok in
    record {
      done = c.args.done;
      of_job = refl;
      meant = c.requires.meaning;
      comes_in = step;
      taken = c.results_are_taken_at_once.ensures.joint_taken resolved_forms lent.before c.args.done s reply new alone
          step;
      none_lent = c.results_are_taken_at_once.ensures.joint_returned resolved_forms lent.before c.args.done s reply new
          alone step;
    }
