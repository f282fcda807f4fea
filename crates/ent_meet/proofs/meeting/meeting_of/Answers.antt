use Rattle.std.proofs.Common.{◌∙◌, ap}
use Rattle.std.proofs.lemmas.Result.{err_from_is_err_and}
use Rattle.ent_meet.specs.Text.{meeting_text}
use Rattle.ent_meet.proofs.Stopped.{stopped_is_not_met}
use Rattle.ent_meet.proofs.meeting.meeting_of.Goals as goal

pub returns-in-Ok-clause-meeting : goal.returns-in-Ok-clause-meeting
returns-in-Ok-clause-meeting c = (
  c.close.new.epochs.items,
  record {
    first = c.in_ok-room.room;
    opened = c.in_ok-room.ensures.opened;
    resting = c.rest.new.room;
    earlier = c.in_ok-epochs.epochs.items;
    rests = c.in_ok-epochs.ensures.rests;
    closes = c.in_ok-close.ensures.closes;
  },
  c.in-Ok.ensures ∙ ap (meeting_text c.close.new.room) c.as_slice.ensures.value,
)

pub returns-in_err-epochs-clause-refused : goal.returns-in_err-epochs-clause-refused
returns-in_err-epochs-clause-refused c =
    let p = err_from_is_err_and c.from_residual-in_err-epochs.result c.from_residual-in_err-epochs.ensures.1 in
    rw (p.1, p.2)
    (stopped_is_not_met c.args.bytes.now c.in_err-epochs.field-0.0 c.in_err-epochs.ensures.refused)

pub returns-in_err-close-clause-refused : goal.returns-in_err-close-clause-refused
returns-in_err-close-clause-refused c =
    let p = err_from_is_err_and c.from_residual-in_err-close.result c.from_residual-in_err-close.ensures.1 in
    rw (p.1, p.2)
    (stopped_is_not_met c.args.bytes.now c.in_err-close.field-0.0 c.in_err-close.ensures.refused)
