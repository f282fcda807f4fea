use Rattle.ent_meet.proofs.Written.{wrote_beginning, wrote_meeting}
use Rattle.ent_meet.proofs.meeting.meet.Goals as goal

pub returns-in-Ok-clause-report : goal.returns-in-Ok-clause-report
returns-in-Ok-clause-report g c =
    let meeting = c.in_ok-meeting.meeting in
    wrote_meeting _ _ _ c.in_ok-bytes.bytes.items c.as_slice.result.now meeting.text.items c.in-Ok.room meeting.room
    c.in_ok-bytes.ensures.whole c.as_slice.ensures.value c.in_ok-meeting.ensures.meeting c.in-Ok.ensures.room
    c.in-Ok.ensures.written

pub returns-clause-beginning : goal.returns-clause-beginning
returns-clause-beginning g c =
    let meeting = c.in_ok-meeting.meeting in
    wrote_beginning _ _ _ c.in_ok-bytes.bytes.items c.as_slice.result.now meeting.text.items meeting.room
    c.in_ok-bytes.ensures.whole c.as_slice.ensures.value c.in_ok-meeting.ensures.meeting c.in-Err.ensures.beginning
