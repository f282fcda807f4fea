use Rattle.ent_protocol_laws.proofs.SerialStates.{reached_serial}
use Rattle.ent_protocol_laws.proofs.Frame.{Laws}
use Rattle.ent_protocol_laws.proofs.serial_law.reached_states_are_serial.Goals as goal

pub returns : goal.returns
returns c h forms s faithful reached =
    let laws : Laws =
    record {
      reads = h.statements_keep_to_their_uses.ensures.reads;
      grounds = h.statements_keep_to_their_uses.ensures.grounds;
      changes = h.statements_keep_to_their_uses.ensures.changes;
      runs = h.statements_keep_to_their_uses.ensures.runs;
      goes_on = h.runs_go_on.ensures;
      closes = h.closing_keeps_the_meaning.ensures.meaning;
      closes_grounds = h.closing_keeps_the_meaning.ensures.grounds;
      closes_heads = h.closing_keeps_the_meaning.ensures.heads;
      closes_posts = h.closing_keeps_the_meaning.ensures.posts;
    } in
    reached_serial forms laws s faithful reached
