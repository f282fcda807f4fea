use Rattle.ent_protocol_laws.proofs.Frame.{Laws}
use Rattle.ent_protocol_laws.proofs.Once.{reached_once, reached_no_other}
use Rattle.ent_protocol_laws.proofs.serial_law.entangled_statements_are_answered_once.Goals as goal

pub returns-clause-once : goal.returns-clause-once
returns-clause-once c h forms s tx place faithful reached asked =
    let laws : Laws =
    record {
      reads = h.statements_keep_to_their_uses.ensures.reads;
      grounds = h.statements_keep_to_their_uses.ensures.grounds;
      changes = h.statements_keep_to_their_uses.ensures.changes;
      runs = h.statements_keep_to_their_uses.ensures.runs;
      goes_on = h.runs_go_on.ensures;
      closes = h.closing_keeps_the_meaning.ensures.meaning;
      closes_grounds = h.closing_keeps_the_meaning.ensures.grounds;
      closes_heads = h.closing_keeps_the_meaning.ensures.heads;
      closes_posts = h.closing_keeps_the_meaning.ensures.posts;
    } in
    reached_once forms laws s faithful reached tx place asked

pub returns-clause-nothing_else : goal.returns-clause-nothing_else
returns-clause-nothing_else c h forms s faithful reached =
    let laws : Laws =
    record {
      reads = h.statements_keep_to_their_uses.ensures.reads;
      grounds = h.statements_keep_to_their_uses.ensures.grounds;
      changes = h.statements_keep_to_their_uses.ensures.changes;
      runs = h.statements_keep_to_their_uses.ensures.runs;
      goes_on = h.runs_go_on.ensures;
      closes = h.closing_keeps_the_meaning.ensures.meaning;
      closes_grounds = h.closing_keeps_the_meaning.ensures.grounds;
      closes_heads = h.closing_keeps_the_meaning.ensures.heads;
      closes_posts = h.closing_keeps_the_meaning.ensures.posts;
    } in
    reached_no_other forms laws s faithful reached
