use Rattle.ent_protocol_laws.proofs.Frame.{Laws}
use Rattle.ent_protocol_laws.proofs.Present.{reached_apart, reached_present}
use Rattle.ent_protocol_laws.proofs.serial_law.lent_jobs_are_present.Goals as goal

pub returns-clause-apart : goal.returns-clause-apart
returns-clause-apart c h forms s faithful reached =
    let laws : Laws =
    record {
      reads = h.statements_keep_to_their_uses.ensures.reads;
      grounds = h.statements_keep_to_their_uses.ensures.grounds;
      changes = h.statements_keep_to_their_uses.ensures.changes;
      runs = h.statements_keep_to_their_uses.ensures.runs;
      goes_on = h.runs_go_on.ensures;
      closes = h.closing_keeps_the_meaning.ensures.meaning;
      closes_grounds = h.closing_keeps_the_meaning.ensures.grounds;
      closes_heads = h.closing_keeps_the_meaning.ensures.heads;
      closes_posts = h.closing_keeps_the_meaning.ensures.posts;
    } in
    reached_apart forms laws s faithful reached

pub returns-clause-present : goal.returns-clause-present
returns-clause-present c h forms s faithful reached =
    let laws : Laws =
    record {
      reads = h.statements_keep_to_their_uses.ensures.reads;
      grounds = h.statements_keep_to_their_uses.ensures.grounds;
      changes = h.statements_keep_to_their_uses.ensures.changes;
      runs = h.statements_keep_to_their_uses.ensures.runs;
      goes_on = h.runs_go_on.ensures;
      closes = h.closing_keeps_the_meaning.ensures.meaning;
      closes_grounds = h.closing_keeps_the_meaning.ensures.grounds;
      closes_heads = h.closing_keeps_the_meaning.ensures.heads;
      closes_posts = h.closing_keeps_the_meaning.ensures.posts;
    } in
    reached_present forms laws s faithful reached
