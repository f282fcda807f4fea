use Rattle.ent_protocol_laws.proofs.Frame.{Laws}
use Rattle.ent_protocol_laws.proofs.GroupAnswers.{reached_answers, reached_groups}
use Rattle.ent_protocol_laws.proofs.serial_law.live_answers_are_good_in_groups.Goals as goal

pub returns-clause-one_group : goal.returns-clause-one_group
returns-clause-one_group c h forms s faithful reached =
    let laws : Laws =
    record {
      reads = h.statements_keep_to_their_uses.ensures.reads;
      grounds = h.statements_keep_to_their_uses.ensures.grounds;
      changes = h.statements_keep_to_their_uses.ensures.changes;
      runs = h.statements_keep_to_their_uses.ensures.runs;
      goes_on = h.runs_go_on.ensures;
      closes = h.closing_keeps_the_meaning.ensures.meaning;
      closes_grounds = h.closing_keeps_the_meaning.ensures.grounds;
      closes_heads = h.closing_keeps_the_meaning.ensures.heads;
      closes_posts = h.closing_keeps_the_meaning.ensures.posts;
    } in
    reached_groups forms laws s faithful reached

pub returns-clause-good : goal.returns-clause-good
returns-clause-good c h forms s group faithful reached =
    let laws : Laws =
    record {
      reads = h.statements_keep_to_their_uses.ensures.reads;
      grounds = h.statements_keep_to_their_uses.ensures.grounds;
      changes = h.statements_keep_to_their_uses.ensures.changes;
      runs = h.statements_keep_to_their_uses.ensures.runs;
      goes_on = h.runs_go_on.ensures;
      closes = h.closing_keeps_the_meaning.ensures.meaning;
      closes_grounds = h.closing_keeps_the_meaning.ensures.grounds;
      closes_heads = h.closing_keeps_the_meaning.ensures.heads;
      closes_posts = h.closing_keeps_the_meaning.ensures.posts;
    } in
    reached_answers forms laws s faithful reached group
