use Rattle.ent_protocol_laws.proofs.Frame.{Laws}
use Rattle.ent_protocol_laws.proofs.GroupRuns.{reached_group_runs, reached_settled}
use Rattle.ent_protocol_laws.proofs.serial_law.groups_run_alone.Goals as goal

pub returns-clause-runs : goal.returns-clause-runs
returns-clause-runs c h forms s group faithful reached =
    let laws : Laws =
    record {
      reads = h.statements_keep_to_their_uses.ensures.reads;
      grounds = h.statements_keep_to_their_uses.ensures.grounds;
      changes = h.statements_keep_to_their_uses.ensures.changes;
      runs = h.statements_keep_to_their_uses.ensures.runs;
      goes_on = h.runs_go_on.ensures;
      closes = h.closing_keeps_the_meaning.ensures.meaning;
      closes_grounds = h.closing_keeps_the_meaning.ensures.grounds;
      closes_heads = h.closing_keeps_the_meaning.ensures.heads;
      closes_posts = h.closing_keeps_the_meaning.ensures.posts;
    } in
    reached_group_runs forms laws s faithful reached group

pub returns-clause-settled : goal.returns-clause-settled
returns-clause-settled c h forms s faithful reached =
    let laws : Laws =
    record {
      reads = h.statements_keep_to_their_uses.ensures.reads;
      grounds = h.statements_keep_to_their_uses.ensures.grounds;
      changes = h.statements_keep_to_their_uses.ensures.changes;
      runs = h.statements_keep_to_their_uses.ensures.runs;
      goes_on = h.runs_go_on.ensures;
      closes = h.closing_keeps_the_meaning.ensures.meaning;
      closes_grounds = h.closing_keeps_the_meaning.ensures.grounds;
      closes_heads = h.closing_keeps_the_meaning.ensures.heads;
      closes_posts = h.closing_keeps_the_meaning.ensures.posts;
    } in
    reached_settled forms laws s faithful reached
