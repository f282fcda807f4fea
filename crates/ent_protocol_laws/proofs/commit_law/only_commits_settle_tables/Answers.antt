use Rattle.ent_protocol_laws.proofs.Frame.{Laws}
use Rattle.ent_protocol_laws.proofs.Settled.{all_stay_settled, stays_settled}
use Rattle.ent_protocol_laws.proofs.commit_law.only_commits_settle_tables.Goals as goal

pub returns-clause-one : goal.returns-clause-one
returns-clause-one g c forms s event reply new faithful reached step none =
    let laws : Laws =
    record {
      reads = c.statements_keep_to_their_uses.ensures.reads;
      grounds = c.statements_keep_to_their_uses.ensures.grounds;
      changes = c.statements_keep_to_their_uses.ensures.changes;
      runs = c.statements_keep_to_their_uses.ensures.runs;
      goes_on = c.runs_go_on.ensures;
      closes = c.closing_keeps_the_meaning.ensures.meaning;
      closes_grounds = c.closing_keeps_the_meaning.ensures.grounds;
      closes_heads = c.closing_keeps_the_meaning.ensures.heads;
      closes_posts = c.closing_keeps_the_meaning.ensures.posts;
    } in
    stays_settled forms laws s faithful reached event reply new step none

pub returns-clause-all : goal.returns-clause-all
returns-clause-all g c forms s last told faithful reached played none =
    let laws : Laws =
    record {
      reads = c.statements_keep_to_their_uses.ensures.reads;
      grounds = c.statements_keep_to_their_uses.ensures.grounds;
      changes = c.statements_keep_to_their_uses.ensures.changes;
      runs = c.statements_keep_to_their_uses.ensures.runs;
      goes_on = c.runs_go_on.ensures;
      closes = c.closing_keeps_the_meaning.ensures.meaning;
      closes_grounds = c.closing_keeps_the_meaning.ensures.grounds;
      closes_heads = c.closing_keeps_the_meaning.ensures.heads;
      closes_posts = c.closing_keeps_the_meaning.ensures.posts;
    } in
    all_stay_settled forms laws (c.steps_go_on.ensures forms) s last told faithful reached played none
