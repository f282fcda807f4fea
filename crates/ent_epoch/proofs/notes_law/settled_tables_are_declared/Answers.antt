use Rattle.ent_protocol_laws.proofs.Frame.{Laws}
use Rattle.ent_epoch.proofs.Standing.{tables_declared}
use Rattle.ent_epoch.proofs.notes_law.settled_tables_are_declared.Goals as goal

pub returns : goal.returns
returns c = λ s formed reached.
    let laws : Laws =
    record {
      reads = c.statements_keep_to_their_uses.ensures.reads;
      grounds = c.statements_keep_to_their_uses.ensures.grounds;
      changes = c.statements_keep_to_their_uses.ensures.changes;
      runs = c.statements_keep_to_their_uses.ensures.runs;
      goes_on = c.runs_go_on.ensures;
      closes = c.closing_keeps_the_meaning.ensures.meaning;
      closes_grounds = c.closing_keeps_the_meaning.ensures.grounds;
      closes_heads = c.closing_keeps_the_meaning.ensures.heads;
      closes_posts = c.closing_keeps_the_meaning.ensures.posts;
    } in
    tables_declared laws s (c.resolved_forms_are_faithful.ensures s.opening formed) reached
