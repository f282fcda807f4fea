use Rattle.ent_match.proofs.Marks.{grows_more}
use Rattle.ent_match.proofs.link.mark_all.Goals as goal

pub rounds-preserved : goal.rounds-preserved
rounds-preserved c = grows_more c.args.links.now c.args.marks.now c.rounds.marks c.mark_once.new.marks
    c.rounds.invariant c.mark_once.ensures.grows

pub returns : goal.returns
returns c =
    record {
      grows = grows_more c.args.links.now c.args.marks.now c.rounds.marks c.mark_once.new.marks c.rounds.invariant
          c.mark_once.ensures.grows;
      closed = c.rounds-test.ensures.ends;
    }
