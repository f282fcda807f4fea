use Rattle.ent_match.specs.Components.{joins_of}
use Rattle.ent_match.proofs.Labelled.{lowers_more, lowers_none}
use Rattle.ent_match.proofs.label.lower_all.Goals as goal

pub rounds-init : goal.rounds-init
rounds-init c = lowers_none (joins_of c.args.links.now c.args.removed.now) c.args.labels.now

pub rounds-preserved : goal.rounds-preserved
rounds-preserved c =
    lowers_more (joins_of c.args.links.now c.args.removed.now) c.args.labels.now c.rounds.labels
    c.lower_once.new.labels
    c.rounds.invariant c.lower_once.ensures.lowers

pub returns : goal.returns
returns c =
    record {
      lowers = lowers_more (joins_of c.args.links.now c.args.removed.now) c.args.labels.now c.rounds.labels
          c.lower_once.new.labels
          c.rounds.invariant c.lower_once.ensures.lowers;
      level = c.rounds-test.ensures.ends;
    }
