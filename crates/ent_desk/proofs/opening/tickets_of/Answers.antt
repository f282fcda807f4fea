use Rattle.std.proofs.Common.{◌∙◌}
use Rattle.ent_desk.proofs.Opened.{tickets_taken}
use Rattle.ent_desk.proofs.opening.tickets_of.Goals as goal

pub loop-index-preserved : goal.loop-index-preserved
loop-index-preserved c =
    tickets_taken c.args.scripts.now c.loop-index.index c.index-scripts-index.result c.in_ok-script.script
    c.loop-index.tickets.items c.push.new.self.items c.loop-index-test.true c.loop-index.invariant
    (c.in_ok-script.ensures ∙ c.index-scripts-index.is) c.in_ok-push.ensures.items
