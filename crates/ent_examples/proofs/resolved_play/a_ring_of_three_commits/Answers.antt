use Rattle.std.specs.Prelude.{◌++◌}
use Rattle.ent_tree.specs.declared.script.End.TheVariants.{Commit}
use Rattle.ent_headline.specs.Resolved.{resolved_forms}
use Rattle.ent_examples.specs.Partners.{partners_opening}
use Rattle.ent_examples.specs.Grown.{A_for_B, C_for_A}
use Rattle.ent_examples.specs.Ring.{B_for_C, ring_closes, ring_commits}
use Rattle.ent_examples.specs.WrittenScripts.{posted}
use Rattle.ent_examples.proofs.Led.{led}
use Rattle.ent_examples.proofs.resolved_play.a_ring_of_three_commits.Goals as goal

pub returns : goal.returns
returns c =
    let one = posted 8 A_for_B Commit in
    let two = posted 8 B_for_C Commit in
    let three = posted 8 C_for_A Commit in
    let events = ring_closes one two three ++ ring_commits in
    let found = c.ring_commits_together.ensures resolved_forms one two three in
    let here = led (c.events_keep_the_input.ensures.opening resolved_forms) events found.0 found.1
    (c.plays_lead_on.ensures resolved_forms partners_opening events found.0 found.1) in (
      found.0,
      here,
      found.2,
      found.3,
      found.4,
      c.resolved_runs_are_legal.ensures found.0 here.faultless here.reached,
    )
