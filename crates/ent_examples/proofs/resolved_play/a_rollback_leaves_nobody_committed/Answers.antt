use Rattle.std.specs.Prelude.{◌++◌, codes}
use Rattle.ent_tree.specs.declared.script.End.TheVariants.{Commit, Rollback}
use Rattle.ent_headline.specs.Resolved.{resolved_forms}
use Rattle.ent_examples.specs.Partners.{partners_opening}
use Rattle.ent_examples.specs.Earlier.{job_outlives, next_attempt}
use Rattle.ent_examples.specs.Grown.{A_for_B, B_for_A}
use Rattle.ent_examples.specs.WrittenScripts.{posted, booking}
use Rattle.ent_examples.proofs.Led.{led}
use Rattle.ent_examples.proofs.resolved_play.a_rollback_leaves_nobody_committed.Goals as goal

pub returns : goal.returns
returns c =
    let one = booking 8 A_for_B (codes "A") Commit in
    let two = posted 8 B_for_A Rollback in
    let events = job_outlives one two ++ next_attempt in
    let found = c.job_outlives_its_attempt.ensures resolved_forms one two in
    let here = led (c.events_keep_the_input.ensures.opening resolved_forms) events found.0 found.1
    (c.plays_lead_on.ensures resolved_forms partners_opening events found.0 found.1) in (
      found.0,
      here,
      found.2,
      found.3,
      found.4,
      c.resolved_runs_are_legal.ensures found.0 here.faultless here.reached,
    )
