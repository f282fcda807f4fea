use Rattle.std.specs.Prelude.{◌++◌}
use Rattle.ent_tree.specs.declared.script.End.TheVariants.{Commit}
use Rattle.ent_headline.specs.Resolved.{resolved_forms}
use Rattle.ent_examples.specs.Partners.{partners_opening}
use Rattle.ent_examples.specs.HeldBack.{holds_back, mickey, minnie, posts_later}
use Rattle.ent_examples.specs.WrittenScripts.{posted}
use Rattle.ent_examples.proofs.Led.{led}
use Rattle.ent_examples.proofs.resolved_play.an_unsafe_third_posts_later.Goals as goal

pub returns : goal.returns
returns c =
    let one = posted 8 mickey Commit in
    let two = posted 8 minnie Commit in
    let third = posted 1 minnie Commit in
    let events = holds_back one two third ++ posts_later in
    let found = c.third_is_held_back.ensures resolved_forms one two third in
    let here = led (c.events_keep_the_input.ensures.opening resolved_forms) events found.0 found.1
    (c.plays_lead_on.ensures resolved_forms partners_opening events found.0 found.1) in (
      found.0,
      here,
      found.2,
      found.3,
      c.resolved_runs_are_legal.ensures found.0 here.faultless here.reached,
    )
