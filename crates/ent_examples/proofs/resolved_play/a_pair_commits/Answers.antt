use Rattle.ent_headline.specs.Resolved.{resolved_forms}
use Rattle.ent_examples.specs.Partners.{partners_opening, partners_pass}
use Rattle.ent_examples.specs.WrittenScripts.{partners}
use Rattle.ent_examples.proofs.Led.{led}
use Rattle.ent_examples.proofs.resolved_play.a_pair_commits.Goals as goal

pub returns : goal.returns
returns c =
    let events = partners_pass partners in
    let found = c.partner_passes_a_prepared_lock.ensures resolved_forms partners in
    let here = led (c.events_keep_the_input.ensures.opening resolved_forms) events found.0 found.1
    (c.plays_lead_on.ensures resolved_forms partners_opening events found.0 found.1) in (
      found.0,
      here,
      found.3,
      found.4,
      c.resolved_runs_are_legal.ensures found.0 here.faultless here.reached,
    )
