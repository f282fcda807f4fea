use Rattle.std.proofs.Common.{refl}
use Rattle.ent_headline.specs.Resolved.{resolved_forms}
use Rattle.ent_headline.specs.Setting.{bare_opening, setter_commits}
use Rattle.ent_headline.proofs.Setting.{last, played}
use Rattle.ent_headline.proofs.run.a_resolved_script_commits.Goals as goal

pub returns : goal.returns
returns c = (
  last,
  played,
  refl,
  c.plays_lead_on.ensures resolved_forms bare_opening setter_commits last played,
  refl,
)
