use Rattle.std.proofs.Common.{rules, ◌≡◌, ◌<◌, length, slice_index_or}
use Rattle.ent_history.specs.declared.finding.Thing.TheVariants.{Transaction}
use Rattle.ent_report_reader.specs.declared.located.Located.{Located}
use Rattle.ent_report_reader.proofs.ThingLines.{found_here}
use Rattle.ent_report_reader.proofs.located.line_in.Goals as goal

pub returns-then-eq-clause-some : goal.returns-then-eq-clause-some
returns-then-eq-clause-some c =
    let other : Located = record { thing = Transaction 0; line = 0 } in
    let here : c.loop-located.located-index < length c.args.lines.now = search rules in
    let same : (slice_index_or c.args.lines.now c.loop-located.located-index other).thing ≡ c.args.thing =
    search rules in
    found_here c.args.lines.now c.args.thing c.loop-located.located-index other here same
