use Rattle.std.proofs.Common.{List, ap, refl, sym, ◌∙◌}
use Rattle.ent_run.specs.Run.{with_run}
use Rattle.ent_protocol.specs.State.{Use}
use Rattle.ent_protocol.specs.Uses.{blocker}
use Rattle.ent_waits.proofs.Moving.{free_at_end}
use Rattle.ent_waits.proofs.free.blocker_of.Goals as goal

pub returns-in-Some : goal.returns-in-Some
returns-in-Some c = λ s.
    c.statement_blocker.ensures s
    ∙ ap (λ (asked : List Use). blocker (with_run c.args.run.now s) c.args.member.now asked)
    (sym c.in-Some.ensures.uses)

pub returns-in-None : goal.returns-in-None
returns-in-None c = λ s.
    sym (free_at_end (with_run c.args.run.now s) c.args.member.now)
    ∙ ap (λ (asked : List Use). blocker (with_run c.args.run.now s) c.args.member.now asked)
    (sym (c.in-None.ensures.nothing refl))
