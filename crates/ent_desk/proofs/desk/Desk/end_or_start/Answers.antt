use Rattle.std.proofs.Common.{◌≡◌, ◌∙◌, ap, sym, true, false}
use Rattle.ent_desk.specs.Seen.{DeskState}
use Rattle.ent_desk.proofs.Advancing.{ends_advance, starts_advance}
use Rattle.ent_desk.proofs.desk.Desk.end_or_start.Goals as goal

pub returns-then-running-clause-ok : goal.returns-then-running-clause-ok
returns-then-running-clause-ok g c =
    let old = c.args.self.now in
    let on : old.core.running ≡ true =
    sym (ap (λ (d : DeskState). d.core.running) c.self.view_is) ∙ (sym c.running.ensures ∙ c.if-running.true) in
    ends_advance c.end_run.result old c.end_run.new.self on c.requires.still c.end_run.ensures.ok

pub returns-else-running-clause-ok : goal.returns-else-running-clause-ok
returns-else-running-clause-ok g c =
    let old = c.args.self.now in
    let off : old.core.running ≡ false =
    sym (ap (λ (d : DeskState). d.core.running) c.self.view_is) ∙ (sym c.running.ensures ∙ c.if-running.false) in
    starts_advance c.start_run.result old c.start_run.new.self off c.requires.still c.start_run.ensures.ok
