use Rattle.std.proofs.Common.{map, ap, ◌∙◌}
use Rattle.ent_members.specs.Answered.{answer_tx}
use Rattle.ent_run.proofs.Answered.{joins_asked, together}
use Rattle.ent_run.proofs.run.Run.answer.Goals as goal

pub returns-clause-ok : goal.returns-clause-ok
returns-clause-ok c =
    together c.args.given.items c.as_slice-2.result.now c.args.self.now c.answer_active.new.self c.join.new.self
    (c.as_slice-2.ensures.value ∙ c.in_ok-numbers.ensures ∙ ap (map answer_tx) c.as_slice.ensures.value)
    c.in_ok-answer_active.ensures.prepared c.in_ok-answer_active.ensures.ok c.join.ensures

pub returns-clause-joining : goal.returns-clause-joining
returns-clause-joining c = λ s asked groundings is long.
    joins_asked c.args.given.items c.args.self.now c.join.new.self s asked groundings is long
    (together c.args.given.items c.as_slice-2.result.now c.args.self.now c.answer_active.new.self c.join.new.self
    (c.as_slice-2.ensures.value ∙ c.in_ok-numbers.ensures ∙ ap (map answer_tx) c.as_slice.ensures.value)
    c.in_ok-answer_active.ensures.prepared c.in_ok-answer_active.ensures.ok c.join.ensures)
