use Rattle.std.proofs.Common.{length, sym, arith, ◌∙◌}
use Rattle.ent_lists.specs.Elements.{same_number}
use Rattle.ent_run.proofs.asker.label_beside.Goals as goal

pub returns-then-is_empty : goal.returns-then-is_empty
returns-then-is_empty c = λ other there.
    let within = there.1 in
    let none = same_number (length c.args.prepared.now) 0 (sym c.is_empty.ensures ∙ c.if-is_empty.true) in
    absurd (omega (arith, within, none))
