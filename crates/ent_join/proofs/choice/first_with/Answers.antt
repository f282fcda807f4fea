use Rattle.std.proofs.Common.{length}
use Rattle.std.specs.Prelude.{is_some}
use Rattle.ent_join.proofs.Steps.{ticks_added}
use Rattle.ent_join.proofs.choice.first_with.Goals as goal

pub returns-clause-ticks : goal.returns-clause-ticks
returns-clause-ticks c = λ laid member are alone asks.
    ticks_added (length member.statement.variables) c.args.ticks.now c.new-counted.result c.counted_choice.new.ticks
    c.add_ticks.new.ticks (is_some c.in_ok-choice.choice) c.new-counted.ensures
    (c.in_ok-choice.ensures.ticks laid member are alone asks) c.add_ticks.ensures.sum c.add_ticks.ensures.same
