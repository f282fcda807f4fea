use Rattle.std.proofs.Common.{◌∙◌, arith}
use Rattle.ent_bound.proofs.Steps.{fault_there, none_there}
use Rattle.ent_bound.proofs.binding.first_fault.Goals as goal

pub returns-in-Some : goal.returns-in-Some
returns-in-Some c =
    fault_there c.args.script.now c.args.variables.now c.loop-number.number c.index-variables-number.result
    c.in-Some.fault (omega arith) c.index-variables-number.is c.in-Some.ensures
    ∙ c.loop-number.invariant

pub loop-number-preserved : goal.loop-number-preserved
loop-number-preserved c =
    none_there c.args.script.now c.args.variables.now c.loop-number.number c.index-variables-number.result
    (omega arith) c.index-variables-number.is c.in_default.ensures
    ∙ c.loop-number.invariant
