use Rattle.std.proofs.Common.{◌<◌, length, get_or, arith}
use Rattle.std.proofs.lemmas.List.{get_or_default}
use Rattle.ent_unify.specs.Side.{seen, single}
use Rattle.ent_unify.specs.Equation.{seen_equation, resolved_both}
use Rattle.ent_unify.proofs.Places.{image_more}
use Rattle.ent_unify.proofs.equation.substitute.Goals as goal

pub loop-equation-preserved : goal.loop-equation-preserved
loop-equation-preserved c =
    let es = c.loop-equation.equations in
    let i = c.loop-equation.equation-index in
    let e = get_or es i c.equation-item.result in
    let within : i < length es = omega arith in
    image_more seen_equation (resolved_both (single c.args.variable (seen c.args.by))) c.args.equations.now
    es i e c.substituted.result (omega arith) within c.loop-equation.invariant
    (get_or_default es i c.equation-item.result e within) c.substituted.ensures
