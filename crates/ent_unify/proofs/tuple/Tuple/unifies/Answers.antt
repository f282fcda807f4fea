use Rattle.std.proofs.Common.{◌<◌, ◌∙◌, length, length-set, arith}
use Rattle.std.proofs.lemmas.List.{get_or_default}
use Rattle.ent_unify.specs.Equation.{IsAtPlace}
use Rattle.ent_unify.specs.Tuple.{term_side, tuple_equations}
use Rattle.ent_unify.proofs.Filled.{filled_bounds, filled_is, decided}
use Rattle.ent_unify.proofs.Places.{written_more}
use Rattle.ent_unify.proofs.Tuples.{length-columns}
use Rattle.ent_unify.proofs.tuple.Tuple.unifies.Goals as goal

pub loop-column-preserved : goal.loop-column-preserved
loop-column-preserved c =
    let es = tuple_equations c.args.self c.args.other in
    let n = c.loop-column.column in
    let all = length-columns (term_side c.args.self.member c.args.self.kinds.now)
    (term_side c.args.other.member c.args.other.kinds.now) c.args.self.terms.now c.args.other.terms.now
    c.requires.columns in
    let below : n < length es = omega arith in
    record {
      room = omega (arith, length-set c.loop-column.equations n c.equation.result);
      so_far = written_more (IsAtPlace es) c.loop-column.equations n c.equation.result (omega arith)
          c.loop-column.invariant.so_far
          (λ d. c.equation.ensures.value ∙ get_or_default es n _ d below, c.equation.ensures.bound);
    }

pub solve-requires : goal.solve-requires
solve-requires c =
    filled_bounds (tuple_equations c.args.self c.args.other) c.loop-column.equations (length c.args.self.terms.now)
    (omega arith) (λ k d below. c.loop-column.invariant.so_far k d (omega arith))

pub returns : goal.returns
returns c =
    let es = tuple_equations c.args.self c.args.other in
    let all = length-columns (term_side c.args.self.member c.args.self.kinds.now)
    (term_side c.args.other.member c.args.other.kinds.now) c.args.self.terms.now c.args.other.terms.now
    c.requires.columns in
    decided es _ _ _ c.solve.result
    (filled_is es c.loop-column.equations (length c.args.self.terms.now) (omega arith)
    (λ k d below. c.loop-column.invariant.so_far k d (omega arith)) all)
    c.solve.ensures
