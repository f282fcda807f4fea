use Rattle.std.proofs.Common.{◌≡◌, ◌<◌, ◌++◌, ◌∙◌, [], ◌∷◌, sym, ap, subst, map, length, arith, All}
use Rattle.std.proofs.lemmas.List.{map-append, take_all}
use Rattle.std.proofs.lemmas.List.Elements.{All-push}
use Rattle.ent_unify.specs.Equation.{seen_equation, AreWithinBounds}
use Rattle.ent_unify.specs.Tuple.{term_side, tuple_equations}
use Rattle.ent_unify.proofs.Filled.{pushed_more}
use Rattle.ent_unify.proofs.Tuples.{length-columns}
use Rattle.ent_unify.proofs.unifier.push_equations.Goals as goal

pub loop-column-preserved : goal.loop-column-preserved
loop-column-preserved c =
    let es = tuple_equations c.args.left c.args.right in
    let all = length-columns (term_side c.args.left.member c.args.left.kinds.now)
    (term_side c.args.right.member c.args.right.kinds.now) c.args.left.terms.now c.args.right.terms.now
    c.requires.columns in
    let below : c.loop-column.column < length es = omega arith in
    let now = map seen_equation c.loop-column.equations.items in
    let e = seen_equation c.equation.result in
    let pushed : map seen_equation c.push.new.self.items ≡ now ++ e ∷ [] =
    ap (map seen_equation) c.in_ok-push.ensures.items ∙ map-append seen_equation c.loop-column.equations.items _ in
    record {
      pushed = pushed_more _ now _ es c.loop-column.column e below c.equation.ensures.value
          c.loop-column.invariant.pushed pushed;
      bound = subst (All AreWithinBounds) (sym pushed)
          (All-push AreWithinBounds now e c.loop-column.invariant.bound c.equation.ensures.bound);
    }

pub returns-clause-pushed : goal.returns-clause-pushed
returns-clause-pushed c =
    let es = tuple_equations c.args.left c.args.right in
    let all = length-columns (term_side c.args.left.member c.args.left.kinds.now)
    (term_side c.args.right.member c.args.right.kinds.now) c.args.left.terms.now c.args.right.terms.now
    c.requires.columns in
    c.loop-column.invariant.pushed
    ∙ ap (λ xs. map seen_equation c.args.equations.now.items ++ xs) (take_all c.loop-column.column es (omega arith))
