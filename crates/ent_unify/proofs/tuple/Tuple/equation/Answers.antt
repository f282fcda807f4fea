use Rattle.std.proofs.Common.{◌∙◌, get_or}
use Rattle.std.proofs.lemmas.List.{get_or_default}
use Rattle.ent_unify.specs.Tuple.{term_side}
use Rattle.ent_unify.proofs.Tuples.{column_at}
use Rattle.ent_unify.proofs.tuple.Tuple.equation.Goals as goal

pub returns-clause-value : goal.returns-clause-value
returns-clause-value c =
    let ts = c.args.self.terms.now in
    let us = c.args.other.terms.now in
    let n = c.args.column in
    let t = get_or ts n c.index-self-column.result in
    let u = get_or us n c.index-other-column.result in
    (λ i. (c.side.ensures.value i, c.side-2.ensures.value i))
    ∙ column_at (term_side c.args.self.member c.args.self.kinds.now)
    (term_side c.args.other.member c.args.other.kinds.now)
    ts us n t u _ c.requires.left c.requires.right (get_or_default ts n c.index-self-column.result t c.requires.left)
    (get_or_default us n c.index-other-column.result u c.requires.right)
