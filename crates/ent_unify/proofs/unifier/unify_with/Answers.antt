use Rattle.std.proofs.Common.{◌∙◌, sym, ap, subst, map}
use Rattle.std.proofs.lemmas.Result.{IfOk-weaker}
use Rattle.ent_unify.specs.Equation.{seen_equation}
use Rattle.ent_unify.specs.Unifier.{kinds_seen, AreEquationsOf}
use Rattle.ent_unify.proofs.Pairs.{unified}
use Rattle.ent_unify.proofs.unifier.unify_with.Goals as goal

pub returns : goal.returns
returns c =
    let K = kinds_seen c.args.kinds.now in
    let are = rw c.in-Some.is at c.in_ok-equations.ensures in
    let copied = c.as_slice-2.ensures.value ∙ (c.in_ok-given.ensures.items ∙ c.as_slice.ensures.value) in
    IfOk-weaker c.unifier_of.result _ _
    (λ o. unified K c.args.pairs.now _ o
    (subst (AreEquationsOf K c.args.pairs.now) (ap (map seen_equation) (sym copied)) are)) c.unifier_of.ensures
