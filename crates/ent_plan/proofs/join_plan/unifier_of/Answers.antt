use Rattle.std.proofs.Common.{◌∙◌, sym, ap, subst, map, List}
use Rattle.std.proofs.lemmas.Result.{IfOk-weaker}
use Rattle.ent_unify.specs.Unifier.{kinds_seen}
use Rattle.ent_unify.specs.declared.unifier.MemberAtom.{MemberAtom}
use Rattle.ent_plan.specs.Pairs.{ArePairs, HasLonePost, seen, seen_pair, placed_heads}
use Rattle.ent_plan.proofs.Meeting.{none_from_lone, told}
use Rattle.ent_plan.proofs.join_plan.unifier_of.Goals as goal

pub returns-in_default : goal.returns-in_default
returns-in_default c =
    let posts = ap (map seen) c.as_slice.ensures.value ∙ c.in_ok-posts.ensures in
    let heads = ap (map seen) c.as_slice-2.ensures.value ∙ c.in_ok-heads.ensures in
    let lone = rw c.in_default.is at c.in_ok-pairs.ensures in
    none_from_lone c.args.members.now c.requires.one c.requires.safe c.requires.heads
    (subst (λ ps. HasLonePost ps (placed_heads c.args.members.now)) posts
    (subst (λ hs. HasLonePost (map seen c.as_slice.result.now) hs) heads lone))

pub returns : goal.returns
returns c =
    let posts = ap (map seen) c.as_slice.ensures.value ∙ c.in_ok-posts.ensures in
    let heads = ap (map seen) c.as_slice-2.ensures.value ∙ c.in_ok-heads.ensures in
    let are = rw c.in-Some.is at c.in_ok-pairs.ensures in
    let pairs = sym c.as_slice-3.ensures.value in
    IfOk-weaker c.unify.result _ _
    (told c.args.members.now c.requires.one c.requires.safe c.requires.heads (kinds_seen c.args.kinds.now)
    c.requires.kinds c.as_slice-3.result.now
    (subst (λ ps. ArePairs ps (placed_heads c.args.members.now) (map seen_pair c.as_slice-3.result.now)) posts
    (subst (λ hs. ArePairs (map seen c.as_slice.result.now) hs (map seen_pair c.as_slice-3.result.now)) heads
    (subst (λ (xs : List (MemberAtom × MemberAtom)). ArePairs (map seen c.as_slice.result.now)
    (map seen c.as_slice-2.result.now) (map seen_pair xs)) pairs are))))
    c.unify.ensures
