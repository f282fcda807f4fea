use Rattle.std.proofs.Common.{◌∙◌, ◌++◌, [], ◌∷◌, sym, ap, subst, map, take}
use Rattle.ent_plan.specs.Pairs.{PutsPairs, seen, seen_pair}
use Rattle.ent_plan.proofs.Pairing.{head_apart, head_met, pushed_pair, seen_more}
use Rattle.ent_plan.proofs.pair.push_pairs.Goals as goal
use Rattle.ent_plan.proofs.pair.push_pairs.Goals.{then-unifies+in_ok-push, else-unifies}

pub loop-head-preserved : goal.loop-head-preserved
loop-head-preserved c =
    let post = seen c.args.post in
    let heads = map seen (take c.loop-head.head-index c.args.heads.now) in
    let head = seen c.head-item.result in
    let old = map seen_pair c.args.pairs.now.items in
    let mid = map seen_pair c.loop-head.pairs.items in
    let new = map seen_pair c.if-unifies.pairs.items in
    let more = sym (seen_more c.args.heads.now c.loop-head.head-index c.head-item.result c.loop-head-test.true
    c.head-item.is) in
    subst (λ hs. PutsPairs post hs old new c.if-unifies.is_met) more
    (elim c.if-unifies.branch [
      | then-unifies+in_ok-push w ↦
          let pushed = pushed_pair c.loop-head.pairs.items c.if-unifies.pairs.items w.member_atom.result
          w.member_atom-then-unifies.result c.args.post c.head-item.result
          (ap (λ pairs. pairs.items) w.pairs-is ∙ w.in_ok-push.ensures.items) w.member_atom.ensures.member
          w.member_atom.ensures.atom w.member_atom-then-unifies.ensures.member
          w.member_atom-then-unifies.ensures.atom in
          subst (PutsPairs post (heads ++ head ∷ []) old new) (sym w.is_met-is)
          (head_met post heads head old mid new c.loop-head.is_met (c.unifies.ensures.unify.0 w.if-unifies.true) pushed
          c.loop-head.invariant)
      | else-unifies w ↦
          subst (PutsPairs post (heads ++ head ∷ []) old new) (sym w.is_met-is)
          (subst (λ pairs. PutsPairs post (heads ++ head ∷ []) old (map seen_pair pairs.items) c.loop-head.is_met)
          (sym w.pairs-is)
          (head_apart post heads head old mid c.loop-head.is_met (c.unifies.ensures.apart w.if-unifies.false)
          c.loop-head.invariant))
    ])
