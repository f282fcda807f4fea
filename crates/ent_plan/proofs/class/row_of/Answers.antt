use Rattle.std.proofs.Common.{◌<◌, length, get_or, refl, sym, ap, subst, List, []}
use Rattle.ent_value.specs.declared.value.Kind.{Kind}
use Rattle.ent_value.specs.declared.value.Kind.TheVariants as kinds
use Rattle.ent_unify.specs.Unifier.{kinds_seen}
use Rattle.ent_unify.specs.declared.variable.Variable.{Variable as Variables}
use Rattle.ent_plan.proofs.Rows.{row_more, kinds_at}
use Rattle.ent_plan.proofs.class.row_of.Goals as goal

pub loop-index-preserved : goal.loop-index-preserved
loop-index-preserved c =
    let K = kinds_seen c.args.kinds.now in
    let m = c.args.member in
    let n = c.loop-index.index in
    let at = sym (kinds_at c.args.kinds.now m _ refl) in
    let below : n < length (get_or K m []) = subst (λ (ks : List Kind). n < length ks) at c.loop-index-test.true in
    let variable = λ (ks : List Kind).
    let x : Variables = record { member = m; index = n; kind = get_or ks n kinds.Int } in x in
    row_more c.args.unifier.now K m n c.args.classes.now.items c.loop-index.classes.items c.slot_of.new.classes.items
    c.loop-index.slots c.push.new.self _ c.in_ok-slot.slot below (ap variable at) c.loop-index.invariant
    c.in_ok-slot.ensures c.in_ok-push.ensures.ok
