use Rattle.std.proofs.Common.{◌||◌, ◌<◌, Bool, length, take, sym, ap, ◌∙◌, arith, rules}
use Rattle.std.proofs.lemmas.List.Folds.{list_any_more}
use Rattle.std.proofs.Math.Bool.{or_assoc}
use Rattle.ent_history.specs.Alike.{same_fact}
use Rattle.ent_history.specs.Post.{is_offered}
use Rattle.ent_check.specs.Heads.{has}
use Rattle.ent_check.proofs.HeadsPut.{one_more}
use Rattle.ent_check.proofs.heads.put.Goals as goal

pub loop-fact-preserved : goal.loop-fact-preserved
loop-fact-preserved c =
    let facts = c.args.facts.now in
    let fact = c.fact-item.result in
    let old = c.args.heads.now in
    let i = c.loop-fact.fact-index in
    let low : i < length facts = grind (arith, rules) in
    λ post.
    one_more c.loop-fact.heads c.insert.new.self fact c.in_ok-insert.ensures.updates post
    ∙ ap (λ (b : Bool). b || same_fact post fact) (c.loop-fact.invariant post)
    ∙ or_assoc (has old post) (is_offered (take i facts) post) (same_fact post fact)
    ∙ ap (λ (b : Bool). has old post || b)
    (sym (list_any_more (same_fact post) facts i fact low
    ∙ ap (λ x. is_offered (take i facts) post || same_fact post x) (sym c.fact-item.is)))
