use Rattle.std.proofs.Common.{◌≡◌, ◌+◌, List, refl, ap, sym, subst, ◌∙◌, cond, ◌∷◌, [], ◌++◌, arith, take}
use Rattle.std.proofs.lemmas.Fn.{says_at}
use Rattle.std.proofs.lemmas.List.{take_all, take_more}
use Rattle.ent_value.specs.declared.value.Value.{Value}
use Rattle.ent_rel.specs.Part.{IsPart}
use Rattle.ent_rel.proofs.Lists.{filter_step, listed}
use Rattle.ent_rel.proofs.Parts.{part_nil, part_left, part_kept}
use Rattle.ent_rel.proofs.copies.copies_where.Goals as goal
use Rattle.ent_rel.proofs.copies.copies_where.Goals.{then-test+in_ok-copy+in_ok-push, else-test}

pub loop-row-init : goal.loop-row-init
loop-row-init g c =
    record {
      passing = λ passes computes. c.new-copies.ensures.items;
      part = rw c.new-copies.ensures.items (part_nil (take 0 c.args.rows.now));
    }

pub loop-row-preserved : goal.loop-row-preserved
loop-row-preserved g c =
    let rows = c.args.rows.now in
    let x = c.row-item.result in
    let kept = c.loop-row.copies.items in
    let here = listed rows c.loop-row.row-index x (omega arith) c.row-item.is in
    let more : take (c.loop-row.row-index + 1) c.args.rows.now ≡ take c.loop-row.row-index c.args.rows.now ++
    c.row-item.result ∷ [] = take_more rows c.loop-row.row-index x (omega arith)
    ∙ ap (λ y. take c.loop-row.row-index rows ++ y ∷ []) (sym c.row-item.is) in
    record {
      passing = λ passes computes.
          let says : c.test.result ≡ passes x = computes x c.test.result here (says_at g.F.Fn c.test.ensures refl) in
          filter_step passes rows kept _ c.loop-row.row-index x (omega arith) c.row-item.is
          (c.loop-row.invariant.passing passes computes) (elim c.if-test.branch [
            | then-test+in_ok-copy+in_ok-push w ↦ ap (λ v. v.items) w.copies-is ∙ w.in_ok-push.ensures.items
                ∙ rw w.in_ok-copy.ensures (ap (λ b. cond b (kept ++ x ∷ []) kept) (sym w.if-test.true ∙ says))
            | else-test w ↦ ap (λ v. v.items) w.copies-is ∙ ap (λ b. cond b (kept ++ x ∷ []) kept)
                (sym w.if-test.false ∙ says)
          ]);
      part = elim c.if-test.branch [
        | then-test+in_ok-copy+in_ok-push w ↦
            let pushed : c.if-test.copies.items ≡ c.loop-row.copies.items ++ c.row-item.result ∷ [] = ap
            (λ v. v.items) w.copies-is ∙ w.in_ok-push.ensures.items
            ∙ ap (λ y. kept ++ y ∷ []) w.in_ok-copy.ensures in
            rw (more, pushed) (part_kept (take c.loop-row.row-index rows) kept x c.loop-row.invariant.part)
        | else-test w ↦
            let kept_all : c.if-test.copies.items ≡ c.loop-row.copies.items = ap (λ v. v.items) w.copies-is in
            rw (more, kept_all) (part_left (take c.loop-row.row-index rows) kept x c.loop-row.invariant.part)
      ];
    }

pub returns-clause-passing : goal.returns-clause-passing
returns-clause-passing g c = λ passes computes. rw (take_all c.loop-row.row-index c.args.rows.now (omega arith)) at
    (c.loop-row.invariant.passing passes computes)

pub returns-clause-part : goal.returns-clause-part
returns-clause-part g c =
    let P : List (List Value) → Type 0 = λ rows. IsPart rows c.loop-row.copies.items in
    subst P (take_all c.loop-row.row-index c.args.rows.now (omega arith)) c.loop-row.invariant.part
