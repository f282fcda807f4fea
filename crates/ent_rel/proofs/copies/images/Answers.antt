use Rattle.std.proofs.Common.{◌≡◌, refl, ap, sym, ◌∙◌, Ok, arith, rules}
use Rattle.std.proofs.lemmas.Fn.{says_at}
use Rattle.std.proofs.lemmas.List.{take_all}
use Rattle.std.proofs.lemmas.List.Elements.{All-push, All-nil}
use Rattle.ent_value.specs.Value.{kinds_of}
use Rattle.ent_rel.specs.Closure.{Tells}
use Rattle.ent_rel.proofs.Lists.{images_step, images_refused, listed}
use Rattle.ent_rel.proofs.copies.images.Goals as goal

pub loop-row-init : goal.loop-row-init
loop-row-init g c =
    record {
      images = λ excused image answers. ap (λ xs. Ok xs) (sym c.in_ok-images.ensures.items);
      kinds = λ kinds keeps. rw c.in_ok-images.ensures.items (All-nil (λ row. kinds_of row ≡ kinds));
      count = rw c.in_ok-images.ensures.items refl;
    }

pub returns-in-Err-clause-images : goal.returns-in-Err-clause-images
returns-in-Err-clause-images g c = λ excused image answers.
    let x = c.row-item.result in
    let here = listed c.args.rows.now c.loop-row.row-index x (omega arith) c.row-item.is in
    let told : Tells excused c.in-Err.error (image x) = rw c.in-Err.is at (answers x c.change.result here
    (says_at g.G.Fn c.change.ensures refl)) in
    images_refused excused image c.args.rows.now c.loop-row.images.items c.loop-row.row-index x c.in-Err.error
    (omega arith) c.row-item.is told (c.loop-row.invariant.images excused image answers)

pub loop-row-preserved : goal.loop-row-preserved
loop-row-preserved g c =
    let x = c.row-item.result in
    let here = listed c.args.rows.now c.loop-row.row-index x (omega arith) c.row-item.is in
    record {
      images = λ excused image answers.
          let one : image x ≡ Ok c.in-Ok.image = rw c.in-Ok.is at (answers x c.change.result here
          (says_at g.G.Fn c.change.ensures refl)) in
          images_step image c.args.rows.now c.loop-row.images.items c.loop-row.row-index x c.in-Ok.image
          (omega arith) c.row-item.is one (c.loop-row.invariant.images excused image answers)
          ∙ ap (λ xs. Ok xs) (sym c.in_ok-push-in-Ok.ensures.items);
      kinds = λ kinds keeps.
          let one : kinds_of c.in-Ok.image ≡ kinds = rw c.in-Ok.is at (keeps x c.change.result here
          (says_at g.G.Fn c.change.ensures refl)) in
          rw c.in_ok-push-in-Ok.ensures.items (All-push
          (λ row. kinds_of row ≡ kinds) c.loop-row.images.items c.in-Ok.image
          (c.loop-row.invariant.kinds kinds keeps) one);
      count = search rules;
    }

pub returns-clause-images : goal.returns-clause-images
returns-clause-images g c = λ excused image answers. rw (take_all c.loop-row.row-index c.args.rows.now (omega arith)) at
    (c.loop-row.invariant.images excused image answers)
