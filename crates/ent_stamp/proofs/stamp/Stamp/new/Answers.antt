use Rattle.std.proofs.Common.{sym, ◌∙◌, ap}
use Rattle.ent_stamp.proofs.Stamping.{adds_moves}
use Rattle.ent_stamp.proofs.stamp.Stamp.new.Goals as goal

pub compare_exchange-found-requires : goal.compare_exchange-found-requires
compare_exchange-found-requires g c =
    let head = c.args.stamps.now.head_is in
    let book = c.args.stamps.now.seen_is in
    let offer = c.plain-offer.ensures in
    let pen = c.no_pen-pen.ensures in
    let here =
    c.load-next.ensures.0 ∙ (ap (λ s. s.book) c.again-seen.ensures ∙ (book ∙ sym (ap (λ w. w.book) head))) in (
      ap (λ w. w.tracked) head,
      here,
      pen.0 ∙ here,
      offer.0,
      rw (ap (λ w. w.key) head, pen.1, offer.1, offer.3)
          (adds_moves c.load-next.new.seen.log c.args.job.now c.load-next.result),
    )
