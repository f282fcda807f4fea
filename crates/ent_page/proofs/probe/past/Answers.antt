use Rattle.std.proofs.Common.{sym, ◌∙◌, arith, true, false, ◌≡◌}
use Rattle.ent_page.proofs.Fronts.{other_front, front_taken, front_long}
use Rattle.ent_page.proofs.probe.past.Goals as goal

pub returns-then-bytes-front : goal.returns-then-bytes-front
returns-then-bytes-front c =
    λ more. other_front c.args.bytes.now c.args.front.now more
    (λ rest e. omega (arith, front_long c.args.bytes.now c.args.front.now rest e)) ∙ sym c.cmp.ensures

pub returns : goal.returns
returns c = λ more.
    other_front c.args.bytes.now c.args.front.now more (λ rest e.
    let no' : false ≡ true = sym c.if-are_same_bytes.false
    ∙ c.are_same_bytes.ensures.1 (c.split_at.ensures.front ∙ front_taken c.args.bytes.now c.args.front.now rest e)
    in cc)
    ∙ sym c.cmp-2.ensures
