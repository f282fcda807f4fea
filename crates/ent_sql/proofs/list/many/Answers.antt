use Rattle.std.proofs.Common.{◌∙◌, ◌∷◌, [], sym, ap, arith, length}
use Rattle.ent_text.specs.Class.{among}
use Rattle.std.proofs.lemmas.List.{length-append}
use Rattle.std.proofs.lemmas.Result.{err_from_is_err_and}
use Rattle.ent_text.specs.Grammar.{firsts, reads}
use Rattle.ent_sql.proofs.Loops.{many_first, many_on, many_fault, many_too_many, many_done}
use Rattle.ent_sql.proofs.list.many.Goals as goal

pub things-init : goal.things-init
things-init g c =
    let t = g.T.Item.grammar in
    record {
      room = omega (arith, ap length c.new-items.ensures);
      whole = many_first (among (firsts t)) (reads t) c.args.end c.new-items.result g.row.LIMIT c.args.tokens.now
          c.new-items.ensures;
    }

pub returns-then-left-eq0 : goal.returns-then-left-eq0
returns-then-left-eq0 g c =
    let t = g.T.Item.grammar in
    rw c.too_many.ensures (many_too_many (among (firsts t)) (reads t) c.args.end c.things.items c.things.left
    c.things.tokens _ c.if-left-eq0.true
    (sym c.is_start.ensures ∙ c.things-test.true) c.things.invariant.whole)

pub returns-in_err-item : goal.returns-in_err-item
returns-in_err-item g c =
    let t = g.T.Item.grammar in
    let p = err_from_is_err_and c.from_residual.result c.from_residual.ensures.1 in
    rw (p.1, p.2) (many_fault (among (firsts t)) (reads t) c.args.end c.in_err-item.field-0.0 c.things.items
    c.things.left c.things.tokens _
    (sym c.is_start.ensures ∙ c.things-test.true) c.if-left-eq0.false c.in_err-item.ensures c.things.invariant.whole)

pub push-requires : goal.push-requires
push-requires g c = omega (arith, c.things.invariant.room)

pub things-preserved : goal.things-preserved
things-preserved g c =
    let t = g.T.Item.grammar in
    record {
      room = omega (
        arith,
        c.things.invariant.room,
        ap length c.in_ok-push.ensures.ok,
        length-append c.things.items
            (c.in_ok-item.item ∷ []),
      );
      whole = many_on (among (firsts t)) (reads t) c.args.end c.things.items c.push.new.self c.things.left
          c.things.tokens
          c.read.new.tokens c.in_ok-item.item _
          (sym c.is_start.ensures ∙ c.things-test.true) c.if-left-eq0.false c.in_ok-item.ensures c.in_ok-push.ensures.ok
          c.things.invariant.whole;
    }

pub returns : goal.returns
returns g c =
    let t = g.T.Item.grammar in
    many_done (among (firsts t)) (reads t) c.args.end c.things.items c.things.left c.things.tokens _
    (sym c.is_start.ensures ∙ c.things-test.false) c.things.invariant.whole
