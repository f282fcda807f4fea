use Rattle.std.proofs.Common.{◌∙◌, ◌-◌, ◌∷◌, [], sym, ap, arith, length}
use Rattle.ent_text.specs.Class.{is, among, class_of}
use Rattle.std.proofs.lemmas.List.{length-append}
use Rattle.std.proofs.lemmas.Result.{err_from_is_err_and}
use Rattle.ent_text.specs.Grammar.{firsts, reads}
use Rattle.ent_sql.proofs.Loops.{more_start, more_on, more_fault, more_too_many, more_unexpected, more_done}
use Rattle.ent_sql.proofs.list.appended.Goals as goal

pub things-init : goal.things-init
things-init g c =
    let t = g.T.Item.grammar in
    record {
      room = omega (arith, c.len-left.ensures.len, c.len-left.ensures.limit);
      whole = more_start (is (class_of c.args.divider)) (among (firsts t)) (reads t) c.args.end c.args.before
          g.row.LIMIT _ c.args.tokens.now (ap (λ n. g.row.LIMIT - n) c.len-left.ensures.len);
    }

pub returns-then-is_start : goal.returns-then-is_start
returns-then-is_start g c =
    let t = g.T.Item.grammar in
    rw c.too_many.ensures (more_too_many (is (class_of c.args.divider)) (among (firsts t)) (reads t) c.args.end
    c.things.items c.things.left c.things.tokens c.advance.new.self _ c.if-left-eq0.true
    (sym c.begins_with_divider.ensures ∙ c.things-test.true) c.advance.ensures
    (sym c.is_start.ensures ∙ c.if-is_start.true) c.things.invariant.whole)

pub returns-then-left-eq0 : goal.returns-then-left-eq0
returns-then-left-eq0 g c =
    let t = g.T.Item.grammar in
    rw c.unexpected.ensures (more_unexpected (is (class_of c.args.divider)) (among (firsts t)) (reads t) c.args.end
    c.things.items c.things.left c.things.tokens c.advance.new.self _ c.if-left-eq0.true
    (sym c.begins_with_divider.ensures ∙ c.things-test.true) c.advance.ensures
    (sym c.is_start.ensures ∙ c.if-is_start.false) c.things.invariant.whole)

pub returns-in_err-item : goal.returns-in_err-item
returns-in_err-item g c =
    let t = g.T.Item.grammar in
    let p = err_from_is_err_and c.from_residual.result c.from_residual.ensures.1 in
    rw (p.1, p.2) (more_fault (is (class_of c.args.divider)) (among (firsts t)) (reads t) c.args.end
    c.in_err-item.field-0.0 c.things.items c.things.left c.things.tokens c.advance.new.self _
    (sym c.begins_with_divider.ensures ∙ c.things-test.true) c.if-left-eq0.false c.advance.ensures
    c.in_err-item.ensures c.things.invariant.whole)

pub push-requires : goal.push-requires
push-requires g c = omega (arith, c.things.invariant.room)

pub things-preserved : goal.things-preserved
things-preserved g c =
    let t = g.T.Item.grammar in
    record {
      room = omega (
        arith,
        c.things.invariant.room,
        ap length c.in_ok-push.ensures.ok,
        length-append c.things.items
            (c.in_ok-item.item ∷ []),
      );
      whole = more_on (is (class_of c.args.divider)) (among (firsts t)) (reads t) c.args.end c.things.items
          c.push.new.self c.things.left c.things.tokens c.advance.new.self c.read.new.tokens c.in_ok-item.item _
          (sym c.begins_with_divider.ensures ∙ c.things-test.true) c.if-left-eq0.false c.advance.ensures
          c.in_ok-item.ensures c.in_ok-push.ensures.ok c.things.invariant.whole;
    }

pub returns : goal.returns
returns g c =
    let t = g.T.Item.grammar in
    more_done (is (class_of c.args.divider)) (among (firsts t)) (reads t) c.args.end c.things.items c.things.left
    c.things.tokens _ (sym c.begins_with_divider.ensures ∙ c.things-test.false) c.things.invariant.whole
