use Rattle.std.proofs.Common.{◌≡◌, ◌+◌, [], drop, ap, sym, subst, ◌∙◌, arith}
use Rattle.std.proofs.lemmas.List.{drop_all}
use Rattle.std.proofs.lemmas.List.Elements.{All-get_or}
use Rattle.ent_lists.specs.Sets as set
use Rattle.ent_value.specs.Value.{kinds_of}
use Rattle.ent_page.specs.Key.{key_of, AreStorable}
use Rattle.ent_rel.specs.Relation.{bounded}
use Rattle.ent_rel.specs.Kept.{rows_of, HoldRows}
use Rattle.ent_lists.specs.Elements.{from_here}
use Rattle.ent_rel.proofs.Keyed.{rows_insert, hold_insert, no_more, len_rows}
use Rattle.ent_rel.proofs.Meanings.{bounded_within}
use Rattle.ent_rel.proofs.keys.keys_with.Goals as goal

pub returns-then-len-gt-MOST_ROWS-clause-rows : goal.returns-then-len-gt-MOST_ROWS-clause-rows
returns-then-len-gt-MOST_ROWS-clause-rows c =
    ap (λ s. bounded s s) (sym c.loop-row.invariant.rows) ∙ no_more c.args.kinds.now c.loop-row.keys
    (drop c.loop-row.row-index c.args.rows.now) c.loop-row.invariant.hold (omega arith)

pub loop-row-preserved : goal.loop-row-preserved
loop-row-preserved c =
    let rows = c.args.rows.now in
    let i = c.loop-row.row-index in
    let x = c.row-item.result in
    let kinds = c.args.kinds.now in
    let fits = subst AreStorable c.values.ensures c.in_ok-key.ensures.stored in
    let same : kinds_of c.row-item.result ≡ c.args.kinds.now = ap kinds_of c.row-item.is
    ∙ All-get_or (λ row. kinds_of row ≡ kinds) rows i x (omega arith) c.requires.kinds in
    let made = c.in_ok-keys.ensures ∙ ap (set.insert c.loop-row.keys) (c.in_ok-key.ensures.key
    ∙ ap key_of c.values.ensures) in
    record {
      rows = ap (λ s. set.insert_all s (drop (i + 1) rows)) (ap (rows_of kinds) made
          ∙ rows_insert kinds c.loop-row.keys x same fits)
          ∙ ap (set.insert_all (rows_of kinds c.loop-row.keys)) (sym (from_here rows i x
          (omega arith) c.row-item.is)) ∙ c.loop-row.invariant.rows;
      hold = subst (λ s. HoldRows kinds s) (sym made)
          (hold_insert kinds c.loop-row.keys x same fits c.loop-row.invariant.hold);
    }

pub returns-then-len-gt-MOST_ROWS-2-clause-rows : goal.returns-then-len-gt-MOST_ROWS-2-clause-rows
returns-then-len-gt-MOST_ROWS-2-clause-rows c =
    ap (λ s. bounded s s) (sym c.loop-row.invariant.rows) ∙ no_more c.args.kinds.now c.loop-row.keys
    (drop c.loop-row.row-index c.args.rows.now) c.loop-row.invariant.hold (omega arith)

pub returns-clause-rows : goal.returns-clause-rows
returns-clause-rows c =
    let kinds = c.args.kinds.now in
    let none : drop c.loop-row.row-index c.args.rows.now ≡ [] = drop_all c.loop-row.row-index c.args.rows.now
    (omega arith) in
    ap (λ s. bounded s s) (sym c.loop-row.invariant.rows ∙ ap (set.insert_all (rows_of kinds c.loop-row.keys)) none)
    ∙ bounded_within (rows_of kinds c.loop-row.keys) (rows_of kinds c.loop-row.keys) (omega
    (arith, len_rows kinds c.loop-row.keys c.loop-row.invariant.hold))
