use Rattle.std.proofs.Common.{◌≡◌, ◌+◌, ◌∷◌, [], drop, ap, sym, subst, ◌∙◌, arith, false, true}
use Rattle.std.proofs.lemmas.List.{drop_all}
use Rattle.ent_lists.specs.Sets as set
use Rattle.ent_lists.specs.Laws.{without-nothing, without-append}
use Rattle.ent_value.specs.Value.{kinds_of}
use Rattle.ent_value.specs.Order.{rows_total, exact_rows}
use Rattle.ent_page.specs.Key.{key_of, AreStorable}
use Rattle.ent_rel.specs.Kept.{listed_rows, rows_of, HoldRows}
use Rattle.ent_rel.proofs.Lists.{have_kinds}
use Rattle.ent_lists.specs.Elements.{from_here}
use Rattle.ent_rel.proofs.Keyed.{rows_without, hold_without, without_other, listed_fit}
use Rattle.ent_rel.proofs.keys.keys_without.Goals as goal
use Rattle.ent_rel.proofs.keys.keys_without.Goals.{then-have_kinds+in_ok-key+in_ok-keys, else-have_kinds}

pub loop-row-preserved : goal.loop-row-preserved
loop-row-preserved c =
    let rows = c.args.rows.now in
    let i = c.loop-row.row-index in
    let x = c.row-item.result in
    let kinds = c.args.kinds.now in
    let here = from_here rows i x (omega arith) c.row-item.is in
    elim c.if-have_kinds.branch [
      | then-have_kinds+in_ok-key+in_ok-keys w ↦
          let same : kinds_of c.row-item.result ≡ c.args.kinds.now = ap kinds_of (sym c.values.ensures)
          ∙ c.have_kinds.ensures.kinds.0 w.if-have_kinds.true in
          let fits = subst AreStorable w.values-then-have_kinds.ensures w.in_ok-key.ensures.stored in
          let made = w.keys-is ∙ w.in_ok-keys.ensures ∙ ap (λ k. set.without_all c.loop-row.keys (k ∷ []))
          (w.in_ok-key.ensures.key ∙ ap key_of w.values-then-have_kinds.ensures) in
          record {
            rows = ap (λ s. set.without_all s (drop (i + 1) rows)) (ap (rows_of kinds) made
                ∙ rows_without kinds c.loop-row.keys x same fits c.loop-row.invariant.hold)
                ∙ without-append rows_total exact_rows (rows_of kinds c.loop-row.keys) (x ∷ []) (drop (i + 1) rows)
                ∙ ap (set.without_all (rows_of kinds c.loop-row.keys)) (sym here) ∙ c.loop-row.invariant.rows;
            hold = subst (λ s. HoldRows kinds s) (sym made) (hold_without kinds c.loop-row.keys
                (key_of x ∷ []) c.loop-row.invariant.hold);
          }
      | else-have_kinds w ↦
          let other : kinds_of c.row-item.result ≡ c.args.kinds.now → ⊥ = λ same.
          (let no' : false ≡ true = sym w.if-have_kinds.false
          ∙ c.have_kinds.ensures.kinds.1 (ap kinds_of c.values.ensures ∙ same) in cc) in
          let have = have_kinds kinds (listed_rows kinds c.loop-row.keys)
          (listed_fit kinds c.loop-row.keys c.loop-row.invariant.hold) in
          record {
            rows = ap (λ s. set.without_all s (drop (i + 1) rows)) (ap (rows_of kinds) w.keys-is
                ∙ sym (without_other kinds (rows_of kinds c.loop-row.keys) x have other))
                ∙ without-append rows_total exact_rows (rows_of kinds c.loop-row.keys) (x ∷ []) (drop (i + 1) rows)
                ∙ ap (set.without_all (rows_of kinds c.loop-row.keys)) (sym here) ∙ c.loop-row.invariant.rows;
            hold = subst (λ s. HoldRows kinds s) (sym w.keys-is) c.loop-row.invariant.hold;
          }
    ]

pub returns-clause-rows : goal.returns-clause-rows
returns-clause-rows c =
    let kinds = c.args.kinds.now in
    let none : drop c.loop-row.row-index c.args.rows.now ≡ [] = drop_all c.loop-row.row-index c.args.rows.now
    (omega arith) in
    sym (without-nothing rows_total exact_rows (rows_of kinds c.loop-row.keys))
    ∙ ap (set.without_all (rows_of kinds c.loop-row.keys)) (sym none) ∙ c.loop-row.invariant.rows
