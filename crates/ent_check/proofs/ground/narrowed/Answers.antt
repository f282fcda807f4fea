use Rattle.std.proofs.Common.{◌<◌, ◌++◌, ◌∷◌, [], arith, rules, length, map, slice_index_or, sym, ap, ◌∙◌}
use Rattle.ent_lists.specs.Sets as set
use Rattle.ent_value.specs.declared.value.Value.{Value}
use Rattle.ent_semantics.specs.Selection.{meets, selection}
use Rattle.ent_semantics.specs.declared.statement.Select.{Select}
use Rattle.ent_ordinary.specs.Worth.{worth_over}
use Rattle.ent_check.specs.Shown.{is_shown}
use Rattle.ent_check.proofs.Shown.{one_test_more}
use Rattle.ent_check.proofs.ground.narrowed.Goals.{then-len-lt-MOST_PARTS+in_ok-test+in_ok-push, else-len-lt-MOST_PARTS}
use Rattle.ent_check.proofs.ground.narrowed.Goals as goal

pub loop-index-preserved : goal.loop-index-preserved
loop-index-preserved c =
    let now = c.loop-index.narrowed in
    let so_far = c.loop-index.invariant in
    let i = c.loop-index.index in
    let row = c.args.row.now in
    let theirs = c.as_slice-items.ensures ∙ sym so_far.items in
    let many = ap length theirs in
    let low : i < length now.items = grind (arith, rules, many) in
    elim c.if-len-lt-MOST_PARTS.branch [
      | then-len-lt-MOST_PARTS+in_ok-test+in_ok-push w ↦
          let item = w.index-items-index.result in
          let value = w.index-row-index.result in
          record {
            sources = ap (λ (s : Select Value). s.sources) w.narrowed-is ∙ so_far.sources;
            items = ap (λ (s : Select Value). s.items) w.narrowed-is ∙ so_far.items;
            holds = λ sources.
                ap (λ (s : Select Value). is_shown s sources row) w.narrowed-is
                ∙ ap (λ tests. set.contains (selection (meets worth_over tests) (λ x. map (worth_over x) now.items)
                sources) row)
                (w.in_ok-push.ensures.ok ∙ ap (λ test. now.tests ++ test ∷ []) w.in_ok-test.ensures)
                ∙ one_test_more now.tests now.items row i item value low
                (w.index-items-index.is ∙ ap (λ xs. slice_index_or xs i item) theirs) w.index-row-index.is sources
                ∙ so_far.holds sources;
          }
      | else-len-lt-MOST_PARTS w ↦
          record {
            sources = ap (λ (s : Select Value). s.sources) w.narrowed-is ∙ so_far.sources;
            items = ap (λ (s : Select Value). s.items) w.narrowed-is ∙ so_far.items;
            holds = λ sources. ap (λ (s : Select Value). is_shown s sources row) w.narrowed-is ∙ so_far.holds sources;
          }
    ]
