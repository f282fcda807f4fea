use Rattle.std.proofs.Common.{◌≡◌, ℕ, ◌+◌, ◌-◌, ◌≤◌, Bool, true, ◌++◌, ap, sym, subst, ◌∙◌, arith}
use Rattle.std.specs.Prelude.{◌↔◌, codes}
use Rattle.ent_book.specs.Report.{line}
use Rattle.ent_book.specs.Report2.{line_count}
use Rattle.ent_history.specs.Begins.{HasWholeLines, BeginsScript}
use Rattle.ent_history.specs.Filling.{filling}
use Rattle.ent_history.proofs.Begun.{none_of_so_many, some_of_so_many, none_unended, none_too_long, as_it_is_read}
use Rattle.ent_history.proofs.Begun.{nothing_there, something_there}
use Rattle.ent_history.proofs.begins.begins_script.Goals as goal
use Rattle.ent_history.proofs.begins.begins_script.Goals.{then-count-lt-FEWEST_LINES-via-then-count-lt-FEWEST_LINES}
use Rattle.ent_history.proofs.begins.begins_script.Goals.{then-count-lt-FEWEST_LINES-via-else-count-lt-FEWEST_LINES+then-count-gt-MOST_LINES}
use Rattle.ent_history.proofs.begins.begins_script.Goals.{then-not-has_whole_lines-via-then-not-has_whole_lines}
use Rattle.ent_history.proofs.begins.begins_script.Goals.{then-not-has_whole_lines-via-else-not-has_whole_lines+then-read-count}

pub returns-then-count-lt-FEWEST_LINES : goal.returns-then-count-lt-FEWEST_LINES
returns-then-count-lt-FEWEST_LINES c = λ told same.
    none_of_so_many told c.args.lines.now c.args.count (λ low high.
    elim c.then-count-lt-FEWEST_LINES.branch [
      | then-count-lt-FEWEST_LINES-via-then-count-lt-FEWEST_LINES w ↦ omega arith
      | then-count-lt-FEWEST_LINES-via-else-count-lt-FEWEST_LINES+then-count-gt-MOST_LINES w ↦ omega arith
    ])

pub returns-then-is_empty : goal.returns-then-is_empty
returns-then-is_empty c = λ told same.
    some_of_so_many told c.args.lines.now c.args.count
    (nothing_there c.args.lines.now c.is_empty.result c.is_empty.ensures c.if-is_empty.true) (omega arith) (omega arith)

pub returns-then-not-has_whole_lines : goal.returns-then-not-has_whole_lines
returns-then-not-has_whole_lines c = λ told same.
    let lines = c.args.lines.now in
    let some = something_there lines c.is_empty.result c.is_empty.ensures c.if-is_empty.false in
    elim c.then-not-has_whole_lines.branch [
      | then-not-has_whole_lines-via-then-not-has_whole_lines w ↦
          none_unended told lines c.args.count (λ whole.
          let is = c.has_whole_lines.ensures.1 (subst HasWholeLines (sym c.as_bytes-2.ensures.value) whole) in
          let known = w.if-not-has_whole_lines in
          absurd cc)
      | then-not-has_whole_lines-via-else-not-has_whole_lines+then-read-count w ↦
          none_too_long told lines c.args.count some
          (let count = c.line_count-read.ensures ∙ ap line_count c.as_bytes.ensures.value in
          let long = w.if-read-count.true in
          omega arith)
    ]

pub returns : goal.returns
returns c = λ told same.
    let lines = c.args.lines.now in
    let count = c.args.count in
    let some = something_there lines c.is_empty.result c.is_empty.ensures c.if-is_empty.false in
    let ended = c.if-not-has_whole_lines.ensures in
    let whole : HasWholeLines lines =
    subst HasWholeLines c.as_bytes-2.ensures.value (c.has_whole_lines.ensures.0 c.if-not-has_whole_lines.false) in
    let read : c.line_count-read.result ≡ line_count lines =
    c.line_count-read.ensures ∙ ap line_count c.as_bytes.ensures.value in
    let few : 1 + line_count lines ≤ count = let less = c.if-read-count.false in omega arith in
    let is : c.as_str.result.now ≡ lines ++ (filling (count - line_count lines - 1) ++ line (codes "COMMIT;")) =
    c.as_str.ensures.value ∙ (c.in_ok-whole.ensures
    ∙ ap (λ (n : ℕ). lines ++ (filling (count - n - 1) ++ line (codes "COMMIT;"))) read) in
    subst (λ (b : Bool). (b ≡ true) ↔ BeginsScript told lines count) (sym c.is_some.ensures)
    (as_it_is_read told lines c.as_str.result.now count c.in_ok-read_script.field-0 some whole few is
    (c.in_ok-read_script.ensures told same))
