use Rattle.std.proofs.Common.{ap, sym, ◌∙◌, arith, Ok}
use Rattle.ent_lists.specs.Sets as set
use Rattle.ent_rel.specs.Change.{changed_rows}
use Rattle.ent_rel.specs.Kept.{rows_of}
use Rattle.ent_rel.proofs.Keyed.{rows_merged, hold_merged, len_rows}
use Rattle.ent_rel.proofs.Meanings.{bounded_within, bounded_beyond}
use Rattle.ent_rel.proofs.keys.keys_merged.Goals as goal

pub returns-then-len-gt-MOST_ROWS-clause-rows : goal.returns-then-len-gt-MOST_ROWS-clause-rows
returns-then-len-gt-MOST_ROWS-clause-rows c =
    let kinds = c.args.kinds.now in
    let made = c.in_ok-made.made in
    let is = c.in_ok-made.ensures ∙ ap (set.insert_all
    (set.without_all c.args.keys.now c.in_ok-gone.gone.items)) c.in_ok-come.ensures.keys in
    let rows = rows_merged kinds c.args.keys.now c.args.removed.now c.args.added.now c.in_ok-gone.gone.items made is
    c.requires.hold c.in_ok-gone.ensures c.requires.kinds c.in_ok-come.ensures.stored in
    let hold = hold_merged kinds c.args.keys.now c.args.removed.now c.args.added.now c.in_ok-gone.gone.items made is
    c.requires.hold c.in_ok-gone.ensures c.requires.kinds c.in_ok-come.ensures.stored in
    let after = changed_rows (rows_of kinds c.args.keys.now) c.args.removed.now c.args.added.now in
    bounded_beyond after after (omega (arith, len_rows kinds made hold, ap set.len rows))

pub returns-clause-rows : goal.returns-clause-rows
returns-clause-rows c =
    let kinds = c.args.kinds.now in
    let made = c.in_ok-made.made in
    let is = c.in_ok-made.ensures ∙ ap (set.insert_all
    (set.without_all c.args.keys.now c.in_ok-gone.gone.items)) c.in_ok-come.ensures.keys in
    let rows = rows_merged kinds c.args.keys.now c.args.removed.now c.args.added.now c.in_ok-gone.gone.items made is
    c.requires.hold c.in_ok-gone.ensures c.requires.kinds c.in_ok-come.ensures.stored in
    let hold = hold_merged kinds c.args.keys.now c.args.removed.now c.args.added.now c.in_ok-gone.gone.items made is
    c.requires.hold c.in_ok-gone.ensures c.requires.kinds c.in_ok-come.ensures.stored in
    let after = changed_rows (rows_of kinds c.args.keys.now) c.args.removed.now c.args.added.now in
    bounded_within after after (omega (arith, len_rows kinds made hold, ap set.len rows)) ∙ ap (λ s. Ok s) (sym rows)

pub returns-clause-hold : goal.returns-clause-hold
returns-clause-hold c =
    let is = c.in_ok-made.ensures ∙ ap (set.insert_all
    (set.without_all c.args.keys.now c.in_ok-gone.gone.items)) c.in_ok-come.ensures.keys in
    hold_merged c.args.kinds.now c.args.keys.now c.args.removed.now c.args.added.now c.in_ok-gone.gone.items
    c.in_ok-made.made is c.requires.hold c.in_ok-gone.ensures c.requires.kinds c.in_ok-come.ensures.stored
