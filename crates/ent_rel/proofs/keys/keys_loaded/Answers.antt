use Rattle.std.proofs.Common.{ap, sym, ◌∙◌, arith, Ok}
use Rattle.ent_lists.specs.Sets as set
use Rattle.ent_value.specs.Value.{row_cmp}
use Rattle.ent_rel.proofs.Keyed.{rows_load, hold_load, len_rows}
use Rattle.ent_rel.proofs.Meanings.{bounded_within, bounded_beyond}
use Rattle.ent_rel.proofs.keys.keys_loaded.Goals as goal

pub returns-then-len-gt-MOST_ROWS-clause-rows : goal.returns-then-len-gt-MOST_ROWS-clause-rows
returns-then-len-gt-MOST_ROWS-clause-rows c =
    let kinds = c.args.kinds.now in
    let rows = c.args.rows.now in
    let made = c.in_ok-keys.ensures ∙ ap (λ ks. set.from_list ks) c.in_ok-keys_of.ensures.keys in
    let is = rows_load kinds rows c.in_ok-keys.keys made c.requires c.in_ok-keys_of.ensures.stored in
    let hold = hold_load kinds rows c.in_ok-keys.keys made c.requires c.in_ok-keys_of.ensures.stored in
    bounded_beyond (set.from_list {R = row_cmp} rows) (set.from_list rows) (omega
    (arith, len_rows kinds c.in_ok-keys.keys hold, ap set.len is))

pub returns-clause-rows : goal.returns-clause-rows
returns-clause-rows c =
    let kinds = c.args.kinds.now in
    let rows = c.args.rows.now in
    let made = c.in_ok-keys.ensures ∙ ap (λ ks. set.from_list ks) c.in_ok-keys_of.ensures.keys in
    let is = rows_load kinds rows c.in_ok-keys.keys made c.requires c.in_ok-keys_of.ensures.stored in
    let hold = hold_load kinds rows c.in_ok-keys.keys made c.requires c.in_ok-keys_of.ensures.stored in
    bounded_within (set.from_list {R = row_cmp} rows) (set.from_list rows) (omega
    (arith, len_rows kinds c.in_ok-keys.keys hold, ap set.len is))
    ∙ ap (λ s. Ok s) (sym is)

pub returns-clause-hold : goal.returns-clause-hold
returns-clause-hold c =
    let made = c.in_ok-keys.ensures ∙ ap (λ ks. set.from_list ks) c.in_ok-keys_of.ensures.keys in
    hold_load c.args.kinds.now c.args.rows.now c.in_ok-keys.keys made c.requires c.in_ok-keys_of.ensures.stored
