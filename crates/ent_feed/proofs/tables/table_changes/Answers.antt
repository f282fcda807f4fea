use Rattle.std.proofs.Common.{◌≡◌, ◌<◌, ◌≤◌, ◌∷◌, [], ◌++◌, length, ap, ◌∙◌, arith}
use Rattle.std.specs.Arc.{arc_value}
use Rattle.ent_rel.specs.declared.change.Delta.{Delta}
use Rattle.ent_feed.specs.NetChange.{net_change}
use Rattle.ent_feed.specs.declared.group.TableChange.{TableChange}
use Rattle.ent_feed.proofs.Listed.{all_put, change_put, changed_only, element_next, left_next}
use Rattle.ent_feed.proofs.tables.table_changes.Goals as goal

pub loop-index-preserved : goal.loop-index-preserved
loop-index-preserved c =
    let i = c.loop-index.index in
    let declared = c.as_slice-declared.result.now in
    let before = c.args.before.now in
    let after = c.args.after.now in
    let create = c.index-declared-index.result in
    let old = c.index-before-index.result in
    let new = c.index-after-index.result in
    let same = ap length (c.as_slice-declared.ensures ∙ c.deref.ensures) in
    let within : i < length declared = omega arith in
    let within_before : i < length before = omega (arith, same, c.requires.len) in
    let within_after : i < length after = omega (arith, same, c.requires.len_after) in
    let change : TableChange =
    record { table = create.name.name; delta = net_change (arc_value old).rows (arc_value new).rows } in
    let left = left_next declared before after i create old new
    (element_next declared i create within c.index-declared-index.is)
    (element_next before i old within_before c.index-before-index.is)
    (element_next after i new within_after c.index-after-index.is) in
    let told : c.in_ok-delta.delta ≡ change.delta =
    c.in_ok-delta.ensures.exact
    ∙ (λ j. net_change (c.deref-in-loop-index.ensures j).rows (c.deref-in-loop-index-2.ensures j).rows) in
    let pushed : c.put_change.new.changes ≡ c.loop-index.changes ++ changed_only (change ∷ []) =
    c.in_ok-put_change.ensures
    ∙ ap (λ (delta : Delta). c.loop-index.changes
    ++ changed_only (record { table = create.name.name; delta = delta } ∷ [])) told in
    change_put c.loop-index.changes c.put_change.new.changes _ _ _ change left pushed c.loop-index.invariant

pub returns : goal.returns
returns c =
    let declared = c.as_slice-declared.result.now in
    let past : length declared ≤ c.loop-index.index = omega arith in
    all_put declared c.args.before.now c.args.after.now c.args.opening.now c.loop-index.changes c.loop-index.index
    c.requires.distinct c.requires.len c.requires.len_after (c.as_slice-declared.ensures ∙ c.deref.ensures) past
    c.loop-index.invariant
