use Rattle.std.proofs.Common.{◌≡◌, ◌-◌, length, take, drop, List, ap, sym, subst, ◌∙◌, All}
use Rattle.std.proofs.lemmas.List.Elements.{All-head, All-tail}
use Rattle.ent_lists.specs.Sets as set
use Rattle.ent_value.specs.Refusal.{Gives}
use Rattle.ent_value.specs.Value.{kinds_of}
use Rattle.ent_value.specs.declared.value.Value.{Value}
use Rattle.ent_page.specs.Key.{key_of, AreStorable}
use Rattle.ent_rel.specs.Relation.{RowSet, bounded}
use Rattle.ent_rel.specs.Kept.{KeySet, rows_of, HoldRows}
use Rattle.ent_rel.proofs.Keyed.{rows_insert, hold_insert, first_and_others}
use Rattle.ent_rel.proofs.keys.keys_added.Goals as goal

pub keys_with-requires-in-len1-up-clause-hold : goal.keys_with-requires-in-len1-up-clause-hold
keys_with-requires-in-len1-up-clause-hold c =
    let kinds = c.args.kinds.now in
    let rows = c.args.rows.now in
    let row = c.first-item.result in
    let P : List (List Value) → Type 0 = λ xs. All (λ row. kinds_of row ≡ kinds) xs in
    let whole = first_and_others rows row c.in-len1-up.len_at_least c.first-item.is in
    let same = All-head (λ row. kinds_of row ≡ kinds) row (take (length rows - 1) (drop 1 rows)) (subst P
    (sym whole) c.requires.kinds) in
    let fits = subst AreStorable c.values.ensures c.in_ok-key-in-len1-up.ensures.stored in
    let made = c.in_ok-with-in-len1-up.ensures ∙ ap (set.insert c.args.keys.now) (c.in_ok-key-in-len1-up.ensures.key
    ∙ ap key_of c.values.ensures) in
    subst (λ s. HoldRows kinds s) (sym made) (hold_insert kinds c.args.keys.now row same fits c.requires.hold)

pub keys_with-requires-in-len1-up-clause-kinds : goal.keys_with-requires-in-len1-up-clause-kinds
keys_with-requires-in-len1-up-clause-kinds c =
    let kinds = c.args.kinds.now in
    let rows = c.args.rows.now in
    let row = c.first-item.result in
    let P : List (List Value) → Type 0 = λ xs. All (λ row. kinds_of row ≡ kinds) xs in
    let whole = first_and_others rows row c.in-len1-up.len_at_least c.first-item.is in
    All-tail (λ row. kinds_of row ≡ kinds) row (take (length rows - 1) (drop 1 rows)) (subst P
    (sym whole) c.requires.kinds)

pub returns-in_ok-with-in-len1-up-clause-rows : goal.returns-in_ok-with-in-len1-up-clause-rows
returns-in_ok-with-in-len1-up-clause-rows c =
    let kinds = c.args.kinds.now in
    let rows = c.args.rows.now in
    let row = c.first-item.result in
    let rest = take (length rows - 1) (drop 1 rows) in
    let P : List (List Value) → Type 0 = λ xs. All (λ row. kinds_of row ≡ kinds) xs in
    let Q : RowSet → Type 0 = λ after. Gives {X = KeySet} {Y = RowSet}
    (λ grown. rows_of kinds grown) c.keys_with-in-len1-up.result (bounded after after) in
    let whole = first_and_others rows row c.in-len1-up.len_at_least c.first-item.is in
    let same = All-head (λ row. kinds_of row ≡ kinds) row rest (subst P (sym whole) c.requires.kinds) in
    let fits = subst AreStorable c.values.ensures c.in_ok-key-in-len1-up.ensures.stored in
    let made = c.in_ok-with-in-len1-up.ensures ∙ ap (set.insert c.args.keys.now) (c.in_ok-key-in-len1-up.ensures.key
    ∙ ap key_of c.values.ensures) in
    subst Q
    (ap (λ s. set.insert_all s rest) (ap (rows_of kinds) made ∙ rows_insert kinds c.args.keys.now row same fits)
    ∙ ap (set.insert_all (rows_of kinds c.args.keys.now)) whole)
    c.keys_with-in-len1-up.ensures.rows
