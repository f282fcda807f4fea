use Rattle.std.proofs.Common.{◌≡◌, ◌∙◌, ◌∷◌, [], List, ap, map, sym}
use Rattle.std.specs.List.{filter}
use Rattle.ent_semantics.specs.Pool.{Posted}
use Rattle.ent_waits.specs.Pooled.{is_of_none}
use Rattle.ent_rel.proofs.Keyed.{none_in}
use Rattle.ent_core.proofs.Pooled.{withdrawn_none, withdrawn_one}
use Rattle.ent_core.proofs.joining.+withdraw_answered.Goals as goal

pub returns-in-Some : goal.returns-in-Some
returns-in-Some t c =
    let pool = c.args.pool.now in
    let txs = map (λ (query : Posted). query.tx) in
    let others = txs c.in-Some.others.now in
    c.withdraw_answered.ensures ∙ ap (filter (is_of_none others)) c.withdraw.ensures
    ∙ withdrawn_one c.tx.result others pool
    ∙ (λ i. filter (is_of_none (c.tx.ensures i ∷ others)) pool)
    ∙ ap (λ (asked : List Posted). filter (is_of_none (txs asked)) pool) (sym c.in-Some.ensures.cases.0)

pub returns-in_default : goal.returns-in_default
returns-in_default t c =
    let pool = c.args.pool.now in
    let none : c.args.asked.now ≡ [] = none_in c.args.asked.now c.in_default.ensures.cases in
    withdrawn_none pool
    ∙ ap (λ (asked : List Posted). filter (is_of_none (map (λ (query : Posted). query.tx) asked)) pool) (sym none)
