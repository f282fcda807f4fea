use Rattle.std.proofs.Common.{◌≡◌, ◌∙◌, [], ℕ, List, ap, sym}
use Rattle.std.specs.List.{filter}
use Rattle.ent_waits.specs.Pooled.{is_of_none}
use Rattle.ent_rel.proofs.Keyed.{none_in}
use Rattle.ent_core.proofs.Pooled.{withdrawn_none, withdrawn_one}
use Rattle.ent_core.proofs.take_out.+withdraw_each.Goals as goal

pub returns-in-Some : goal.returns-in-Some
returns-in-Some t c =
    let pool = c.args.pool.now in
    let others = c.in-Some.others.now in
    c.withdraw_each.ensures ∙ ap (filter (is_of_none others)) c.withdraw.ensures
    ∙ withdrawn_one c.in-Some.tx.now others pool
    ∙ ap (λ (numbers : List ℕ). filter (is_of_none numbers) pool) (sym c.in-Some.ensures.cases.0)

pub returns-in_default : goal.returns-in_default
returns-in_default t c =
    let pool = c.args.pool.now in
    let none : c.args.numbers.now ≡ [] = none_in c.args.numbers.now c.in_default.ensures.cases in
    withdrawn_none pool ∙ ap (λ (numbers : List ℕ). filter (is_of_none numbers) pool) (sym none)
