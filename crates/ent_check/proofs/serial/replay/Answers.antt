use Rattle.std.proofs.Common.{◌≡◌, List, length, map, sym, ap, subst, ◌∙◌}
use Rattle.std.specs.Arc.{arc_value}
use Rattle.std.specs.List.{AllByRecursion}
use Rattle.std.proofs.lemmas.List.{length-map}
use Rattle.ent_check.specs.Order.{accounts_at}
use Rattle.ent_history.specs.Told.{joint_answer_of}
use Rattle.ent_history.specs.declared.history.ToldJoint.{ToldJoint}
use Rattle.ent_history.specs.Account.{accounts, accounts_from, in_commit_order}
use Rattle.ent_history.specs.Placed.{Placed, placed}
use Rattle.ent_check.specs.Alone.{IsSeatedWhole}
use Rattle.ent_check.proofs.Seated.{commits_seated}
use Rattle.ent_check.proofs.Turns.{each_there}
use Rattle.ent_check.proofs.serial.replay.Goals as goal

pub turns_finding-requires-clause-seated : goal.turns_finding-requires-clause-seated
turns_finding-requires-clause-seated c =
    let history = c.args.history.now in
    let joints = map joint_answer_of history.joint_answers in
    let all = accounts_from 1 c.as_slice-scripts.result.now c.as_slice-transactions.result.now in
    let order = c.as_slice-2.result.now in
    let all_are : all ≡ accounts history =
    λ i. accounts_from 1 (c.as_slice-scripts.ensures i) (c.as_slice-transactions.ensures i) in
    let turns_are : accounts_at all order ≡ in_commit_order (accounts history) =
    ap (accounts_at all) c.as_slice-2.ensures.value ∙ c.in_ok-order.ensures.in_order ∙ ap in_commit_order all_are in
    let members_are : c.new-groundings.result ≡ placed joints =
    c.new-groundings.ensures
    ∙ ap (λ (told : List ToldJoint). placed (map joint_answer_of told)) c.as_slice.ensures in
    subst (λ (members : List Placed). AllByRecursion (IsSeatedWhole members) (accounts_at all order)) (sym members_are)
    (subst (AllByRecursion (IsSeatedWhole (placed joints))) (sym turns_are)
    (commits_seated (accounts history) joints c.requires.joined))

pub returns-clause-each : goal.returns-clause-each
returns-clause-each c = λ none.
    sym (length-map c.turns_finding.new.stage.tables.items arc_value)
    ∙ each_there c.in_ok-declared.declared (map arc_value c.turns_finding.new.stage.tables.items)
    (c.in_ok-finding.ensures.declared none)
    ∙ ap length c.in_ok-declared.ensures
