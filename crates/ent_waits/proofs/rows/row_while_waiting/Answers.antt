use Rattle.std.proofs.Common.{◌≡◌, List, [], false, ap, refl, sym, ◌∙◌, true≢false}
use Rattle.std.specs.List.{list_any}
use Rattle.ent_lists.specs.Elements.{and_both}
use Rattle.ent_semantics.specs.Serial.{numbered}
use Rattle.ent_run.specs.Run.{with_run}
use Rattle.ent_run.specs.Waits.{is_awaited, waits_over}
use Rattle.ent_protocol.specs.Member.{next_in}
use Rattle.ent_protocol.specs.State.{Member, State, Use}
use Rattle.ent_protocol.specs.Uses.{not_passed}
use Rattle.ent_protocol.specs.Waits.{is_waiting, next_uses}
use Rattle.ent_waits.specs.Waits.{nothing, state_with}
use Rattle.ent_waits.proofs.Moving.{none_conflicting}
use Rattle.ent_waits.proofs.rows.row_while_waiting.Goals as goal

-- who asks for nothing waits for nobody
awaits_nobody : (s : State) (asker other : Member) → is_awaited s asker [] other ≡ false
awaits_nobody s asker other =
    ap (λ (members : List Member). list_any (waits_over asker.group other) members)
    (none_conflicting (not_passed s asker))

pub returns-in-None-clause-row : goal.returns-in-None-clause-row
returns-in-None-clause-row c = λ place other stands waits.
    let run = c.args.run.now in
    let asker = c.args.asker.now in
    let asked = next_uses (next_in (numbered c.args.submitted.now asker.tx) asker) in
    let now = is_waiting (state_with run c.args.submitted.now c.args.lent.now nothing) asker in
    let both = and_both now (is_awaited (with_run run nothing) asker asked other) waits in
    absurd (true≢false (sym both.1
    ∙ ap (λ (uses : List Use). is_awaited (with_run run nothing) asker uses other) (c.in-None.ensures.nothing refl)
    ∙ awaits_nobody (with_run run nothing) asker other))
