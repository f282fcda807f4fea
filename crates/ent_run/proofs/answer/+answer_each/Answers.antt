use Rattle.std.proofs.Common.{◌≡◌, ◌<◌, List, map, length, get_or, refl, sym, ap, subst, ◌∙◌, arith}
use Rattle.std.proofs.lemmas.List.{get_or-set_same}
use Rattle.ent_protocol.specs.State.{Member}
use Rattle.ent_members.specs.Answered.{MemberAnswer}
use Rattle.ent_run.specs.Answered.{answered_from}
use Rattle.ent_members.specs.Changes.{stepping}
use Rattle.ent_run.specs.Places.{IsAt, found}
use Rattle.ent_run.specs.Run.{Run}
use Rattle.ent_run.specs.UnderKeys.{nobody}
use Rattle.ent_run.proofs.Answered.{back_again, last_apart, nobody as none_given, not_there, one_more}
use Rattle.ent_run.proofs.InSlab.{second_distinct}
use Rattle.ent_run.proofs.OneChange.{one_numbers, one_prepared, same_distinct, same_length}
use Rattle.ent_run.proofs.OneMember.{found_tx, on_err_then, on_ok_then}
use Rattle.ent_run.proofs.answer.+answer_each.Goals as goal

pub returns-in_default-clause-ok : goal.returns-in_default-clause-ok
returns-in_default-clause-ok t c =
    none_given c.args.given.now.items c.args.members.now.active
    (omega (arith, c.in_default.ensures.cases.0, c.args.given.now.ok.0))

-- ---- the last answer is taken

pub answer_each-requires : goal.answer_each-requires
answer_each-requires t c =
    let apart = last_apart c.args.given.now.items c.pop.new.self.items c.in-Some.own c.in-Some.ensures.items
    c.requires.given in
    (omega (arith, c.in-Some.ensures.cases), (c.requires.numbers, apart.1))

pub returns-in_default-place_of-clause-ok : goal.returns-in_default-place_of-clause-ok
returns-in_default-place_of-clause-ok t c =
    let members = c.args.members.now.active in
    let front = c.pop.new.self.items in
    let own = c.in-Some.own in
    on_ok_then c.answer_each.result (c.answer_each.new.members.active ≡ map (answered_from front) members)
    (c.answer_each.new.members.active ≡ map (answered_from c.args.given.now.items) members)
    (λ h. h ∙ not_there front own members
    (ap (found members) (sym c.tx.ensures) ∙ ap (λ (ms : List Member). found ms c.tx.result) (sym c.active.ensures)
    ∙ c.in_default-place_of.ensures.none refl)
    ∙ ap (λ (given : List MemberAnswer). map (answered_from given) members) (sym c.in-Some.ensures.items))
    c.answer_each.ensures.ok

-- ---- its member took it

pub answer_each-others-requires : goal.answer_each-others-requires
answer_each-others-requires t c =
    let apart = last_apart c.args.given.now.items c.pop.new.self.items c.in-Some.own c.in-Some.ensures.items
    c.requires.given in
    let change = stepping c.into_parts-answer.result.0 c.into_parts-answer.result.1.items in
    let old = c.args.members.now in
    let mid = c.step_bound.new.self in
    let at = c.in-Some-place_of.at in
    let is = c.in_ok-step_bound.ensures.ok nobody in (
      omega (arith, c.in-Some.ensures.cases),
      (
        same_distinct old mid (one_prepared change (λ m. refl) old mid at is)
            (one_numbers change (λ m. refl) old mid at is) c.requires.numbers,
        apart.1,
      ),
    )

pub step_back-requires-clause-within : goal.step_back-requires-clause-within
step_back-requires-clause-within t c =
    let change = stepping c.into_parts-answer.result.0 c.into_parts-answer.result.1.items in
    let old = c.args.members.now in
    let mid = c.step_bound.new.self in
    let at = c.in-Some-place_of.at in
    let numbers = c.answer_each-others.ensures.numbers
    ∙ one_numbers change (λ m. refl) old mid at (c.in_ok-step_bound.ensures.ok nobody) in
    omega (
      arith,
      same_length c.answer_each-others.new.members.active old.active numbers,
      ap (λ (ms : List Member). length ms) c.active.ensures,
      c.in-Some-place_of.ensures.some.in_range,
    )

pub step_back-requires-clause-numbers : goal.step_back-requires-clause-numbers
step_back-requires-clause-numbers t c =
    let change = stepping c.into_parts-answer.result.0 c.into_parts-answer.result.1.items in
    let old = c.args.members.now in
    let mid = c.step_bound.new.self in
    let at = c.in-Some-place_of.at in
    let is = c.in_ok-step_bound.ensures.ok nobody in
    same_distinct old c.answer_each-others.new.members
    (c.answer_each-others.ensures.prepared ∙ one_prepared change (λ m. refl) old mid at is)
    (c.answer_each-others.ensures.numbers ∙ one_numbers change (λ m. refl) old mid at is) c.requires.numbers

pub returns-then-is_err-clause-err : goal.returns-then-is_err-clause-err
returns-then-is_err-clause-err t c =
    let members = c.args.members.now.active in
    let now = c.answer_each-others.new.members in
    let at = c.in-Some-place_of.at in
    let own = c.in-Some.own in
    let before = get_or members at nobody in
    let new = stepping c.into_parts-answer.result.0 c.into_parts-answer.result.1.items before in
    let low : at < length members =
    subst (λ (ms : List Member). at < length ms) c.active.ensures c.in-Some-place_of.ensures.some.in_range in
    let stepped : new ≡ stepping own.answer own.bound before =
    λ i. stepping (c.into_parts-answer.ensures.answer i) (c.into_parts-answer.ensures.bound i) before in
    let mid = ap (λ (run : Run). run.active) (c.in_ok-step_bound.ensures.ok nobody) in
    let here : c.at-member.result.now ≡ before = c.at-member.ensures nobody
    ∙ ap (λ (ms : List Member). get_or ms at nobody) c.active-2.ensures in
    on_err_then c.answer_each-others.result (now.active ≡ c.step_bound.new.self.active)
    (c.step_back.new.self.active ≡ members)
    (λ same. ap (λ (run : Run). run.active) (c.step_back.ensures.back own.answer own.bound before nobody
    (ap (λ (ms : List Member). get_or ms at nobody) (same ∙ mid) ∙ get_or-set_same members at new nobody low ∙ stepped)
    (sym (c.count-bindings.ensures ∙ ap length c.environment.ensures ∙ ap (λ (m : Member). length m.bound) here))
    (sym (c.is_posted-was_posted.ensures ∙ ap (λ (m : Member). m.posted) here)))
    ∙ back_again members now.active at new before nobody (same ∙ mid) refl)
    c.answer_each-others.ensures.err

pub returns-then-is_err-clause-numbers : goal.returns-then-is_err-clause-numbers
returns-then-is_err-clause-numbers t c =
    let change = stepping c.into_parts-answer.result.0 c.into_parts-answer.result.1.items in
    c.step_back.ensures.numbers
    ∙ c.answer_each-others.ensures.numbers
    ∙ one_numbers change (λ m. refl) c.args.members.now c.step_bound.new.self c.in-Some-place_of.at
    (c.in_ok-step_bound.ensures.ok nobody)

pub returns-then-is_err-clause-prepared : goal.returns-then-is_err-clause-prepared
returns-then-is_err-clause-prepared t c =
    let change = stepping c.into_parts-answer.result.0 c.into_parts-answer.result.1.items in
    c.step_back.ensures.prepared
    ∙ c.answer_each-others.ensures.prepared
    ∙ one_prepared change (λ m. refl) c.args.members.now c.step_bound.new.self c.in-Some-place_of.at
    (c.in_ok-step_bound.ensures.ok nobody)

pub returns-else-is_err-clause-ok : goal.returns-else-is_err-clause-ok
returns-else-is_err-clause-ok t c =
    let old = c.args.members.now in
    let members = old.active in
    let now = c.answer_each-others.new.members.active in
    let at = c.in-Some-place_of.at in
    let front = c.pop.new.self.items in
    let own = c.in-Some.own in
    let before = get_or members at nobody in
    let new = stepping c.into_parts-answer.result.0 c.into_parts-answer.result.1.items before in
    let there : IsAt members c.tx.result at =
    subst (λ (ms : List Member). IsAt ms c.tx.result at) c.active.ensures c.in-Some-place_of.ensures.some in
    let apart = last_apart c.args.given.now.items front own c.in-Some.ensures.items c.requires.given in
    on_ok_then c.answer_each-others.result (now ≡ map (answered_from front) c.step_bound.new.self.active)
    (now ≡ map (answered_from c.args.given.now.items) members)
    (λ h. h
    ∙ ap (λ (run : Run). map (answered_from front) run.active) (c.in_ok-step_bound.ensures.ok nobody)
    ∙ one_more front own members at new nobody apart.0 (second_distinct old.prepared members c.requires.numbers)
    there.in_range
    (found_tx members c.tx.result before (there.first nobody) ∙ c.tx.ensures)
    (λ i. stepping (c.into_parts-answer.ensures.answer i) (c.into_parts-answer.ensures.bound i) before)
    ∙ ap (λ (given : List MemberAnswer). map (answered_from given) members) (sym c.in-Some.ensures.items))
    c.answer_each-others.ensures.ok

pub returns-else-is_err-clause-numbers : goal.returns-else-is_err-clause-numbers
returns-else-is_err-clause-numbers t c =
    let change = stepping c.into_parts-answer.result.0 c.into_parts-answer.result.1.items in
    c.answer_each-others.ensures.numbers
    ∙ one_numbers change (λ m. refl) c.args.members.now c.step_bound.new.self c.in-Some-place_of.at
    (c.in_ok-step_bound.ensures.ok nobody)

pub returns-else-is_err-clause-prepared : goal.returns-else-is_err-clause-prepared
returns-else-is_err-clause-prepared t c =
    let change = stepping c.into_parts-answer.result.0 c.into_parts-answer.result.1.items in
    c.answer_each-others.ensures.prepared
    ∙ one_prepared change (λ m. refl) c.args.members.now c.step_bound.new.self c.in-Some-place_of.at
    (c.in_ok-step_bound.ensures.ok nobody)
