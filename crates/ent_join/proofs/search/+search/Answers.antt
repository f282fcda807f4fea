use Rattle.std.proofs.Common.{◌≡◌, ◌+◌, ◌-◌, ◌∷◌, ◌++◌, true, false, [], refl, ap, subst, sym, ◌∙◌, arith, length}
use Rattle.std.specs.Prelude.{vec_len, slice_index_or}
use Rattle.ent_join.specs.Dead.{IsDead}
use Rattle.ent_join.specs.Reason.{AreMarkedIn}
use Rattle.ent_join.proofs.Steps.{searched_with, searched_none, exhausted, pushed_is}
use Rattle.ent_join.proofs.Steps.{popped, no_dead_end, ends_on, search_ends, ticked_with, ticked_one, jumped, guide_on}
use Rattle.ent_join.proofs.Steps.{begun_on, pushed_count, going_on}
use Rattle.ent_join.proofs.Skipped.{dead_on, dead_learnt, skipping}
use Rattle.ent_value.specs.Ticks.{ticked}
use Rattle.ent_join.proofs.search.+search.Goals as goal

pub returns-then-left-eq0-clause-found : goal.returns-then-left-eq0-clause-found
returns-then-left-eq0-clause-found g t c =
    let passes = g.G.Guide.passes c.args.guide.now in
    search_ends passes c.args.left c.args.values.now.items c.may_pass.new.reason c.if-left-eq0.true
    (ap passes (sym c.as_slice.ensures.value) ∙ (sym c.may_pass.ensures.passes ∙ c.if-not-may_pass.false))

pub search-requires : goal.search-requires
search-requires g t c = λ κs lives.
    let passes = g.G.Guide.passes c.args.guide.now in
    let candidates = g.G.Guide.candidates c.args.guide.now in
    let now = c.loop-value.invariant.going in
    let old = c.args.values.now.items in
    let left = c.args.left in
    let value = c.in-Some.value.now in
    let push : c.push.new.self.items ≡ old ++ value ∷ [] =
    pushed_is _ _ _ _ _ c.in_ok-push.ensures.items now.unchanged c.in_ok-copy.ensures in
    let count : length old + left ≡ length c.push.new.self.items + (left - 1) =
    pushed_count left (left - 1) old c.push.new.self.items value (omega arith) push in
    let passed : passes old ≡ true =
    ap passes (sym c.as_slice.ensures.value) ∙ (sym c.may_pass.ensures.passes ∙ c.if-not-may_pass.false) in (
      omega (arith, c.decreases),
      (
        (λ a is. lives a is),
        (
          guide_on candidates passes left (left - 1) old c.push.new.self.items value (omega arith) push
              c.requires.guide,
          (
            begun_on passes old c.push.new.self.items value push passed,
            (
              c.loop-value.auto.reason
                  ∙ (c.may_pass.auto.reason ∙ (c.clear.auto.marks ∙ (c.requires.places ∙ count))),
              (
                c.loop-value.invariant.rooms ∙ (c.requires.rooms ∙ count),
                dead_on (length old + left) (length c.push.new.self.items + (left - 1)) passes c.loop-value.dead count
                    c.loop-value.invariant.dead,
              ),
            ),
          ),
        ),
      ),
    )

pub returns-then-branch-clause-found : goal.returns-then-branch-clause-found
returns-then-branch-clause-found g t c =
    let now = c.loop-value.invariant.going in
    let push : c.push.new.self.items ≡ c.args.values.now.items ++ c.in-Some.value.now ∷ [] =
    pushed_is _ _ _ _ _ c.in_ok-push.ensures.items now.unchanged c.in_ok-copy.ensures in
    searched_with (g.G.Guide.passes c.args.guide.now) (length c.args.values.now.items + c.args.left) c.args.left
    (c.args.left - 1) c.args.values.now.items c.push.new.self.items c.loop-value.cursor c.next_value.new.self
    c.search.new.values.items c.loop-value.gathered.items c.search.new.reason c.search.new.reason c.in-Some.value.now
    c.in_ok-search.field-0 (omega arith) refl push now.ascending now.complete c.in-Some.ensures.value c.if-branch.true
    c.in_ok-search.ensures.found

pub returns-then-branch-clause-ticks : goal.returns-then-branch-clause-ticks
returns-then-branch-clause-ticks g t c = λ ends bound.
    let passes = g.G.Guide.passes c.args.guide.now in
    let candidates = g.G.Guide.candidates c.args.guide.now in
    let old = c.args.values.now.items in
    let left = c.args.left in
    let value = c.in-Some.value.now in
    let now = c.loop-value.invariant.going in
    let push : c.push.new.self.items ≡ old ++ value ∷ [] =
    pushed_is _ _ _ _ _ c.in_ok-push.ensures.items now.unchanged c.in_ok-copy.ensures in
    ticked_with left (left - 1) c.args.ticks.now c.next_value.new.ticks c.search.new.ticks c.in_ok-search.field-0
    c.if-branch.true (omega arith)
    (λ room. ticked_one c.args.ticks.now c.next_value.new.ticks
    (c.in-Some.ensures.ticks ∙ ap (ticked 1) (now.first ends).1) room)
    (c.in_ok-search.ensures.ticks
    (ends_on candidates passes left (left - 1) old c.push.new.self.items value (omega arith) push ends)) bound

pub returns-then-not-reason-place-clause-found : goal.returns-then-not-reason-place-clause-found
returns-then-not-reason-place-clause-found g t c =
    let passes = g.G.Guide.passes c.args.guide.now in
    let old = c.args.values.now.items in
    let left = c.args.left in
    let value = c.in-Some.value.now in
    let now = c.loop-value.invariant.going in
    let push : c.push.new.self.items ≡ old ++ value ∷ [] =
    pushed_is _ _ _ _ _ c.in_ok-push.ensures.items now.unchanged c.in_ok-copy.ensures in
    let none = searched_none passes (left - 1) c.push.new.self.items c.search.new.values.items c.search.new.reason
    c.in_ok-search.field-0 c.if-branch.false c.in_ok-search.ensures.found in
    let place : c.len-place.result ≡ length old = c.len-place.ensures ∙ c.args.values.now.ok.0 in (
      popped old c.search.new.values.items c.pop.new.self.items value (vec_len c.search.new.values)
          (none.0 ∙ push) c.search.new.values.ok.0 c.pop.ensures.rest,
      jumped (length old + left) left (left - 1) passes c.search.new.reason old c.push.new.self.items value
          (omega arith) refl push
          (ap (λ j. slice_index_or c.search.new.reason j false) (sym place) ∙ c.if-not-reason-place.true) none.1,
    )

pub returns-then-not-reason-place-clause-ticks : goal.returns-then-not-reason-place-clause-ticks
returns-then-not-reason-place-clause-ticks g t c = λ ends.
    let passes = g.G.Guide.passes c.args.guide.now in
    let candidates = g.G.Guide.candidates c.args.guide.now in
    let old = c.args.values.now.items in
    let left = c.args.left in
    let value = c.in-Some.value.now in
    let now = c.loop-value.invariant.going in
    let push : c.push.new.self.items ≡ old ++ value ∷ [] =
    pushed_is _ _ _ _ _ c.in_ok-push.ensures.items now.unchanged c.in_ok-copy.ensures in
    let none = searched_none passes (left - 1) c.push.new.self.items c.search.new.values.items c.search.new.reason
    c.in_ok-search.field-0 c.if-branch.false c.in_ok-search.ensures.found in
    absurd (no_dead_end candidates passes (length old + left) left (left - 1) old c.push.new.self.items
    c.loop-value.cursor c.next_value.new.self c.search.new.reason value (omega arith) refl push (now.first ends).0
    c.in-Some.ensures.value none.1 ends)

pub loop-value-preserved-then-has : goal.loop-value-preserved-then-has
loop-value-preserved-then-has g t c =
    let passes = g.G.Guide.passes c.args.guide.now in
    let candidates = g.G.Guide.candidates c.args.guide.now in
    let old = c.args.values.now.items in
    let left = c.args.left in
    let value = c.in-Some.value.now in
    let place : c.len-place.result ≡ length old = c.len-place.ensures ∙ c.args.values.now.ok.0 in
    record {
      going = skipping candidates passes (length old + left) old c.loop-value.values.items c.loop-value.cursor
          c.next_value.new.self c.loop-value.gathered.items value c.args.ticks.now c.loop-value.ticks
          c.next_value.new.ticks c.in-Some.ensures.value
          (subst (λ p. IsDead (length old + left) passes p value) place
          (c.loop-value.invariant.dead c.len-place.result value (c.has.ensures c.if-has.true)))
          c.loop-value.invariant.going;
      rooms = c.loop-value.invariant.rooms;
      dead = c.loop-value.invariant.dead;
    }

pub loop-value-preserved : goal.loop-value-preserved
loop-value-preserved g t c =
    let passes = g.G.Guide.passes c.args.guide.now in
    let candidates = g.G.Guide.candidates c.args.guide.now in
    let old = c.args.values.now.items in
    let left = c.args.left in
    let value = c.in-Some.value.now in
    let now = c.loop-value.invariant.going in
    let push : c.push.new.self.items ≡ old ++ value ∷ [] =
    pushed_is _ _ _ _ _ c.in_ok-push.ensures.items now.unchanged c.in_ok-copy.ensures in
    let none = searched_none passes (left - 1) c.push.new.self.items c.search.new.values.items c.search.new.reason
    c.in_ok-search.field-0 c.if-branch.false c.in_ok-search.ensures.found in
    record {
      going = going_on candidates passes (length old + left) left (left - 1) old c.push.new.self.items
          c.loop-value.values.items c.pop.new.self.items
          c.loop-value.cursor c.next_value.new.self c.loop-value.gathered.items
          c.as_mut_slice-in-Some.result.now c.search.new.reason c.add_all.new.marks value
          c.loop-value.gathered.len c.args.ticks.now c.loop-value.ticks c.search.new.ticks (omega arith) refl push
          (popped old c.search.new.values.items c.pop.new.self.items value (vec_len c.search.new.values)
          (none.0 ∙ push) c.search.new.values.ok.0 c.pop.ensures.rest)
          c.as_mut_slice-in-Some.ensures.value c.add_all.auto.marks c.loop-value.gathered.ok.0
          c.add_all.ensures.kept c.add_all.ensures.more c.in-Some.ensures.value none.1 now;
      rooms = c.in_ok-search.ensures.same ∙ c.loop-value.invariant.rooms;
      dead = dead_learnt (length old + left) (left - 1) c.len-place.result passes c.search.new.reason old
          c.push.new.self.items value c.search.new.dead c.learn.new.self push
          (sym (pushed_count left (left - 1) old c.push.new.self.items value (omega arith) push))
          (c.len-place.ensures ∙ c.args.values.now.ok.0) none.1 c.in_ok-search.ensures.dead c.in_ok-learn.ensures;
    }

pub returns-clause-found : goal.returns-clause-found
returns-clause-found g t c =
    let now = c.loop-value.invariant.going in (
      now.unchanged,
      exhausted (g.G.Guide.passes c.args.guide.now) (length c.args.values.now.items + c.args.left) c.args.left
          (c.args.left - 1) c.args.values.now.items c.loop-value.cursor c.loop-value.gathered.items c.set_all.new.marks
          (omega arith) refl c.in_default.ensures.value.0
          (subst (λ marks. AreMarkedIn marks c.set_all.new.marks) c.as_slice-3.ensures.value c.set_all.ensures)
          now.complete,
    )
