use Rattle.std.proofs.Common.{◌≤◌, ◌+◌, length, map, arith, sym, subst, ◌∙◌, true≢false}
use Rattle.ent_match.specs.Components.{begins_at, component_at}
use Rattle.ent_match.proofs.Beginning.{marked_is}
use Rattle.ent_match.proofs.Rests.{Decides, decided, decides_next, decides_not, decides_same, marks_at, next_within}
use Rattle.ent_match.proofs.Rests.{rest_more, rest_none, rest_of, rest_same, rest_whole}
use Rattle.ent_match.proofs.components.is_component_at.Goals as goal
use Rattle.ent_match.proofs.components.is_component_at.Goals.{then-begins_at+else-not-is_next, else-begins_at}

pub loop-i-init : goal.loop-i-init
loop-i-init c =
    let pool = c.args.members.now in
    let firsts = c.args.firsts.now in
    let place = c.args.place in
    let whole = rest_whole (map (begins_at place) firsts) pool place
    (λ k marked. (c.requires.first k place (marked_is firsts place k marked)).0) in
    record {
      within = omega arith;
      decides = record { there = λ same. whole ∙ same; back = λ same. sym whole ∙ same };
    }

pub returns-then-not-is_next : goal.returns-then-not-is_next
returns-then-not-is_next c =
    let pool = c.args.members.now in
    let firsts = c.args.firsts.now in
    let place = c.args.place in
    let i = c.loop-i.i in
    let o = c.index-members-i.result in
    let marks = map (begins_at place) firsts in
    let asked = c.args.asked.now in
    let more = rest_more marks pool i o c.loop-i-test.true c.index-members-i.is
    (marks_at firsts place i ∙ (sym c.begins_at.ensures ∙ c.if-begins_at.true)) in (
      λ is. absurd (true≢false (sym is)),
      λ same. absurd (decides_not asked (component_at firsts place pool) (rest_of marks i pool)
          (rest_of marks (i + 1) pool) c.loop-i.count o more
          (λ next. true≢false (sym (c.is_next.ensures.1 next) ∙ c.if-not-is_next.true)) c.loop-i.invariant.decides
          same),
    )

pub loop-i-preserved : goal.loop-i-preserved
loop-i-preserved c =
    let pool = c.args.members.now in
    let firsts = c.args.firsts.now in
    let place = c.args.place in
    let i = c.loop-i.i in
    let n = c.loop-i.count in
    let marks = map (begins_at place) firsts in
    let asked = c.args.asked.now in
    let whole = component_at firsts place pool in
    let rest = rest_of marks i pool in
    let later = rest_of marks (i + 1) pool in
    let inv = c.loop-i.invariant in
    elim c.if-begins_at.branch [
      | then-begins_at+else-not-is_next w ↦
          let o = w.index-members-i.result in
          let more = rest_more marks pool i o c.loop-i-test.true w.index-members-i.is
          (marks_at firsts place i ∙ (sym c.begins_at.ensures ∙ w.if-begins_at.true)) in
          let next = w.is_next.ensures.0 w.if-not-is_next.false in
          let below = next_within asked n o _ next in
          record {
            within = subst (λ k. k ≤ length asked) (sym w.count-is) (omega arith);
            decides = subst (λ k. Decides later k asked whole) (sym w.count-is)
                (decides_next asked whole rest later n o more next inv.decides);
          }
      | else-begins_at w ↦
          let same = rest_same marks pool i (marks_at firsts place i
          ∙ (sym c.begins_at.ensures ∙ w.if-begins_at.false)) in
          record {
            within = subst (λ k. k ≤ length asked) (sym w.count-is) inv.within;
            decides = subst (λ k. Decides later k asked whole) (sym w.count-is)
                (decides_same asked whole rest later n same inv.decides);
          }
    ]

pub returns : goal.returns
returns c =
    let pool = c.args.members.now in
    let firsts = c.args.firsts.now in
    let place = c.args.place in
    let i = c.loop-i.i in
    let marks = map (begins_at place) firsts in
    decided c.args.asked.now (component_at firsts place pool) (rest_of marks i pool) c.loop-i.count
    c.loop-i.invariant.within (rest_none marks pool i (omega arith)) c.loop-i.invariant.decides
