use Rattle.std.proofs.Common.{◌+◌, ◌++◌, List, map, sym, ap, ◌∙◌}
use Rattle.ent_semantics.specs.Pool.{Posted}
use Rattle.ent_match.specs.Components.{begins_at}
use Rattle.ent_match.proofs.Beginning.{marked_is}
use Rattle.ent_match.proofs.Rests.{marks_at, put_next, put_none, rest_of, rest_whole}
use Rattle.ent_match.proofs.components.component_at.Goals as goal
use Rattle.ent_match.proofs.components.component_at.Goals.{then-begins_at+in_ok-member+in_ok-push, else-begins_at}

pub loop-i-init : goal.loop-i-init
loop-i-init c =
    let pool = c.args.members.now in
    let firsts = c.args.firsts.now in
    let place = c.args.place in
    let marks = map (begins_at place) firsts in
    ap (λ (xs : List Posted). xs ++ rest_of marks place pool) c.new-component.ensures
    ∙ rest_whole marks pool place (λ k marked. (c.requires.first k place (marked_is firsts place k marked)).0)

pub loop-i-preserved : goal.loop-i-preserved
loop-i-preserved c =
    let pool = c.args.members.now in
    let firsts = c.args.firsts.now in
    let place = c.args.place in
    let i = c.loop-i.i in
    let marks = map (begins_at place) firsts in
    let list = c.loop-i.component in
    let rest = rest_of marks (i + 1) pool in
    elim c.if-begins_at.branch [
      | then-begins_at+in_ok-member+in_ok-push w ↦
          ap (λ (xs : List Posted). xs ++ rest) w.component-is
          ∙ put_next marks pool i w.index-members-i.result w.in_ok-member.member list _ _ c.loop-i-test.true
          w.index-members-i.is w.in_ok-member.ensures
          (marks_at firsts place i ∙ (sym c.begins_at.ensures ∙ w.if-begins_at.true)) w.in_ok-push.ensures.ok
          c.loop-i.invariant
      | else-begins_at w ↦
          ap (λ (xs : List Posted). xs ++ rest) w.component-is
          ∙ put_none marks pool i list _ (marks_at firsts place i ∙ (sym c.begins_at.ensures ∙ w.if-begins_at.false))
          c.loop-i.invariant
    ]
