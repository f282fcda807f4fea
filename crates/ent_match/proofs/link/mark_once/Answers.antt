use Rattle.std.proofs.Common.{◌≡◌, ◌<◌, ◌+◌, true, length, get_or, set, take, arith, sym, subst}
use Rattle.std.proofs.Common.{◌∙◌, true≢false}
use Rattle.std.proofs.lemmas.List.{get_or_default}
use Rattle.std.proofs.lemmas.List.Elements.{Contains-get_or}
use Rattle.ent_match.specs.declared.link.Link.{Link}
use Rattle.ent_match.specs.Links.{Grows, IsMarked}
use Rattle.ent_match.proofs.Marks.{SoFar, mark_grows, mark_less, passes, marks_one, ended}
use Rattle.ent_match.proofs.link.mark_once.Goals as goal
use Rattle.ent_match.proofs.link.mark_once.Goals.{then-marks-link+then-not-marks-link, else-marks-link}
use Rattle.ent_match.proofs.link.mark_once.Goals.{else-marks-link-via-then-marks-link+else-not-marks-link}
use Rattle.ent_match.proofs.link.mark_once.Goals.{else-marks-link-via-else-marks-link}

pub bounds-marks-link : goal.bounds-marks-link
bounds-marks-link c =
    let within = c.requires _
    (Contains-get_or c.args.links.now c.loop-link.link-index (record { from = 0; to = 0 }) c.loop-link-test.true) in
    let low = within.0 in omega arith

pub bounds-marks-link-then-marks-link : goal.bounds-marks-link-then-marks-link
bounds-marks-link-then-marks-link c =
    let within = c.requires _
    (Contains-get_or c.args.links.now c.loop-link.link-index (record { from = 0; to = 0 }) c.loop-link-test.true) in
    let high = within.1 in omega arith

pub bounds-marks-link-then-not-marks-link : goal.bounds-marks-link-then-not-marks-link
bounds-marks-link-then-not-marks-link c =
    let within = c.requires _
    (Contains-get_or c.args.links.now c.loop-link.link-index (record { from = 0; to = 0 }) c.loop-link-test.true) in
    let high = within.1 in omega arith

pub loop-link-preserved : goal.loop-link-preserved
loop-link-preserved c =
    let links = c.args.links.now in
    let old = c.args.marks.now in
    let cur = c.loop-link.marks in
    let i = c.loop-link.link-index in
    let none : Link = record { from = 0; to = 0 } in
    let link = get_or links i none in
    let inside = Contains-get_or links i none c.loop-link-test.true in
    let within = c.requires link inside in
    let is : link ≡ get_or links i link = get_or_default links i none link c.loop-link-test.true in
    let high : link.to < length cur = (let h = within.1 in omega arith) in
    elim c.if-marks-link.branch [
      | then-marks-link+then-not-marks-link w ↦
          let grows = mark_grows links old cur link inside c.loop-link.invariant.grows w.if-marks-link.true high in
          let less = mark_less links old cur link inside c.loop-link.invariant.grows w.if-marks-link.true high
          w.if-not-marks-link.true in
          let far = marks_one links i old cur (set cur link.to true) c.loop-link.is_new c.loop-link.invariant.so_far
          less in
          record {
            grows = subst (Grows links old) (sym w.marks-is) grows;
            so_far = subst (SoFar (take (i + 1) links) old c.if-marks-link.marks) (sym w.is_new-is)
                (subst (λ xs. SoFar (take (i + 1) links) old xs true) (sym w.marks-is) far);
          }
      | else-marks-link w ↦
          let leads : IsMarked cur link.from → IsMarked cur link.to = λ from. elim w.else-marks-link.branch [
            | else-marks-link-via-then-marks-link+else-not-marks-link w' ↦ w'.if-not-marks-link.false
            | else-marks-link-via-else-marks-link w' ↦ absurd (true≢false (sym from ∙ w'.if-marks-link.false))
          ] in
          let far = passes links i link old cur c.loop-link.is_new c.loop-link-test.true is
          c.loop-link.invariant.so_far leads in
          record {
            grows = subst (Grows links old) (sym w.marks-is) c.loop-link.invariant.grows;
            so_far = subst (SoFar (take (i + 1) links) old c.if-marks-link.marks) (sym w.is_new-is)
                (subst (λ xs. SoFar (take (i + 1) links) old xs c.loop-link.is_new) (sym w.marks-is) far);
          }
    ]

pub returns-clause-ends : goal.returns-clause-ends
returns-clause-ends c =
    ended c.args.links.now c.loop-link.link-index c.args.marks.now c.loop-link.marks c.loop-link.is_new
    c.loop-link-test.false
    c.loop-link.invariant.so_far
