use Rattle.std.proofs.Common.{◌≡◌, sym, ap, ◌∙◌, arith}
use Rattle.ent_meetings.specs.Group.{first_unmet, is_crowded, seen}
use Rattle.ent_meetings.specs.Search.{found_of}
use Rattle.ent_meetings.specs.Waiting.{named}
use Rattle.ent_meetings.proofs.Passed.{passed_crowded}
use Rattle.ent_meetings.proofs.Taking.{crowd_of}
use Rattle.ent_meetings.proofs.search.Search.step.Goals as goal

pub returns-then-is_crowded-clause-ok : goal.returns-then-is_crowded-clause-ok
returns-then-is_crowded-clause-ok c =
    let waiting = c.args.index.now in
    let old = c.args.self.now in
    let here : seen c.as_slice-then-self.result.now ≡ named waiting old.chosen.items =
    ap seen c.as_slice-then-self.ensures.value ∙ c.in_ok-parties.ensures
    ∙ ap (named waiting) c.as_slice.ensures.value in
    let crowd = crowd_of (named waiting old.chosen.items)
    (sym (ap is_crowded here) ∙ sym c.is_crowded.ensures ∙ c.if-is_crowded.true) in
    c.back.ensures waiting c.requires.stand
    (passed_crowded waiting old.root (found_of old) old.is_clear old.is_cut old.chosen.items crowd.0 crowd.1 crowd.2
    c.requires.stand.stand.distinct c.if-self.true)

pub returns-in-Some-clause-ok : goal.returns-in-Some-clause-ok
returns-in-Some-clause-ok c =
    let waiting = c.args.index.now in
    let old = c.args.self.now in
    let here : seen c.as_slice-2.result.now ≡ named waiting old.chosen.items =
    ap seen c.as_slice-2.ensures.value ∙ c.in_ok-parties.ensures ∙ ap (named waiting) c.as_slice.ensures.value in
    c.cut.ensures waiting c.requires.stand c.in-Some.field-0.now (sym (ap first_unmet here) ∙ sym c.in-Some.ensures)
    (omega (arith, old.chosen.ok.0))
