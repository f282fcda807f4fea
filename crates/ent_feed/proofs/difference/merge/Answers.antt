use Rattle.std.proofs.Common.{sym, ap, ◌∙◌}
use Rattle.std.specs.Prelude.{Some}
use Rattle.ent_feed.specs.declared.difference.Step.{Step}
use Rattle.ent_feed.proofs.Merge.{adds, goes_on_alone, goes_on_both, keeps, removes, taken}
use Rattle.ent_feed.proofs.difference.merge.Goals as goal

pub steps-preserved-in-Continue-1 : goal.steps-preserved-in-Continue-1
steps-preserved-in-Continue-1 c =
    let before = c.steps.invariant in
    let said = sym c.in-Some.ensures ∙ ap (λ (s : Step). Some s) c.in-Removes.is in
    let noted = c.in_ok-note-in-Removes.ensures in
    let on = goes_on_alone c.steps.removed c.steps.added c.steps.old c.steps.new _ _ before.olds before.news
    before.removed before.added c.note.new.rows c.note.new.ahead
    (removes c.steps.old c.steps.new before.news said) noted.rows noted.left in
    record { removed = on.0; added = on.1; olds = on.2; news = before.news }

pub steps-preserved-in-Continue-branch-2 : goal.steps-preserved-in-Continue-branch-2
steps-preserved-in-Continue-branch-2 c =
    let before = c.steps.invariant in
    let said = sym c.in-Some.ensures ∙ ap (λ (s : Step). Some s) c.in-Adds.is in
    let noted = c.in_ok-note-in-Adds.ensures in
    let on = goes_on_alone c.steps.added c.steps.removed c.steps.new c.steps.old _ _ before.news before.olds
    before.added before.removed c.note-in-Adds.new.rows c.note-in-Adds.new.ahead
    (adds c.steps.old c.steps.new before.olds said) noted.rows noted.left in
    record { removed = on.1; added = on.0; olds = before.olds; news = on.2 }

pub steps-preserved : goal.steps-preserved
steps-preserved c =
    let before = c.steps.invariant in
    let said = sym c.in-Some.ensures ∙ ap (λ (s : Step). Some s) c.in-Keeps.is in
    let on = goes_on_both c.steps.removed c.steps.added c.steps.old c.steps.new _ _ before.olds before.news
    before.removed before.added c.take.new.self c.take-in-Keeps.new.self
    (keeps c.steps.old c.steps.new before.olds before.news said)
    (taken c.take.result c.steps.old c.take.new.self c.take.ensures)
    (taken c.take-in-Keeps.result c.steps.new c.take-in-Keeps.new.self c.take-in-Keeps.ensures) in
    record { removed = on.0; added = on.1; olds = on.2; news = on.3 }
