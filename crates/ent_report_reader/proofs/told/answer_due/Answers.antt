use Rattle.std.proofs.Common.{◌<◌, ◌∙◌, IfSome, ap, subst, sym}
use Rattle.ent_tree.specs.declared.limits.TheConstants.{MOST_STATEMENTS}
use Rattle.ent_report_reader.proofs.Ends.{answer_due_last, answer_due_none, answers_so_far_last, of_script}
use Rattle.ent_report_reader.proofs.told.answer_due.Goals as goal

pub returns-in_default-clause-due : goal.returns-in_default-clause-due
returns-in_default-clause-due c =
    sym (answer_due_none c.args.scripts.now c.args.transactions.now (sym c.in_default.ensures))

pub returns-in_default-at-clause-due : goal.returns-in_default-at-clause-due
returns-in_default-at-clause-due c =
    sym (answer_due_last c.args.scripts.now c.args.transactions.now c.in-Some.told.now (sym c.in-Some.ensures)
    ∙ ap (λ script. of_script script c.in-Some.told.now) (sym c.in_default-at.ensures))

pub returns-clause-due : goal.returns-clause-due
returns-clause-due c =
    c.unanswered.ensures.due
    ∙ sym (answer_due_last c.args.scripts.now c.args.transactions.now c.in-Some.told.now (sym c.in-Some.ensures)
    ∙ ap (λ script. of_script script c.in-Some.told.now) (sym c.in-Some-at.ensures))

pub returns-clause-limit : goal.returns-clause-limit
returns-clause-limit c =
    subst (λ n. IfSome c.unanswered.result (λ x. n < MOST_STATEMENTS))
    (answers_so_far_last c.args.transactions.now c.in-Some.told.now (sym c.in-Some.ensures)) c.unanswered.ensures.limit
