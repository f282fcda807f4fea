use Rattle.std.proofs.Common.{◌≡◌, ℕ, true, nat_eq, sym, subst, ◌∙◌, true≢false}
use Rattle.std.specs.Prelude.{IfSome, Option, None, Some}
use Rattle.std.specs.Option.{option_eq}
use Rattle.ent_lists.specs.Elements.{same_number}
use Rattle.ent_run.specs.Run.{Run}
use Rattle.ent_waits.specs.Rows.{MarksGroup}
use Rattle.ent_waits.proofs.rows.mark_next_group.Goals as goal

marked_last : (run : Run) (last : Option ℕ) (row group : ℕ) → option_eq nat_eq last (Some group) ≡ true
    → IfSome last (λ (own : ℕ). MarksGroup run own row) → MarksGroup run group row
marked_last run None row group same marks = absurd (true≢false (sym same))
marked_last run (Some own) row group same marks =
    subst (λ (label : ℕ). MarksGroup run label row) (same_number own group same) marks

pub returns-then-eq-clause-marked : goal.returns-then-eq-clause-marked
returns-then-eq-clause-marked c =
    marked_last c.args.run.now c.args.marked.last c.args.marked.row c.args.group (sym c.eq.ensures ∙ c.if-eq.true)
    c.requires
