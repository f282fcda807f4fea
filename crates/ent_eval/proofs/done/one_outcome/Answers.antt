use Rattle.std.proofs.Common.{Result, Ok, Err}
use Rattle.std.specs.Prelude.{IfOk}
use Rattle.ent_eval.proofs.Effects.{one_fits, one_done}
use Rattle.ent_eval.proofs.done.one_outcome.Goals as goal

pub statement_outcome-requires : goal.statement_outcome-requires
statement_outcome-requires c =
    one_fits c.args.single.now c.args.tables.now _ c.requires c.statement.ensures

both_of : {T E : Type 0} (r : Result T E) (P Q R : T → Type 0) → ((value : T) → P value → Q value → R value)
    → IfOk r P → IfOk r Q → IfOk r R
both_of (Ok value) P Q R made p q = made value p q
both_of (Err failure) P Q R made p q = tt

pub returns : goal.returns
returns c =
    both_of c.statement_outcome.result _ _ _
    (λ outcome. one_done c.args.single.now c.args.tables.now _ outcome c.requires c.statement.ensures)
    c.statement_outcome.ensures.meaning c.statement_outcome.ensures.change
