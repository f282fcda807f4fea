use Rattle.std.proofs.Common.{ℕ, List, ◌∙◌, ap, drop}
use Rattle.ent_text.specs.Left.{tokens_left, fault_among}
use Rattle.ent_text.proofs.FirstFault.{fault_left_behind, none_is_left, some_is_left}
use Rattle.ent_text.proofs.left.fault_from.Goals as goal

pub returns-clause-none : goal.returns-clause-none
returns-clause-none c =
    none_is_left c.args.text.now c.first_fault.result
    (c.first_fault.ensures
    ∙ ap (λ (bytes : List ℕ). fault_among (tokens_left c.args.place bytes))
    (c.from.ensures ∙ ap (drop c.args.place) c.as_bytes.ensures.value)
    ∙ fault_left_behind c.args.text.now c.args.place c.requires)

pub returns-clause-some : goal.returns-clause-some
returns-clause-some c =
    some_is_left c.args.text.now c.first_fault.result
    (c.first_fault.ensures
    ∙ ap (λ (bytes : List ℕ). fault_among (tokens_left c.args.place bytes))
    (c.from.ensures ∙ ap (drop c.args.place) c.as_bytes.ensures.value)
    ∙ fault_left_behind c.args.text.now c.args.place c.requires)
