use Rattle.std.proofs.Common.{sym, ◌∙◌, arith}
use Rattle.ent_page.proofs.Changes.{first_decides}
use Rattle.ent_page.proofs.merging.begins.Goals as goal

pub returns-then-keys-gt0 : goal.returns-then-keys-gt0
returns-then-keys-gt0 c =
    first_decides c.args.keys.now c.args.key.now c.index-keys-0.result (omega arith)
    (sym c.index-keys-0.is) c.requires.sorted c.requires.from c.are_same_bytes.result
    (λ h. sym c.as_bytes.ensures ∙ c.are_same_bytes.ensures.0 h)
    (λ e. c.are_same_bytes.ensures.1 (c.as_bytes.ensures ∙ e))
