use Rattle.std.proofs.Common.{◌++◌, refl, sym, ap, ◌∙◌}
use Rattle.std.proofs.Common.{ℕ, List, true, false}
use Rattle.std.proofs.lemmas.List.{append-nil}
use Rattle.ent_protocol.specs.Waits.{next_uses}
use Rattle.ent_protocol.specs.Member.{next_in}
use Rattle.ent_semantics.specs.Serial.{numbered}
use Rattle.ent_waits.proofs.Gathered.{pairs_by}
use Rattle.ent_waits.proofs.cycles.push_pairs.Goals as goal

pub returns-then-is_waiting-clause-pairs : goal.returns-then-is_waiting-clause-pairs
returns-then-is_waiting-clause-pairs c =
    c.push_awaited.ensures.pairs
    ∙ ap (λ (more : List (ℕ × ℕ)). c.args.pairs.now ++ more)
    (sym (pairs_by c.args.run.now c.args.submitted.now c.args.lent.now c.args.asker.now c.as_slice.result.now true
    (sym c.is_waiting.ensures ∙ c.if-is_waiting.true) (c.as_slice.ensures.list ∙ c.next_uses.ensures)))

pub returns-else-is_waiting-clause-pairs : goal.returns-else-is_waiting-clause-pairs
returns-else-is_waiting-clause-pairs c =
    sym (append-nil c.args.pairs.now)
    ∙ ap (λ (more : List (ℕ × ℕ)). c.args.pairs.now ++ more)
    (sym (pairs_by c.args.run.now c.args.submitted.now c.args.lent.now c.args.asker.now
    (next_uses (next_in (numbered c.args.submitted.now c.args.asker.now.tx) c.args.asker.now)) false
    (sym c.is_waiting.ensures ∙ c.if-is_waiting.false) refl))
