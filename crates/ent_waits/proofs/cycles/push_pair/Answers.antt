use Rattle.std.proofs.Common.{◌++◌, refl, sym, ap, ◌∙◌}
use Rattle.std.proofs.Common.{ℕ, List, true, false}
use Rattle.std.proofs.lemmas.List.{append-nil}
use Rattle.ent_waits.specs.Waits.{nothing}
use Rattle.ent_waits.proofs.Gathered.{pair_by}
use Rattle.ent_waits.proofs.cycles.push_pair.Goals as goal

pub returns-then-awaits-clause-pairs : goal.returns-then-awaits-clause-pairs
returns-then-awaits-clause-pairs c =
    c.push.ensures ∙ rw (c.tx.ensures, c.tx-then-awaits.ensures) refl
    ∙ ap (λ (more : List (ℕ × ℕ)). c.args.pairs.now ++ more)
    (sym (pair_by c.args.run.now c.args.asker.now c.args.other.now c.args.asked.now true
    (sym (c.awaits.ensures nothing) ∙ c.if-awaits.true)))

pub returns-else-awaits-clause-pairs : goal.returns-else-awaits-clause-pairs
returns-else-awaits-clause-pairs c =
    sym (append-nil c.args.pairs.now)
    ∙ ap (λ (more : List (ℕ × ℕ)). c.args.pairs.now ++ more)
    (sym (pair_by c.args.run.now c.args.asker.now c.args.other.now c.args.asked.now false
    (sym (c.awaits.ensures nothing) ∙ c.if-awaits.false)))
