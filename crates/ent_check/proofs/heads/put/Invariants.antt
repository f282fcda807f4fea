use Rattle.std.proofs.Common.{◌≡◌, ◌||◌, take}
use Rattle.ent_semantics.specs.declared.answer.Fact.{Fact}
use Rattle.ent_history.specs.Post.{is_offered}
use Rattle.ent_check.specs.Heads.{has}
use Rattle.ent_check.proofs.heads.put.Given as goal

-- the facts so far stand there
abbrev pub invariant-loop-fact : goal.invariant-loop-fact
invariant-loop-fact l =
    (post : Fact) → has l.heads post ≡ (has l.initial.heads post || is_offered (take l.fact-index l.facts) post)
