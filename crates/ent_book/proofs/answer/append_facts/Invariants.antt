use Rattle.std.proofs.Common.{◌≡◌, ◌++◌, drop}
use Rattle.ent_book.specs.Report.{facts_text}
use Rattle.ent_book.proofs.answer.append_facts.Given as goal

-- what is out, and the text of what is left
abbrev pub invariant-loop-fact : goal.invariant-loop-fact
invariant-loop-fact l = l.out.items ++ facts_text (drop l.fact-index l.facts) ≡ l.fn.out.items ++ facts_text l.facts
