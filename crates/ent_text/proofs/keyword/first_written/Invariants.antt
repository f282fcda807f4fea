use Rattle.std.proofs.Common.{◌≡◌, drop}
use Rattle.std.specs.List.{find}
use Rattle.ent_text.specs.Keyword.{keyword_text}
use Rattle.ent_text.specs.Lexing.{is_written}
use Rattle.ent_text.proofs.keyword.first_written.Given as goal

abbrev pub invariant-loop-keyword : goal.invariant-loop-keyword
invariant-loop-keyword l = find (λ keyword. is_written l.word (keyword_text keyword))
    (drop l.keyword-index l.keywords) ≡ find (λ keyword. is_written l.word (keyword_text keyword)) l.keywords
