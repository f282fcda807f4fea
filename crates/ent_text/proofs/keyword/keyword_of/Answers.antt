use Rattle.std.proofs.Common.{◌==◌, ◌∙◌, ℕ, ap, arith, slice_index}
use Rattle.std.specs.List.{find, filter}
use Rattle.ent_text.specs.Keyword.{keyword_text}
use Rattle.ent_text.specs.Lexing.{keywords, is_written}
use Rattle.ent_text.proofs.Initials.{none_is_empty, by_initial}
use Rattle.ent_text.proofs.keyword.keyword_of.Goals as goal

pub returns-in_default : goal.returns-in_default
returns-in_default c = none_is_empty c.args.word.now (omega (arith, c.in_default.len_below))

pub returns : goal.returns
returns c =
    c.first_written.ensures ∙
    ap (find (λ keyword. is_written c.args.word.now (keyword_text keyword)))
    (c.with_initial.ensures ∙ ap (λ (capital : ℕ). filter
    (λ keyword. slice_index (keyword_text keyword) 0 == capital) keywords) c.to_ascii_uppercase.ensures.value) ∙
    by_initial c.args.word.now (omega (arith, c.in-len1-up.len_at_least))
