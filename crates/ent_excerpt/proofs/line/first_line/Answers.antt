use Rattle.std.proofs.Common.{◌≡◌, ◌≢◌, ◌<◌, ℕ, ◌∷◌, ◌++◌, length, get_or, lit<, Some}
use Rattle.std.proofs.lemmas.Str.Pattern.{split_parts}
use Rattle.ent_excerpt.proofs.Lines.{before_first_break, all_is_first}
use Rattle.ent_excerpt.proofs.line.first_line.Goals as goal

pub returns-in-Some : goal.returns-in-Some
returns-in-Some c =
    let text = c.args.text.now in
    let line = c.in-Some.line.now in
    let rest = c.in-Some.field-0-1.now in
    let parts : (text ≡ line ++ (10 ∷ rest)) × ((k : ℕ) → k < length line → get_or line k 0 ≢ 10) =
    split_parts 10 text (Some (c.in-Some.line, c.in-Some.field-0-1)) c.in-Some.ensures.cases (lit< tt) in
    before_first_break text line rest parts.0 parts.1

pub returns-in-None : goal.returns-in-None
returns-in-None c = all_is_first c.args.text.now c.in-None.ensures.cases
