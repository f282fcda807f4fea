-- What SELECT over tables is.
use Rattle.std.specs.Prelude.{List, [], ◌∷◌, Option, Some, None, ◌⊎◌}
use Rattle.ent_text.specs.declared.keyword.Keyword.TheVariants as words
use Rattle.ent_text.specs.declared.symbol.Symbol.TheVariants as signs
use Rattle.ent_tree.specs.declared.limits.TheConstants.{MOST_PARTS, MOST_SOURCES}
use Rattle.ent_tree.specs.declared.operand.Identifier.{Identifier}
use Rattle.ent_tree.specs.declared.operand.Operand.{Operand}
use Rattle.ent_tree.specs.declared.operand.Test.{Test}
use Rattle.ent_tree.specs.declared.select.Source.{Source}
use Rattle.ent_tree.specs.declared.select.Items.{Items}
use Rattle.ent_tree.specs.declared.select.Items.TheVariants.{All, Listed}
use Rattle.ent_tree.specs.declared.select.Select.{Select}
use Rattle.ent_text.specs.declared.divider.Divider.TheVariants.{Comma, And}
use Rattle.ent_text.specs.Phrase.{Phrase, ◌⨾◌, nothing}
use Rattle.ent_sql_laws.specs.Phrases.{word, sign, listed}
use Rattle.ent_sql_laws.specs.Operands.{identifier, operand, compared}

-- [ AS ] name
abbrev pub alias : Identifier → Phrase
alias name tokens = (word words.As ⨾ identifier name) tokens ⊎ identifier name tokens

abbrev pub under_alias : Identifier → Option Identifier → Phrase
under_alias table None = identifier table
under_alias table (Some name) = identifier table ⨾ alias name

-- name [ [ AS ] name ]
abbrev pub source : Source → Phrase
source s = under_alias s.table s.alias

-- [ WHERE test { AND test } ]
abbrev pub tests : List (Test Operand) → Phrase
tests [] = nothing
tests (t ∷ ts) = word words.Where ⨾ listed MOST_PARTS And (compared operand) (t ∷ ts)

-- "*" or operand { "," operand }
abbrev pub items : Items → Phrase
items All = sign signs.Star
items (Listed xs) = listed MOST_PARTS Comma operand xs

-- FROM source { "," source } [ WHERE tests ]
abbrev pub behind_items : Select → Phrase
behind_items s = word words.From ⨾ listed MOST_SOURCES Comma source s.sources ⨾ tests s.tests

-- SELECT items FROM source { "," source } [ WHERE tests ]
abbrev pub select : Select → Phrase
select s = word words.Select ⨾ items s.items ⨾ behind_items s
