-- What DELETE, UPDATE and SET are.
use Rattle.ent_text.specs.declared.keyword.Keyword.TheVariants as words
use Rattle.ent_text.specs.declared.symbol.Symbol.TheVariants as signs
use Rattle.ent_tree.specs.declared.limits.TheConstants.{MOST_PARTS}
use Rattle.ent_tree.specs.declared.statement.Delete.{Delete}
use Rattle.ent_tree.specs.declared.statement.Assignment.{Assignment}
use Rattle.ent_tree.specs.declared.statement.Update.{Update}
use Rattle.ent_tree.specs.declared.statement.Set.{Set}
use Rattle.ent_text.specs.declared.divider.Divider.TheVariants.{Comma}
use Rattle.ent_text.specs.Phrase.{Phrase, ◌⨾◌}
use Rattle.ent_sql_laws.specs.Phrases.{word, sign, listed}
use Rattle.ent_sql_laws.specs.Operands.{identifier, host_variable, value, operand, expression}
use Rattle.ent_sql_laws.specs.Selects.{tests}

-- DELETE FROM name [ WHERE tests ]
abbrev pub delete : Delete → Phrase
delete d = word words.Delete ⨾ word words.From ⨾ identifier d.table ⨾ tests d.tests

-- name "=" operand [ ( "+" | "-" ) operand ]
abbrev pub assignment : Assignment → Phrase
assignment a = identifier a.column ⨾ sign signs.Equal ⨾ expression operand a.expression

-- UPDATE name SET assignment { "," assignment } [ WHERE tests ]
abbrev pub update : Update → Phrase
update u = word words.Update ⨾ identifier u.table ⨾ word words.Set
    ⨾ listed MOST_PARTS Comma assignment u.assignments ⨾ tests u.tests

-- SET hostvariable "=" value [ ( "+" | "-" ) value ]
abbrev pub set : Set → Phrase
set s = word words.Set ⨾ host_variable s.variable ⨾ sign signs.Equal ⨾ expression value s.expression
