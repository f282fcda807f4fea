-- What values, operands and tests are.
use Rattle.std.specs.Prelude.{◌≡◌, ℕ, List, Option, Some, None, pos, ◌⊎◌}
use Rattle.ent_text.specs.declared.symbol.Symbol.{Symbol}
use Rattle.ent_text.specs.declared.symbol.Symbol.TheVariants as signs
use Rattle.ent_text.specs.declared.token.TokenKind.TheVariants as kinds
use Rattle.ent_text.specs.Numeral.{negative_of}
use Rattle.ent_value.specs.declared.value.Value.TheVariants as values
use Rattle.ent_tree.specs.declared.operand.Identifier.{Identifier}
use Rattle.ent_tree.specs.declared.operand.Literal.{Literal}
use Rattle.ent_tree.specs.declared.operand.ValueSpecification.{ValueSpecification}
use Rattle.ent_tree.specs.declared.operand.ValueSpecification.TheVariants as specifications
use Rattle.ent_tree.specs.declared.operand.ColumnReference.{ColumnReference}
use Rattle.ent_tree.specs.declared.operand.Operand.{Operand}
use Rattle.ent_tree.specs.declared.operand.Operand.TheVariants as operands
use Rattle.ent_tree.specs.declared.operand.Expression.{Expression}
use Rattle.ent_tree.specs.declared.operand.Expression.TheVariants.{Single, Sum, Difference}
use Rattle.ent_tree.specs.declared.operand.Comparison.{Comparison}
use Rattle.ent_tree.specs.declared.operand.Comparison.TheVariants as comparisons
use Rattle.ent_tree.specs.declared.operand.Test.{Test}
use Rattle.ent_tree.specs.declared.entangled.Term.{Term}
use Rattle.ent_tree.specs.declared.entangled.Term.TheVariants as terms
use Rattle.ent_text.specs.Phrase.{Phrase, ◌⨾◌}
use Rattle.ent_print.specs.Spelling.{comparison_symbol}
use Rattle.ent_sql_laws.specs.Phrases.{Standing, single, sign}

-- a name stands where its token does
abbrev pub identifier : Identifier → Phrase
identifier i = Standing i.place (kinds.Name i.name)

-- a host variable stands where its `@` does, and is named without it
abbrev pub host_variable : Identifier → Phrase
host_variable v = Standing v.place (kinds.HostVariable v.name)

-- a number behind a minus sign; it stands where the sign does
abbrev pub negative : Literal → Phrase
negative l tokens = (n : ℕ) × (l.value ≡ values.Int (negative_of n))
    × (Standing l.place (kinds.Sign signs.Minus) ⨾ single (kinds.Number n)) tokens

-- a number
abbrev pub positive : Literal → Phrase
positive l tokens = (n : ℕ) × (l.value ≡ values.Int (pos n)) × Standing l.place (kinds.Number n) tokens

-- a text in quotes
abbrev pub quoted : Literal → Phrase
quoted l tokens = (t : List ℕ) × (l.value ≡ values.Text t) × Standing l.place (kinds.Literal t) tokens

-- "-" number, number or text
abbrev pub literal : Literal → Phrase
literal l tokens = negative l tokens ⊎ (positive l tokens ⊎ quoted l tokens)

-- literal or host variable
abbrev pub value : ValueSpecification → Phrase
value (specifications.Literal l) = literal l
value (specifications.HostVariable v) = host_variable v

-- name, behind a qualifier and "." where there is one
abbrev pub behind_qualifier : Option Identifier → Identifier → Phrase
behind_qualifier None column = identifier column
behind_qualifier (Some qualifier) column = identifier qualifier ⨾ sign signs.Dot ⨾ identifier column

-- name [ "." name ]
abbrev pub column_reference : ColumnReference → Phrase
column_reference c = behind_qualifier c.qualifier c.column

-- value, name or name "." name
abbrev pub operand : Operand → Phrase
operand (operands.Value v) = value v
operand (operands.Column c) = column_reference c

-- value or name
abbrev pub term : Term → Phrase
term (terms.Value v) = value v
term (terms.Variable n) = identifier n

-- "=" or "<>" or "<" or "<=" or ">" or ">="
abbrev pub comparison : Comparison → Phrase
comparison c = sign (comparison_symbol c)

-- thing comparison thing
abbrev pub compared : {A : Type 0} → (A → Phrase) → Test A → Phrase
compared thing t = thing t.left ⨾ comparison t.comparison ⨾ thing t.right

-- thing [ ( "+" | "-" ) thing ]
abbrev pub expression : {A : Type 0} → (A → Phrase) → Expression A → Phrase
expression thing (Single x) = thing x
expression thing (Sum x y) = thing x ⨾ sign signs.Plus ⨾ thing y
expression thing (Difference x y) = thing x ⨾ sign signs.Minus ⨾ thing y
