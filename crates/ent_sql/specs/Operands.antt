-- The grammar of values, operands and tests.
use Rattle.std.specs.Prelude.{Some, None, pos}
use Rattle.ent_text.specs.declared.symbol.Symbol.TheVariants as signs
use Rattle.ent_text.specs.Numeral.{negative_of}
use Rattle.ent_value.specs.declared.value.Value.TheVariants as values
use Rattle.ent_tree.specs.declared.operand.Identifier.{Identifier}
use Rattle.ent_tree.specs.declared.operand.Literal.{Literal}
use Rattle.ent_tree.specs.declared.operand.ValueSpecification.{ValueSpecification}
use Rattle.ent_tree.specs.declared.operand.ValueSpecification.TheVariants as specifications
use Rattle.ent_tree.specs.declared.operand.ColumnReference.{ColumnReference}
use Rattle.ent_tree.specs.declared.operand.Operand.{Operand}
use Rattle.ent_tree.specs.declared.operand.Operand.TheVariants as operands
use Rattle.ent_tree.specs.declared.operand.Expression.{Expression}
use Rattle.ent_tree.specs.declared.operand.Expression.TheVariants.{Single, Sum, Difference}
use Rattle.ent_tree.specs.declared.operand.Comparison.{Comparison}
use Rattle.ent_tree.specs.declared.operand.Comparison.TheVariants as comparisons
use Rattle.ent_tree.specs.declared.operand.Test.{Test}
use Rattle.ent_tree.specs.declared.entangled.Term.{Term}
use Rattle.ent_tree.specs.declared.entangled.Term.TheVariants as terms
use Rattle.ent_text.specs.Class.{name, variable, number, text}
use Rattle.ent_text.specs.Grammar.{Grammar, give, token, pick}
use Rattle.ent_sql.specs.Notation.{◌>>=◌, symbol}

-- name
unfoldable pub identifier : Grammar Identifier
identifier = do
  n ← token name
  give (record { name = n.0; place = n.1 })

-- "@" name: it stands where its `@` does, and is named without it
unfoldable pub host_variable : Grammar Identifier
host_variable = do
  n ← token variable
  give (record { name = n.0; place = n.1 })

-- "-" number, which stands where the sign does
unfoldable pub negative : Grammar Literal
negative = do
  place ← symbol signs.Minus
  n ← token number
  give (record { value = values.Int (negative_of n.0); place = place })

-- number
unfoldable pub positive : Grammar Literal
positive = do
  n ← token number
  give (record { value = values.Int (pos n.0); place = n.1 })

-- text
unfoldable pub quoted : Grammar Literal
quoted = do
  t ← token text
  give (record { value = values.Text t.0; place = t.1 })

-- number | text
unfoldable pub unsigned : Grammar Literal
unsigned = pick positive quoted

-- "-" number | number | text
unfoldable pub literal : Grammar Literal
literal = pick negative unsigned

-- hostvariable | literal
unfoldable pub value : Grammar ValueSpecification
value = pick
    (do
      v ← host_variable
      give (specifications.HostVariable v))
    (do
      l ← literal
      give (specifications.Literal l))

-- name [ "." name ]
unfoldable pub column_reference : Grammar ColumnReference
column_reference = do
  first ← identifier
  pick
      (do
        _ ← symbol signs.Dot
        column ← identifier
        give (record { qualifier = Some first; column = column }))
      (give (record { qualifier = None; column = first }))

-- value | name | name "." name
unfoldable pub operand : Grammar Operand
operand = pick
    (do
      c ← column_reference
      give (operands.Column c))
    (do
      v ← value
      give (operands.Value v))

-- value | name
unfoldable pub term : Grammar Term
term = pick
    (do
      n ← identifier
      give (terms.Variable n))
    (do
      v ← value
      give (terms.Value v))

-- "=" | "<>" | "<" | "<=" | ">" | ">="
unfoldable pub comparison : Grammar Comparison
comparison = pick (symbol signs.Equal >>= λ _. give comparisons.Equal)
    (pick (symbol signs.NotEqual >>= λ _. give comparisons.NotEqual)
    (pick (symbol signs.Less >>= λ _. give comparisons.Less)
    (pick (symbol signs.LessOrEqual >>= λ _. give comparisons.LessOrEqual)
    (pick (symbol signs.Greater >>= λ _. give comparisons.Greater)
    (symbol signs.GreaterOrEqual >>= λ _. give comparisons.GreaterOrEqual)))))

-- thing comparison thing
unfoldable pub compared : {A : Type 0} → Grammar A → Grammar (Test A)
compared thing = do
  left ← thing
  compares ← comparison
  right ← thing
  give (record { left = left; comparison = compares; right = right })

-- [ ( "+" | "-" ) thing ] behind a first thing
unfoldable pub expression_behind : {A : Type 0} → Grammar A → A → Grammar (Expression A)
expression_behind thing first = pick
    (do
      _ ← symbol signs.Plus
      second ← thing
      give (Sum first second))
    (pick
    (do
      _ ← symbol signs.Minus
      second ← thing
      give (Difference first second))
    (give (Single first)))

-- thing [ ( "+" | "-" ) thing ]
unfoldable pub expression : {A : Type 0} → Grammar A → Grammar (Expression A)
expression thing = do
  first ← thing
  expression_behind thing first
