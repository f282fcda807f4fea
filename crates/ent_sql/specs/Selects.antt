-- The grammar of SELECT over tables.
use Rattle.std.specs.Prelude.{List, [], Some, None}
use Rattle.ent_text.specs.declared.keyword.Keyword.TheVariants as words
use Rattle.ent_text.specs.declared.symbol.Symbol.TheVariants as signs
use Rattle.ent_tree.specs.declared.limits.TheConstants.{MOST_PARTS, MOST_SOURCES}
use Rattle.ent_tree.specs.declared.operand.Operand.{Operand}
use Rattle.ent_tree.specs.declared.operand.Test.{Test}
use Rattle.ent_tree.specs.declared.select.Source.{Source}
use Rattle.ent_tree.specs.declared.select.Items.{Items}
use Rattle.ent_tree.specs.declared.select.Items.TheVariants.{All, Listed}
use Rattle.ent_tree.specs.declared.select.Select.{Select}
use Rattle.ent_text.specs.declared.divider.Divider.TheVariants.{Comma, And}
use Rattle.ent_text.specs.Grammar.{Grammar, give, pick, listed}
use Rattle.ent_sql.specs.Notation.{◌>>=◌, keyword, symbol}
use Rattle.ent_sql.specs.Operands.{identifier, operand, compared}

-- name [ [ AS ] name ]
unfoldable pub source : Grammar Source
source = do
  table ← identifier
  pick
      (do
        _ ← keyword words.As
        alias ← identifier
        give (record { table = table; alias = Some alias }))
      (pick
      (do
        alias ← identifier
        give (record { table = table; alias = Some alias }))
      (give (record { table = table; alias = None })))

-- [ WHERE test { AND test } ]
unfoldable pub tests : Grammar (List (Test Operand))
tests = pick
    (do
      _ ← keyword words.Where
      listed MOST_PARTS And (compared operand))
    (give [])

-- FROM source { "," source } [ WHERE tests ], behind what is shown
unfoldable pub select_behind : Items → Grammar Select
select_behind items = do
  _ ← keyword words.From
  sources ← listed MOST_SOURCES Comma source
  conditions ← tests
  give (record { items = items; sources = sources; tests = conditions })

-- "*" | operand { "," operand }
unfoldable pub items : Grammar Items
items = pick (symbol signs.Star >>= λ _. give All)
    (do
      xs ← listed MOST_PARTS Comma operand
      give (Listed xs))

-- SELECT items FROM from [ WHERE tests ]
unfoldable pub select : Grammar Select
select = do
  _ ← keyword words.Select
  shown ← items
  select_behind shown
