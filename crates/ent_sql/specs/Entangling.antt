-- The grammar of entangled SELECT.
use Rattle.std.specs.Prelude.{◌-◌, Bool, true, false, ◌&&◌, List, [], ◌∷◌, ◌++◌, length, Option, Some, None, cond}
use Rattle.ent_text.specs.declared.keyword.Keyword.TheVariants as words
use Rattle.ent_text.specs.declared.symbol.Symbol.TheVariants as signs
use Rattle.ent_tree.specs.Places.{term_place}
use Rattle.ent_tree.specs.declared.limits.TheConstants.{MOST_PARTS}
use Rattle.ent_tree.specs.declared.operand.Identifier.{Identifier}
use Rattle.ent_tree.specs.declared.operand.Operand.{Operand}
use Rattle.ent_tree.specs.declared.operand.Operand.TheVariants as operands
use Rattle.ent_tree.specs.declared.select.Items.TheVariants.{All, Listed}
use Rattle.ent_tree.specs.declared.entangled.Term.{Term}
use Rattle.ent_tree.specs.declared.entangled.Term.TheVariants as terms
use Rattle.ent_tree.specs.declared.entangled.EntangledItem.{EntangledItem}
use Rattle.ent_tree.specs.declared.entangled.Tuple.{Tuple}
use Rattle.ent_tree.specs.declared.entangled.Condition.{Condition}
use Rattle.ent_tree.specs.declared.entangled.Condition.TheVariants as conditions
use Rattle.ent_tree.specs.declared.entangled.Entangled.{Entangled}
use Rattle.ent_tree.specs.declared.script.Statement.{Statement}
use Rattle.ent_tree.specs.declared.script.Statement.TheVariants as statements
use Rattle.ent_text.specs.Class.{one}
use Rattle.ent_text.specs.declared.divider.Divider.TheVariants.{Comma, And}
use Rattle.ent_text.specs.Grammar.{Grammar, give, token, pick, listed, more}
use Rattle.ent_sql.specs.Notation.{◌>>=◌, keyword, symbol}
use Rattle.ent_sql.specs.Operands.{identifier, host_variable, operand, term, comparison}
use Rattle.ent_sql.specs.Selects.{select, select_behind}

-- ---- a select list whose statement isn't known yet

abbrev pub is_plain : Option Identifier → Bool
is_plain None = true
is_plain (Some qualifier) = false

-- an operand that can stand in an entangled statement, where no column is qualified
abbrev pub is_term : Operand → Bool
is_term (operands.Value v) = true
is_term (operands.Column c) = is_plain c.qualifier

abbrev pub are_terms : List Operand → Bool
are_terms [] = true
are_terms (x ∷ xs) = is_term x && are_terms xs

-- the operand read as a term: a plain name is a written variable
abbrev pub term_of : Operand → Term
term_of (operands.Value v) = terms.Value v
term_of (operands.Column c) = terms.Variable c.column

-- the item of an operand that binds nothing
abbrev pub unbound : Operand → EntangledItem
unbound x = record { term = term_of x; binds = None }

-- the operands read as items of an entangled statement, the last of which may bind a host variable
abbrev pub items_of : List Operand → Option Identifier → List EntangledItem
items_of [] binds = []
items_of (x ∷ []) binds = record { term = term_of x; binds = binds } ∷ []
items_of (x ∷ y ∷ xs) binds = unbound x ∷ items_of (y ∷ xs) binds

-- ---- parts

-- [ AS hostvariable ]
unfoldable pub binding : Grammar (Option Identifier)
binding = pick
    (do
      _ ← keyword words.As
      v ← host_variable
      give (Some v))
    (give None)

-- term [ AS hostvariable ]
unfoldable pub entangled_item : Grammar EntangledItem
entangled_item = do
  t ← term
  binds ← binding
  give (record { term = t; binds = binds })

-- [ AS hostvariable { "," item } ] behind the items before the first that binds a host variable
unfoldable pub entangled_items : List Operand → Grammar (List EntangledItem)
entangled_items xs = pick
    (do
      _ ← keyword words.As
      v ← host_variable
      others ← more (MOST_PARTS - length (items_of xs (Some v))) Comma entangled_item
      give (items_of xs (Some v) ++ others))
    (give (items_of xs None))

-- ANSWER name
unfoldable pub relation : Grammar Identifier
relation = do
  _ ← keyword words.Answer
  identifier

-- ---- conditions

-- IN "(" select ")" | IN ANSWER name, behind a tuple
unfoldable pub membership : Tuple → Grammar Condition
membership tuple = do
  _ ← keyword words.In
  pick
      (do
        _ ← symbol signs.Open
        s ← select
        _ ← symbol signs.Close
        give (conditions.InSelect tuple s))
      (do
        r ← relation
        give (conditions.InAnswer tuple r))

-- "(" term { "," term } ")" IN ..
unfoldable pub bracketed : Grammar Condition
bracketed = do
  place ← symbol signs.Open
  members ← listed MOST_PARTS Comma term
  _ ← symbol signs.Close
  membership (record { place = place; terms = members })

-- comparison term
unfoldable pub comparison_behind : Term → Grammar Condition
comparison_behind first = do
  compares ← comparison
  right ← term
  give (conditions.Test (record { left = first; comparison = compares; right = right }))

-- { "," term } IN .., behind a first term
unfoldable pub tuple_behind : Term → Grammar Condition
tuple_behind first = do
  others ← more (MOST_PARTS - 1) Comma term
  membership (record { place = term_place first; terms = first ∷ others })

-- comparison term | { "," term } IN .., behind a first term
unfoldable pub condition_behind : Term → Grammar Condition
condition_behind first = pick (comparison_behind first) (tuple_behind first)

-- tuple IN "(" select ")" | tuple IN ANSWER name | term comparison term
unfoldable pub condition : Grammar Condition
condition = pick bracketed
    (do
      first ← term
      condition_behind first)

-- [ WHERE condition { AND condition } ]
unfoldable pub entangled_conditions : Grammar (List Condition)
entangled_conditions = pick
    (do
      _ ← keyword words.Where
      listed MOST_PARTS And condition)
    (give [])

-- INTO relation { "," relation } [ WHERE conditions ] CHOOSE 1, behind the items
unfoldable pub entangled_behind : List EntangledItem → Grammar Entangled
entangled_behind items = do
  place ← keyword words.Into
  relations ← listed MOST_PARTS Comma relation
  found ← entangled_conditions
  _ ← keyword words.Choose
  _ ← token one
  give (record { items = items; place = place; relations = relations; conditions = found })

-- ---- either SELECT

-- FROM .. behind operands
unfoldable pub ordinary : List Operand → Grammar Statement
ordinary xs = do
  s ← select_behind (Listed xs)
  give (statements.Select s)

-- [ AS .. ] INTO .. behind operands
unfoldable pub entangled : List Operand → Grammar Statement
entangled xs = do
  shown ← entangled_items xs
  e ← entangled_behind shown
  give (statements.Entangled e)

-- SELECT ( "*" FROM .. | operand { "," operand } ( FROM .. | [ AS .. ] INTO .. ) )
unfoldable pub query : Grammar Statement
query = do
  _ ← keyword words.Select
  pick
      (do
        _ ← symbol signs.Star
        s ← select_behind All
        give (statements.Select s))
      (do
        xs ← listed MOST_PARTS Comma operand
        cond (are_terms xs) (pick (ordinary xs) (entangled xs)) (ordinary xs))
