-- What entangled SELECT is.
use Rattle.std.specs.Prelude.{◌≡◌, ℕ, List, [], ◌∷◌, Option, Some, None, ◌⊎◌}
use Rattle.ent_text.specs.declared.keyword.Keyword.TheVariants as words
use Rattle.ent_text.specs.declared.symbol.Symbol.TheVariants as signs
use Rattle.ent_text.specs.declared.token.TokenKind.TheVariants as kinds
use Rattle.ent_tree.specs.declared.limits.TheConstants.{MOST_PARTS}
use Rattle.ent_tree.specs.declared.operand.Identifier.{Identifier}
use Rattle.ent_tree.specs.declared.entangled.Term.{Term}
use Rattle.ent_tree.specs.declared.entangled.EntangledItem.{EntangledItem}
use Rattle.ent_tree.specs.declared.entangled.Tuple.{Tuple}
use Rattle.ent_tree.specs.declared.entangled.Condition.{Condition}
use Rattle.ent_tree.specs.declared.entangled.Condition.TheVariants as conditions
use Rattle.ent_tree.specs.declared.entangled.Entangled.{Entangled}
use Rattle.ent_tree.specs.Places.{term_place}
use Rattle.ent_text.specs.declared.divider.Divider.TheVariants.{Comma, And}
use Rattle.ent_text.specs.Phrase.{Phrase, ◌⨾◌, nothing}
use Rattle.ent_sql_laws.specs.Phrases.{Standing, single, word, sign, listed}
use Rattle.ent_sql_laws.specs.Operands.{identifier, host_variable, term, compared}
use Rattle.ent_sql_laws.specs.Selects.{select}

-- [ AS hostvariable ]
abbrev pub binding : Option Identifier → Phrase
binding None = nothing
binding (Some v) = word words.As ⨾ host_variable v

-- term [ AS hostvariable ]
abbrev pub entangled_item : EntangledItem → Phrase
entangled_item i = term i.term ⨾ binding i.binds

-- ANSWER name
abbrev pub relation : Identifier → Phrase
relation r = word words.Answer ⨾ identifier r

-- ---- conditions

-- "(" term { "," term } ")", which stands at the bracket
abbrev pub in_brackets : Tuple → Phrase
in_brackets t = Standing t.place (kinds.Sign signs.Open) ⨾ listed MOST_PARTS Comma term t.terms ⨾ sign signs.Close

-- term { "," term }, which stands at the first term
abbrev pub without_brackets : ℕ → List Term → Phrase
without_brackets place [] = λ tokens. ⊥
without_brackets place (x ∷ xs) =
    λ tokens. (place ≡ term_place x) × listed MOST_PARTS Comma term (x ∷ xs) tokens

-- terms, in brackets or without
abbrev pub tuple : Tuple → Phrase
tuple t tokens = in_brackets t tokens ⊎ without_brackets t.place t.terms tokens

-- tuple IN "(" select ")", tuple IN ANSWER name, or term comparison term
abbrev pub condition : Condition → Phrase
condition (conditions.InSelect t s) = tuple t ⨾ word words.In ⨾ sign signs.Open ⨾ select s ⨾ sign signs.Close
condition (conditions.InAnswer t r) = tuple t ⨾ word words.In ⨾ relation r
condition (conditions.Test t) = compared term t

-- [ WHERE condition { AND condition } ]
abbrev pub conditions_clause : List Condition → Phrase
conditions_clause [] = nothing
conditions_clause (c ∷ cs) = word words.Where ⨾ listed MOST_PARTS And condition (c ∷ cs)

-- ---- the whole

-- INTO relation { "," relation } [ WHERE conditions ] CHOOSE 1
abbrev pub behind_items : Entangled → Phrase
behind_items e = Standing e.place (kinds.Word words.Into) ⨾ listed MOST_PARTS Comma relation e.relations
    ⨾ conditions_clause e.conditions ⨾ word words.Choose ⨾ single (kinds.Number 1)

-- SELECT item { "," item } INTO relation { "," relation } [ WHERE conditions ] CHOOSE 1
abbrev pub entangled : Entangled → Phrase
entangled e = word words.Select ⨾ listed MOST_PARTS Comma entangled_item e.items ⨾ behind_items e
