-- What SELECT over tables, and DELETE, UPDATE and SET spell.
use Rattle.std.proofs.Common.{◌≡◌, List, [], ◌∷◌, ◌++◌, refl, sym, arith, Option, Some, None, ◌⊎◌, inl, inr}
use Rattle.std.proofs.lemmas.List.{append-nil}
use Rattle.ent_text.specs.declared.keyword.Keyword.TheVariants as words
use Rattle.ent_text.specs.declared.symbol.Symbol.TheVariants as signs
use Rattle.ent_text.specs.declared.token.Token.{Token}
use Rattle.ent_tree.specs.declared.limits.TheConstants.{MOST_PARTS, MOST_SOURCES}
use Rattle.ent_tree.specs.declared.operand.Identifier.{Identifier}
use Rattle.ent_tree.specs.declared.operand.Operand.{Operand}
use Rattle.ent_tree.specs.declared.operand.Test.{Test}
use Rattle.ent_tree.specs.declared.select.Source.{Source}
use Rattle.ent_tree.specs.declared.select.Items.{Items}
use Rattle.ent_tree.specs.declared.select.Items.TheVariants.{All, Listed}
use Rattle.ent_tree.specs.declared.select.Select.{Select}
use Rattle.ent_text.specs.declared.divider.Divider.TheVariants.{Comma, And}
use Rattle.ent_text.specs.Phrase.{Phrase, ◌⨾◌, nothing}
use Rattle.ent_text.specs.GrammarSpelling.{chained}
use Rattle.ent_sql.specs.Selects as grammar
use Rattle.ent_sql.specs.Statements as changes
use Rattle.ent_sql_laws.specs.Phrases as phrases
use Rattle.ent_sql_laws.specs.Operands as operands
use Rattle.ent_sql_laws.specs.Selects as said
use Rattle.ent_sql_laws.specs.Changes as changed
use Rattle.ent_sql_laws.proofs.Shapes.{Spelled, Made, made_gives, made_spelled, either_made, spelled_as, word_spelled}
use Rattle.ent_sql_laws.proofs.Shapes.{sign_spelled, give_spelled, last_spelled, then_spelled, mark_spelled}
use Rattle.ent_sql_laws.proofs.Shapes.{end_spelled, behind_spelled, chain_spelled, either_spelled, listed_spelled}
use Rattle.ent_sql_laws.proofs.Shapes.{join, alone_is}
use Rattle.ent_sql_laws.proofs.SpelledOperands.{identifier_spelled, host_variable_spelled, value_spelled}
use Rattle.ent_sql_laws.proofs.SpelledOperands.{operand_spelled}
use Rattle.ent_sql_laws.proofs.SpelledOperands.{compared_spelled, expression_spelled}

-- ---- sources

-- what stands behind the table of a source
abbrev BehindTable : Identifier → Source → Phrase
BehindTable table y tokens =
    Made (λ name. record { table = table; alias = Some name })
    (λ name. phrases.word words.As ⨾ operands.identifier name) y tokens
    ⊎ (Made (λ name. record { table = table; alias = Some name }) operands.identifier y tokens
    ⊎ Made {P = Unit {0}} (λ parts. record { table = table; alias = None }) (λ parts. nothing) y tokens)

source_to : (table : Identifier) (y : Source) {tokens : List Token} (front back : List Token)
    → tokens ≡ front ++ back → operands.identifier table front → BehindTable table y back → said.source y tokens
source_to table y {tokens = tokens} front back is h (inl k) =
    made_gives (λ z. said.source z tokens) (λ name l. join front back is h (inl l)) k
source_to table y {tokens = tokens} front back is h (inr (inl k)) =
    made_gives (λ z. said.source z tokens) (λ name l. join front back is h (inr l)) k
source_to table y {tokens = tokens} front back is h (inr (inr k)) =
    made_gives (λ z. said.source z tokens)
    (λ parts none. alone_is (operands.identifier table) front back is h none) k

alias_from : (table name : Identifier) (tokens : List Token) → said.alias name tokens
    → BehindTable table (record { table = table; alias = Some name }) tokens
alias_from table name tokens (inl h) = inl (record { parts = name; is = refl; spelled = h })
alias_from table name tokens (inr h) = inr (inl (record { parts = name; is = refl; spelled = h }))

source_from : (table : Identifier) (alias : Option Identifier) (tokens : List Token)
    → said.under_alias table alias tokens
    → chained operands.identifier BehindTable (record { table = table; alias = alias }) tokens
source_from table None tokens h = (
  table,
  join tokens [] (sym (append-nil tokens)) h (inr (inr (record { parts = tt; is = refl; spelled = refl }))),
)
source_from table (Some name) tokens h =
    (table, join h.front h.back h.whole h.first (alias_from table name h.back h.second))

pub source_spelled : Spelled grammar.source said.source
unfolding grammar.source
source_spelled =
    spelled_as
    (chain_spelled identifier_spelled
    (λ table. either_spelled
    (mark_spelled (word_spelled words.As)
    (λ place. last_spelled (λ name. record { table = table; alias = Some name }) identifier_spelled))
    (either_spelled (last_spelled (λ name. record { table = table; alias = Some name }) identifier_spelled)
    (give_spelled (record { table = table; alias = None })))))
    (λ y tokens h. source_to h.0 y h.1.front h.1.back h.1.whole h.1.first h.1.second)
    (λ y tokens h. source_from y.table y.alias tokens h)

-- ---- tests

abbrev WithTests : List (Test Operand) → Phrase
WithTests ts = phrases.word words.Where ⨾ phrases.listed MOST_PARTS And (operands.compared operands.operand) ts

abbrev NoTests : List (Test Operand) → Phrase
NoTests = Made {P = Unit {0}} (λ parts. []) (λ parts. nothing)

tests_to : (ts : List (Test Operand)) (tokens : List Token) → WithTests ts tokens ⊎ NoTests ts tokens
    → said.tests ts tokens
tests_to [] tokens (inl h) = absurd h.second
tests_to (t ∷ ts) tokens (inl h) = h
tests_to ts tokens (inr h) = made_gives (λ z. said.tests z tokens) (λ parts none. none) h

tests_from : (ts : List (Test Operand)) (tokens : List Token) → said.tests ts tokens
    → WithTests ts tokens ⊎ NoTests ts tokens
tests_from [] tokens h = inr (record { parts = tt; is = refl; spelled = h })
tests_from (t ∷ ts) tokens h = inl h

pub tests_spelled : Spelled grammar.tests said.tests
unfolding grammar.tests
tests_spelled =
    spelled_as
    (either_spelled
    (behind_spelled (word_spelled words.Where)
    (listed_spelled MOST_PARTS And (omega arith) (compared_spelled operand_spelled)))
    (give_spelled [])) tests_to tests_from

-- ---- SELECT

pub items_spelled : Spelled grammar.items said.items
unfolding grammar.items
items_spelled =
    either_made said.items (end_spelled All (sign_spelled signs.Star))
    (last_spelled (λ xs. Listed xs) (listed_spelled MOST_PARTS Comma (omega arith) operand_spelled))
    (λ parts tokens h. h) (λ parts tokens h. h) from
  where
    from : (y : Items) (tokens : List Token) → said.items y tokens
        → Made {P = Unit {0}} (λ parts. All) (λ parts. phrases.sign signs.Star) y tokens
        ⊎ Made (λ xs. Listed xs) (phrases.listed MOST_PARTS Comma operands.operand) y tokens
    from All tokens h = inl (record { parts = tt; is = refl; spelled = h })
    from (Listed xs) tokens h = inr (record { parts = xs; is = refl; spelled = h })

-- a SELECT of these items, and what stands behind them
abbrev pub BehindItems : Items → Select → Phrase
BehindItems shown =
    Made {P = List Source × List (Test Operand)}
    (λ parts. record { items = shown; sources = parts.0; tests = parts.1 })
    (λ parts. phrases.word words.From
    ⨾ phrases.listed MOST_SOURCES Comma said.source parts.0 ⨾ said.tests parts.1)

pub select_behind_spelled : (shown : Items) → Spelled (grammar.select_behind shown) (BehindItems shown)
unfolding grammar.select_behind
select_behind_spelled shown =
    mark_spelled (word_spelled words.From)
    (λ place. then_spelled (λ sources tests. record { items = shown; sources = sources; tests = tests })
    (λ sources tests. said.tests tests)
    (listed_spelled MOST_SOURCES Comma (omega arith) source_spelled)
    (λ sources. last_spelled (λ tests. record { items = shown; sources = sources; tests = tests }) tests_spelled))

pub select_spelled : Spelled grammar.select said.select
unfolding grammar.select
select_spelled =
    made_spelled said.select
    (mark_spelled (word_spelled words.Select)
    (λ place. then_spelled _ _ items_spelled (λ shown. select_behind_spelled shown)))
    (λ parts tokens h. h)
    (λ y tokens h. record { parts = (y.items, (y.sources, y.tests)); is = refl; spelled = h })

-- ---- DELETE, UPDATE and SET

pub delete_spelled : Spelled changes.delete changed.delete
unfolding changes.delete
delete_spelled =
    made_spelled changed.delete
    (mark_spelled (word_spelled words.Delete) (λ place. mark_spelled (word_spelled words.From)
    (λ place. then_spelled _ _ identifier_spelled
    (λ table. last_spelled (λ tests. record { table = table; tests = tests }) tests_spelled))))
    (λ parts tokens h. h) (λ y tokens h. record { parts = (y.table, y.tests); is = refl; spelled = h })

pub assignment_spelled : Spelled changes.assignment changed.assignment
unfolding changes.assignment
assignment_spelled =
    made_spelled changed.assignment
    (then_spelled _ _ identifier_spelled
    (λ column. mark_spelled (sign_spelled signs.Equal)
    (λ place. last_spelled (λ e. record { column = column; expression = e }) (expression_spelled operand_spelled))))
    (λ parts tokens h. h) (λ y tokens h. record { parts = (y.column, y.expression); is = refl; spelled = h })

pub update_spelled : Spelled changes.update changed.update
unfolding changes.update
update_spelled =
    made_spelled changed.update
    (mark_spelled (word_spelled words.Update) (λ place. then_spelled _ _ identifier_spelled
    (λ table. mark_spelled (word_spelled words.Set)
    (λ place. then_spelled _ _ (listed_spelled MOST_PARTS Comma (omega arith) assignment_spelled)
    (λ assignments. last_spelled
    (λ tests. record { table = table; assignments = assignments; tests = tests }) tests_spelled)))))
    (λ parts tokens h. h)
    (λ y tokens h. record { parts = (y.table, (y.assignments, y.tests)); is = refl; spelled = h })

pub set_spelled : Spelled changes.set changed.set
unfolding changes.set
set_spelled =
    made_spelled changed.set
    (mark_spelled (word_spelled words.Set) (λ place. then_spelled _ _ host_variable_spelled
    (λ v. mark_spelled (sign_spelled signs.Equal)
    (λ place. last_spelled (λ e. record { variable = v; expression = e }) (expression_spelled value_spelled)))))
    (λ parts tokens h. h) (λ y tokens h. record { parts = (y.variable, y.expression); is = refl; spelled = h })
