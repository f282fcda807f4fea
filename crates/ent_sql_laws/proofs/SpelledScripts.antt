-- What statements, scripts and whole inputs spell.
use Rattle.std.proofs.Common.{ℕ, ◌≤◌, List, refl, ◌⊎◌, inl, inr}
use Rattle.ent_text.specs.declared.keyword.Keyword.TheVariants as words
use Rattle.ent_text.specs.declared.symbol.Symbol.TheVariants as signs
use Rattle.ent_text.specs.declared.token.Token.{Token}
use Rattle.ent_text.specs.declared.token.TokenKind.TheVariants as kinds
use Rattle.ent_tree.specs.declared.limits.TheConstants.{MOST_TABLES, MOST_OPENING_ROWS, MOST_SCRIPTS}
use Rattle.ent_tree.specs.declared.limits.TheConstants.{MOST_STATEMENTS, MOST_RUNS, DEFAULT_RUNS}
use Rattle.ent_tree.specs.declared.script.Statement.{Statement}
use Rattle.ent_tree.specs.declared.script.Statement.TheVariants as statements
use Rattle.ent_tree.specs.declared.script.End.{End}
use Rattle.ent_tree.specs.declared.script.End.TheVariants as ends
use Rattle.ent_text.specs.Phrase.{Phrase, ◌⨾◌, nothing}
use Rattle.ent_sql.specs.Statements as statement_grammar
use Rattle.ent_sql.specs.Scripts as grammar
use Rattle.ent_sql_laws.specs.Phrases.{Standing}
use Rattle.ent_sql_laws.specs.Phrases as phrases
use Rattle.ent_sql_laws.specs.Tables as tables
use Rattle.ent_sql_laws.specs.Changes as changes
use Rattle.ent_sql_laws.specs.Scripts as said
use Rattle.ent_sql_laws.proofs.Shapes.{Spelled, Made, made_gives, made_spelled, either_made, spelled_as, word_spelled}
use Rattle.ent_sql_laws.proofs.Shapes.{sign_spelled, up_to_spelled, give_spelled, last_spelled, then_spelled}
use Rattle.ent_sql_laws.proofs.Shapes.{mark_spelled, end_spelled, either_spelled, many_spelled, join}
use Rattle.ent_sql_laws.proofs.Tables.{create_spelled, opening_row_spelled, insert_spelled}
use Rattle.ent_sql_laws.proofs.SpelledSelects.{delete_spelled, update_spelled, set_spelled}
use Rattle.ent_sql_laws.proofs.Queries.{query_spelled}

-- ---- statements

abbrev AnyStatement : Statement → Phrase
AnyStatement y tokens =
    Made (λ s. statements.Insert s) tables.insert y tokens ⊎ (Made (λ s. statements.Delete s) changes.delete y tokens
    ⊎ (Made (λ s. statements.Update s) changes.update y tokens
    ⊎ (Made (λ s. statements.Set s) changes.set y tokens ⊎ said.query y tokens)))

query_is : (y : Statement) (tokens : List Token) → said.query y tokens → said.statement y tokens
query_is (statements.Select s) tokens h = h
query_is (statements.Entangled e) tokens h = h
query_is (statements.Insert i) tokens h = absurd h
query_is (statements.Delete d) tokens h = absurd h
query_is (statements.Update u) tokens h = absurd h
query_is (statements.Set s) tokens h = absurd h

statement_to : (y : Statement) (tokens : List Token) → AnyStatement y tokens → said.statement y tokens
statement_to y tokens (inl h) = made_gives (λ z. said.statement z tokens) (λ s k. k) h
statement_to y tokens (inr (inl h)) = made_gives (λ z. said.statement z tokens) (λ s k. k) h
statement_to y tokens (inr (inr (inl h))) = made_gives (λ z. said.statement z tokens) (λ s k. k) h
statement_to y tokens (inr (inr (inr (inl h)))) = made_gives (λ z. said.statement z tokens) (λ s k. k) h
statement_to y tokens (inr (inr (inr (inr h)))) = query_is y tokens h

statement_from : (y : Statement) (tokens : List Token) → said.statement y tokens → AnyStatement y tokens
statement_from (statements.Insert i) tokens h = inl (record { parts = i; is = refl; spelled = h })
statement_from (statements.Delete d) tokens h = inr (inl (record { parts = d; is = refl; spelled = h }))
statement_from (statements.Update u) tokens h = inr (inr (inl (record { parts = u; is = refl; spelled = h })))
statement_from (statements.Set s) tokens h = inr (inr (inr (inl (record { parts = s; is = refl; spelled = h }))))
statement_from (statements.Select s) tokens h = inr (inr (inr (inr h)))
statement_from (statements.Entangled e) tokens h = inr (inr (inr (inr h)))

pub statement_spelled : Spelled statement_grammar.statement said.statement
unfolding statement_grammar.statement
statement_spelled =
    spelled_as
    (either_spelled (last_spelled (λ s. statements.Insert s) insert_spelled)
    (either_spelled (last_spelled (λ s. statements.Delete s) delete_spelled)
    (either_spelled (last_spelled (λ s. statements.Update s) update_spelled)
    (either_spelled (last_spelled (λ s. statements.Set s) set_spelled) query_spelled))))
    statement_to statement_from

pub ended_spelled : Spelled statement_grammar.ended_statement said.ended_statement
unfolding statement_grammar.ended_statement
ended_spelled =
    made_spelled said.ended_statement
    (then_spelled _ _ statement_spelled (λ s. end_spelled s (sign_spelled signs.Semicolon)))
    (λ parts tokens h. h) (λ y tokens h. record { parts = (y, tt); is = refl; spelled = h })

-- ---- scripts

abbrev Runs : ℕ → Phrase
Runs = Made {P = (ℕ × ℕ) × Unit {0}} (λ parts. parts.0.0)
    (λ parts. phrases.word words.Within
    ⨾ (λ tokens. (1 ≤ parts.0.0) × (parts.0.0 ≤ MOST_RUNS) × Standing parts.0.1 (kinds.Number parts.0.0) tokens)
    ⨾ phrases.word words.Runs)

abbrev NoRuns : ℕ → Phrase
NoRuns = Made {P = Unit {0}} (λ parts. DEFAULT_RUNS) (λ parts. nothing)

within_to : (y : ℕ) (tokens : List Token) → Runs y tokens ⊎ NoRuns y tokens → said.within y tokens
within_to y tokens (inl h) =
    made_gives (λ z. said.within z tokens)
    (λ parts k. inl (
      k.second.first.0,
      k.second.first.1,
      join k.front k.back k.whole k.first
          (join k.second.front k.second.back k.second.whole (parts.0.1, k.second.first.2) k.second.second),
    )) h
within_to y tokens (inr h) = inr (h.is, h.spelled)

within_from : (y : ℕ) (tokens : List Token) → said.within y tokens → Runs y tokens ⊎ NoRuns y tokens
within_from y tokens (inl h) =
    let k = h.2 in
    let n = k.second.first in
    inl (record {
      parts = ((y, n.0), tt);
      is = refl;
      spelled = join k.front k.back k.whole k.first
          (join k.second.front k.second.back k.second.whole (h.0, h.1, n.1) k.second.second);
    })
within_from y tokens (inr h) = inr (record { parts = tt; is = h.0; spelled = h.1 })

pub within_spelled : Spelled grammar.within said.within
unfolding grammar.within
within_spelled =
    spelled_as
    (either_spelled
    (mark_spelled (word_spelled words.Within)
    (λ place. then_spelled (λ n parts. n.0) (λ n parts. phrases.word words.Runs) (up_to_spelled MOST_RUNS)
    (λ n. end_spelled n.0 (word_spelled words.Runs))))
    (give_spelled DEFAULT_RUNS)) within_to within_from

pub ending_spelled : Spelled grammar.ending said.ending
unfolding grammar.ending
ending_spelled =
    either_made said.ending (end_spelled ends.Commit (word_spelled words.Commit))
    (end_spelled ends.Rollback (word_spelled words.Rollback)) (λ parts tokens h. h) (λ parts tokens h. h) from
  where
    from : (y : End) (tokens : List Token) → said.ending y tokens
        → Made {P = Unit {0}} (λ parts. ends.Commit) (λ parts. phrases.word words.Commit) y tokens
        ⊎ Made {P = Unit {0}} (λ parts. ends.Rollback) (λ parts. phrases.word words.Rollback) y tokens
    from ends.Commit tokens h = inl (record { parts = tt; is = refl; spelled = h })
    from ends.Rollback tokens h = inr (record { parts = tt; is = refl; spelled = h })

pub script_spelled : Spelled grammar.script said.script
unfolding grammar.script
script_spelled =
    made_spelled said.script
    (mark_spelled (word_spelled words.Begin) (λ place. mark_spelled (word_spelled words.Transaction)
    (λ place. then_spelled _ _ within_spelled
    (λ runs. mark_spelled (sign_spelled signs.Semicolon)
    (λ place. then_spelled _ _ (many_spelled MOST_STATEMENTS ended_spelled)
    (λ statements. then_spelled _ _ ending_spelled
    (λ ended. end_spelled (record { within = runs; statements = statements; end = ended })
    (sign_spelled signs.Semicolon))))))))
    (λ parts tokens h. h)
    (λ y tokens h. record { parts = (y.within, (y.statements, (y.end, tt))); is = refl; spelled = h })

pub input_spelled : Spelled grammar.input said.input
unfolding grammar.input
input_spelled =
    made_spelled said.input
    (then_spelled _ _ (many_spelled MOST_TABLES create_spelled)
    (λ tables. then_spelled _ _ (many_spelled MOST_OPENING_ROWS opening_row_spelled)
    (λ rows. last_spelled
    (λ scripts. record { opening = record { tables = tables; rows = rows }; scripts = scripts })
    (many_spelled MOST_SCRIPTS script_spelled))))
    (λ parts tokens h. h)
    (λ y tokens h. record { parts = (y.opening.tables, (y.opening.rows, y.scripts)); is = refl; spelled = h })
