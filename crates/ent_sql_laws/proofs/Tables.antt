-- What declarations of tables, opening rows and INSERT spell.
use Rattle.std.proofs.Common.{List, refl, arith, ◌⊎◌, inl, inr}
use Rattle.ent_text.specs.declared.keyword.Keyword.TheVariants as words
use Rattle.ent_text.specs.declared.symbol.Symbol.TheVariants as signs
use Rattle.ent_text.specs.declared.token.Token.{Token}
use Rattle.ent_value.specs.declared.value.Kind.{Kind}
use Rattle.ent_value.specs.declared.value.Kind.TheVariants as sorts
use Rattle.ent_tree.specs.declared.limits.TheConstants.{MOST_PARTS}
use Rattle.ent_text.specs.declared.divider.Divider.TheVariants.{Comma}
use Rattle.ent_text.specs.Phrase.{Phrase}
use Rattle.ent_text.specs.Grammar.{Grammar}
use Rattle.ent_sql.specs.Tables as grammar
use Rattle.ent_sql_laws.specs.Phrases as phrases
use Rattle.ent_sql_laws.specs.Tables as said
use Rattle.ent_sql_laws.proofs.Shapes.{Spelled, Made, made_spelled, either_made, word_spelled, sign_spelled}
use Rattle.ent_sql_laws.proofs.Shapes.{last_spelled, then_spelled, mark_spelled, end_spelled, listed_spelled}
use Rattle.ent_sql_laws.proofs.SpelledOperands.{identifier_spelled, literal_spelled, value_spelled}

pub kind_spelled : Spelled grammar.kind said.kind
unfolding grammar.kind
kind_spelled =
    either_made said.kind (end_spelled sorts.Int (word_spelled words.Int))
    (end_spelled sorts.Text (word_spelled words.Text)) (λ parts tokens h. h) (λ parts tokens h. h) from
  where
    from : (y : Kind) (tokens : List Token) → said.kind y tokens
        → Made {P = Unit {0}} (λ parts. sorts.Int) (λ parts. phrases.word words.Int) y tokens
        ⊎ Made {P = Unit {0}} (λ parts. sorts.Text) (λ parts. phrases.word words.Text) y tokens
    from sorts.Int tokens h = inl (record { parts = tt; is = refl; spelled = h })
    from sorts.Text tokens h = inr (record { parts = tt; is = refl; spelled = h })

pub column_spelled : Spelled grammar.column said.column
unfolding grammar.column
column_spelled =
    made_spelled said.column
    (then_spelled _ _ identifier_spelled
    (λ n. last_spelled (λ k. record { name = n; kind = k }) kind_spelled))
    (λ parts tokens h. h) (λ y tokens h. record { parts = (y.name, y.kind); is = refl; spelled = h })

pub create_spelled : Spelled grammar.create said.create
unfolding grammar.create
create_spelled =
    made_spelled said.create
    (mark_spelled (word_spelled words.Create) (λ place. mark_spelled (word_spelled words.Table)
    (λ place. then_spelled _ _ identifier_spelled
    (λ n. mark_spelled (sign_spelled signs.Open)
    (λ place. then_spelled _ _ (listed_spelled MOST_PARTS Comma (omega arith) column_spelled)
    (λ columns. mark_spelled (sign_spelled signs.Close)
    (λ place. end_spelled (record { name = n; columns = columns }) (sign_spelled signs.Semicolon))))))))
    (λ parts tokens h. h) (λ y tokens h. record { parts = (y.name, (y.columns, tt)); is = refl; spelled = h })

pub row_spelled : {A : Type 0} {g : Grammar A} {part : A → Phrase} → Spelled g part
    → Spelled (grammar.row g) (λ r. said.row part r.0 r.1 r.2)
unfolding grammar.row
row_spelled {part = part} each =
    made_spelled (λ r. said.row part r.0 r.1 r.2)
    (mark_spelled (word_spelled words.Insert) (λ place. mark_spelled (word_spelled words.Into)
    (λ place. then_spelled _ _ identifier_spelled
    (λ table. mark_spelled (word_spelled words.Values)
    (λ at. then_spelled _ _ (sign_spelled signs.Open)
    (λ place. then_spelled _ _ (listed_spelled MOST_PARTS Comma (omega arith) each)
    (λ parts. end_spelled (table, place, parts) (sign_spelled signs.Close))))))))
    (λ parts tokens h. h) (λ y tokens h. record { parts = (y.0, (y.1, (y.2, tt))); is = refl; spelled = h })

pub opening_row_spelled : Spelled grammar.opening_row said.opening_row
unfolding grammar.opening_row
opening_row_spelled =
    made_spelled said.opening_row
    (then_spelled _ _ (row_spelled literal_spelled)
    (λ r. end_spelled (record { table = r.0; place = r.1; values = r.2 }) (sign_spelled signs.Semicolon)))
    (λ parts tokens h. h)
    (λ y tokens h. record { parts = ((y.table, y.place, y.values), tt); is = refl; spelled = h })

pub insert_spelled : Spelled grammar.insert said.insert
unfolding grammar.insert
insert_spelled =
    made_spelled said.insert
    (last_spelled (λ r. record { table = r.0; place = r.1; values = r.2 }) (row_spelled value_spelled))
    (λ parts tokens h. h) (λ y tokens h. record { parts = (y.table, y.place, y.values); is = refl; spelled = h })
