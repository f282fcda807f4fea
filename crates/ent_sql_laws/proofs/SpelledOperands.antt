-- What values, operands and tests spell.
use Rattle.std.proofs.Common.{◌≡◌, List, [], ◌++◌, refl, sym, Option, Some, None, ◌⊎◌, inl, inr}
use Rattle.std.specs.Prelude.{pos}
use Rattle.std.proofs.lemmas.List.{append-nil}
use Rattle.ent_text.specs.declared.symbol.Symbol.{Symbol}
use Rattle.ent_text.specs.declared.symbol.Symbol.TheVariants as signs
use Rattle.ent_text.specs.declared.token.Token.{Token}
use Rattle.ent_text.specs.declared.token.TokenKind.TheVariants as kinds
use Rattle.ent_text.specs.Numeral.{negative_of}
use Rattle.ent_value.specs.declared.value.Value.TheVariants as values
use Rattle.ent_tree.specs.declared.operand.Identifier.{Identifier}
use Rattle.ent_tree.specs.declared.operand.ValueSpecification.{ValueSpecification}
use Rattle.ent_tree.specs.declared.operand.ValueSpecification.TheVariants as specifications
use Rattle.ent_tree.specs.declared.operand.ColumnReference.{ColumnReference}
use Rattle.ent_tree.specs.declared.operand.Operand.{Operand}
use Rattle.ent_tree.specs.declared.operand.Operand.TheVariants as operands
use Rattle.ent_tree.specs.declared.operand.Expression.{Expression}
use Rattle.ent_tree.specs.declared.operand.Expression.TheVariants.{Single, Sum, Difference}
use Rattle.ent_tree.specs.declared.operand.Comparison.{Comparison}
use Rattle.ent_tree.specs.declared.operand.Comparison.TheVariants as comparisons
use Rattle.ent_tree.specs.declared.entangled.Term.{Term}
use Rattle.ent_tree.specs.declared.entangled.Term.TheVariants as terms
use Rattle.ent_text.specs.Class.{sign, name, variable, number, text}
use Rattle.ent_text.specs.Phrase.{Phrase, ◌⨾◌, nothing}
use Rattle.ent_text.specs.Grammar.{Grammar, give, token, chain}
use Rattle.ent_text.specs.GrammarSpelling.{chained}
use Rattle.ent_sql.specs.Operands as grammar
use Rattle.ent_print.specs.Spelling.{comparison_symbol}
use Rattle.ent_sql_laws.specs.Phrases.{Standing}
use Rattle.ent_sql_laws.specs.Phrases as phrases
use Rattle.ent_sql_laws.specs.Operands as said
use Rattle.ent_sql_laws.proofs.Shapes.{Spelled, Made, made_gives, made_spelled, either_made, spelled_as}
use Rattle.ent_sql_laws.proofs.Shapes.{standing_spelled, sign_spelled}
use Rattle.ent_sql_laws.proofs.Shapes.{give_spelled, last_spelled, then_spelled, mark_spelled, end_spelled}
use Rattle.ent_sql_laws.proofs.Shapes.{either_spelled, chain_spelled, join, alone_is}

pub identifier_spelled : Spelled grammar.identifier said.identifier
unfolding grammar.identifier
identifier_spelled =
    made_spelled said.identifier
    (last_spelled (λ n. record { name = n.0; place = n.1 }) (standing_spelled name (λ y. tt))) (λ parts tokens h. h)
    (λ y tokens h. record { parts = (y.name, y.place); is = refl; spelled = h })

pub host_variable_spelled : Spelled grammar.host_variable said.host_variable
unfolding grammar.host_variable
host_variable_spelled =
    made_spelled said.host_variable
    (last_spelled (λ n. record { name = n.0; place = n.1 }) (standing_spelled variable (λ y. tt)))
    (λ parts tokens h. h) (λ y tokens h. record { parts = (y.name, y.place); is = refl; spelled = h })

-- ---- values

negative_spelled : Spelled grammar.negative said.negative
unfolding grammar.negative
negative_spelled =
    made_spelled said.negative
    (then_spelled (λ place n. record { value = values.Int (negative_of n.0); place = place })
    (λ place n. Standing n.1 (kinds.Number n.0)) (sign_spelled signs.Minus)
    (λ place. last_spelled (λ n. record { value = values.Int (negative_of n.0); place = place })
    (standing_spelled number (λ y. tt))))
    (λ parts tokens h. (parts.1.0, refl, join h.front h.back h.whole h.first (parts.1.1, h.second)))
    (λ y tokens h. record {
      parts = (y.place, (h.0, h.2.second.0));
      is = λ i. record { value = h.1 i; place = y.place };
      spelled = join h.2.front h.2.back h.2.whole h.2.first h.2.second.1;
    })

positive_spelled : Spelled grammar.positive said.positive
unfolding grammar.positive
positive_spelled =
    made_spelled said.positive
    (last_spelled (λ n. record { value = values.Int (pos n.0); place = n.1 }) (standing_spelled number (λ y. tt)))
    (λ parts tokens h. (parts.0, refl, h))
    (λ y tokens h. record {
      parts = (h.0, y.place);
      is = λ i. record { value = h.1 i; place = y.place };
      spelled = h.2;
    })

quoted_spelled : Spelled grammar.quoted said.quoted
unfolding grammar.quoted
quoted_spelled =
    made_spelled said.quoted
    (last_spelled (λ t. record { value = values.Text t.0; place = t.1 }) (standing_spelled text (λ y. tt)))
    (λ parts tokens h. (parts.0, refl, h))
    (λ y tokens h. record {
      parts = (h.0, y.place);
      is = λ i. record { value = h.1 i; place = y.place };
      spelled = h.2;
    })

pub literal_spelled : Spelled grammar.literal said.literal
unfolding grammar.literal grammar.unsigned
literal_spelled = either_spelled negative_spelled (either_spelled positive_spelled quoted_spelled)

pub value_spelled : Spelled grammar.value said.value
unfolding grammar.value
value_spelled =
    either_made said.value (last_spelled (λ v. specifications.HostVariable v) host_variable_spelled)
    (last_spelled (λ l. specifications.Literal l) literal_spelled) (λ parts tokens h. h) (λ parts tokens h. h) from
  where
    from : (y : ValueSpecification) (tokens : List Token) → said.value y tokens
        → Made (λ v. specifications.HostVariable v) said.host_variable y tokens
        ⊎ Made (λ l. specifications.Literal l) said.literal y tokens
    from (specifications.Literal l) tokens h = inr (record { parts = l; is = refl; spelled = h })
    from (specifications.HostVariable v) tokens h = inl (record { parts = v; is = refl; spelled = h })

-- what stands behind the first name of a column
abbrev Qualified : Identifier → ColumnReference → Phrase
Qualified first = Made (λ c. record { qualifier = Some first; column = c })
    (λ c. phrases.sign signs.Dot ⨾ said.identifier c)

abbrev Unqualified : Identifier → ColumnReference → Phrase
Unqualified first = Made {P = Unit {0}} (λ parts. record { qualifier = None; column = first }) (λ parts. nothing)

abbrev BehindName : Identifier → ColumnReference → Phrase
BehindName first y tokens = Qualified first y tokens ⊎ Unqualified first y tokens

column_to : (first : Identifier) (y : ColumnReference) {tokens : List Token} (front back : List Token)
    → tokens ≡ front ++ back
    → said.identifier first front → BehindName first y back → said.column_reference y tokens
column_to first y {tokens = tokens} front back is h (inl k) =
    made_gives (λ z. said.column_reference z tokens) (λ c l. join front back is h l) k
column_to first y {tokens = tokens} front back is h (inr k) =
    made_gives (λ z. said.column_reference z tokens)
    (λ parts none. alone_is (said.identifier first) front back is h none) k

column_from : (q : Option Identifier) (c : Identifier) (tokens : List Token) → said.behind_qualifier q c tokens
    → chained said.identifier BehindName (record { qualifier = q; column = c }) tokens
column_from None c tokens h = (
  c,
  join tokens [] (sym (append-nil tokens)) h (inr (record { parts = tt; is = refl; spelled = refl })),
)
column_from (Some q) c tokens h =
    (q, join h.front h.back h.whole h.first (inl (record { parts = c; is = refl; spelled = h.second })))

pub column_reference_spelled : Spelled grammar.column_reference said.column_reference
unfolding grammar.column_reference
column_reference_spelled =
    spelled_as
    (chain_spelled identifier_spelled
    (λ first. either_spelled
    (mark_spelled (sign_spelled signs.Dot)
    (λ place. last_spelled (λ c. record { qualifier = Some first; column = c }) identifier_spelled))
    (give_spelled (record { qualifier = None; column = first }))))
    (λ y tokens h. column_to h.0 y h.1.front h.1.back h.1.whole h.1.first h.1.second)
    (λ y tokens h. column_from y.qualifier y.column tokens h)

pub operand_spelled : Spelled grammar.operand said.operand
unfolding grammar.operand
operand_spelled =
    either_made said.operand (last_spelled (λ c. operands.Column c) column_reference_spelled)
    (last_spelled (λ v. operands.Value v) value_spelled) (λ parts tokens h. h) (λ parts tokens h. h) from
  where
    from : (y : Operand) (tokens : List Token) → said.operand y tokens
        → Made (λ c. operands.Column c) said.column_reference y tokens
        ⊎ Made (λ v. operands.Value v) said.value y tokens
    from (operands.Value v) tokens h = inr (record { parts = v; is = refl; spelled = h })
    from (operands.Column c) tokens h = inl (record { parts = c; is = refl; spelled = h })

pub term_spelled : Spelled grammar.term said.term
unfolding grammar.term
term_spelled =
    either_made said.term (last_spelled (λ n. terms.Variable n) identifier_spelled)
    (last_spelled (λ v. terms.Value v) value_spelled) (λ parts tokens h. h) (λ parts tokens h. h) from
  where
    from : (y : Term) (tokens : List Token) → said.term y tokens
        → Made (λ n. terms.Variable n) said.identifier y tokens ⊎ Made (λ v. terms.Value v) said.value y tokens
    from (terms.Value v) tokens h = inr (record { parts = v; is = refl; spelled = h })
    from (terms.Variable n) tokens h = inl (record { parts = n; is = refl; spelled = h })

-- ---- tests and expressions

-- the symbol of this comparison
abbrev Compares : Comparison → Comparison → Phrase
Compares c = Made {P = Unit {0}} (λ parts. c) (λ parts. said.comparison c)

itself : {c : Comparison} {tokens : List Token} → said.comparison c tokens → Compares c c tokens
itself h = record { parts = tt; is = refl; spelled = h }

compared_by : {c : Comparison} (y : Comparison) (tokens : List Token) → Compares c y tokens → said.comparison y tokens
compared_by y tokens h = made_gives (λ z. said.comparison z tokens) (λ parts k. k) h

abbrev AnyComparison : Comparison → Phrase
AnyComparison y tokens =
    Compares comparisons.Equal y tokens ⊎ (Compares comparisons.NotEqual y tokens
    ⊎ (Compares comparisons.Less y tokens ⊎ (Compares comparisons.LessOrEqual y tokens
    ⊎ (Compares comparisons.Greater y tokens ⊎ Compares comparisons.GreaterOrEqual y tokens))))

compares_to : (y : Comparison) (tokens : List Token) → AnyComparison y tokens → said.comparison y tokens
compares_to y tokens (inl h) = compared_by y tokens h
compares_to y tokens (inr (inl h)) = compared_by y tokens h
compares_to y tokens (inr (inr (inl h))) = compared_by y tokens h
compares_to y tokens (inr (inr (inr (inl h)))) = compared_by y tokens h
compares_to y tokens (inr (inr (inr (inr (inl h))))) = compared_by y tokens h
compares_to y tokens (inr (inr (inr (inr (inr h))))) = compared_by y tokens h

compares_from : (y : Comparison) (tokens : List Token) → said.comparison y tokens → AnyComparison y tokens
compares_from comparisons.Equal tokens h = inl (itself h)
compares_from comparisons.NotEqual tokens h = inr (inl (itself h))
compares_from comparisons.Less tokens h = inr (inr (inl (itself h)))
compares_from comparisons.LessOrEqual tokens h = inr (inr (inr (inl (itself h))))
compares_from comparisons.Greater tokens h = inr (inr (inr (inr (inl (itself h)))))
compares_from comparisons.GreaterOrEqual tokens h = inr (inr (inr (inr (inr (itself h)))))

compares : (c : Comparison) → Spelled (chain (token (sign (comparison_symbol c))) (λ place. give c)) (Compares c)
compares c = end_spelled c (sign_spelled (comparison_symbol c))

pub comparison_spelled : Spelled grammar.comparison said.comparison
unfolding grammar.comparison
comparison_spelled =
    spelled_as
    (either_spelled (compares comparisons.Equal) (either_spelled (compares comparisons.NotEqual)
    (either_spelled (compares comparisons.Less) (either_spelled (compares comparisons.LessOrEqual)
    (either_spelled (compares comparisons.Greater) (compares comparisons.GreaterOrEqual))))))
    compares_to compares_from

pub compared_spelled : {A : Type 0} {g : Grammar A} {thing : A → Phrase} → Spelled g thing
    → Spelled (grammar.compared g) (said.compared thing)
unfolding grammar.compared
compared_spelled {A} {thing = thing} each =
    made_spelled (said.compared thing)
    (then_spelled (λ l p. record { left = l; comparison = p.0; right = p.1 })
    (λ l p. said.comparison p.0 ⨾ thing p.1) each
    (λ l. then_spelled (λ c r. record { left = l; comparison = c; right = r }) (λ c r. thing r) comparison_spelled
    (λ c. last_spelled (λ r. record { left = l; comparison = c; right = r }) each)))
    (λ parts tokens h. h)
    (λ y tokens h. record { parts = (y.left, (y.comparison, y.right)); is = refl; spelled = h })

module _ {A : Type 0} (thing : A → Phrase) where
  -- what stands behind the first thing of an expression
  abbrev Signed : (A → Expression A) → Symbol → Expression A → Phrase
  Signed make symbol = Made make (λ second. phrases.sign symbol ⨾ thing second)

  abbrev BehindFirst : A → Expression A → Phrase
  BehindFirst first y tokens =
      Signed (λ second. Sum first second) signs.Plus y tokens
      ⊎ (Signed (λ second. Difference first second) signs.Minus y tokens
      ⊎ Made {P = Unit {0}} (λ parts. Single first) (λ parts. nothing) y tokens)

  expression_to : (first : A) (y : Expression A) {tokens : List Token} (front back : List Token)
      → tokens ≡ front ++ back
      → thing first front → BehindFirst first y back → said.expression thing y tokens
  expression_to first y {tokens = tokens} front back is h (inl k) =
      made_gives (λ z. said.expression thing z tokens) (λ second l. join front back is h l) k
  expression_to first y {tokens = tokens} front back is h (inr (inl k)) =
      made_gives (λ z. said.expression thing z tokens) (λ second l. join front back is h l) k
  expression_to first y {tokens = tokens} front back is h (inr (inr k)) =
      made_gives (λ z. said.expression thing z tokens) (λ parts none. alone_is (thing first) front back is h none) k

  expression_from : (y : Expression A) (tokens : List Token) → said.expression thing y tokens
      → chained thing BehindFirst y tokens
  expression_from (Single x) tokens h =
      (x, join tokens [] (sym (append-nil tokens)) h (inr (inr (record { parts = tt; is = refl; spelled = refl }))))
  expression_from (Sum x y) tokens h =
      (x, join h.front h.back h.whole h.first (inl (record { parts = y; is = refl; spelled = h.second })))
  expression_from (Difference x y) tokens h =
      (x, join h.front h.back h.whole h.first (inr (inl (record { parts = y; is = refl; spelled = h.second }))))

pub expression_spelled : {A : Type 0} {g : Grammar A} {thing : A → Phrase} → Spelled g thing
    → Spelled (grammar.expression g) (said.expression thing)
unfolding grammar.expression grammar.expression_behind
expression_spelled {A} {thing = thing} each =
    spelled_as
    (chain_spelled each
    (λ first. either_spelled
    (mark_spelled (sign_spelled signs.Plus)
    (λ place. last_spelled (λ second. Sum first second) each))
    (either_spelled
    (mark_spelled (sign_spelled signs.Minus)
    (λ place. last_spelled (λ second. Difference first second) each))
    (give_spelled (Single first)))))
    (λ y tokens h. expression_to thing h.0 y h.1.front h.1.back h.1.whole h.1.first h.1.second) (expression_from thing)
