-- Values, operands and tests are read again.
use Rattle.std.proofs.Common.{◌≡◌, ℕ, List, [], ◌∷◌, ◌++◌, refl, ap, sym, Option, Some, None, suc}
use Rattle.std.specs.Prelude.{pos, negsuc}
use Rattle.std.proofs.lemmas.List.{append-nil}
use Rattle.std.specs.Option.{option_map}
use Rattle.ent_print.specs.Lexeme.{Token}
use Rattle.ent_print.specs.Spelling.{qualifier_spelling}
use Rattle.ent_value.specs.declared.value.Value.{Value}
use Rattle.ent_value.specs.declared.value.Value.TheVariants as values
use Rattle.ent_text.specs.Numeral.{negative_of}
use Rattle.ent_text.specs.declared.symbol.Symbol.TheVariants as symbols
use Rattle.ent_text.specs.declared.token.TokenKind.TheVariants.{Name, HostVariable, Sign}
use Rattle.ent_tree.specs.declared.operand.Identifier.{Identifier}
use Rattle.ent_tree.specs.declared.operand.Literal.{Literal as Written}
use Rattle.ent_tree.specs.declared.operand.ValueSpecification.{ValueSpecification}
use Rattle.ent_tree.specs.declared.operand.ValueSpecification.TheVariants as specifications
use Rattle.ent_tree.specs.declared.operand.ColumnReference.{ColumnReference}
use Rattle.ent_tree.specs.declared.operand.Operand.{Operand}
use Rattle.ent_tree.specs.declared.operand.Operand.TheVariants as operands
use Rattle.ent_tree.specs.declared.operand.Comparison.{Comparison}
use Rattle.ent_tree.specs.declared.operand.Comparison.TheVariants as comparisons
use Rattle.ent_tree.specs.declared.entangled.Term.{Term}
use Rattle.ent_tree.specs.declared.entangled.Term.TheVariants as terms
use Rattle.ent_tree.specs.Places.{unplaced_identifier, unplaced_literal, unplaced_specification, unplaced_column}
use Rattle.ent_tree.specs.Places.{unplaced_operand, unplaced_term}
use Rattle.ent_text.specs.Class.{sign, name, variable, number, text}
use Rattle.ent_sql.specs.Operands as grammar
use Rattle.ent_print.specs.Reading.{kinds_of}
use Rattle.ent_print.specs.Spelling.{value_spelling, specification_spelling, column_spelling, operand_spelling}
use Rattle.ent_print.specs.Spelling.{term_spelling, comparison_symbol}
use Rattle.ent_sql_laws.specs.Again.{Rereads}
use Rattle.ent_sql_laws.proofs.Combining.{again_then, again_mark, again_next, again_give, again_left}
use Rattle.ent_sql_laws.proofs.Combining.{again_right}

identifier_at : List ℕ → Identifier
identifier_at n = record { name = n; place = 0 }

pub again_identifier : (i : Identifier)
    → Rereads grammar.identifier (λ y. unplaced_identifier y ≡ unplaced_identifier i) (Name i.name ∷ [])
unfolding grammar.identifier identifier_at
again_identifier i =
    again_next name (λ y. y.0 ≡ i.name) (λ place. ((i.name, place), refl, refl)) (λ x e. again_give (ap identifier_at
    e))

pub again_host_variable : (i : Identifier)
    → Rereads grammar.host_variable (λ y. unplaced_identifier y ≡ unplaced_identifier i) (HostVariable i.name ∷ [])
unfolding grammar.host_variable identifier_at
again_host_variable i =
    again_next variable (λ y. y.0 ≡ i.name) (λ place. ((i.name, place), refl, refl))
    (λ x e. again_give (ap identifier_at e))

literal_of : Value → Written
literal_of v = record { value = v; place = 0 }

again_value : (v : Value)
    → Rereads grammar.literal (λ y. unplaced_literal y ≡ literal_of v) (kinds_of (value_spelling v ∷ []))
unfolding grammar.literal grammar.negative grammar.unsigned grammar.positive grammar.quoted literal_of
again_value (values.Int (pos n)) =
    again_right (again_left
    (again_next number (λ y. y.0 ≡ n) (λ place. ((n, place), refl, refl))
    (λ x e. again_give (ap (λ (m : ℕ). literal_of (values.Int (pos m))) e))))
again_value (values.Int (negsuc n)) =
    again_left (again_mark (sign symbols.Minus) (λ place. (place, refl))
    (λ place. again_next number (λ y. y.0 ≡ suc n) (λ at. ((suc n, at), refl, refl))
    (λ x e. again_give (ap (λ (m : ℕ). literal_of (values.Int (negative_of m))) e))))
again_value (values.Text t) =
    again_right (again_right
    (again_next text (λ y. y.0 ≡ t) (λ place. ((t, place), refl, refl))
    (λ x e. again_give (ap (λ (m : List ℕ). literal_of (values.Text m)) e))))

pub again_specification : (v : ValueSpecification)
    → Rereads grammar.value (λ y. unplaced_specification y ≡ unplaced_specification v)
    (kinds_of (specification_spelling v))
unfolding grammar.value literal_of
again_specification (specifications.Literal l) =
    again_right (again_then {ys = []} (sym (append-nil (kinds_of (value_spelling l.value ∷ [])))) (again_value l.value)
    (λ x e. again_give (ap (λ (w : Written). specifications.Literal w) e)))
again_specification (specifications.HostVariable v) =
    again_left (again_then {ys = []} refl (again_host_variable v)
    (λ x e. again_give (ap (λ (i : Identifier). specifications.HostVariable i) e)))

pub again_column : (c : ColumnReference)
    → Rereads grammar.column_reference (λ y. unplaced_column y ≡ unplaced_column c) (kinds_of (column_spelling c))
unfolding grammar.column_reference
again_column c = on c.qualifier
  where
    on : (q : Option Identifier) → Rereads grammar.column_reference
        (λ y. unplaced_column y ≡ record {
          qualifier = option_map unplaced_identifier q;
          column = unplaced_identifier
              c.column;
        })
        (kinds_of (qualifier_spelling q ++ Token (Name c.column.name) ∷ []))
    on None =
        again_then {ys = []} refl (again_identifier c.column)
        (λ x e. again_right (again_give (ap (λ (i : Identifier). let r : ColumnReference = record {
          qualifier = None;
          column = i;
        } in r) e)))
    on (Some q) =
        again_then {ys = Sign symbols.Dot ∷ Name c.column.name ∷ []} refl (again_identifier q)
        (λ x e. again_left (again_mark (sign symbols.Dot) (λ place. (place, refl))
        (λ place. again_then {ys = []} refl (again_identifier c.column)
        (λ y f. again_give (λ i. record { qualifier = Some (e i); column = f i })))))

pub again_operand : (o : Operand)
    → Rereads grammar.operand (λ y. unplaced_operand y ≡ unplaced_operand o) (kinds_of (operand_spelling o))
unfolding grammar.operand
again_operand (operands.Value v) =
    again_right (again_then {ys = []} (sym (append-nil (kinds_of (specification_spelling v)))) (again_specification v)
    (λ x e. again_give (ap (λ (w : ValueSpecification). operands.Value w) e)))
again_operand (operands.Column c) =
    again_left (again_then {ys = []} (sym (append-nil (kinds_of (column_spelling c)))) (again_column c)
    (λ x e. again_give (ap (λ (r : ColumnReference). operands.Column r) e)))

pub again_term : (t : Term) → Rereads grammar.term (λ y. unplaced_term y ≡ unplaced_term t) (kinds_of (term_spelling t))
unfolding grammar.term
again_term (terms.Value v) =
    again_right (again_then {ys = []} (sym (append-nil (kinds_of (specification_spelling v)))) (again_specification v)
    (λ x e. again_give (ap (λ (w : ValueSpecification). terms.Value w) e)))
again_term (terms.Variable i) =
    again_left (again_then {ys = []} refl (again_identifier i)
    (λ x e. again_give (ap (λ (j : Identifier). terms.Variable j) e)))

pub again_comparison : (c : Comparison)
    → Rereads grammar.comparison (λ y. y ≡ c) (Sign (comparison_symbol c) ∷ [])
unfolding grammar.comparison
again_comparison comparisons.Equal =
    again_left (again_mark (sign symbols.Equal) (λ place. (place, refl)) (λ place. again_give refl))
again_comparison comparisons.NotEqual =
    again_right (again_left (again_mark (sign symbols.NotEqual) (λ place. (place, refl)) (λ place. again_give refl)))
again_comparison comparisons.Less = again_right (again_right
    (again_left (again_mark (sign symbols.Less) (λ place. (place, refl)) (λ place. again_give refl))))
again_comparison comparisons.LessOrEqual = again_right (again_right (again_right
    (again_left (again_mark (sign symbols.LessOrEqual) (λ place. (place, refl)) (λ place. again_give refl)))))
again_comparison comparisons.Greater = again_right (again_right (again_right (again_right
    (again_left (again_mark (sign symbols.Greater) (λ place. (place, refl)) (λ place. again_give refl))))))
again_comparison comparisons.GreaterOrEqual = again_right (again_right (again_right (again_right
    (again_right (again_mark (sign symbols.GreaterOrEqual) (λ place. (place, refl)) (λ place. again_give refl))))))
