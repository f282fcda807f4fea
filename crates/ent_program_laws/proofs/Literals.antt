-- Literals, operands and tests that are read from tokens of whole characters.
use Rattle.std.proofs.Common.{◌≡◌, ℕ, pos, negsuc, List, [], ◌∷◌, ◌++◌, subst, Option, Some, None}
use Rattle.std.specs.List.{AllByRecursion}
use Rattle.std.specs.Str.{IsUtf8}
use Rattle.ent_value.specs.declared.value.Value.{Value}
use Rattle.ent_value.specs.declared.value.Value.TheVariants as values
use Rattle.ent_text.specs.declared.symbol.Symbol.{Symbol}
use Rattle.ent_text.specs.declared.symbol.Symbol.TheVariants as symbols
use Rattle.ent_text.specs.declared.keyword.Keyword.TheVariants as keywords
use Rattle.ent_text.specs.declared.token.TokenKind.{TokenKind}
use Rattle.ent_text.specs.declared.token.TokenKind.TheVariants as kinds
use Rattle.ent_tree.specs.declared.operand.ColumnReference.{ColumnReference}
use Rattle.ent_tree.specs.declared.operand.Identifier.{Identifier}
use Rattle.ent_text.specs.Class.{given, text}
use Rattle.ent_text.specs.Grammar.{Grammar}
use Rattle.ent_sql.specs.Operands as grammar
use Rattle.ent_print.specs.Lexeme.{Lexeme}
use Rattle.ent_print.specs.Spelling.{column_spelling, comma_list, comparison_symbol, each_behind, expression_spelling}
use Rattle.ent_print.specs.Spelling.{in_parentheses, name, operand_spelling, qualifier_spelling, separated, sign}
use Rattle.ent_print.specs.Spelling.{specification_spelling, term_spelling, test_spelling, value_spelling}
use Rattle.ent_print.specs.Spelling.{where_clause, word}
use Rattle.ent_lists.specs.Elements.{all_joined}
use Rattle.ent_program_laws.specs.Values.{IsOfCharacters}
use Rattle.ent_program_laws.specs.Characters.{IsKindOfCharacters, IsLexemeOfCharacters}
use Rattle.ent_program_laws.proofs.Carrying.{Carries, carry_behind, carry_either, carry_give, carry_then}
use Rattle.ent_program_laws.proofs.Carrying.{carry_token}

abbrev pub AreWhole : List Lexeme → Type 0
AreWhole lexemes = AllByRecursion IsLexemeOfCharacters lexemes

-- each lexeme of the thing is of whole characters
abbrev pub IsWhole : {A : Type 0} → (A → List Lexeme) → A → Type 0
IsWhole spelling x = AreWhole (spelling x)

pub both_whole : (one other : List Lexeme) → AreWhole one → AreWhole other → AreWhole (one ++ other)
both_whole = all_joined IsLexemeOfCharacters

-- ---- lists

pub behind_whole : {A : Type 0} (separator : Lexeme) (spelling : A → List Lexeme) (xs : List A)
    → IsLexemeOfCharacters separator → AllByRecursion (IsWhole spelling) xs
    → AreWhole (each_behind separator spelling xs)
behind_whole separator spelling [] is each = tt
behind_whole separator spelling (x ∷ xs) is each = (
  is,
  both_whole (spelling x) (each_behind separator spelling xs) each.0 (behind_whole separator spelling xs is each.1),
)

pub separated_whole : {A : Type 0} (separator : Lexeme) (spelling : A → List Lexeme) (xs : List A)
    → IsLexemeOfCharacters separator → AllByRecursion (IsWhole spelling) xs
    → AreWhole (separated separator spelling xs)
separated_whole separator spelling [] is each = tt
separated_whole separator spelling (x ∷ xs) is each =
    both_whole (spelling x) (each_behind separator spelling xs) each.0 (behind_whole separator spelling xs is each.1)

pub commas_whole : {A : Type 0} (spelling : A → List Lexeme) (xs : List A) → AllByRecursion (IsWhole spelling) xs
    → AreWhole (comma_list spelling xs)
commas_whole spelling xs each = separated_whole (sign symbols.Comma) spelling xs tt each

pub clause_whole : {A : Type 0} (spelling : A → List Lexeme) (xs : List A) → AllByRecursion (IsWhole spelling) xs
    → AreWhole (where_clause spelling xs)
clause_whole spelling [] each = tt
clause_whole spelling (x ∷ xs) each = (tt, separated_whole (word keywords.And) spelling (x ∷ xs) tt each)

pub brackets_whole : (inner : List Lexeme) → AreWhole inner → AreWhole (in_parentheses inner)
brackets_whole inner each = (tt, both_whole inner (sign symbols.Close ∷ []) each (tt, tt))

-- ---- values

text_given : (kind : TokenKind) (place : ℕ) (y : List ℕ × ℕ) → IsKindOfCharacters kind
    → given text kind place ≡ Some y → IsUtf8 y.0
text_given (kinds.Literal content) place y is e =
    let k : (content, place) ≡ y = cc in subst (λ (z : List ℕ × ℕ). IsUtf8 z.0) k is
text_given _ place y is e = absurd cc

pub carry_literal : Carries grammar.literal (λ l. IsOfCharacters l.value)
unfolding grammar.literal grammar.negative grammar.unsigned grammar.positive grammar.quoted
carry_literal =
    carry_either (carry_behind (λ place. carry_behind (λ n. carry_give tt)))
    (carry_either (carry_behind (λ n. carry_give tt))
    (carry_then (carry_token text text_given) (λ t h. carry_give h)))

value_whole : (value : Value) → IsOfCharacters value → IsLexemeOfCharacters (value_spelling value)
value_whole (values.Int (pos n)) is = tt
value_whole (values.Int (negsuc n)) is = tt
value_whole (values.Text content) is = is

pub carry_value : Carries grammar.value (IsWhole specification_spelling)
unfolding grammar.value
carry_value =
    carry_either (carry_behind (λ v. carry_give (tt, tt)))
    (carry_then carry_literal (λ l h. carry_give (value_whole l.value h, tt)))

-- ---- operands

qualifier_whole : (qualifier : Option Identifier) → AreWhole (qualifier_spelling qualifier)
qualifier_whole None = tt
qualifier_whole (Some qualifier) = (tt, (tt, tt))

pub column_whole : (column : ColumnReference) → IsWhole column_spelling column
column_whole column =
    both_whole (qualifier_spelling column.qualifier) (name column.column ∷ []) (qualifier_whole column.qualifier)
    (tt, tt)

pub carry_operand : Carries grammar.operand (IsWhole operand_spelling)
unfolding grammar.operand
carry_operand =
    carry_either (carry_behind (λ c. carry_give (column_whole c))) (carry_then carry_value (λ v h. carry_give h))

pub carry_term : Carries grammar.term (IsWhole term_spelling)
unfolding grammar.term
carry_term = carry_either (carry_behind (λ n. carry_give (tt, tt))) (carry_then carry_value (λ v h. carry_give h))

-- ---- what is made of them

pub sides_whole : (left right : List Lexeme) (symbol : Symbol) → AreWhole left → AreWhole right
    → AreWhole (left ++ sign symbol ∷ right)
sides_whole left right symbol h k = both_whole left (sign symbol ∷ right) h (tt, k)

pub carry_test : {A : Type 0} (thing : Grammar A) (spelling : A → List Lexeme) → Carries thing (IsWhole spelling)
    → Carries (grammar.compared thing) (IsWhole (test_spelling spelling))
unfolding grammar.compared
carry_test thing spelling each =
    carry_then each
    (λ left h. carry_behind
    (λ compares. carry_then each
    (λ right k. carry_give (sides_whole (spelling left) (spelling right) (comparison_symbol compares) h k))))

pub carry_expression : {A : Type 0} (thing : Grammar A) (spelling : A → List Lexeme)
    → Carries thing (IsWhole spelling) → Carries (grammar.expression thing) (IsWhole (expression_spelling spelling))
unfolding grammar.expression grammar.expression_behind
carry_expression thing spelling each =
    carry_then each
    (λ left h. carry_either
    (carry_behind (λ place. carry_then each
    (λ right k. carry_give (sides_whole (spelling left) (spelling right) symbols.Plus h k))))
    (carry_either
    (carry_behind (λ place. carry_then each
    (λ right k. carry_give (sides_whole (spelling left) (spelling right) symbols.Minus h k))))
    (carry_give h)))
