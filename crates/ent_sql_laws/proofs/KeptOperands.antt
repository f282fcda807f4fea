-- Values, operands and tests that are read can be printed and read again.
use Rattle.std.proofs.Common.{◌≡◌, ℕ, ◌≤◌, List, ◌∷◌, ◌++◌, subst, refl}
use Rattle.std.proofs.Common.{arith, Some, inl, suc, zero}
use Rattle.std.proofs.lemmas.Fmt.{decimal_is_IsNumeral}
use Rattle.std.specs.Fmt.{decimal}
use Rattle.ent_text.specs.declared.keyword.Keyword.{Keyword}
use Rattle.ent_text.specs.declared.keyword.Keyword.TheVariants as keywords
use Rattle.ent_text.specs.declared.symbol.Symbol.{Symbol}
use Rattle.ent_text.specs.declared.symbol.Symbol.TheVariants as symbols
use Rattle.ent_text.specs.declared.token.TokenKind.{TokenKind}
use Rattle.ent_text.specs.declared.token.TokenKind.TheVariants as kinds
use Rattle.ent_text.specs.Keyword.{keyword_text}
use Rattle.ent_text.specs.Symbol.{symbol_text}
use Rattle.ent_text.specs.Numeral.{negative_of}
use Rattle.ent_text.specs.Spelling.{Spells}
use Rattle.ent_value.specs.declared.value.Value.TheVariants as values
use Rattle.ent_text.specs.Class.{name, variable, number, text, given}
use Rattle.ent_text.specs.Grammar.{Grammar}
use Rattle.ent_sql.specs.Operands as grammar
use Rattle.ent_print.specs.Lexeme.{Lexeme}
use Rattle.ent_print.specs.Reading.{CanStand, CanBeRead}
use Rattle.ent_print.specs.Spelling.{value_spelling, specification_spelling, column_spelling, operand_spelling}
use Rattle.ent_print.specs.Spelling.{term_spelling, comparison_symbol, test_spelling, expression_spelling, sign}
use Rattle.ent_sql_laws.specs.Fits.{Each}
use Rattle.ent_sql_laws.proofs.Keeping.{Keeps, keep_give, keep_token, keep_then, keep_behind}
use Rattle.ent_sql_laws.proofs.Keeping.{keep_either, each_append}

-- each lexeme of the thing can stand in a text
abbrev pub Printable : {A : Type 0} → (A → List Lexeme) → A → Type 0
Printable spelling x = Each CanBeRead (spelling x)

-- ---- what can always stand

in_capitals : (keyword : Keyword) → Spells (keyword_text keyword) (kinds.Word keyword) → CanStand (kinds.Word keyword)
in_capitals keyword spelled = ((keyword_text keyword, spelled), tt)

pub word_stands : (keyword : Keyword) → CanStand (kinds.Word keyword)
word_stands keywords.And = in_capitals keywords.And ((refl, refl), refl)
word_stands keywords.Answer = in_capitals keywords.Answer ((refl, refl), refl)
word_stands keywords.As = in_capitals keywords.As ((refl, refl), refl)
word_stands keywords.Begin = in_capitals keywords.Begin ((refl, refl), refl)
word_stands keywords.Choose = in_capitals keywords.Choose ((refl, refl), refl)
word_stands keywords.Commit = in_capitals keywords.Commit ((refl, refl), refl)
word_stands keywords.Create = in_capitals keywords.Create ((refl, refl), refl)
word_stands keywords.Delete = in_capitals keywords.Delete ((refl, refl), refl)
word_stands keywords.From = in_capitals keywords.From ((refl, refl), refl)
word_stands keywords.In = in_capitals keywords.In ((refl, refl), refl)
word_stands keywords.Insert = in_capitals keywords.Insert ((refl, refl), refl)
word_stands keywords.Int = in_capitals keywords.Int ((refl, refl), refl)
word_stands keywords.Into = in_capitals keywords.Into ((refl, refl), refl)
word_stands keywords.Rollback = in_capitals keywords.Rollback ((refl, refl), refl)
word_stands keywords.Runs = in_capitals keywords.Runs ((refl, refl), refl)
word_stands keywords.Select = in_capitals keywords.Select ((refl, refl), refl)
word_stands keywords.Set = in_capitals keywords.Set ((refl, refl), refl)
word_stands keywords.Table = in_capitals keywords.Table ((refl, refl), refl)
word_stands keywords.Text = in_capitals keywords.Text ((refl, refl), refl)
word_stands keywords.Transaction = in_capitals keywords.Transaction ((refl, refl), refl)
word_stands keywords.Update = in_capitals keywords.Update ((refl, refl), refl)
word_stands keywords.Values = in_capitals keywords.Values ((refl, refl), refl)
word_stands keywords.Where = in_capitals keywords.Where ((refl, refl), refl)
word_stands keywords.Within = in_capitals keywords.Within ((refl, refl), refl)

pub sign_stands : (symbol : Symbol) → CanStand (kinds.Sign symbol)
sign_stands symbol = ((symbol_text symbol, inl refl), tt)

pub number_stands : (n : ℕ) → n ≤ 9223372036854775807 → CanStand (kinds.Number n)
number_stands n small =
    let h = decimal_is_IsNumeral n (omega arith) in ((decimal n, (h.0, h.1)), small)

-- ---- what single tokens give

name_given : (kind : TokenKind) (place : ℕ) (y : List ℕ × ℕ) → CanStand kind → given name kind place ≡ Some y
    → CanStand (kinds.Name y.0)
name_given (kinds.Name n) place y can e =
    let k : (n, place) ≡ y = cc in subst (λ (z : List ℕ × ℕ). CanStand (kinds.Name z.0)) k can
name_given _ place y can e = absurd cc

variable_given : (kind : TokenKind) (place : ℕ) (y : List ℕ × ℕ) → CanStand kind
    → given variable kind place ≡ Some y → CanStand (kinds.HostVariable y.0)
variable_given (kinds.HostVariable n) place y can e =
    let k : (n, place) ≡ y = cc in subst (λ (z : List ℕ × ℕ). CanStand (kinds.HostVariable z.0)) k can
variable_given _ place y can e = absurd cc

number_given : (kind : TokenKind) (place : ℕ) (y : ℕ × ℕ) → CanStand kind → given number kind place ≡ Some y
    → CanStand (kinds.Number y.0)
number_given (kinds.Number n) place y can e =
    let k : (n, place) ≡ y = cc in subst (λ (z : ℕ × ℕ). CanStand (kinds.Number z.0)) k can
number_given _ place y can e = absurd cc

text_given : (kind : TokenKind) (place : ℕ) (y : List ℕ × ℕ) → CanStand kind → given text kind place ≡ Some y
    → CanStand (kinds.Literal y.0)
text_given (kinds.Literal n) place y can e =
    let k : (n, place) ≡ y = cc in subst (λ (z : List ℕ × ℕ). CanStand (kinds.Literal z.0)) k can
text_given _ place y can e = absurd cc

-- ---- values

pub keep_identifier : Keeps grammar.identifier (λ i. CanStand (kinds.Name i.name))
unfolding grammar.identifier
keep_identifier = keep_then (keep_token name name_given) (λ n h. keep_give h)

pub keep_host_variable : Keeps grammar.host_variable (λ i. CanStand (kinds.HostVariable i.name))
unfolding grammar.host_variable
keep_host_variable = keep_then (keep_token variable variable_given) (λ n h. keep_give h)

negative_stands : (n : ℕ) → CanStand (kinds.Number n) → CanBeRead (value_spelling (values.Int (negative_of n)))
negative_stands zero can = can
negative_stands (suc n) can = can

pub keep_literal : Keeps grammar.literal (λ l. CanBeRead (value_spelling l.value))
unfolding grammar.literal grammar.negative grammar.unsigned grammar.positive grammar.quoted
keep_literal =
    keep_either (keep_behind (λ place. keep_then (keep_token number number_given)
    (λ n h. keep_give (negative_stands n.0 h))))
    (keep_either (keep_then (keep_token number number_given) (λ n h. keep_give h))
    (keep_then (keep_token text text_given) (λ t h. keep_give h)))

pub keep_value : Keeps grammar.value (Printable specification_spelling)
unfolding grammar.value
keep_value =
    keep_either (keep_then keep_host_variable (λ v h. keep_give (h, tt)))
    (keep_then keep_literal (λ l h. keep_give (h, tt)))

keep_column_reference : Keeps grammar.column_reference (Printable column_spelling)
unfolding grammar.column_reference
keep_column_reference =
    keep_then keep_identifier
    (λ first h. keep_either
    (keep_behind (λ place. keep_then keep_identifier (λ column k. keep_give (h, (sign_stands symbols.Dot, (k, tt))))))
    (keep_give (h, tt)))

pub keep_operand : Keeps grammar.operand (Printable operand_spelling)
unfolding grammar.operand
keep_operand =
    keep_either (keep_then keep_column_reference (λ c h. keep_give h)) (keep_then keep_value (λ v h. keep_give h))

pub keep_term : Keeps grammar.term (Printable term_spelling)
unfolding grammar.term
keep_term =
    keep_either (keep_then keep_identifier (λ n h. keep_give (h, tt))) (keep_then keep_value (λ v h. keep_give h))

-- ---- what is made of them

pub both_print : (left right : List Lexeme) (symbol : Symbol) → Each CanBeRead left → Each CanBeRead right
    → Each CanBeRead (left ++ sign symbol ∷ right)
both_print left right symbol h k = each_append CanBeRead left (sign symbol ∷ right) h (sign_stands symbol, k)

pub keep_test : {A : Type 0} (thing : Grammar A) (spelling : A → List Lexeme) → Keeps thing (Printable spelling)
    → Keeps (grammar.compared thing) (Printable (test_spelling spelling))
unfolding grammar.compared
keep_test thing spelling each =
    keep_then each (λ left h. keep_behind
    (λ compares. keep_then each
    (λ right k. keep_give (both_print (spelling left) (spelling right) (comparison_symbol compares) h k))))

pub keep_expression : {A : Type 0} (thing : Grammar A) (spelling : A → List Lexeme) → Keeps thing (Printable spelling)
    → Keeps (grammar.expression thing) (Printable (expression_spelling spelling))
unfolding grammar.expression grammar.expression_behind
keep_expression thing spelling each =
    keep_then each
    (λ left h. keep_either
    (keep_behind (λ place. keep_then each
    (λ right k. keep_give (both_print (spelling left) (spelling right) symbols.Plus h k))))
    (keep_either
    (keep_behind (λ place. keep_then each
    (λ right k. keep_give (both_print (spelling left) (spelling right) symbols.Minus h k))))
    (keep_give h)))
