-- The texts of scripts whose literals are of whole characters.
use Rattle.std.proofs.Common.{◌≡◌, ℕ, ◌+◌, suc, Bool, true, false, ltb, List, [], ◌∷◌, ◌++◌, refl, arith}
use Rattle.std.specs.Prelude.{◌&&◌, codes}
use Rattle.std.specs.List.{All, AllByRecursion, list_all}
use Rattle.std.specs.Fmt.{decimal}
use Rattle.std.specs.Str.{IsUtf8}
use Rattle.std.proofs.lemmas.Str.{IsUtf8-nil}
use Rattle.ent_text.specs.Keyword.{keyword_text}
use Rattle.ent_text.specs.Symbol.{symbol_text}
use Rattle.ent_text.specs.declared.keyword.Keyword.{Keyword}
use Rattle.ent_text.specs.declared.keyword.Keyword.TheVariants as keywords
use Rattle.ent_text.specs.declared.symbol.Symbol.{Symbol}
use Rattle.ent_text.specs.declared.symbol.Symbol.TheVariants as symbols
use Rattle.ent_text.specs.declared.token.TokenKind.{TokenKind}
use Rattle.ent_text.specs.declared.token.TokenKind.TheVariants as kinds
use Rattle.ent_tree.specs.declared.script.Script.{Script}
use Rattle.ent_print.specs.Lexeme.{Lexeme, Token, Negative, kind_text, lexeme_text, line_end, space, text_behind}
use Rattle.ent_print.specs.Lexeme.{wants_before, wants_behind}
use Rattle.ent_print.specs.Printing.{script_text}
use Rattle.ent_print.specs.Reading.{CanBeRead, CanStand}
use Rattle.ent_print.specs.Spelling.{script_spelling}
use Rattle.ent_book.specs.Report.{line}
use Rattle.ent_book.specs.Report2.{line_count, numbered_script_text, scripts_text}
use Rattle.ent_history.specs.declared.history.History.{History}
use Rattle.ent_history.specs.Scripts.{IsScript}
use Rattle.ent_program_laws.specs.Characters.{IsKindOfCharacters, IsLexemeOfCharacters, IsScriptOfCharacters}
use Rattle.ent_program_laws.proofs.Names.{name_text, variable_text}
use Rattle.ent_program_laws.proofs.Quoting.{quoted_text}
use Rattle.ent_program_laws.proofs.Texts.{behind_byte, chosen, joined, number_text, of_ascii, one_byte}
use Rattle.ent_program_laws.proofs.CharacterValues.{line_is_text}

-- ---- lexemes

keyword_is_small : (keyword : Keyword) → list_all (λ b. ltb b 128) (keyword_text keyword) ≡ true
keyword_is_small keywords.And = refl
keyword_is_small keywords.Answer = refl
keyword_is_small keywords.As = refl
keyword_is_small keywords.Begin = refl
keyword_is_small keywords.Choose = refl
keyword_is_small keywords.Commit = refl
keyword_is_small keywords.Create = refl
keyword_is_small keywords.Delete = refl
keyword_is_small keywords.From = refl
keyword_is_small keywords.In = refl
keyword_is_small keywords.Insert = refl
keyword_is_small keywords.Int = refl
keyword_is_small keywords.Into = refl
keyword_is_small keywords.Rollback = refl
keyword_is_small keywords.Runs = refl
keyword_is_small keywords.Select = refl
keyword_is_small keywords.Set = refl
keyword_is_small keywords.Table = refl
keyword_is_small keywords.Text = refl
keyword_is_small keywords.Transaction = refl
keyword_is_small keywords.Update = refl
keyword_is_small keywords.Values = refl
keyword_is_small keywords.Where = refl
keyword_is_small keywords.Within = refl

symbol_is_small : (symbol : Symbol) → list_all (λ b. ltb b 128) (symbol_text symbol) ≡ true
symbol_is_small symbols.Open = refl
symbol_is_small symbols.Close = refl
symbol_is_small symbols.Comma = refl
symbol_is_small symbols.Semicolon = refl
symbol_is_small symbols.Dot = refl
symbol_is_small symbols.Star = refl
symbol_is_small symbols.Plus = refl
symbol_is_small symbols.Minus = refl
symbol_is_small symbols.Equal = refl
symbol_is_small symbols.NotEqual = refl
symbol_is_small symbols.Less = refl
symbol_is_small symbols.LessOrEqual = refl
symbol_is_small symbols.Greater = refl
symbol_is_small symbols.GreaterOrEqual = refl

kind_is_text : (kind : TokenKind) → CanStand kind → IsKindOfCharacters kind → IsUtf8 (kind_text kind)
kind_is_text (kinds.Word keyword) can is = of_ascii (keyword_text keyword) (keyword_is_small keyword)
kind_is_text (kinds.Name word) can is = name_text word can
kind_is_text (kinds.HostVariable word) can is = behind_byte 64 word (omega arith) (variable_text word can)
kind_is_text (kinds.Number n) can is = number_text n
kind_is_text (kinds.Literal text) can is = quoted_text text is
kind_is_text (kinds.Sign symbol) can is = of_ascii (symbol_text symbol) (symbol_is_small symbol)
kind_is_text (kinds.Fault fault) can is = IsUtf8-nil

lexeme_is_text : (lexeme : Lexeme) → CanBeRead lexeme → IsLexemeOfCharacters lexeme → IsUtf8 (lexeme_text lexeme)
lexeme_is_text (Token kind) can is = kind_is_text kind can is
lexeme_is_text (Negative n) can is = behind_byte 45 (decimal n) (omega arith) (number_text n)

line_end_is_text : (lexeme : Lexeme) → IsUtf8 (line_end lexeme)
line_end_is_text (Token (kinds.Sign symbols.Semicolon)) = one_byte 10 (omega arith)
line_end_is_text other = IsUtf8-nil

lexemes_are_text : (wanted : Bool) (lexemes : List Lexeme) → All CanBeRead lexemes
    → AllByRecursion IsLexemeOfCharacters lexemes → IsUtf8 (text_behind wanted lexemes)
lexemes_are_text wanted [] can each = IsUtf8-nil
lexemes_are_text wanted (lexeme ∷ lexemes) can each =
    let more = text_behind (wants_behind lexeme) lexemes in
    joined (space wanted lexeme) (lexeme_text lexeme ++ (line_end lexeme ++ more))
    (chosen (wanted && wants_before lexeme) (32 ∷ []) [] (one_byte 32 (omega arith)) IsUtf8-nil)
    (joined (lexeme_text lexeme) (line_end lexeme ++ more)
    (lexeme_is_text lexeme (can 0 lexeme (omega arith)) each.0)
    (joined (line_end lexeme) more (line_end_is_text lexeme)
    (lexemes_are_text (wants_behind lexeme) lexemes (λ k d below. can (suc k) d (omega arith)) each.1)))

-- ---- scripts

pub scripts_are_text : (history : History) (number : ℕ) (scripts : List Script)
    → AllByRecursion (IsScript history) scripts → AllByRecursion IsScriptOfCharacters scripts
    → IsUtf8 (scripts_text number scripts)
unfolding numbered_script_text
scripts_are_text history number [] told each = IsUtf8-nil
scripts_are_text history number (script ∷ scripts) told each =
    let lines = decimal (line_count (script_text script)) in
    let head = codes "script " ++ (decimal number ++ (codes " " ++ lines)) in
    joined (line head ++ script_text script) (scripts_text (number + 1) scripts)
    (joined (line head) (script_text script)
    (line_is_text head
    (joined (codes "script ") (decimal number ++ (codes " " ++ lines)) (of_ascii (codes "script ") refl)
    (joined (decimal number) (codes " " ++ lines) (number_text number)
    (joined (codes " ") lines (of_ascii (codes " ") refl) (number_text (line_count (script_text script)))))))
    (lexemes_are_text false (script_spelling script) told.0.readable each.0))
    (scripts_are_text history (number + 1) scripts told.1 each.1)
