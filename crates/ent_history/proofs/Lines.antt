-- The text of a script is its lines: BEGIN, the statements, the end.
use Rattle.std.proofs.Common.{◌≡◌, ℕ, ◌+◌, Bool, true, false, ◌==◌, ◌&&◌, not, cond, List, [], ◌∷◌, ◌++◌, length, refl}
use Rattle.std.proofs.Common.{ap, sym, ◌∙◌, append_assoc, arith, subst, codes}
use Rattle.std.specs.List.{list_all, flat_map}
use Rattle.std.proofs.lemmas.List.Sums.{sum_by-append}
use Rattle.ent_text.specs.declared.keyword.Keyword.TheVariants as keywords
use Rattle.ent_text.specs.declared.symbol.Symbol.TheVariants as symbols
use Rattle.ent_text.specs.declared.token.TokenKind.TheVariants.{Number}
use Rattle.ent_text.specs.Spelling.{is_in_line}
use Rattle.ent_tree.specs.declared.script.End.{End}
use Rattle.ent_tree.specs.declared.script.End.TheVariants as ends
use Rattle.ent_tree.specs.declared.script.Script.{Script}
use Rattle.ent_tree.specs.declared.script.Statement.{Statement}
use Rattle.ent_print.specs.Lexeme.{Lexeme, Token, lexeme_text, line_end, space, wants_behind, text_behind, text_of}
use Rattle.ent_print.specs.Printing.{script_text}
use Rattle.ent_print.specs.Reading.{CanBeRead}
use Rattle.ent_print.specs.Spelling.{word, sign, statement_spelling, line_spelling, end_word}
use Rattle.ent_sql_laws.specs.Fits.{Each}
use Rattle.ent_sql_laws.proofs.Keeping.{each_append, each_front, each_back}
use Rattle.ent_book.specs.Report.{line}
use Rattle.ent_book.specs.Report2.{line_count}
use Rattle.ent_history.proofs.InLine.{IsInLine, StaysInLine, in_line_append, text_in_line}
use Rattle.ent_history.proofs.Staying.{statement_stays}

-- ---- how many lines

pub count_append : (xs ys : List ℕ) → line_count (xs ++ ys) ≡ line_count xs + line_count ys
count_append xs ys = sum_by-append (λ x. cond (x == 10) 1 0) xs ys

pub none_in_line : (xs : List ℕ) → IsInLine xs → line_count xs ≡ 0
none_in_line [] h = refl
none_in_line (c ∷ cs) h =
    let parts = count_append (c ∷ []) cs in
    let one : line_count (c ∷ []) ≡ 0 = first (c == 10) (list_all is_in_line cs) h in
    let more : line_count cs ≡ 0 = none_in_line cs (rest (c == 10) (list_all is_in_line cs) h) in
    omega arith
  where
    first : (test others : Bool) → (not test && others) ≡ true → 0 + cond test 1 0 ≡ 0
    first true others k = absurd cc
    first false others k = refl

    rest : (test others : Bool) → (not test && others) ≡ true → others ≡ true
    rest true others k = absurd cc
    rest false others k = k

-- ---- a line

-- one line, with its end
pub record IsLine (text : List ℕ) : Type 0 where
  pub front : List ℕ
  pub in_line : IsInLine front
  pub is : text ≡ line front

pub one_line : (text : List ℕ) → IsLine text → line_count text ≡ 1
one_line text h =
    ap line_count h.is ∙ (let parts = count_append h.front (10 ∷ []) in
    let none = none_in_line h.front h.in_line in
    let end : line_count (10 ∷ []) ≡ 1 = refl in
    let all : line_count (line h.front) ≡ 1 = omega arith in all)

-- ---- the text of lexemes that a `;` ends

ended : (wanted : Bool) (xs : List Lexeme)
    → text_behind wanted (xs ++ sign symbols.Semicolon ∷ []) ≡ text_behind wanted xs ++ 59 ∷ 10 ∷ []
ended true [] = refl
ended false [] = refl
ended wanted (x ∷ xs) =
    let rest = text_behind (wants_behind x) xs in
    ap (λ (l : List ℕ). space wanted x ++ (lexeme_text x ++ (line_end x ++ l))) (ended (wants_behind x) xs)
    ∙ sym (append_assoc (space wanted x) (lexeme_text x ++ (line_end x ++ rest)) (59 ∷ 10 ∷ [])
    ∙ ap (λ (l : List ℕ). space wanted x ++ l) (append_assoc (lexeme_text x) (line_end x ++ rest) (59 ∷ 10 ∷ [])
    ∙ ap (λ (l : List ℕ). lexeme_text x ++ l) (append_assoc (line_end x) rest (59 ∷ 10 ∷ []))))

ended_line : (xs : List Lexeme) → Each CanBeRead xs → Each StaysInLine xs
    → IsLine (text_of (xs ++ sign symbols.Semicolon ∷ []))
ended_line xs h k = record {
  front = text_of xs ++ 59 ∷ [];
  in_line = in_line_append (text_of xs) (59 ∷ []) (text_in_line false xs h k) refl;
  is = ended false xs ∙ sym (append_assoc (text_of xs) (59 ∷ []) (10 ∷ []));
}

-- what stands behind a `;` begins a line
behind_end : (wanted : Bool) (xs ys : List Lexeme)
    → text_behind wanted (xs ++ sign symbols.Semicolon ∷ ys)
    ≡ text_behind wanted (xs ++ sign symbols.Semicolon ∷ []) ++ text_of ys
behind_end true [] ys = refl
behind_end false [] ys = refl
behind_end wanted (x ∷ xs) ys =
    let rest = text_behind (wants_behind x) (xs ++ sign symbols.Semicolon ∷ []) in
    ap (λ (l : List ℕ). space wanted x ++ (lexeme_text x ++ (line_end x ++ l))) (behind_end (wants_behind x) xs ys)
    ∙ sym (append_assoc (space wanted x) (lexeme_text x ++ (line_end x ++ rest)) (text_of ys)
    ∙ ap (λ (l : List ℕ). space wanted x ++ l) (append_assoc (lexeme_text x) (line_end x ++ rest) (text_of ys)
    ∙ ap (λ (l : List ℕ). lexeme_text x ++ l) (append_assoc (line_end x) rest (text_of ys))))

-- ---- the lines of a script

-- the line of a statement
abbrev pub line_text : Statement → List ℕ
line_text statement = text_of (line_spelling statement)

abbrev begin_spelling : ℕ → List Lexeme
begin_spelling within =
    word keywords.Begin ∷ word keywords.Transaction ∷ word keywords.Within ∷ Token (Number within)
    ∷ word keywords.Runs ∷ []

abbrev pub begin_text : ℕ → List ℕ
begin_text within = text_of (begin_spelling within ++ sign symbols.Semicolon ∷ [])

abbrev end_spelling : End → List Lexeme
end_spelling end = word (end_word end) ∷ sign symbols.Semicolon ∷ []

abbrev pub end_text : End → List ℕ
end_text end = text_of (end_spelling end)

body_is : (xs : List Statement) (more : List Lexeme)
    → text_of (flat_map line_spelling xs ++ more) ≡ flat_map line_text xs ++ text_of more
body_is [] more = refl
body_is (x ∷ xs) more =
    let rest = flat_map line_spelling xs in
    ap text_of (append_assoc (line_spelling x) rest more
    ∙ append_assoc (statement_spelling x) (sign symbols.Semicolon ∷ []) (rest ++ more))
    ∙ (behind_end false (statement_spelling x) (rest ++ more)
    ∙ (ap (λ (l : List ℕ). line_text x ++ l) (body_is xs more)
    ∙ sym (append_assoc (line_text x) (flat_map line_text xs) (text_of more))))

pub script_is : (script : Script)
    → script_text script
    ≡ begin_text script.within ++ (flat_map line_text script.statements ++ end_text script.end)
script_is script =
    behind_end false (begin_spelling script.within)
    (flat_map line_spelling script.statements ++ end_spelling script.end)
    ∙ ap (λ (l : List ℕ). begin_text script.within ++ l) (body_is script.statements (end_spelling script.end))

-- ---- what is readable of them

-- the statement's lexemes can stand in a text
abbrev pub HasReadable : Statement → Type 0
HasReadable statement = Each CanBeRead (statement_spelling statement)

abbrev pub AreReadable : List Statement → Type 0
AreReadable = Each HasReadable

pub begin_is_line : (within : ℕ) → Each CanBeRead (begin_spelling within) → IsLine (begin_text within)
begin_is_line within h = ended_line (begin_spelling within) h (refl, (refl, (refl, (refl, (refl, tt)))))

pub end_is_line : (end : End) → IsLine (end_text end)
end_is_line ends.Commit = record { front = codes "COMMIT;"; in_line = refl; is = refl }
end_is_line ends.Rollback = record { front = codes "ROLLBACK;"; in_line = refl; is = refl }

pub statement_is_line : (statement : Statement) → Each CanBeRead (statement_spelling statement)
    → IsLine (line_text statement)
statement_is_line statement h = ended_line (statement_spelling statement) h (statement_stays statement)

pub statements_count : (xs : List Statement) → AreReadable xs → line_count (flat_map line_text xs) ≡ length xs
statements_count [] h = refl
statements_count (x ∷ xs) h =
    let parts = count_append (line_text x) (flat_map line_text xs) in
    let one = one_line (line_text x) (statement_is_line x h.0) in
    let more = statements_count xs h.1 in
    omega arith

-- the parts of a script's spelling
pub parts_readable : (xs : List Statement) (more : List Lexeme) → Each CanBeRead (flat_map line_spelling xs ++ more)
    → AreReadable xs
parts_readable [] more h = tt
parts_readable (x ∷ xs) more h =
    let rest = flat_map line_spelling xs in
    let all = subst (Each CanBeRead) (append_assoc (line_spelling x) rest more) h in (
      each_front CanBeRead (statement_spelling x) (sign symbols.Semicolon ∷ [])
          (each_front CanBeRead (line_spelling x) (rest ++ more) all),
      parts_readable xs more (each_back CanBeRead (line_spelling x) (rest ++ more) all),
    )

pub parts_join : (xs : List Statement) (more : List Lexeme) → CanBeRead (sign symbols.Semicolon) → AreReadable xs
    → Each CanBeRead more
    → Each CanBeRead (flat_map line_spelling xs ++ more)
parts_join [] more semicolon h k = k
parts_join (x ∷ xs) more semicolon h k =
    let rest = flat_map line_spelling xs in
    subst (Each CanBeRead) (sym (append_assoc (line_spelling x) rest more))
    (each_append CanBeRead (line_spelling x) (rest ++ more)
    (each_append CanBeRead (statement_spelling x) (sign symbols.Semicolon ∷ []) h.0 (semicolon, tt))
    (parts_join xs more semicolon h.1 k))
