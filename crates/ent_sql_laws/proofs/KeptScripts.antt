-- Statements and scripts that are read keep the limits and can be printed.
use Rattle.std.proofs.Common.{◌≡◌, ℕ, ◌+◌, ◌≤◌, Bool, true, false, refl, nat_le, List, [], ◌∷◌, length, arith}
use Rattle.std.proofs.Common.{Some, ap, subst}
use Rattle.std.proofs.lemmas.Bool.{leb-true}
use Rattle.std.specs.Prelude.{◌↔◌, Ok}
use Rattle.std.specs.List.{flat_map, Contains}
use Rattle.ent_text.specs.declared.keyword.Keyword.TheVariants as keywords
use Rattle.ent_text.specs.declared.symbol.Symbol.TheVariants as symbols
use Rattle.ent_text.specs.declared.token.Token.{Token as PlacedToken}
use Rattle.ent_text.specs.declared.token.TokenKind.{TokenKind}
use Rattle.ent_text.specs.declared.token.TokenKind.TheVariants as kinds
use Rattle.ent_text.specs.Reading.{Reads, AreTokens, nothing, gap, token}
use Rattle.ent_tree.specs.declared.limits.TheConstants.{MOST_PARTS, MOST_RUNS, MOST_STATEMENTS, MOST_SCRIPTS}
use Rattle.ent_tree.specs.declared.operand.Operand.{Operand}
use Rattle.ent_tree.specs.declared.script.Statement.{Statement}
use Rattle.ent_tree.specs.declared.script.Script.{Script}
use Rattle.ent_tree.specs.declared.script.Input.{Input}
use Rattle.ent_tree.specs.declared.select.Items.TheVariants.{All, Listed}
use Rattle.ent_text.specs.declared.divider.Divider.TheVariants.{Comma}
use Rattle.ent_text.specs.Class.{positive, given, if_so}
use Rattle.ent_text.specs.Lexing.{tokens_of}
use Rattle.ent_sql.specs.Reading.{reading}
use Rattle.ent_sql.specs.Says.{Says}
use Rattle.ent_sql.specs.Entangling as entangling
use Rattle.ent_sql.specs.Statements as grammar
use Rattle.ent_sql.specs.Scripts as script_grammar
use Rattle.ent_print.specs.Reading.{CanStand, CanBeRead, IsReadable}
use Rattle.ent_print.specs.Spelling.{word, sign, operand_spelling, statement_spelling, line_spelling, end_word}
use Rattle.ent_print.specs.Spelling.{script_spelling}
use Rattle.ent_sql_laws.specs.Fits.{Each, HasParts, StatementFits, ScriptFits}
use Rattle.ent_sql_laws.proofs.Keeping.{CanAllStand, Keeps, keep_give, keep_then, keep_behind, keep_either}
use Rattle.ent_sql_laws.proofs.Keeping.{keep_if, keep_listed, keep_many, keep_up_to, each_append, each_at}
use Rattle.ent_sql_laws.proofs.Keeping.{each_implies}
use Rattle.ent_sql_laws.proofs.KeptOperands.{Printable, word_stands, sign_stands, number_stands, keep_operand}
use Rattle.ent_sql_laws.proofs.KeptSelects.{commas_print, keep_select_behind, keep_insert, keep_delete, keep_update}
use Rattle.ent_sql_laws.proofs.KeptSelects.{keep_set}
use Rattle.ent_sql_laws.proofs.KeptEntangling.{keep_entangled_items, keep_entangled_behind}

-- ---- statements

abbrev pub StatementKept : Statement → Type 0
StatementKept statement = StatementFits statement × Printable statement_spelling statement

-- operands of a select list
abbrev OperandsKept : List Operand → Type 0
OperandsKept xs = Each (Printable operand_spelling) xs × HasParts xs MOST_PARTS

keep_ordinary : (xs : List Operand) → OperandsKept xs → Keeps (entangling.ordinary xs) StatementKept
unfolding entangling.ordinary
keep_ordinary xs h =
    keep_then (keep_select_behind (Listed xs) (h.1, commas_print operand_spelling xs h.0)) (λ s k. keep_give k)

keep_entangled : (xs : List Operand) → OperandsKept xs → Keeps (entangling.entangled xs) StatementKept
unfolding entangling.entangled
keep_entangled xs h =
    keep_then (keep_entangled_items xs h.0 h.1)
    (λ shown k. keep_then (keep_entangled_behind shown k) (λ e l. keep_give l))

keep_query : Keeps entangling.query StatementKept
unfolding entangling.query
keep_query =
    keep_behind (λ place. keep_either
    (keep_behind (λ place. keep_then (keep_select_behind All (tt, (sign_stands symbols.Star, tt)))
    (λ s k. keep_give k)))
    (keep_then (keep_listed MOST_PARTS Comma (omega arith) keep_operand)
    (λ xs h. keep_if (entangling.are_terms xs) (keep_either (keep_ordinary xs h) (keep_entangled xs h))
    (keep_ordinary xs h))))

keep_statement : Keeps grammar.statement StatementKept
unfolding grammar.statement
keep_statement =
    keep_either (keep_then keep_insert (λ s h. keep_give h))
    (keep_either (keep_then keep_delete (λ s h. keep_give h))
    (keep_either (keep_then keep_update (λ s h. keep_give h))
    (keep_either (keep_then keep_set (λ s h. keep_give (tt, h))) keep_query)))

keep_line : Keeps grammar.ended_statement StatementKept
unfolding grammar.ended_statement
keep_line = keep_then keep_statement (λ s h. keep_behind (λ place. keep_give h))

-- ---- scripts

-- a number of runs
abbrev RunsKept : ℕ → Type 0
RunsKept n = (1 ≤ n) × (n ≤ MOST_RUNS)

if_so_is : (b : Bool) (x y : ℕ × ℕ) → if_so b x ≡ Some y → (b ≡ true) × (x ≡ y)
if_so_is true x y e = (refl, cc)
if_so_is false x y e = absurd cc

runs_given : (kind : TokenKind) (place : ℕ) (y : ℕ × ℕ) → CanStand kind → given positive kind place ≡ Some y
    → nat_le y.0 MOST_RUNS ≡ true → RunsKept y.0
runs_given (kinds.Number n) place y can e few =
    let k = if_so_is (nat_le 1 n) (n, place) y e in
    let same : n ≡ y.0 = ap (λ (z : ℕ × ℕ). z.0) k.1 in
    (omega (arith, leb-true 1 n k.0), leb-true y.0 MOST_RUNS few)
runs_given _ place y can e few = absurd cc

keep_runs : Keeps script_grammar.within RunsKept
unfolding script_grammar.within
keep_runs =
    keep_either
    (keep_behind (λ place. keep_then (keep_up_to MOST_RUNS runs_given)
    (λ n h. keep_behind (λ place. keep_give h))))
    (keep_give (omega arith, omega arith))

abbrev pub ScriptKept : Script → Type 0
ScriptKept script = ScriptFits script × Printable script_spelling script

lines_print : (xs : List Statement) → Each (Printable statement_spelling) xs
    → Each CanBeRead (flat_map line_spelling xs)
lines_print [] hs = tt
lines_print (x ∷ xs) hs =
    each_append CanBeRead (line_spelling x) (flat_map line_spelling xs)
    (each_append CanBeRead (statement_spelling x) (sign symbols.Semicolon ∷ []) hs.0
    (sign_stands symbols.Semicolon, tt)) (lines_print xs hs.1)

script_prints : (s : Script) → RunsKept s.within → Each (Printable statement_spelling) s.statements
    → Printable script_spelling s
script_prints s runs statements = (
  word_stands keywords.Begin,
  (
    word_stands keywords.Transaction,
    (
      word_stands keywords.Within,
      (
        number_stands s.within (omega (arith, runs.1)),
        (
          word_stands keywords.Runs,
          (
            sign_stands symbols.Semicolon,
            each_append CanBeRead (flat_map line_spelling s.statements)
                (word (end_word s.end) ∷ sign symbols.Semicolon ∷ []) (lines_print s.statements statements)
                (word_stands (end_word s.end), (sign_stands symbols.Semicolon, tt)),
          ),
        ),
      ),
    ),
  ),
)

pub keep_script : Keeps script_grammar.script ScriptKept
unfolding script_grammar.script
keep_script =
    keep_behind (λ place. keep_behind (λ place. keep_then keep_runs
    (λ runs h. keep_behind (λ place. keep_then (keep_many MOST_STATEMENTS keep_line)
    (λ statements k. keep_behind (λ ended. keep_behind (λ place. keep_give (
      (h.0, h.1, k.1, each_implies StatementKept StatementFits (λ s l. l.0) statements k.0),
      script_prints (record { within = runs; statements = statements; end = ended }) h
          (each_implies StatementKept (Printable statement_spelling) (λ s l. l.1) statements k.0),
    ))))))))

abbrev pub InputKept : Input → Type 0
InputKept input = Each ScriptKept input.scripts × (length input.scripts ≤ MOST_SCRIPTS)

keep_input : Keeps script_grammar.input InputKept
unfolding script_grammar.input
keep_input =
    keep_behind (λ tables. keep_behind (λ rows. keep_then (keep_many MOST_SCRIPTS keep_script)
    (λ scripts h. keep_give h)))

-- ---- the tokens of a text

pub tokens_stand : (place : ℕ) (bytes : List ℕ) (tokens : List PlacedToken) (end : ℕ) (rest : List ℕ)
    → Reads place bytes tokens end rest → CanAllStand tokens
tokens_stand place bytes tokens end rest (nothing _ _) = tt
tokens_stand place bytes tokens end rest (gap at before behind others _ _ is longest more) =
    tokens_stand (at + length before) behind others end rest more
tokens_stand place bytes tokens end rest (token at before behind kind others _ _ spelled longest small more) =
    (((before, spelled), small), tokens_stand (at + length before) behind others end rest more)

kept_at : (xs : List Script) (x : Script) → Each ScriptKept xs → Contains xs x → ScriptKept x
kept_at xs x each (k, below, is) = subst ScriptKept is (each_at ScriptKept xs each k x below)

-- the law of reading a text, and that of its tokens
abbrev pub ReadingIsSaid : Type 0
ReadingIsSaid = (text : List ℕ) (input : Input) → (reading text ≡ Ok input) ↔ Says text input

abbrev pub TokensAreFound : Type 0
TokensAreFound = (text : List ℕ) (tokens : List PlacedToken) → (tokens_of text ≡ Ok tokens) ↔ AreTokens text tokens

-- what is read from a text
pub read_input_is_kept : ReadingIsSaid → TokensAreFound → (text : List ℕ) (input : Input) → reading text ≡ Ok input
    → InputKept input
read_input_is_kept says found text input is =
    let said = (says text input).0 is in
    let are = (found text said.tokens).0 said.are_tokens in
    keep_input.keeps input said.tokens (tokens_stand 0 text said.tokens (length text) [] are) said.spelled

pub script_is_kept : (input : Input) (script : Script) → InputKept input → Contains input.scripts script
    → ScriptFits script × IsReadable script
script_is_kept input script h held =
    let kept = kept_at input.scripts script h.0 held in (kept.0, each_at CanBeRead (script_spelling script) kept.1)
