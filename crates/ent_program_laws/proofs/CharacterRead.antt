-- Openings and scripts that are read from a text of whole characters.
use Rattle.std.proofs.Common.{◌≡◌, ℕ, List, [], ◌∷◌, length}
use Rattle.std.specs.Prelude.{Ok}
use Rattle.std.specs.List.{AllByRecursion, flat_map}
use Rattle.std.specs.Str.{IsUtf8}
use Rattle.ent_text.specs.declared.symbol.Symbol.TheVariants as symbols
use Rattle.ent_tree.specs.declared.declaration.OpeningRow.{OpeningRow}
use Rattle.ent_tree.specs.declared.limits.TheConstants.{MOST_OPENING_ROWS, MOST_PARTS, MOST_SCRIPTS, MOST_STATEMENTS}
use Rattle.ent_tree.specs.declared.operand.Literal.{Literal}
use Rattle.ent_tree.specs.declared.operand.Operand.{Operand}
use Rattle.ent_tree.specs.declared.script.Input.{Input}
use Rattle.ent_tree.specs.declared.script.Script.{Script}
use Rattle.ent_tree.specs.declared.script.Statement.{Statement}
use Rattle.ent_tree.specs.declared.select.Items.TheVariants.{All, Listed}
use Rattle.ent_text.specs.declared.divider.Divider.TheVariants.{Comma}
use Rattle.ent_sql.specs.Entangling as entangling
use Rattle.ent_sql.specs.Operands.{literal}
use Rattle.ent_sql.specs.Reading.{reading}
use Rattle.ent_sql.specs.Scripts as scripts
use Rattle.ent_sql.specs.Statements as statements
use Rattle.ent_sql.specs.Tables as tables
use Rattle.ent_print.specs.Spelling.{end_word, line_spelling, operand_spelling, sign}
use Rattle.ent_print.specs.Spelling.{statement_spelling, word}
use Rattle.ent_semantics.specs.Database.{row_of}
use Rattle.ent_sql_laws.proofs.KeptScripts.{ReadingIsSaid, TokensAreFound}
use Rattle.ent_lists.specs.Elements.{all_map}
use Rattle.ent_program_laws.specs.Values.{IsOfCharacters}
use Rattle.ent_program_laws.specs.Characters.{IsOpeningOfCharacters, IsRowOfCharacters}
use Rattle.ent_program_laws.specs.Characters.{IsScriptOfCharacters}
use Rattle.ent_program_laws.proofs.Carrying.{Carries, carry_behind, carry_either, carry_give, carry_if, carry_listed}
use Rattle.ent_program_laws.proofs.Carrying.{carry_many, carry_then}
use Rattle.ent_program_laws.proofs.Entangling.{carry_entangled_behind, carry_entangled_items}
use Rattle.ent_program_laws.proofs.Lexed.{tokens_within}
use Rattle.ent_program_laws.proofs.Literals.{AreWhole, IsWhole, both_whole, carry_literal, carry_operand}
use Rattle.ent_program_laws.proofs.Literals.{commas_whole}
use Rattle.ent_program_laws.proofs.CharacterSelects.{carry_delete, carry_insert, carry_select_behind, carry_set}
use Rattle.ent_program_laws.proofs.CharacterSelects.{carry_update}

-- ---- statements

carry_ordinary : (xs : List Operand) → AllByRecursion (IsWhole operand_spelling) xs
    → Carries (entangling.ordinary xs) (IsWhole statement_spelling)
unfolding entangling.ordinary
carry_ordinary xs h =
    carry_then (carry_select_behind (Listed xs) (commas_whole operand_spelling xs h)) (λ s k. carry_give k)

carry_entangled : (xs : List Operand) → AllByRecursion (IsWhole operand_spelling) xs
    → Carries (entangling.entangled xs) (IsWhole statement_spelling)
unfolding entangling.entangled
carry_entangled xs h =
    carry_then (carry_entangled_items xs h)
    (λ shown k. carry_then (carry_entangled_behind shown k) (λ e l. carry_give l))

carry_query : Carries entangling.query (IsWhole statement_spelling)
unfolding entangling.query
carry_query =
    carry_behind (λ place. carry_either
    (carry_behind (λ place. carry_then (carry_select_behind All (tt, tt)) (λ s k. carry_give k)))
    (carry_then (carry_listed MOST_PARTS Comma carry_operand)
    (λ xs h. carry_if (entangling.are_terms xs) (carry_either (carry_ordinary xs h) (carry_entangled xs h))
    (carry_ordinary xs h))))

carry_statement : Carries statements.statement (IsWhole statement_spelling)
unfolding statements.statement
carry_statement =
    carry_either (carry_then carry_insert (λ s h. carry_give h))
    (carry_either (carry_then carry_delete (λ s h. carry_give h))
    (carry_either (carry_then carry_update (λ s h. carry_give h))
    (carry_either (carry_then carry_set (λ s h. carry_give h)) carry_query)))

carry_line : Carries statements.ended_statement (IsWhole statement_spelling)
unfolding statements.ended_statement
carry_line = carry_then carry_statement (λ s h. carry_behind (λ place. carry_give h))

-- ---- scripts

lines_whole : (lines : List Statement) → AllByRecursion (IsWhole statement_spelling) lines
    → AreWhole (flat_map line_spelling lines)
lines_whole [] each = tt
lines_whole (statement ∷ lines) each =
    both_whole (line_spelling statement) (flat_map line_spelling lines)
    (both_whole (statement_spelling statement) (sign symbols.Semicolon ∷ []) each.0 (tt, tt))
    (lines_whole lines each.1)

script_whole : (script : Script) → AllByRecursion (IsWhole statement_spelling) script.statements
    → IsScriptOfCharacters script
script_whole script each =
    let behind = both_whole (flat_map line_spelling script.statements)
    (word (end_word script.end) ∷ sign symbols.Semicolon ∷ []) (lines_whole script.statements each) (tt, (tt, tt)) in
    (tt, (tt, (tt, (tt, (tt, (tt, behind))))))

carry_script : Carries scripts.script IsScriptOfCharacters
unfolding scripts.script
carry_script =
    carry_behind (λ place. carry_behind (λ place. carry_behind
    (λ runs. carry_behind (λ place. carry_then (carry_many MOST_STATEMENTS carry_line)
    (λ lines k. carry_behind (λ ended. carry_behind (λ place. carry_give
    (script_whole (record { within = runs; statements = lines; end = ended }) k))))))))

-- ---- opening rows

abbrev IsOpened : OpeningRow → Type 0
IsOpened row = IsRowOfCharacters (row_of row)

abbrev AreLiterals : List Literal → Type 0
AreLiterals parts = AllByRecursion (λ one. IsOfCharacters one.value) parts

carry_row : Carries (tables.row literal) (λ row. AreLiterals row.2)
unfolding tables.row
carry_row =
    carry_behind (λ place. carry_behind (λ place. carry_behind (λ table. carry_behind (λ place. carry_behind
    (λ place. carry_then (carry_listed MOST_PARTS Comma carry_literal)
    (λ parts k. carry_behind (λ place. carry_give k)))))))

carry_opening_row : Carries tables.opening_row IsOpened
unfolding tables.opening_row
carry_opening_row =
    carry_then carry_row
    (λ row h. carry_behind
    (λ place. carry_give (all_map (λ (one : Literal). one.value) IsOfCharacters row.2 h)))

-- ---- inputs

pub record IsInputOfCharacters (input : Input) : Type 0 where
  pub opening : IsOpeningOfCharacters input.opening
  pub scripts : AllByRecursion IsScriptOfCharacters input.scripts

carry_input : Carries scripts.input IsInputOfCharacters
unfolding scripts.input
carry_input =
    carry_behind (λ tables. carry_then (carry_many MOST_OPENING_ROWS carry_opening_row)
    (λ rows h. carry_then (carry_many MOST_SCRIPTS carry_script)
    (λ found k. carry_give (record { opening = h; scripts = k }))))

pub input_of_characters : ReadingIsSaid → TokensAreFound → (text : List ℕ) (input : Input) → reading text ≡ Ok input
    → IsUtf8 text → IsInputOfCharacters input
input_of_characters says found text input read is =
    let said = (says text input).0 read in
    let are = (found text said.tokens).0 said.are_tokens in
    carry_input.carries input said.tokens (tokens_within [] 0 text said.tokens (length text) [] are is) said.spelled
