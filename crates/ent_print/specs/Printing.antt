-- The text of a script, and how it comes about lexeme by lexeme.
use Rattle.std.specs.Prelude.{ℕ, Bool, List, [], ◌∷◌, ◌++◌}
use Rattle.ent_tree.specs.declared.script.Script.{Script}
use Rattle.ent_print.specs.Lexeme.{Lexeme, lexeme_text, line_end, space, wants_behind, text_of}
use Rattle.ent_print.specs.Spelling.{script_spelling}

abbrev pub script_text : Script → List ℕ
script_text script = text_of (script_spelling script)

-- a text that is being printed, and whether what stands last in it wants a space behind it
pub record Printed : Type 0 where
  pub text : List ℕ
  pub wanted : Bool

-- a lexeme behind it
unfoldable pub with_lexeme : Printed → Lexeme → Printed
with_lexeme printed lexeme = record {
  text = printed.text ++ (space printed.wanted lexeme ++ (lexeme_text lexeme ++ line_end lexeme));
  wanted = wants_behind lexeme;
}

-- lexemes behind it
abbrev pub with_lexemes : Printed → List Lexeme → Printed
with_lexemes printed [] = printed
with_lexemes printed (lexeme ∷ more) = with_lexemes (with_lexeme printed lexeme) more
