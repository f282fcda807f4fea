-- What a text says, as it is read: its tokens, and the input that they are, or the script.
use Rattle.std.specs.Prelude.{ℕ, List, length, Result, Ok, Err}
use Rattle.ent_text.specs.declared.token.Token.{Token}
use Rattle.ent_text.specs.declared.fault.TextFault.{TextFault}
use Rattle.ent_text.specs.Lexing.{tokens_of}
use Rattle.ent_text.specs.declared.grammar_fault.GrammarFault.{GrammarFault}
use Rattle.ent_text.specs.Grammar.{Grammar, reads_all}
use Rattle.ent_tree.specs.declared.script.Input.{Input}
use Rattle.ent_tree.specs.declared.script.Script.{Script}
use Rattle.ent_sql.specs.declared.fault.SqlFault.{SqlFault}
use Rattle.ent_sql.specs.declared.fault.SqlFault.TheVariants.{Text}
use Rattle.ent_sql.specs.Fault.{fault_of}
use Rattle.ent_sql.specs.Scripts.{input, script}

-- a fault of the grammar is one of the input
abbrev pub with_fault : {A : Type 0} → Result A GrammarFault → Result A SqlFault
with_fault (Ok x) = Ok x
with_fault (Err fault) = Err (fault_of fault)

-- what tokens say by a grammar; their own fault comes first
abbrev pub with_tokens : {A : Type 0} → Grammar A → Result (List Token) TextFault → ℕ → Result A SqlFault
with_tokens g (Ok tokens) end = with_fault (reads_all g end tokens)
with_tokens g (Err fault) end = Err (Text fault)

-- what the text says, or its first fault
unfoldable pub reading : List ℕ → Result Input SqlFault
reading text = with_tokens input (tokens_of text) (length text)

-- the one script that the text says, or its first fault
unfoldable pub script_reading : List ℕ → Result Script SqlFault
script_reading text = with_tokens script (tokens_of text) (length text)
