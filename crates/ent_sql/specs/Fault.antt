-- The number and the place of a fault.
use Rattle.std.specs.Prelude.{ℕ}
use Rattle.ent_text.specs.declared.grammar_fault.GrammarFault.{GrammarFault}
use Rattle.ent_text.specs.declared.grammar_fault.GrammarFault.TheVariants as grammar
use Rattle.ent_text.specs.Fault.{code_of as text_code_of, place_of as text_place_of}
use Rattle.ent_sql.specs.declared.fault.SqlFault.{SqlFault}
use Rattle.ent_sql.specs.declared.fault.SqlFault.TheVariants.{Text, Unexpected, TooMany}

abbrev pub code_of : SqlFault → ℕ
code_of (Text fault) = text_code_of fault
code_of (Unexpected place) = 201
code_of (TooMany place) = 202

abbrev pub place_of : SqlFault → ℕ
place_of (Text fault) = text_place_of fault
place_of (Unexpected place) = place
place_of (TooMany place) = place

-- the fault of an input whose tokens have this one
abbrev pub fault_of : GrammarFault → SqlFault
fault_of (grammar.Unexpected place) = Unexpected place
fault_of (grammar.TooMany place) = TooMany place
