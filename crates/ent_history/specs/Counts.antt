-- How lines that say how many are read, and which lines there are.
use Rattle.std.specs.Prelude.{◌==◌, ℕ, List, ◌++◌, length, Result, Ok, Err, codes, if◌then◌else◌}
use Rattle.std.specs.Fmt.{decimal}
use Rattle.ent_value.specs.Print.{value_text}
use Rattle.ent_value.specs.Refusal.{◌>>=◌}
use Rattle.ent_value.specs.declared.value.Value.{Value}
use Rattle.ent_semantics.specs.Database.{Name}
use Rattle.ent_text.specs.declared.line_fault.LineFault.{LineFault}
use Rattle.ent_text.specs.declared.line_fault.LineFault.TheVariants.{Misfit}
use Rattle.ent_text.specs.Pieces.{behind, number_at, value_at}

-- a number behind a word, up to the end
unfoldable pub counted_at : List ℕ → List ℕ → Result ℕ LineFault
counted_at word bytes =
    behind word bytes >>= λ rest. number_at rest >>= λ found.
    if length found.1 == 0 then Ok found.0 else Err Misfit

unfoldable pub table_at : Name → List ℕ → Result ℕ LineFault
table_at name line =
    behind (codes "table ") line >>= λ rest. behind name rest >>= λ rest. counted_at (codes " ") rest

unfoldable pub placed_at : List ℕ → List ℕ → Result (ℕ × ℕ) LineFault
placed_at word line =
    number_at line >>= λ place. counted_at word place.1 >>= λ count. Ok (place.0, count)

unfoldable pub set_at : List ℕ → Result (ℕ × Value) LineFault
set_at line =
    number_at line >>= λ place. behind (codes " set ") place.1 >>= λ rest. value_at rest >>= λ found.
    if length found.1 == 0 then Ok (place.0, found.0) else Err Misfit

-- ---- which lines there are, without their ends

abbrev pub table_line : Name → ℕ → List ℕ
table_line name count = codes "table " ++ (name ++ (codes " " ++ decimal count))

-- an answer that is a number behind a word
abbrev pub placed_line : List ℕ → ℕ → ℕ → List ℕ
placed_line word place count = decimal place ++ (word ++ decimal count)

abbrev pub set_line : ℕ → Value → List ℕ
set_line place value = decimal place ++ (codes " set " ++ value_text value)
