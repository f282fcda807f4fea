-- How the line above a script is read, and which lines there are.
use Rattle.std.specs.Prelude.{ℕ, List, ◌++◌, Result, codes}
use Rattle.std.specs.Fmt.{decimal}
use Rattle.ent_value.specs.Refusal.{◌>>=◌}
use Rattle.ent_text.specs.declared.line_fault.LineFault.{LineFault}
use Rattle.ent_text.specs.Pieces.{behind}
use Rattle.ent_history.specs.Counts.{placed_at}

unfoldable pub script_at : List ℕ → Result (ℕ × ℕ) LineFault
script_at line = behind (codes "script ") line >>= λ rest. placed_at (codes " ") rest

-- a script's number, and how many lines follow, without the end of the line
abbrev pub script_text : ℕ → ℕ → List ℕ
script_text number lines = codes "script " ++ (decimal number ++ (codes " " ++ decimal lines))
