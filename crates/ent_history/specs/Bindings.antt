-- How the line of a member of a joint answer is read, and which lines there are.
use Rattle.std.specs.Prelude.{◌==◌, ℕ, List, [], ◌∷◌, ◌++◌, length, Result, Ok, Err, codes, if◌then◌else◌}
use Rattle.std.specs.Fmt.{decimal}
use Rattle.ent_value.specs.Refusal.{◌>>=◌}
use Rattle.ent_value.specs.declared.value.Value.{Value}
use Rattle.ent_semantics.specs.Database.{Name}
use Rattle.ent_book.specs.Report2.{bindings_text}
use Rattle.ent_text.specs.declared.line_fault.LineFault.{LineFault}
use Rattle.ent_text.specs.declared.line_fault.LineFault.TheVariants.{Misfit}
use Rattle.ent_text.specs.Pieces.{Read, behind, number_at, value_at}

-- the value of this variable
unfoldable pub binding_at : Name → List ℕ → Read Value
binding_at name bytes =
    behind (codes " ") bytes >>= λ rest. behind name rest >>= λ rest. behind (codes "=") rest >>= λ rest. value_at rest

abbrev pub with_first : Value → Result (List Value) LineFault → Result (List Value) LineFault
with_first value read = read >>= λ more. Ok (value ∷ more)

-- the values of just these variables, up to the end
unfoldable pub bindings_at : List Name → List ℕ → Result (List Value) LineFault
bindings_at [] bytes = if length bytes == 0 then Ok [] else Err Misfit
bindings_at (name ∷ names) bytes =
    binding_at name bytes >>= λ found. with_first found.0 (bindings_at names found.1)

unfoldable pub member_at : List Name → List ℕ → Result (ℕ × ℕ × List Value) LineFault
member_at names line =
    number_at line >>= λ tx. behind (codes ".") tx.1 >>= λ rest. number_at rest >>= λ place.
    bindings_at names place.1 >>= λ values. Ok (tx.0, place.0, values)

-- a member's place and the values of its variables, without the end of the line
abbrev pub member_line : ℕ → ℕ → List Name → List Value → List ℕ
member_line tx place names values =
    (decimal tx ++ (codes "." ++ decimal place)) ++ bindings_text names values
