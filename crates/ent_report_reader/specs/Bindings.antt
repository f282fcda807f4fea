-- How variables of any names are read with their values, and which lines there are.
use Rattle.std.specs.Prelude.{◌≡◌, ◌==◌, ℕ, List, length, map, Result, Ok, codes}
use Rattle.std.specs.List.{AllByRecursion}
use Rattle.ent_value.specs.Refusal.{◌>>=◌}
use Rattle.ent_value.specs.declared.value.Value.{Value}
use Rattle.ent_semantics.specs.Database.{Name}
use Rattle.ent_text.specs.declared.line_fault.LineFault.{LineFault}
use Rattle.ent_text.specs.Pieces.{Read, behind, number_at, value_at, wanted}
use Rattle.ent_history.specs.Bindings.{member_line}
use Rattle.ent_history.specs.Listing.{listed_at}
use Rattle.ent_history.specs.Names.{name_at}
use Rattle.ent_history.specs.Parts.{IsName, IsNumber, IsValue}
use Rattle.ent_report_reader.specs.declared.bindings.Bound.{Bound}

abbrev pub bound_of : Name → Value → Bound
bound_of variable value = record { variable = variable; value = value }

-- a variable and its value, behind a space
unfoldable pub bound_at : List ℕ → Read Bound
bound_at bytes =
    behind (codes " ") bytes >>= λ rest. name_at rest >>= λ name. behind (codes "=") name.1 >>= λ rest.
    value_at rest >>= λ value. Ok (bound_of name.0 value.0, value.1)

-- all of them in front
unfoldable pub all_bound_at : List ℕ → Read (List Bound)
all_bound_at bytes = listed_at 32 bound_at (length bytes) bytes

-- a transaction and a place, and variables with their values up to the end
unfoldable pub any_member_at : List ℕ → Result (ℕ × ℕ × List Bound) LineFault
any_member_at line =
    number_at line >>= λ tx. behind (codes ".") tx.1 >>= λ rest. number_at rest >>= λ place.
    all_bound_at place.1 >>= λ found. wanted (length found.1 == 0) (tx.0, place.0, found.0)

abbrev pub variables_of : List Bound → List Name
variables_of all = map (λ bound. bound.variable) all

abbrev pub values_of : List Bound → List Value
values_of all = map (λ bound. bound.value) all

-- a member's place, and the values of just these variables
abbrev pub IsKnownMember : List Name → List ℕ → ℕ × ℕ × List Value → Type 0
IsKnownMember names text x =
    (text ≡ member_line x.0 x.1 names x.2) × IsNumber x.0 × IsNumber x.1 × AllByRecursion IsValue x.2
    × (length names ≡ length x.2)

-- a member's place, and variables of any names with their values
abbrev pub IsAnyMember : List ℕ → ℕ × ℕ × List Bound → Type 0
IsAnyMember text x =
    (text ≡ member_line x.0 x.1 (variables_of x.2) (values_of x.2)) × IsNumber x.0 × IsNumber x.1
    × AllByRecursion (λ bound. IsName bound.variable × IsValue bound.value) x.2
