-- Variables of any names are read with their values as they are written.
use Rattle.std.proofs.Common.{◌≡◌, ℕ, ◌<◌, eqb, List, [], ◌∷◌, ◌++◌, length, map, Ok, Result, refl, ap, sym, ◌∙◌, subst}
use Rattle.std.proofs.Common.{arith, append_assoc, length-append}
use Rattle.std.specs.Prelude.{codes, slice_index}
use Rattle.std.specs.Char.{is_ascii_digit}
use Rattle.std.specs.List.{AllByRecursion, flat_map}
use Rattle.std.specs.Fmt.{decimal}
use Rattle.std.proofs.lemmas.List.{append-nil}
use Rattle.ent_value.specs.Refusal.{◌>>=◌}
use Rattle.ent_value.specs.Print.{value_text}
use Rattle.ent_value.specs.declared.value.Value.{Value}
use Rattle.ent_semantics.specs.Database.{Name}
use Rattle.ent_book.specs.Report2.{bindings_text}
use Rattle.ent_history.specs.Parts.{IsName, IsNumber}
use Rattle.ent_text.specs.declared.line_fault.LineFault.{LineFault}
use Rattle.ent_text.specs.Pieces.{behind, number_at, value_at, wanted}
use Rattle.ent_text.specs.Lexing.{Stops}
use Rattle.ent_text.specs.Written.{IsOver, IsValue}
use Rattle.ent_text.proofs.Numbers.{chosen, read_of, is_first, is_rest, number_found, number_again}
use Rattle.ent_text.proofs.Values.{bind_ok, value_found, value_again}
use Rattle.ent_text.proofs.Rows.{behind_found, behind_again}
use Rattle.ent_history.specs.Bindings.{member_line}
use Rattle.ent_history.proofs.Steps.{bind_with, same_ok, no_bytes}
use Rattle.ent_history.specs.Listing.{listed_at}
use Rattle.ent_history.specs.Names.{name_at}
use Rattle.ent_history.proofs.Listing.{listed_found, listed_again, shorter_than_text}
use Rattle.ent_history.proofs.Names.{name_found, name_again}
use Rattle.ent_report_reader.specs.declared.bindings.Bound.{Bound}
use Rattle.ent_report_reader.specs.Bindings.{all_bound_at, any_member_at, bound_at, bound_of, values_of, variables_of}

-- ---- one

abbrev pub bound_text : Bound → List ℕ
bound_text bound = codes " " ++ (bound.variable ++ (codes "=" ++ value_text bound.value))

abbrev pub IsBound : Bound → Type 0
IsBound bound = IsName bound.variable × IsValue bound.value

regrouped : (variable : Name) (value : Value) (rest : List ℕ)
    → (codes " " ++ (variable ++ (codes "=" ++ value_text value))) ++ rest
    ≡ codes " " ++ (variable ++ (codes "=" ++ (value_text value ++ rest)))
regrouped variable value rest =
    ap (λ r. codes " " ++ r) (append_assoc variable (codes "=" ++ value_text value) rest)

pub bound_found : (bytes rest : List ℕ) (bound : Bound) → bound_at bytes ≡ Ok (bound, rest)
    → (bytes ≡ bound_text bound ++ rest) × IsBound bound
unfolding bound_at
bound_found bytes rest bound h =
    let space = bind_ok (behind (codes " ") bytes)
    (λ rest. name_at rest >>= λ name. behind (codes "=") name.1 >>= λ rest. value_at rest >>= λ value.
    read_of (bound_of name.0 value.0) value.1) (bound, rest) h in
    let name = bind_ok (name_at space.0)
    (λ name. behind (codes "=") name.1 >>= λ rest. value_at rest >>= λ value.
    read_of (bound_of name.0 value.0) value.1) (bound, rest) space.2 in
    let n = name.0.0 in
    let equal = bind_ok (behind (codes "=") name.0.1)
    (λ rest. value_at rest >>= λ value. read_of (bound_of n value.0) value.1) (bound, rest) name.2 in
    let value = bind_ok (value_at equal.0) (λ value. read_of (bound_of n value.0) value.1) (bound, rest) equal.2 in
    let v = value.0.0 in
    let same : bound_of n v ≡ bound = is_first (bound_of n v) bound value.0.1 rest value.2 in
    let end : value.0.1 ≡ rest = is_rest (bound_of n v) bound value.0.1 rest value.2 in
    let named = name_found space.0 name.0.1 n name.1 in
    let valued = value_found equal.0 value.0.1 v value.1 in
    subst (λ one. (bytes ≡ bound_text one ++ rest) × IsBound one) same (
      behind_found (codes " ") bytes space.0 space.1
          ∙ ap (λ r. codes " " ++ r)
          (named.0
          ∙ ap (λ r. n ++ r)
          (behind_found (codes "=") name.0.1 equal.0 equal.1
          ∙ ap (λ r. codes "=" ++ r) (valued.0 ∙ ap (λ r. value_text v ++ r) end)))
          ∙ sym (regrouped n v rest),
      (named.1, valued.1),
    )

pub bound_shorter : (bytes rest : List ℕ) (bound : Bound) → bound_at bytes ≡ Ok (bound, rest)
    → length rest < length bytes
bound_shorter bytes rest bound h =
    omega (arith, ap length (bound_found bytes rest bound h).0, length-append (bound_text bound) rest)

bound_again : (bound : Bound) (rest : List ℕ) → IsBound bound → IsOver rest
    → bound_at (bound_text bound ++ rest) ≡ Ok (bound, rest)
unfolding bound_at
bound_again bound rest is over =
    let value = value_text bound.value ++ rest in
    let equal = codes "=" ++ value in
    ap bound_at (regrouped bound.variable bound.value rest)
    ∙ bind_with (behind (codes " ") (codes " " ++ (bound.variable ++ equal))) (bound.variable ++ equal)
    (λ rest. name_at rest >>= λ name. behind (codes "=") name.1 >>= λ rest. value_at rest >>= λ value.
    read_of (bound_of name.0 value.0) value.1)
    (behind_again (codes " ") (bound.variable ++ equal))
    ∙ bind_with (name_at (bound.variable ++ equal)) (bound.variable, equal)
    (λ name. behind (codes "=") name.1 >>= λ rest. value_at rest >>= λ value.
    read_of (bound_of name.0 value.0) value.1)
    (name_again bound.variable equal is.0 refl)
    ∙ bind_with (behind (codes "=") equal) value
    (λ rest. value_at rest >>= λ value. read_of (bound_of bound.variable value.0) value.1)
    (behind_again (codes "=") value)
    ∙ bind_with (value_at value) (bound.value, rest) (λ value. read_of (bound_of bound.variable value.0) value.1)
    (value_again bound.value rest is.1 over)

-- ---- all of them

abbrev pub all_text : List Bound → List ℕ
all_text all = flat_map bound_text all

pub bindings_are : (all : List Bound) → bindings_text (variables_of all) (values_of all) ≡ all_text all
bindings_are [] = refl
bindings_are (bound ∷ all) = ap (λ r. bound_text bound ++ r) (bindings_are all)

no_space : slice_index [] 0 ≡ 32 → ⊥
no_space e = absurd (omega (arith, e))

all_again : (all : List Bound) → AllByRecursion IsBound all → all_bound_at (all_text all) ≡ Ok (all, [])
unfolding all_bound_at
all_again all are =
    ap (λ (r : List ℕ). listed_at 32 bound_at (length (all_text all)) r) (sym (append-nil (all_text all)))
    ∙ listed_again 32 bound_at bound_text IsBound IsOver bound_again (λ x rest. refl) (λ x rest. refl)
    (length (all_text all)) all [] are (shorter_than_text bound_text (λ x. omega arith) all) tt no_space

no_digit : (all : List Bound) → Stops is_ascii_digit (all_text all)
no_digit [] = tt
no_digit (bound ∷ all) = refl

-- ---- the line

abbrev whole_line : ℕ → ℕ → List Bound × List ℕ → Result (ℕ × ℕ × List Bound) LineFault
whole_line tx place found = wanted (eqb (length found.1) 0) (tx, place, found.0)

-- a line that says this
abbrev pub AnyMemberIs : List ℕ → ℕ → ℕ → List Bound → Type 0
AnyMemberIs line tx place all =
    (line ≡ member_line tx place (variables_of all) (values_of all)) × IsNumber tx × IsNumber place
    × AllByRecursion IsBound all

pub any_member_found : (line : List ℕ) (tx place : ℕ) (all : List Bound) → any_member_at line ≡ Ok (tx, place, all)
    → AnyMemberIs line tx place all
unfolding any_member_at all_bound_at
any_member_found line tx place all h =
    let first = bind_ok (number_at line)
    (λ tx. behind (codes ".") tx.1 >>= λ rest. number_at rest >>= λ place. all_bound_at place.1 >>= λ found.
    whole_line tx.0 place.0 found) (tx, place, all) h in
    let n = first.0.0 in
    let dot = bind_ok (behind (codes ".") first.0.1)
    (λ rest. number_at rest >>= λ place. all_bound_at place.1 >>= λ found. whole_line n place.0 found)
    (tx, place, all) first.2 in
    let second = bind_ok (number_at dot.0) (λ place. all_bound_at place.1 >>= λ found. whole_line n place.0 found)
    (tx, place, all) dot.2 in
    let m = second.0.0 in
    let found = bind_ok (all_bound_at second.0.1) (λ found. whole_line n m found) (tx, place, all) second.2 in
    let those = found.0.0 in
    let test = chosen (eqb (length found.0.1) 0) _ _ _ found.2 in
    let same = same_ok (n, m, those) (tx, place, all) test.1 in
    let one = number_found 9223372036854775807 line first.0.1 n (omega arith) first.1 in
    let two = number_found 9223372036854775807 dot.0 second.0.1 m (omega arith) second.1 in
    let listed = listed_found 32 bound_at bound_text IsBound bound_found (length second.0.1) second.0.1 found.0.1 those
    found.1 in
    subst (λ (told : ℕ × ℕ × List Bound). AnyMemberIs line told.0 told.1 told.2) same (
      one.0
          ∙ ap (λ r. decimal n ++ r)
          (behind_found (codes ".") first.0.1 dot.0 dot.1
          ∙ ap (λ r. codes "." ++ r)
          (two.0
          ∙ ap (λ r. decimal m ++ r)
          (listed.text_is ∙ ap (λ r. all_text those ++ r) (no_bytes found.0.1 test.0) ∙ append-nil (all_text those)
          ∙ sym (bindings_are those))))
          ∙ sym (append_assoc (decimal n) (codes "." ++ decimal m)
          (bindings_text (variables_of those) (values_of those))),
      one.1,
      two.1,
      listed.are,
    )

pub any_member_again : (tx place : ℕ) (all : List Bound) → IsNumber tx → IsNumber place → AllByRecursion IsBound all
    → any_member_at (member_line tx place (variables_of all) (values_of all)) ≡ Ok (tx, place, all)
unfolding any_member_at
any_member_again tx place all small little are =
    let rest = all_text all in
    ap (λ r. any_member_at ((decimal tx ++ (codes "." ++ decimal place)) ++ r)) (bindings_are all)
    ∙ ap any_member_at (append_assoc (decimal tx) (codes "." ++ decimal place) rest)
    ∙ bind_with (number_at (decimal tx ++ (codes "." ++ (decimal place ++ rest))))
    (tx, codes "." ++ (decimal place ++ rest))
    (λ tx. behind (codes ".") tx.1 >>= λ rest. number_at rest >>= λ place. all_bound_at place.1 >>= λ found.
    whole_line tx.0 place.0 found)
    (number_again 9223372036854775807 tx (codes "." ++ (decimal place ++ rest)) (omega arith) small refl)
    ∙ bind_with (behind (codes ".") (codes "." ++ (decimal place ++ rest))) (decimal place ++ rest)
    (λ rest. number_at rest >>= λ place. all_bound_at place.1 >>= λ found. whole_line tx place.0 found)
    (behind_again (codes ".") (decimal place ++ rest))
    ∙ bind_with (number_at (decimal place ++ rest)) (place, rest)
    (λ place. all_bound_at place.1 >>= λ found. whole_line tx place.0 found)
    (number_again 9223372036854775807 place rest (omega arith) little (no_digit all))
    ∙ bind_with (all_bound_at rest) (all, []) (λ found. whole_line tx place found) (all_again all are)
