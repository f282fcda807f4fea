-- Lines that say how many are read as they are written.
use Rattle.std.proofs.Common.{◌≡◌, ℕ, ◌≤◌, Bool, true, false, eqb, List, [], ◌∷◌, ◌++◌, length, Ok, Err, Result, refl}
use Rattle.std.proofs.Common.{ap, sym, ◌∙◌, subst, arith, cond}
use Rattle.std.specs.Prelude.{codes}
use Rattle.std.specs.Char.{is_ascii_digit}
use Rattle.std.specs.Fmt.{decimal}
use Rattle.std.proofs.lemmas.List.{append-nil}
use Rattle.ent_value.specs.Print.{value_text}
use Rattle.ent_value.specs.Refusal.{◌>>=◌}
use Rattle.ent_value.specs.declared.value.Value.{Value}
use Rattle.ent_semantics.specs.Database.{Name}
use Rattle.ent_history.specs.Parts.{IsNumber}
use Rattle.ent_text.specs.declared.line_fault.LineFault.{LineFault}
use Rattle.ent_text.specs.declared.line_fault.LineFault.TheVariants.{Misfit}
use Rattle.ent_text.specs.Pieces.{behind, number_at, value_at}
use Rattle.ent_text.specs.Lexing.{Stops}
use Rattle.ent_text.specs.Written.{IsOver, IsValue}
use Rattle.ent_text.proofs.Numbers.{chosen}
use Rattle.ent_text.proofs.Values.{bind_ok}
use Rattle.ent_history.specs.Counts.{counted_at, table_at, placed_at, set_at, table_line, placed_line, set_line}
use Rattle.ent_history.proofs.Steps.{Parts, bind_with, ok, same_ok, no_bytes}

abbrev ended : {A : Type 0} → A × List ℕ → Result A LineFault
ended found = cond (eqb (length found.1) 0) (Ok found.0) (Err Misfit)

module _ (parts : Parts)
    (value_found : (bytes rest : List ℕ) (value : Value) → value_at bytes ≡ Ok (value, rest)
    → (bytes ≡ value_text value ++ rest) × IsValue value)
    (value_again : (value : Value) (rest : List ℕ) → IsValue value → IsOver rest
    → value_at (value_text value ++ rest) ≡ Ok (value, rest)) where
  counted_found : (word bytes : List ℕ) (count : ℕ) → counted_at word bytes ≡ Ok count
      → (bytes ≡ word ++ decimal count) × IsNumber count
  unfolding counted_at
  counted_found word bytes count h =
      let rest = bind_ok (behind word bytes) (λ rest. number_at rest >>= ended) count h in
      let found = bind_ok (number_at rest.0) ended count rest.2 in
      let n = found.0.0 in
      let end = chosen (eqb (length found.0.1) 0) _ _ _ found.2 in
      let same : n ≡ count = same_ok n count end.1 in
      let is = parts.number_found 9223372036854775807 rest.0 found.0.1 n (omega arith) found.1 in (
        parts.behind_found word bytes rest.0 rest.1
            ∙ ap (λ r. word ++ r)
            (is.0 ∙ ap (λ r. decimal n ++ r) (no_bytes found.0.1 end.0) ∙ append-nil (decimal n) ∙ ap decimal same),
        subst IsNumber same is.1,
      )

  number_ends : (count : ℕ) → IsNumber count → number_at (decimal count) ≡ Ok (count, [])
  number_ends count small =
      ap number_at (sym (append-nil (decimal count)))
      ∙ parts.number_again 9223372036854775807 count [] (omega arith) small tt

  counted_again : (word : List ℕ) (count : ℕ) → IsNumber count → counted_at word (word ++ decimal count) ≡ Ok count
  unfolding counted_at
  counted_again word count small =
      bind_with (behind word (word ++ decimal count)) (decimal count) (λ rest. number_at rest >>= ended)
      (parts.behind_again word (decimal count))
      ∙ bind_with (number_at (decimal count)) (count, []) ended (number_ends count small)

  pub table_found : (name : Name) (line : List ℕ) (count : ℕ) → table_at name line ≡ Ok count
      → (line ≡ table_line name count) × IsNumber count
  unfolding table_at
  table_found name line count h =
      let rest = bind_ok (behind (codes "table ") line)
      (λ rest. behind name rest >>= λ rest. counted_at (codes " ") rest) count h in
      let named = bind_ok (behind name rest.0) (λ rest. counted_at (codes " ") rest) count rest.2 in
      let is = counted_found (codes " ") named.0 count named.2 in (
        parts.behind_found (codes "table ") line rest.0 rest.1
            ∙ ap (λ r. codes "table " ++ r) (parts.behind_found name rest.0 named.0 named.1 ∙ ap (λ r. name ++ r) is.0),
        is.1,
      )

  pub table_again : (name : Name) (count : ℕ) → IsNumber count → table_at name (table_line name count) ≡ Ok count
  unfolding table_at
  table_again name count small =
      let counted = codes " " ++ decimal count in
      bind_with (behind (codes "table ") (table_line name count)) (name ++ counted)
      (λ rest. behind name rest >>= λ rest. counted_at (codes " ") rest)
      (parts.behind_again (codes "table ") (name ++ counted))
      ∙ bind_with (behind name (name ++ counted)) counted (λ rest. counted_at (codes " ") rest)
      (parts.behind_again name counted)
      ∙ counted_again (codes " ") count small

  pub placed_found : (word line : List ℕ) (place count : ℕ) → placed_at word line ≡ Ok (place, count)
      → (line ≡ placed_line word place count) × IsNumber place × IsNumber count
  unfolding placed_at
  placed_found word line place count h =
      let first = bind_ok (number_at line) (λ place. counted_at word place.1 >>= λ count. ok (place.0, count))
      (place, count) h in
      let n = first.0.0 in
      let second = bind_ok (counted_at word first.0.1) (λ count. ok (n, count)) (place, count) first.2 in
      let same = same_ok (n, second.0) (place, count) second.2 in
      let one = parts.number_found 9223372036854775807 line first.0.1 n (omega arith) first.1 in
      let two = counted_found word first.0.1 second.0 second.1 in
      subst (λ told. (line ≡ placed_line word told.0 told.1) × IsNumber told.0 × IsNumber told.1) same
      (one.0 ∙ ap (λ r. decimal n ++ r) two.0, one.1, two.1)

  pub placed_again : (word : List ℕ) (place count : ℕ) → Stops is_ascii_digit (word ++ decimal count)
      → IsNumber place → IsNumber count → placed_at word (placed_line word place count) ≡ Ok (place, count)
  unfolding placed_at
  placed_again word place count stop small little =
      bind_with (number_at (placed_line word place count)) (place, word ++ decimal count)
      (λ place. counted_at word place.1 >>= λ count. ok (place.0, count))
      (parts.number_again 9223372036854775807 place (word ++ decimal count) (omega arith) small stop)
      ∙ bind_with (counted_at word (word ++ decimal count)) count (λ count. ok (place, count))
      (counted_again word count little)

  pub set_found : (line : List ℕ) (place : ℕ) (value : Value) → set_at line ≡ Ok (place, value)
      → (line ≡ set_line place value) × IsNumber place × IsValue value
  unfolding set_at
  set_found line place value h =
      let first = bind_ok (number_at line)
      (λ place. behind (codes " set ") place.1 >>= λ rest. value_at rest >>= λ found.
      cond (eqb (length found.1) 0) (ok (place.0, found.0)) (Err Misfit))
      (place, value) h in
      let n = first.0.0 in
      let word = bind_ok (behind (codes " set ") first.0.1)
      (λ rest. value_at rest >>= λ found. cond (eqb (length found.1) 0) (ok (n, found.0)) (Err Misfit))
      (place, value) first.2 in
      let found = bind_ok (value_at word.0) (λ found. cond (eqb (length found.1) 0) (ok (n, found.0)) (Err Misfit))
      (place, value) word.2 in
      let end = chosen (eqb (length found.0.1) 0) _ _ _ found.2 in
      let same = same_ok (n, found.0.0) (place, value) end.1 in
      let one = parts.number_found 9223372036854775807 line first.0.1 n (omega arith) first.1 in
      let is = value_found word.0 found.0.1 found.0.0 found.1 in
      subst (λ told. (line ≡ set_line told.0 told.1) × IsNumber told.0 × IsValue told.1) same (
        one.0
            ∙ ap (λ r. decimal n ++ r)
            (parts.behind_found (codes " set ") first.0.1 word.0 word.1
            ∙ ap (λ r. codes " set " ++ r)
            (is.0 ∙ ap (λ r. value_text found.0.0 ++ r) (no_bytes found.0.1 end.0)
            ∙ append-nil (value_text found.0.0))),
        one.1,
        is.1,
      )

  value_ends : (value : Value) → IsValue value → value_at (value_text value) ≡ Ok (value, [])
  value_ends value is = ap value_at (sym (append-nil (value_text value))) ∙ value_again value [] is tt

  pub set_again : (place : ℕ) (value : Value) → IsNumber place → IsValue value
      → set_at (set_line place value) ≡ Ok (place, value)
  unfolding set_at
  set_again place value small is =
      bind_with (number_at (set_line place value)) (place, codes " set " ++ value_text value)
      (λ place. behind (codes " set ") place.1 >>= λ rest. value_at rest >>= λ found.
      cond (eqb (length found.1) 0) (ok (place.0, found.0)) (Err Misfit))
      (parts.number_again 9223372036854775807 place (codes " set " ++ value_text value) (omega arith) small refl)
      ∙ bind_with (behind (codes " set ") (codes " set " ++ value_text value)) (value_text value)
      (λ rest. value_at rest >>= λ found. cond (eqb (length found.1) 0) (ok (place, found.0)) (Err Misfit))
      (parts.behind_again (codes " set ") (value_text value))
      ∙ bind_with (value_at (value_text value)) (value, [])
      (λ found. cond (eqb (length found.1) 0) (ok (place, found.0)) (Err Misfit)) (value_ends value is)
