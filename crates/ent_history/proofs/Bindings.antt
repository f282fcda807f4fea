-- The line of a member of a joint answer is read as it is written.
use Rattle.std.proofs.Common.{◌≡◌, ℕ, eqb, List, [], ◌∷◌, ◌++◌, length, Ok, Err, Result, refl, ap, sym, ◌∙◌, subst}
use Rattle.std.proofs.Common.{arith, append_assoc}
use Rattle.std.specs.Prelude.{codes}
use Rattle.std.specs.List.{AllByRecursion}
use Rattle.std.specs.Char.{is_ascii_digit}
use Rattle.std.specs.Fmt.{decimal}
use Rattle.ent_value.specs.Refusal.{◌>>=◌}
use Rattle.ent_value.specs.Print.{value_text}
use Rattle.ent_value.specs.declared.value.Value.{Value}
use Rattle.ent_semantics.specs.Database.{Name}
use Rattle.ent_book.specs.Report2.{bindings_text}
use Rattle.ent_history.specs.Parts.{IsNumber}
use Rattle.ent_text.specs.declared.line_fault.LineFault.{LineFault}
use Rattle.ent_text.specs.Pieces.{behind, number_at, value_at}
use Rattle.ent_text.specs.Lexing.{Stops}
use Rattle.ent_text.specs.Written.{IsOver, IsValue}
use Rattle.ent_text.proofs.Numbers.{chosen}
use Rattle.ent_text.proofs.Values.{bind_ok}
use Rattle.ent_history.specs.Bindings.{binding_at, with_first, bindings_at, member_at, member_line}
use Rattle.ent_history.proofs.Steps.{Parts, bind_with, ok, same_ok, no_bytes}

-- ---- one behind the other

abbrev pub with_values : List Value → Result (List Value) LineFault → Result (List Value) LineFault
with_values values read = read >>= λ more. Ok (values ++ more)

with_values_more : (values : List Value) (value : Value) (read : Result (List Value) LineFault)
    → with_values values (with_first value read) ≡ with_values (values ++ value ∷ []) read
with_values_more values value (Ok more) = ap ok (sym (append_assoc values (value ∷ []) more))
with_values_more values value (Err fault) = refl

bindings_step : (name : Name) (names : List Name) (bytes : List ℕ)
    → bindings_at (name ∷ names)
    bytes ≡ (binding_at name bytes >>= λ found. with_first found.0 (bindings_at names found.1))
unfolding bindings_at
bindings_step name names bytes = refl

pub at_value : (name : Name) (names : List Name) (bytes next : List ℕ) (values : List Value) (value : Value)
    → (whole : Result (List Value) LineFault) → binding_at name bytes ≡ Ok (value, next)
    → with_values values (bindings_at (name ∷ names) bytes) ≡ whole
    → with_values (values ++ value ∷ []) (bindings_at names next) ≡ whole
at_value name names bytes next values value whole h is =
    sym (with_values_more values value (bindings_at names next))
    ∙ ap (with_values values)
    (sym (bind_with (binding_at name bytes) (value, next) (λ found. with_first found.0 (bindings_at names found.1)) h)
    ∙ sym (bindings_step name names bytes))
    ∙ is

pub at_fault : (name : Name) (names : List Name) (bytes : List ℕ) (values : List Value) (fault : LineFault)
    → (whole : Result (List Value) LineFault) → binding_at name bytes ≡ Err fault
    → with_values values (bindings_at (name ∷ names) bytes) ≡ whole → whole ≡ Err fault
at_fault name names bytes values fault whole h is =
    sym is ∙ ap (with_values values) (bindings_step name names bytes
    ∙ ap (λ r. r >>= λ found. with_first found.0 (bindings_at names found.1)) h)

module _ (parts : Parts)
    (value_found : (bytes rest : List ℕ) (value : Value) → value_at bytes ≡ Ok (value, rest)
    → (bytes ≡ value_text value ++ rest) × IsValue value)
    (value_again : (value : Value) (rest : List ℕ) → IsValue value → IsOver rest
    → value_at (value_text value ++ rest) ≡ Ok (value, rest)) where
  binding_found : (name : Name) (bytes rest : List ℕ) (value : Value) → binding_at name bytes ≡ Ok (value, rest)
      → (bytes ≡ codes " " ++ (name ++ (codes "=" ++ (value_text value ++ rest)))) × IsValue value
  unfolding binding_at
  binding_found name bytes rest value h =
      let space = bind_ok (behind (codes " ") bytes)
      (λ rest. behind name rest >>= λ rest. behind (codes "=") rest >>= λ rest. value_at rest) (value, rest) h in
      let named = bind_ok (behind name space.0) (λ rest. behind (codes "=") rest >>= λ rest. value_at rest)
      (value, rest) space.2 in
      let equal = bind_ok (behind (codes "=") named.0) (λ rest. value_at rest) (value, rest) named.2 in
      let is = value_found equal.0 rest value equal.2 in (
        parts.behind_found (codes " ") bytes space.0 space.1
            ∙ ap (λ r. codes " " ++ r)
            (parts.behind_found name space.0 named.0 named.1
            ∙ ap (λ r. name ++ r)
            (parts.behind_found (codes "=") named.0 equal.0 equal.1 ∙ ap (λ r. codes "=" ++ r) is.0)),
        is.1,
      )

  -- these variables have these values there
  pub record BindingsStand (names : List Name) (bytes : List ℕ) (values : List Value) : Type 0 where
    pub text : bytes ≡ bindings_text names values
    pub are_values : AllByRecursion IsValue values
    pub paired : length names ≡ length values

  regrouped : (name : Name) (value : Value) (more : List ℕ)
      → (codes " " ++ (name ++ (codes "=" ++ value_text value))) ++ more
      ≡ codes " " ++ (name ++ (codes "=" ++ (value_text value ++ more)))
  regrouped name value more = ap (λ r. codes " " ++ r) (append_assoc name (codes "=" ++ value_text value) more)

  bindings_found : (names : List Name) (bytes : List ℕ) (values : List Value) → bindings_at names bytes ≡ Ok values
      → BindingsStand names bytes values
  unfolding bindings_at
  bindings_found [] bytes values h =
      let end = chosen (eqb (length bytes) 0) _ _ _ h in
      subst (BindingsStand [] bytes) (same_ok [] values end.1)
      (record { text = no_bytes bytes end.0; are_values = tt; paired = refl })
  bindings_found (name ∷ names) bytes values h =
      let first = bind_ok (binding_at name bytes) (λ found. with_first found.0 (bindings_at names found.1)) values h in
      let value = first.0.0 in
      let more = bind_ok (bindings_at names first.0.1) (λ more. ok (value ∷ more)) values first.2 in
      let is = binding_found name bytes first.0.1 value first.1 in
      let others = bindings_found names first.0.1 more.0 more.1 in
      subst (BindingsStand (name ∷ names) bytes) (same_ok (value ∷ more.0) values more.2)
      (record {
        text = is.0 ∙ ap (λ r. codes " " ++ (name ++ (codes "=" ++ (value_text value ++ r)))) others.text
            ∙ sym (regrouped name value (bindings_text names more.0));
        are_values = (is.1, others.are_values);
        paired = omega (arith, others.paired);
      })

  over_bindings : (names : List Name) (values : List Value) → IsOver (bindings_text names values)
  over_bindings [] values = tt
  over_bindings (name ∷ names) [] = tt
  over_bindings (name ∷ names) (value ∷ values) = refl

  no_digit : (names : List Name) (values : List Value) → Stops is_ascii_digit (bindings_text names values)
  no_digit [] values = tt
  no_digit (name ∷ names) [] = tt
  no_digit (name ∷ names) (value ∷ values) = refl

  binding_again : (name : Name) (value : Value) (rest : List ℕ) → IsValue value → IsOver rest
      → binding_at name (codes " " ++ (name ++ (codes "=" ++ (value_text value ++ rest)))) ≡ Ok (value, rest)
  unfolding binding_at
  binding_again name value rest is over =
      let equal = codes "=" ++ (value_text value ++ rest) in
      bind_with (behind (codes " ") (codes " " ++ (name ++ equal))) (name ++ equal)
      (λ rest. behind name rest >>= λ rest. behind (codes "=") rest >>= λ rest. value_at rest)
      (parts.behind_again (codes " ") (name ++ equal))
      ∙ bind_with (behind name (name ++ equal)) equal (λ rest. behind (codes "=") rest >>= λ rest. value_at rest)
      (parts.behind_again name equal)
      ∙ bind_with (behind (codes "=") equal) (value_text value ++ rest) (λ rest. value_at rest)
      (parts.behind_again (codes "=") (value_text value ++ rest))
      ∙ value_again value rest is over

  bindings_again : (names : List Name) (values : List Value) → length names ≡ length values
      → AllByRecursion IsValue values → bindings_at names (bindings_text names values) ≡ Ok values
  unfolding bindings_at
  bindings_again [] [] paired are = refl
  bindings_again [] (value ∷ values) paired are = absurd (omega (arith, paired))
  bindings_again (name ∷ names) [] paired are = absurd (omega (arith, paired))
  bindings_again (name ∷ names) (value ∷ values) paired are =
      let rest = bindings_text names values in
      ap (bindings_at (name ∷ names)) (regrouped name value rest)
      ∙ bind_with (binding_at name (codes " " ++ (name ++ (codes "=" ++ (value_text value ++ rest))))) (value, rest)
      (λ found. with_first found.0 (bindings_at names found.1))
      (binding_again name value rest are.0 (over_bindings names values))
      ∙ ap (with_first value) (bindings_again names values (omega (arith, paired)) are.1)

  pub member_found : (names : List Name) (line : List ℕ) (tx place : ℕ) (values : List Value)
      → member_at names line ≡ Ok (tx, place, values)
      → (line ≡ member_line tx place names values) × IsNumber tx × IsNumber place × AllByRecursion IsValue values
      × (length names ≡ length values)
  unfolding member_at
  member_found names line tx place values h =
      let first = bind_ok (number_at line)
      (λ tx. behind (codes ".") tx.1 >>= λ rest. number_at rest >>= λ place. bindings_at names place.1 >>= λ values.
      ok (tx.0, place.0, values)) (tx, place, values) h in
      let n = first.0.0 in
      let dot = bind_ok (behind (codes ".") first.0.1)
      (λ rest. number_at rest >>= λ place. bindings_at names place.1 >>= λ values. ok (n, place.0, values))
      (tx, place, values) first.2 in
      let second = bind_ok (number_at dot.0)
      (λ place. bindings_at names place.1 >>= λ values. ok (n, place.0, values)) (tx, place, values) dot.2 in
      let m = second.0.0 in
      let bound = bind_ok (bindings_at names second.0.1) (λ values. ok (n, m, values)) (tx, place, values) second.2 in
      let same = same_ok (n, m, bound.0) (tx, place, values) bound.2 in
      let one = parts.number_found 9223372036854775807 line first.0.1 n (omega arith) first.1 in
      let two = parts.number_found 9223372036854775807 dot.0 second.0.1 m (omega arith) second.1 in
      let stand = bindings_found names second.0.1 bound.0 bound.1 in
      subst
      (λ told. (line ≡ member_line told.0 told.1 names told.2) × IsNumber told.0 × IsNumber told.1
      × AllByRecursion IsValue told.2 × (length names ≡ length told.2))
      same (
        one.0
            ∙ ap (λ r. decimal n ++ r)
            (parts.behind_found (codes ".") first.0.1 dot.0 dot.1
            ∙ ap (λ r. codes "." ++ r) (two.0 ∙ ap (λ r. decimal m ++ r) stand.text))
            ∙ sym (append_assoc (decimal n) (codes "." ++ decimal m) (bindings_text names bound.0)),
        one.1,
        two.1,
        stand.are_values,
        stand.paired,
      )

  pub member_again : (tx place : ℕ) (names : List Name) (values : List Value) → IsNumber tx → IsNumber place
      → AllByRecursion IsValue values → length names ≡ length values
      → member_at names (member_line tx place names values) ≡ Ok (tx, place, values)
  unfolding member_at
  member_again tx place names values small little are paired =
      let rest = bindings_text names values in
      ap (member_at names) (append_assoc (decimal tx) (codes "." ++ decimal place) rest)
      ∙ bind_with (number_at (decimal tx ++ (codes "." ++ (decimal place ++ rest))))
      (tx, codes "." ++ (decimal place ++ rest))
      (λ tx. behind (codes ".") tx.1 >>= λ rest. number_at rest >>= λ place. bindings_at names place.1 >>= λ values.
      ok (tx.0, place.0, values))
      (parts.number_again 9223372036854775807 tx (codes "." ++ (decimal place ++ rest)) (omega arith) small refl)
      ∙ bind_with (behind (codes ".") (codes "." ++ (decimal place ++ rest))) (decimal place ++ rest)
      (λ rest. number_at rest >>= λ place. bindings_at names place.1 >>= λ values. ok (tx, place.0, values))
      (parts.behind_again (codes ".") (decimal place ++ rest))
      ∙ bind_with (number_at (decimal place ++ rest)) (place, rest)
      (λ place. bindings_at names place.1 >>= λ values. ok (tx, place.0, values))
      (parts.number_again 9223372036854775807 place rest (omega arith) little (no_digit names values))
      ∙ bind_with (bindings_at names rest) values (λ values. ok (tx, place, values))
      (bindings_again names values paired are)
