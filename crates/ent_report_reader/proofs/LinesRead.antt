-- What is read of a line is what stands there.
use Rattle.std.proofs.Common.{◌≡◌, ℕ, cond, eqb, List, [], ◌++◌, length, Ok, Err, Result, refl}
use Rattle.std.proofs.Common.{ap, sym, subst, ◌∙◌}
use Rattle.std.proofs.lemmas.List.{append-nil}
use Rattle.ent_value.specs.Print.{row_text}
use Rattle.ent_value.specs.Refusal.{Gives, ◌>>=◌}
use Rattle.ent_value.specs.declared.refusal.Refusal.{Refusal}
use Rattle.ent_value.specs.declared.refusal.Refusal.TheVariants.{Memory, Fault}
use Rattle.ent_value.specs.declared.value.Value.{Value}
use Rattle.ent_text.specs.declared.line_fault.LineFault.{LineFault}
use Rattle.ent_text.specs.declared.line_fault.LineFault.TheVariants.{Misfit}
use Rattle.ent_text.specs.Pieces.{Read, row_at}
use Rattle.ent_text.proofs.Numbers.{chosen}
use Rattle.ent_text.proofs.Values.{bind_ok}
use Rattle.ent_history.proofs.Steps.{no_bytes, same_ok}
use Rattle.ent_history.specs.Parts.{IsRow}
use Rattle.ent_report_reader.specs.Reading.{Reads, IsRowLine, whole_row_at}

pub reads : {A : Type 0} (is : A → Type 0) (meant : Result A LineFault) (read : Result A (Refusal LineFault))
    → ((x : A) → meant ≡ Ok x → is x) → ((x : A) → is x → meant ≡ Ok x)
    → Gives (λ x. x) read meant → Reads is read
reads is meant (Ok x) found only gives = (found x gives, λ y h. let e = only y h in same_ok y x (sym e ∙ gives))
reads is meant (Err Memory) found only gives = tt
reads is meant (Err (Fault fault)) found only gives = λ x h. let e = only x h in cc

-- ---- rows

pub record RowParts : Type 0 where
  pub found : (bytes rest : List ℕ) (values : List Value) → row_at bytes ≡ Ok (values, rest)
      → (bytes ≡ row_text values ++ rest) × IsRow values
  pub only : (values : List Value) (rest : List ℕ) → IsRow values
      → row_at (row_text values ++ rest) ≡ Ok (values, rest)

end_only : (rest : List ℕ) (values row : List Value)
    → cond (eqb (length rest) 0) (Ok values) (Err Misfit) ≡ Ok row → (rest ≡ []) × (values ≡ row)
end_only rest values row h =
    let c = chosen (eqb (length rest) 0) (Ok values) Misfit row h in (no_bytes rest c.0, same_ok values row c.1)

pub whole_row_found : RowParts → (text : List ℕ) (row : List Value) → whole_row_at text ≡ Ok row → IsRowLine text row
unfolding whole_row_at
whole_row_found known text row h =
    let found = bind_ok (row_at text)
    (λ found. cond (eqb (length found.1) 0) (Ok found.0) (Err Misfit)) row h in
    let end = end_only found.0.1 found.0.0 row found.2 in
    let is = known.found text found.0.1 found.0.0 found.1 in (
      is.0 ∙ ap (λ rest. row_text found.0.0 ++ rest) end.0 ∙ append-nil (row_text found.0.0) ∙ ap row_text end.1,
      subst IsRow end.1 is.1,
    )

pub whole_row_only : RowParts → (text : List ℕ) (row : List Value) → IsRowLine text row → whole_row_at text ≡ Ok row
unfolding whole_row_at
whole_row_only known text row is =
    let read : row_at text ≡ Ok (row, []) =
    ap row_at (is.0 ∙ sym (append-nil (row_text row))) ∙ known.only row [] is.1 in
    ap (λ (r : Read (List Value)). r >>= λ found. cond (eqb (length found.1) 0) (Ok found.0) (Err Misfit)) read
