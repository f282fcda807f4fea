-- The line of a table of the opening is read as it is written.
use Rattle.std.proofs.Common.{◌≡◌, ℕ, Bool, eqb, List, [], ◌++◌, length, Ok, Result, refl, ap, sym, ◌∙◌, subst, arith}
use Rattle.std.specs.Prelude.{codes, slice_index, ◌&&◌}
use Rattle.std.specs.Fmt.{decimal}
use Rattle.std.proofs.lemmas.Bool.{and_parts}
use Rattle.std.proofs.lemmas.List.{append-nil}
use Rattle.ent_value.specs.Refusal.{◌>>=◌}
use Rattle.ent_tree.specs.declared.declaration.Column.{Column}
use Rattle.ent_tree.specs.declared.declaration.Create.{Create}
use Rattle.ent_book.specs.Report2.{columns_text}
use Rattle.ent_history.specs.Opening.{IsDeclaration}
use Rattle.ent_history.specs.Parts.{IsNumber}
use Rattle.ent_text.specs.declared.line_fault.LineFault.{LineFault}
use Rattle.ent_text.specs.Pieces.{behind, number_at, wanted}
use Rattle.ent_text.proofs.Numbers.{chosen, number_found, number_again}
use Rattle.ent_text.proofs.Values.{bind_ok}
use Rattle.ent_text.proofs.Rows.{behind_found, behind_again}
use Rattle.ent_history.proofs.Steps.{bind_with, same_ok, no_bytes}
use Rattle.ent_history.specs.Names.{name_at}
use Rattle.ent_history.specs.Openings.{are_distinct, columns_at, create_of, opening_at, opening_text}
use Rattle.ent_history.proofs.Columns.{columns_found, columns_again, distinct_found, distinct_again}
use Rattle.ent_history.proofs.Names.{name_found, name_again}

abbrev whole_line : List ℕ → List Column → ℕ × List ℕ → Result (Create × ℕ) LineFault
whole_line name columns count =
    wanted (eqb (length count.1) 0 && are_distinct columns) (create_of name columns, count.0)

pub opening_found : (line : List ℕ) (create : Create) (count : ℕ) → opening_at line ≡ Ok (create, count)
    → (line ≡ opening_text create count) × IsDeclaration create × IsNumber count
unfolding opening_at
opening_found line create count h =
    let word = bind_ok (behind (codes "opening ") line)
    (λ rest. name_at rest >>= λ name. behind (codes " (") name.1 >>= λ rest. columns_at rest >>= λ columns.
    behind (codes ") ") columns.1 >>= λ rest. number_at rest >>= λ count. whole_line name.0 columns.0 count)
    (create, count) h in
    let name = bind_ok (name_at word.0)
    (λ name. behind (codes " (") name.1 >>= λ rest. columns_at rest >>= λ columns.
    behind (codes ") ") columns.1 >>= λ rest. number_at rest >>= λ count. whole_line name.0 columns.0 count)
    (create, count) word.2 in
    let table = name.0.0 in
    let opened = bind_ok (behind (codes " (") name.0.1)
    (λ rest. columns_at rest >>= λ columns. behind (codes ") ") columns.1 >>= λ rest. number_at rest >>= λ count.
    whole_line table columns.0 count) (create, count) name.2 in
    let columns = bind_ok (columns_at opened.0)
    (λ columns. behind (codes ") ") columns.1 >>= λ rest. number_at rest >>= λ count.
    whole_line table columns.0 count) (create, count) opened.2 in
    let those = columns.0.0 in
    let closed = bind_ok (behind (codes ") ") columns.0.1)
    (λ rest. number_at rest >>= λ count. whole_line table those count) (create, count) columns.2 in
    let last = bind_ok (number_at closed.0) (λ count. whole_line table those count) (create, count) closed.2 in
    let n = last.0.0 in
    let test = chosen (eqb (length last.0.1) 0 && are_distinct those) _ _ _ last.2 in
    let tests = and_parts (eqb (length last.0.1) 0) (are_distinct those) test.0 in
    let same = same_ok (create_of table those, n) (create, count) test.1 in
    let named = name_found word.0 name.0.1 table name.1 in
    let stand = columns_found opened.0 columns.0.1 those columns.1 in
    let number = number_found 9223372036854775807 closed.0 last.0.1 n (omega arith) last.1 in
    subst (λ (told : Create × ℕ). (line ≡ opening_text told.0 told.1) × IsDeclaration told.0 × IsNumber told.1) same (
      behind_found (codes "opening ") line word.0 word.1
          ∙ ap (λ r. codes "opening " ++ r)
          (named.0
          ∙ ap (λ r. table ++ r)
          (behind_found (codes " (") name.0.1 opened.0 opened.1
          ∙ ap (λ r. codes " (" ++ r)
          (stand.text_is
          ∙ ap (λ r. columns_text those ++ r)
          (behind_found (codes ") ") columns.0.1 closed.0 closed.1
          ∙ ap (λ r. codes ") " ++ r)
          (number.0 ∙ ap (λ r. decimal n ++ r) (no_bytes last.0.1 tests.0) ∙ append-nil (decimal n)))))),
      record {
        name = named.1;
        unplaced = refl;
        some = stand.some;
        few = stand.few;
        columns = stand.are;
        distinct = distinct_found those tests.1;
      },
      number.1,
    )

at_place : Create → ℕ → Create
at_place create place = record { name = record { name = create.name.name; place = place }; columns = create.columns }

told_of : Create → ℕ → Result (Create × ℕ) LineFault
told_of create count = Ok (create, count)

number_ends : (count : ℕ) → IsNumber count → number_at (decimal count) ≡ Ok (count, [])
number_ends count small =
    ap number_at (sym (append-nil (decimal count)))
    ∙ number_again 9223372036854775807 count [] (omega arith) small tt

no_comma : (count : ℕ) → slice_index (codes ") " ++ decimal count) 0 ≡ 44 → ⊥
no_comma count e = absurd (omega (arith, e))

pub opening_again : (create : Create) (count : ℕ) → IsDeclaration create → IsNumber count
    → opening_at (opening_text create count) ≡ Ok (create, count)
unfolding opening_at at_place told_of
opening_again create count is small =
    let name = create.name.name in
    let end = codes ") " ++ decimal count in
    let columns = columns_text create.columns ++ end in
    bind_with (behind (codes "opening ") (opening_text create count)) (name ++ (codes " (" ++ columns))
    (λ rest. name_at rest >>= λ name. behind (codes " (") name.1 >>= λ rest. columns_at rest >>= λ columns.
    behind (codes ") ") columns.1 >>= λ rest. number_at rest >>= λ count. whole_line name.0 columns.0 count)
    (behind_again (codes "opening ") (name ++ (codes " (" ++ columns)))
    ∙ bind_with (name_at (name ++ (codes " (" ++ columns))) (name, codes " (" ++ columns)
    (λ name. behind (codes " (") name.1 >>= λ rest. columns_at rest >>= λ columns.
    behind (codes ") ") columns.1 >>= λ rest. number_at rest >>= λ count. whole_line name.0 columns.0 count)
    (name_again name (codes " (" ++ columns) is.name refl)
    ∙ bind_with (behind (codes " (") (codes " (" ++ columns)) columns
    (λ rest. columns_at rest >>= λ columns. behind (codes ") ") columns.1 >>= λ rest. number_at rest >>= λ count.
    whole_line name columns.0 count)
    (behind_again (codes " (") columns)
    ∙ bind_with (columns_at columns) (create.columns, end)
    (λ columns. behind (codes ") ") columns.1 >>= λ rest. number_at rest >>= λ count. whole_line name columns.0 count)
    (columns_again create.columns end is.columns is.some is.few (no_comma count))
    ∙ bind_with (behind (codes ") ") end) (decimal count)
    (λ rest. number_at rest >>= λ count. whole_line name create.columns count)
    (behind_again (codes ") ") (decimal count))
    ∙ bind_with (number_at (decimal count)) (count, []) (λ count. whole_line name create.columns count)
    (number_ends count small)
    ∙ ap (λ (t : Bool). wanted t (create_of name create.columns, count)) (distinct_again create.columns is.distinct)
    ∙ ap (λ (place : ℕ). told_of (at_place create place) count) (sym is.unplaced)
