-- The columns of a table of the opening are read as they are written, and told apart by their names.
use Rattle.std.proofs.Common.{◌≡◌, ◌≢◌, ℕ, zero, suc, ◌+◌, ◌<◌, ◌≤◌, Bool, true, false, cond, not, eqb, List, [], ◌∷◌}
use Rattle.std.proofs.Common.{◌++◌, length, get_or, Ok, Err, refl, ap, sym, ◌∙◌, subst, arith, append_assoc}
use Rattle.std.proofs.Common.{length-append}
use Rattle.std.specs.Prelude.{All, AllPairs, codes, slice_index}
use Rattle.std.specs.List.{AllByRecursion}
use Rattle.std.proofs.lemmas.Bool.{and_parts}
use Rattle.std.proofs.lemmas.List.Folds.{list_any_at, list_any_none}
use Rattle.std.proofs.lemmas.List.Kept.{AllPairs-cons}
use Rattle.ent_lists.specs.Elements.{turned, both_and}
use Rattle.ent_value.specs.Refusal.{◌>>=◌, Refuses}
use Rattle.ent_value.specs.declared.refusal.Refusal.{Refusal}
use Rattle.ent_value.specs.declared.refusal.Refusal.TheVariants.{Memory, Fault}
use Rattle.ent_value.specs.declared.value.Kind.{Kind}
use Rattle.ent_value.specs.declared.value.Kind.TheVariants as kinds
use Rattle.ent_tree.specs.declared.declaration.Column.{Column}
use Rattle.ent_semantics.specs.Database.{Name, same_name}
use Rattle.ent_semantics.specs.Names.{equal_names, name_itself}
use Rattle.ent_book.specs.Report2.{kind_text, column_text, more_columns_text, columns_text}
use Rattle.ent_history.specs.Parts.{IsName}
use Rattle.ent_text.specs.declared.line_fault.LineFault.{LineFault}
use Rattle.ent_text.specs.Pieces.{Read, behind}
use Rattle.ent_text.proofs.Numbers.{read_of, is_first, is_rest}
use Rattle.ent_text.proofs.Values.{bind_ok}
use Rattle.ent_text.proofs.Rows.{behind_found, behind_again}
use Rattle.ent_history.proofs.Steps.{bind_with}
use Rattle.ent_history.specs.Names.{name_at}
use Rattle.ent_history.specs.Openings.{kind_at, column_of, column_at, next_column_at, is_among, are_distinct}
use Rattle.ent_history.specs.Openings.{columns_at}
use Rattle.ent_history.specs.Listing.{listed_at, with_one}
use Rattle.ent_history.proofs.Listing.{with_many, with_many_one, at_end, at_limit, at_one, at_fault}
use Rattle.ent_history.proofs.Listing.{listed_found, listed_again}
use Rattle.ent_history.proofs.Names.{name_found, name_again}

-- ---- kinds

-- what is read where the first letter is told
kind_by : Bool → List ℕ → Read Kind
kind_by t bytes =
    cond t (behind (codes "INT") bytes >>= λ rest. read_of kinds.Int rest)
    (behind (codes "TEXT") bytes >>= λ rest. read_of kinds.Text rest)

kind_found_by : (bytes rest : List ℕ) (kind : Kind) (t : Bool) → kind_by t bytes ≡ Ok (kind, rest)
    → bytes ≡ kind_text kind ++ rest
unfolding kind_by
kind_found_by bytes rest kind true h =
    let found = bind_ok (behind (codes "INT") bytes) (λ rest. read_of kinds.Int rest) (kind, rest) h in
    behind_found (codes "INT") bytes found.0 found.1
    ∙ ap (λ r. codes "INT" ++ r) (is_rest kinds.Int kind found.0 rest found.2)
    ∙ ap (λ k. kind_text k ++ rest) (is_first kinds.Int kind found.0 rest found.2)
kind_found_by bytes rest kind false h =
    let found = bind_ok (behind (codes "TEXT") bytes) (λ rest. read_of kinds.Text rest) (kind, rest) h in
    behind_found (codes "TEXT") bytes found.0 found.1
    ∙ ap (λ r. codes "TEXT" ++ r) (is_rest kinds.Text kind found.0 rest found.2)
    ∙ ap (λ k. kind_text k ++ rest) (is_first kinds.Text kind found.0 rest found.2)

kind_found : (bytes rest : List ℕ) (kind : Kind) → kind_at bytes ≡ Ok (kind, rest) → bytes ≡ kind_text kind ++ rest
unfolding kind_at kind_by
kind_found bytes rest kind h = kind_found_by bytes rest kind (eqb (slice_index bytes 0) 73) h

kind_again : (kind : Kind) (rest : List ℕ) → kind_at (kind_text kind ++ rest) ≡ Ok (kind, rest)
unfolding kind_at
kind_again kinds.Int rest =
    bind_with (behind (codes "INT") (codes "INT" ++ rest)) rest (λ rest. read_of kinds.Int rest)
    (behind_again (codes "INT") rest)
kind_again kinds.Text rest =
    bind_with (behind (codes "TEXT") (codes "TEXT" ++ rest)) rest (λ rest. read_of kinds.Text rest)
    (behind_again (codes "TEXT") rest)

-- ---- a column

abbrev pub IsColumn : Column → Type 0
IsColumn column = IsName column.name.name × (column.name.place ≡ 0)

regrouped : (name : Name) (kind : Kind) (rest : List ℕ)
    → (name ++ (codes " " ++ kind_text kind)) ++ rest ≡ name ++ (codes " " ++ (kind_text kind ++ rest))
regrouped name kind rest = append_assoc name (codes " " ++ kind_text kind) rest

column_found : (bytes rest : List ℕ) (column : Column) → column_at bytes ≡ Ok (column, rest)
    → (bytes ≡ column_text column ++ rest) × IsColumn column
unfolding column_at
column_found bytes rest column h =
    let name = bind_ok (name_at bytes)
    (λ name. behind (codes " ") name.1 >>= λ rest. kind_at rest >>= λ kind. read_of (column_of name.0 kind.0) kind.1)
    (column, rest) h in
    let word = name.0.0 in
    let space = bind_ok (behind (codes " ") name.0.1)
    (λ rest. kind_at rest >>= λ kind. read_of (column_of word kind.0) kind.1) (column, rest) name.2 in
    let kind = bind_ok (kind_at space.0) (λ kind. read_of (column_of word kind.0) kind.1) (column, rest) space.2 in
    let same : column_of word kind.0.0 ≡ column =
    is_first (column_of word kind.0.0) column kind.0.1 rest kind.2 in
    let end : kind.0.1 ≡ rest = is_rest (column_of word kind.0.0) column kind.0.1 rest kind.2 in
    let named = name_found bytes name.0.1 word name.1 in
    subst (λ one. (bytes ≡ column_text one ++ rest) × IsColumn one) same (
      named.0
          ∙ ap (λ r. word ++ r)
          (behind_found (codes " ") name.0.1 space.0 space.1
          ∙ ap (λ r. codes " " ++ r)
          (kind_found space.0 kind.0.1 kind.0.0 kind.1 ∙ ap (λ r. kind_text kind.0.0 ++ r) end))
          ∙ sym (regrouped word kind.0.0 rest),
      (named.1, refl),
    )

at_place : Column → ℕ → Column
at_place column place = record { name = record { name = column.name.name; place = place }; kind = column.kind }

column_again : (column : Column) (rest : List ℕ) → IsColumn column
    → column_at (column_text column ++ rest) ≡ Ok (column, rest)
unfolding column_at at_place
column_again column rest is =
    let kind = kind_text column.kind ++ rest in
    ap column_at (regrouped column.name.name column.kind rest)
    ∙ bind_with (name_at (column.name.name ++ (codes " " ++ kind))) (column.name.name, codes " " ++ kind)
    (λ name. behind (codes " ") name.1 >>= λ rest. kind_at rest >>= λ kind. read_of (column_of name.0 kind.0) kind.1)
    (name_again column.name.name (codes " " ++ kind) is.0 refl)
    ∙ bind_with (behind (codes " ") (codes " " ++ kind)) kind
    (λ rest. kind_at rest >>= λ kind. read_of (column_of column.name.name kind.0) kind.1)
    (behind_again (codes " ") kind)
    ∙ bind_with (kind_at kind) (column.kind, rest) (λ kind. read_of (column_of column.name.name kind.0) kind.1)
    (kind_again column.kind rest)
    ∙ ap (λ (place : ℕ). read_of (at_place column place) rest) (sym is.1)

-- ---- a column behind another

next_text : Column → List ℕ
next_text column = codes ", " ++ column_text column

next_found : (bytes rest : List ℕ) (column : Column) → next_column_at bytes ≡ Ok (column, rest)
    → (bytes ≡ next_text column ++ rest) × IsColumn column
unfolding next_column_at next_text
next_found bytes rest column h =
    let comma = bind_ok (behind (codes ", ") bytes) (λ rest. column_at rest) (column, rest) h in
    let is = column_found comma.0 rest column comma.2 in
    (behind_found (codes ", ") bytes comma.0 comma.1 ∙ ap (λ r. codes ", " ++ r) is.0, is.1)

next_again : (column : Column) (rest : List ℕ) → IsColumn column → Unit {0}
    → next_column_at (next_text column ++ rest) ≡ Ok (column, rest)
unfolding next_column_at next_text
next_again column rest is any =
    bind_with (behind (codes ", ") (codes ", " ++ (column_text column ++ rest))) (column_text column ++ rest)
    (λ rest. column_at rest) (behind_again (codes ", ") (column_text column ++ rest))
    ∙ column_again column rest is

-- ---- all columns

-- these columns stand in front
pub record ColumnsStand (bytes : List ℕ) (columns : List Column) (rest : List ℕ) : Type 0 where
  pub text_is : bytes ≡ columns_text columns ++ rest
  pub are : AllByRecursion IsColumn columns
  pub some : 1 ≤ length columns
  pub few : length columns ≤ 16

pub columns_found : (bytes rest : List ℕ) (columns : List Column) → columns_at bytes ≡ Ok (columns, rest)
    → ColumnsStand bytes columns rest
unfolding columns_at next_text
columns_found bytes rest columns h =
    let first = bind_ok (column_at bytes) (λ column. with_one column.0 (listed_at 44 next_column_at 15 column.1))
    (columns, rest) h in
    let column = first.0.0 in
    let more = bind_ok (listed_at 44 next_column_at 15 first.0.1) (λ more. read_of (column ∷ more.0) more.1)
    (columns, rest) first.2 in
    let those = more.0.0 in
    let all : column ∷ those ≡ columns = is_first (column ∷ those) columns more.0.1 rest more.2 in
    let end : more.0.1 ≡ rest = is_rest (column ∷ those) columns more.0.1 rest more.2 in
    let is = column_found bytes first.0.1 column first.1 in
    let listed = listed_found 44 next_column_at next_text IsColumn next_found 15 first.0.1 more.0.1 those more.1 in
    subst (λ these. ColumnsStand bytes these rest) all (record {
      text_is = is.0
          ∙ ap (λ r. column_text column ++ r) (listed.text_is ∙ ap (λ r. more_columns_text those ++ r) end)
          ∙ sym (append_assoc (column_text column) (more_columns_text those) rest);
      are = (is.1, listed.are);
      some = omega arith;
      few = omega (arith, listed.few);
    })

columns_again_from : (column : Column) (more : List Column) (rest : List ℕ) → IsColumn column
    → AllByRecursion IsColumn more → length more ≤ 15 → (slice_index rest 0 ≡ 44 → ⊥)
    → columns_at (column_text column ++ (more_columns_text more ++ rest)) ≡ Ok (column ∷ more, rest)
unfolding columns_at next_text
columns_again_from column more rest is are few over =
    let behind_first = more_columns_text more ++ rest in
    bind_with (column_at (column_text column ++ behind_first)) (column, behind_first)
    (λ column. with_one column.0 (listed_at 44 next_column_at 15 column.1)) (column_again column behind_first is)
    ∙ ap (with_one column)
    (listed_again 44 next_column_at next_text IsColumn (λ rest. Unit {0}) next_again (λ x rest. tt) (λ x rest. refl)
    15 more rest are few tt over)

pub columns_again : (columns : List Column) (rest : List ℕ) → AllByRecursion IsColumn columns → 1 ≤ length columns
    → length columns ≤ 16 → (slice_index rest 0 ≡ 44 → ⊥)
    → columns_at (columns_text columns ++ rest) ≡ Ok (columns, rest)
columns_again [] rest are some few over = absurd (omega (arith, some))
columns_again (column ∷ more) rest are some few over =
    ap columns_at (append_assoc (column_text column) (more_columns_text more) rest)
    ∙ columns_again_from column more rest are.0 are.1 (omega (arith, few)) over

-- ---- distinct names

abbrev pub Differ : Column → Column → Type 0
Differ first second = first.name.name ≢ second.name.name

clash : (b : Bool) → b ≡ true → b ≡ false → ⊥
clash true e f = cc
clash false e f = cc

apart : (column : Column) (more : List Column) → is_among column.name.name more ≡ false → All (Differ column) more
apart column more none k d below same =
    let name = column.name.name in
    let found = list_any_at (λ (other : Column). same_name other.name.name name) more k d below
    (subst (λ n. same_name n name ≡ true) same (name_itself name)) in
    clash (is_among name more) found none

differs : (first second : Name) → (second ≢ first) → (b : Bool) → same_name first second ≡ b → b ≡ false
differs first second apart true e = absurd (apart (sym (equal_names first second e)))
differs first second apart false e = refl

is_apart : (column : Column) (more : List Column) → All (Differ column) more → is_among column.name.name more ≡ false
is_apart column more all =
    let name = column.name.name in
    list_any_none (λ (other : Column). same_name other.name.name name) more (λ k d below.
    differs (get_or more k d).name.name name (all k d below) (same_name (get_or more k d).name.name name) refl)

pub distinct_found : (columns : List Column) → are_distinct columns ≡ true → AllPairs Differ columns
distinct_found [] h = λ i j d lt within. absurd (omega arith)
distinct_found (column ∷ more) h =
    let parts = and_parts (not (is_among column.name.name more)) (are_distinct more) h in
    AllPairs-cons Differ column more (apart column more (turned (is_among column.name.name more) parts.0))
    (distinct_found more parts.1)

pub distinct_again : (columns : List Column) → AllPairs Differ columns → are_distinct columns ≡ true
distinct_again [] all = refl
distinct_again (column ∷ more) all =
    both_and (not (is_among column.name.name more)) (are_distinct more)
    (ap not (is_apart column more (λ k d below. all zero (suc k) d (omega arith) (omega arith))))
    (distinct_again more (λ i j d lt within. all (suc i) (suc j) d (omega arith) (omega arith)))

-- ---- the loop over columns

-- what is left behind some of the columns
pub record ColumnsLeft (columns : List Column) (rest : List ℕ) (whole : Read (List Column)) : Type 0 where
  pub most : ℕ
  pub limit : most + length columns ≡ 16
  pub is : with_many columns (listed_at 44 next_column_at most rest) ≡ whole

pub left_first : (nothing columns : List Column) (bytes rest : List ℕ) (column : Column)
    → column_at bytes ≡ Ok (column, rest) → nothing ≡ [] → columns ≡ nothing ++ column ∷ []
    → ColumnsLeft columns rest (columns_at bytes)
unfolding columns_at
left_first nothing columns bytes rest column h none pushed =
    let one : columns ≡ column ∷ [] = pushed ∙ ap (λ front. front ++ column ∷ []) none in
    subst (λ all. ColumnsLeft all rest (columns_at bytes)) (sym one) (record {
      most = 15;
      limit = omega arith;
      is = with_many_one column (listed_at 44 next_column_at 15 rest)
          ∙ sym (bind_with (column_at bytes) (column, rest)
          (λ column. with_one column.0 (listed_at 44 next_column_at 15 column.1)) h);
    })

pub first_fault : (refusal : Refusal LineFault) (bytes : List ℕ) → Refuses refusal (column_at bytes)
    → Refuses refusal (columns_at bytes)
unfolding columns_at
first_fault Memory bytes h = tt
first_fault (Fault fault) bytes h =
    ap (λ r. r >>= λ column. with_one column.0 (listed_at 44 next_column_at 15 column.1)) h

end_by : (most : ℕ) (columns : List Column) (rest : List ℕ) (whole : Read (List Column)) → most + length columns ≡ 16
    → (length columns < 16 → slice_index rest 0 ≡ 44 → ⊥)
    → with_many columns (listed_at 44 next_column_at most rest) ≡ whole → whole ≡ Ok (columns, rest)
end_by zero columns rest whole limit none is = at_limit 44 next_column_at columns rest whole is
end_by (suc n) columns rest whole limit none is =
    at_end 44 next_column_at (suc n) columns rest whole (none (omega (arith, limit))) is

pub left_end : (columns : List Column) (rest : List ℕ) (whole : Read (List Column))
    → (length columns < 16 → slice_index rest 0 ≡ 44 → ⊥) → ColumnsLeft columns rest whole → whole ≡ Ok (columns, rest)
left_end columns rest whole none left = end_by left.most columns rest whole left.limit none left.is

one_by : (most : ℕ) (columns : List Column) (rest next : List ℕ) (column : Column) (whole : Read (List Column))
    → most + length columns ≡ 16 → length columns < 16 → slice_index rest 0 ≡ 44
    → next_column_at rest ≡ Ok (column, next)
    → with_many columns (listed_at 44 next_column_at most rest) ≡ whole
    → ColumnsLeft (columns ++ column ∷ []) next whole
one_by zero columns rest next column whole limit room e h is = absurd (omega (arith, limit))
one_by (suc n) columns rest next column whole limit room e h is = record {
  most = n;
  limit = omega (arith, limit, length-append columns (column ∷ []));
  is = at_one 44 next_column_at n columns rest next column whole e h is;
}

pub left_one : (columns more : List Column) (rest next : List ℕ) (column : Column) (whole : Read (List Column))
    → length columns < 16 → slice_index rest 0 ≡ 44 → next_column_at rest ≡ Ok (column, next)
    → more ≡ columns ++ column ∷ [] → ColumnsLeft columns rest whole → ColumnsLeft more next whole
left_one columns more rest next column whole room e h pushed left =
    subst (λ all. ColumnsLeft all next whole) (sym pushed)
    (one_by left.most columns rest next column whole left.limit room e h left.is)

fault_by : (most : ℕ) (columns : List Column) (rest : List ℕ) (fault : LineFault) (whole : Read (List Column))
    → most + length columns ≡ 16 → length columns < 16 → slice_index rest 0 ≡ 44 → next_column_at rest ≡ Err fault
    → with_many columns (listed_at 44 next_column_at most rest) ≡ whole → whole ≡ Err fault
fault_by zero columns rest fault whole limit room e h is = absurd (omega (arith, limit))
fault_by (suc n) columns rest fault whole limit room e h is =
    at_fault 44 next_column_at n columns rest fault whole e h is

pub left_fault : (refusal : Refusal LineFault) (columns : List Column) (rest : List ℕ) (whole : Read (List Column))
    → length columns < 16 → slice_index rest 0 ≡ 44 → Refuses refusal (next_column_at rest)
    → ColumnsLeft columns rest whole → Refuses refusal whole
left_fault Memory columns rest whole room e h left = tt
left_fault (Fault fault) columns rest whole room e h left =
    fault_by left.most columns rest fault whole left.limit room e h left.is
