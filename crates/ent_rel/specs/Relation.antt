-- A table as its readers see it: the kinds of its columns, and a finite set of rows.
use Rattle.std.specs.Prelude.{◌≡◌, ℤ, ℕ, List, ◌⊎◌, refl, Result, Ok, Err, nat_le, if◌then◌else◌, IsTrue}
use Rattle.std.specs.Coded.{Coded, code_by, coded⊎, coded×, coded_ℤ, coded_ℕ, coded_list, coded_bool}
use Rattle.std.proofs.Common.{inl, inr, Bool, true, false}
use Rattle.ent_lists.specs.Sets as set
use Rattle.ent_value.specs.Value.{row_cmp, kinds_of}
use Rattle.ent_value.specs.declared.value.Value.{Value}
use Rattle.ent_value.specs.declared.value.Value.TheVariants.{Int, Text}
use Rattle.ent_value.specs.declared.value.Kind.{Kind}
use Rattle.ent_value.specs.declared.value.Kind.TheVariants as kinds
use Rattle.ent_rel.specs.declared.fault.TableFull.{TableFull}
use Rattle.ent_value.specs.declared.limits.TheConstants.{MOST_ROWS}

-- a finite set of rows, in the order of rows
abbrev pub RowSet : Type 0
RowSet = set.Set row_cmp

pub record Relation : Type 0 where
  pub kinds : List Kind
  pub rows : RowSet

-- each row of the set has these kinds
abbrev pub HaveKinds : List Kind → RowSet → Type 0
HaveKinds kinds rows = (row : List Value) → IsTrue (set.contains rows row) → kinds_of row ≡ kinds

-- the one fault of a table
abbrev pub full : TableFull
full = record {}

-- x, where these rows are not too many for a table
abbrev pub bounded : {X : Type 0} → RowSet → X → Result X TableFull
bounded rows x = if nat_le (set.len rows) MOST_ROWS then Ok x else Err full

-- How a relation is stored as a number.

abbrev pub value_parts : Value → ℤ ⊎ List ℕ
value_parts (Int n) = inl n
value_parts (Text t) = inr t

abbrev pub value_of : ℤ ⊎ List ℕ → Value
value_of (inl n) = Int n
value_of (inr t) = Text t

pub value_again : (v : Value) → value_of (value_parts v) ≡ v
value_again (Int n) = refl
value_again (Text t) = refl

abbrev pub coded_value : Coded Value
coded_value = code_by (ℤ ⊎ List ℕ) (coded⊎ coded_ℤ (coded_list coded_ℕ)) value_parts value_of value_again

abbrev pub is_text : Kind → Bool
is_text kinds.Int = false
is_text kinds.Text = true

abbrev pub kind_from : Bool → Kind
kind_from false = kinds.Int
kind_from true = kinds.Text

pub kind_again : (k : Kind) → kind_from (is_text k) ≡ k
kind_again kinds.Int = refl
kind_again kinds.Text = refl

abbrev pub coded_kind : Coded Kind
coded_kind = code_by Bool coded_bool is_text kind_from kind_again

abbrev pub coded_rows : Coded RowSet
coded_rows = set.code (coded_list coded_value)

abbrev pub coded_relation : Coded Relation
coded_relation =
    code_by (List Kind × RowSet) (coded× (coded_list coded_kind) coded_rows) (λ r. (r.kinds, r.rows))
    (λ p. record { kinds = p.0; rows = p.1 }) (λ _. refl)
