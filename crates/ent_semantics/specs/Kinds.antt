-- Values of a kind, and rows of kinds.
use Rattle.std.specs.Prelude.{◌≡◌, ◌≤◌, ◌<◌, true, List, length, IsTrue}
use Rattle.std.specs.List.{AllByRecursion, flat_map}
use Rattle.ent_lists.specs.Sets as set
use Rattle.ent_value.specs.Value.{kinds_of}
use Rattle.ent_value.specs.declared.text.TheConstants.{LONGEST_TEXT}
use Rattle.ent_value.specs.declared.value.Kind.{Kind}
use Rattle.ent_value.specs.declared.value.Kind.TheVariants as kinds
use Rattle.ent_value.specs.declared.value.Value.{Value}
use Rattle.ent_value.specs.declared.value.Value.TheVariants.{Int, Text}
use Rattle.ent_semantics.specs.Database.{Rows}
use Rattle.ent_semantics.specs.Term.{is_64_bits}

-- a value of a kind: a number within 64 bits with a sign, a text of bytes that isn't too long
abbrev pub IsOfKind : Kind → Value → Type 0
IsOfKind kinds.Int (Int number) = IsTrue (is_64_bits number)
IsOfKind kinds.Int (Text bytes) = ⊥
IsOfKind kinds.Text (Int number) = ⊥
IsOfKind kinds.Text (Text bytes) = (length bytes ≤ LONGEST_TEXT) × AllByRecursion (λ byte. byte < 256) bytes

-- the rows of a set have these kinds
abbrev pub RowsHaveKinds : List Kind → Rows → Type 0
RowsHaveKinds kinds rows = (row : List Value) → set.contains rows row ≡ true → kinds_of row ≡ kinds

-- a source: the kinds of its columns, and its rows
pub record KindedSource : Type 0 where
  pub kinds : List Kind
  pub rows : Rows

-- the rows of each source have its kinds
abbrev pub SourcesHaveKinds : List KindedSource → Type 0
SourcesHaveKinds sources = AllByRecursion (λ source. RowsHaveKinds source.kinds source.rows) sources

-- the kinds of the sources' columns, side by side
abbrev pub kinds_side_by_side : List KindedSource → List Kind
kinds_side_by_side sources = flat_map (λ source. source.kinds) sources

-- what is shown of a row of these kinds has those kinds
abbrev pub ShowsKinds : (List Value → List Value) → List Kind → List Kind → Type 0
ShowsKinds shown of_rows of_items = (row : List Value) → kinds_of row ≡ of_rows → kinds_of (shown row) ≡ of_items
