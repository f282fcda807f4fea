-- Values that stand as bytes, alone and in rows.
use Rattle.std.proofs.Common.{◌≡◌, ℕ, zero, suc, ◌+◌, ◌<◌, List, [], ◌∷◌, ◌++◌, length, take, drop, append-nil, sym}
use Rattle.std.proofs.Common.{refl, ap, subst, ◌∙◌, arith}
use Rattle.std.specs.Prelude.{Some, slice_get, slice_index_or, IsTrue}
use Rattle.std.specs.Cmp.{unsigned_Decides}
use Rattle.std.proofs.lemmas.List.{drop_all, take-append-drop, append_assoc, append_cancel_right, length-map}
use Rattle.std.proofs.lemmas.Slice.Eq.{starts_is}
use Rattle.ent_value.specs.Value.{value_cmp, kind_of, kinds_of}
use Rattle.ent_value.specs.declared.value.Value.{Value}
use Rattle.ent_value.specs.declared.value.Kind.{Kind}
use Rattle.ent_value.specs.declared.value.Kind.TheVariants as kinds
use Rattle.ent_page.specs.Key.{value_key, key_of, key_cmp, IsStorable, AreStorable}
use Rattle.ent_page.specs.Read.{value_from, past_value, row_from, past_values}
use Rattle.ent_page.specs.Front.{begins_with}
use Rattle.ent_page.specs.Cells.{IsCell}
use Rattle.ent_page.specs.Rows.{IsKey}
use Rattle.ent_page.specs.Order.{value_order}
use Rattle.ent_page.specs.ReadBack.{value_back, past_value_back}

kind_from : (k : Kind) (bs : List ℕ) → kind_of (value_from k bs) ≡ k
kind_from kinds.Int bs = refl
kind_from kinds.Text bs = refl

-- cells of one kind
pub cell_order : (k : Kind) (a b : List ℕ) → IsCell k a → IsCell k b
    → key_cmp a b ≡ value_cmp (value_from k a) (value_from k b)
cell_order k a b c d =
    (λ i. key_cmp (sym c.again i) (sym d.again i))
    ∙ value_order (value_from k a) (value_from k b) (kind_from k a ∙ sym (kind_from k b)) c.fits d.fits

pub cells_compared : (k l : Kind) (a b : List ℕ) (v w : Value) → k ≡ l → IsCell k a → IsCell l b → value_from k a ≡ v
    → value_from l b ≡ w
    → key_cmp a b ≡ value_cmp v w
cells_compared k l a b v w same c d x y =
    cell_order k a b c (subst (λ kind. IsCell kind b) (sym same) d)
    ∙ (λ i. value_cmp (x i) ((ap (λ kind. value_from kind b) same ∙ y) i))

-- the bytes of a value
module _ (v : Value) (k : Kind) (bs : List ℕ) (same : k ≡ kind_of v) (bytes : bs ≡ value_key v)
    (fits : IsStorable v) where
  pub cell_value : value_from k bs ≡ v
  cell_value = (λ i. value_from (same i) ((bytes ∙ sym (append-nil (value_key v))) i)) ∙ value_back v [] fits

  pub cell_made : IsCell k bs
  cell_made = record { again = ap value_key cell_value ∙ sym bytes; fits = subst IsStorable (sym cell_value) fits }

-- ---- values one after another

pub key_of-append : (r s : List Value) → key_of (r ++ s) ≡ key_of r ++ key_of s
key_of-append [] s = refl
key_of-append (v ∷ r) s = ap (λ z. value_key v ++ z) (key_of-append r s)
    ∙ sym (append_assoc (value_key v) (key_of r) (key_of s))

-- what follows the first values of a row
pub past_firsts : (n : ℕ) (row : List Value) → past_values (take n (kinds_of row)) (key_of row) ≡ key_of (drop n row)
past_firsts zero row = refl
past_firsts (suc n) [] = refl
past_firsts (suc n) (v ∷ row) =
    ap (past_values (take n (kinds_of row))) (past_value_back v (key_of row)) ∙ past_firsts n row

pub from_value : (row : List Value) (n : ℕ) (v : Value) → slice_get row n ≡ Some v
    → key_of (drop n row) ≡ value_key v ++ key_of (drop (n + 1) row)
from_value [] n v e = cc
from_value (w ∷ row) zero v e = let same : w ≡ v = cc in ap (λ z. value_key z ++ key_of row) same
from_value (w ∷ row) (suc n) v e =
    from_value row n v e
    ∙ ap (λ m. value_key v ++ key_of (drop m (w ∷ row))) (let f : suc (n + 1) ≡ suc n + 1 = omega arith in f)

-- the front of bytes that go on alike
pub same_piece : (v : Value) (bytes rest key more : List ℕ) → key ≡ bytes ++ rest → rest ≡ past_value (kind_of v) key
    → key ≡ value_key v ++ more → bytes ≡ value_key v
same_piece v bytes rest key more whole past is =
    let same : rest ≡ more = past ∙ ap (past_value (kind_of v)) is ∙ past_value_back v more in
    append_cancel_right bytes (value_key v) more (ap (λ z. bytes ++ z) (sym same) ∙ sym whole ∙ is)

-- ---- keys that begin with the key of some values

firsts : (values row : List Value) (rest : List ℕ) → kinds_of values ≡ take (length values) (kinds_of row)
    → AreStorable values → AreStorable row → key_of row ≡ key_of values ++ rest → take (length values) row ≡ values
firsts [] row rest e h k is = refl
firsts (v ∷ values) [] rest e h k is = cc
firsts (v ∷ values) (w ∷ row) rest e h k is =
    let heads : kind_of v ≡ kind_of w = cc in
    let tails : kinds_of values ≡ take (length values) (kinds_of row) = cc in
    let all : value_key w ++ key_of row ≡ value_key v ++ (key_of values ++ rest) = is
    ∙ append_assoc (value_key v) (key_of values) rest in
    let first : w ≡ v = sym (value_back w (key_of row) k.0) ∙ (λ i. value_from (sym heads i) (all i))
    ∙ value_back v (key_of values ++ rest) h.0 in
    let others : key_of row ≡ key_of values ++ rest = sym (past_value_back w (key_of row))
    ∙ (λ i. past_value (sym heads i) (all i)) ∙ past_value_back v (key_of values ++ rest) in
    λ i. first i ∷ firsts values row rest tails h.1 k.1 others i

pub fronts : (values row : List Value) → kinds_of values ≡ take (length values) (kinds_of row) → AreStorable values
    → AreStorable row
    → (IsTrue (begins_with (key_of values) (key_of row)) → take (length values) row ≡ values) ×
    (take (length values) row ≡ values → IsTrue (begins_with (key_of values) (key_of row)))
fronts values row e h k =
    let begun = begins_with (key_of values) (key_of row) in
    let is = starts_is unsigned_Decides (key_of row) (key_of values) begun refl in (
      λ begins. firsts values row _ e h k (is.0 begins),
      λ same. is.1 (key_of (drop (length values) row)) (
          ap key_of (sym (take-append-drop (length values) row))
          ∙ key_of-append (take (length values) row) (drop (length values) row)
          ∙ ap (λ z. key_of z ++ key_of (drop (length values) row)) same),
    )

-- ---- a cell of a row

kind_at : (row : List Value) (n : ℕ) (v : Value) (d : Kind) → slice_get row n ≡ Some v
    → slice_index_or (kinds_of row) n d ≡ kind_of v
kind_at [] n v d e = cc
kind_at (w ∷ row) zero v d e = let same : w ≡ v = cc in ap kind_of same
kind_at (w ∷ row) (suc n) v d e = kind_at row n v d e

storable_at : (row : List Value) (n : ℕ) (v : Value) → AreStorable row → slice_get row n ≡ Some v → IsStorable v
storable_at [] n v h e = cc
storable_at (w ∷ row) zero v h e = let same : w ≡ v = cc in subst IsStorable same h.0
storable_at (w ∷ row) (suc n) v h e = storable_at row n v h.1 e

value_there : (row : List Value) (n : ℕ) → n < length row → (v : Value) × (slice_get row n ≡ Some v)
value_there [] n lt = absurd (omega arith)
value_there (v ∷ row) zero lt = (v, refl)
value_there (v ∷ row) (suc n) lt = value_there row n (omega arith)

module _ (kinds : List Kind) (key : List ℕ) (n : ℕ) (left : List ℕ) (read : left ≡ past_values (take n kinds) key)
    (row : List Value) (v : Value) (same : kinds_of row ≡ kinds) (is : key ≡ key_of row)
    (at : slice_get row n ≡ Some v) where
  left_is : left ≡ value_key v ++ key_of (drop (n + 1) row)
  left_is = read ∙ (λ i. past_values (take n (sym same i)) (is i)) ∙ past_firsts n row ∙ from_value row n v at

  pub last_cell : n + 1 ≡ length kinds → left ≡ value_key v
  last_cell end =
      let none : drop (n + 1) row ≡ [] = drop_all (n + 1) row (omega (arith, length-map row kind_of, ap length same)) in
      left_is ∙ ap (λ z. value_key v ++ key_of z) none ∙ append-nil (value_key v)

  pub inner_cell : (bytes rest : List ℕ) (d : Kind) → left ≡ bytes ++ rest
      → rest ≡ past_value (slice_index_or kinds n d) left → bytes ≡ value_key v
  inner_cell bytes rest d whole past =
      same_piece v bytes rest left (key_of (drop (n + 1) row)) whole
      (past ∙ ap (λ k. past_value k left) (ap (λ ks. slice_index_or ks n d) (sym same) ∙ kind_at row n v d at))
      left_is

module _ (kinds : List Kind) (key : List ℕ) (ok : IsKey kinds key) (n : ℕ) (d : Kind)
    (lt : n < length (row_from kinds key)) (bytes : List ℕ)
    (read : (row : List Value) (v : Value) → kinds_of row ≡ kinds → key ≡ key_of row → slice_get row n ≡ Some v
    → bytes ≡ value_key v) where
  there : (v : Value) × (slice_get (row_from kinds key) n ≡ Some v)
  there = value_there (row_from kinds key) n lt

  kind_there : slice_index_or kinds n d ≡ kind_of there.0
  kind_there = ap (λ ks. slice_index_or ks n d) (sym ok.same) ∙ kind_at (row_from kinds key) n there.0 d there.1

  bytes_there : bytes ≡ value_key there.0
  bytes_there = read (row_from kinds key) there.0 ok.same (sym ok.again) there.1

  fits_there : IsStorable there.0
  fits_there = storable_at (row_from kinds key) n there.0 ok.fits there.1

  pub row_cell : IsCell (slice_index_or kinds n d) bytes
  row_cell = cell_made there.0 (slice_index_or kinds n d) bytes kind_there bytes_there fits_there

  pub row_value : slice_get (row_from kinds key) n ≡ Some (value_from (slice_index_or kinds n d) bytes)
  row_value = there.1
      ∙ ap (λ v. Some v) (sym (cell_value there.0 (slice_index_or kinds n d) bytes kind_there bytes_there fits_there))
