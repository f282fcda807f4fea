-- Keys that are those of rows of some kinds.
use Rattle.std.proofs.Common.{sym, ap, subst, ◌∙◌}
use Rattle.std.specs.Prelude.{◌≡◌, ℕ, List}
use Rattle.std.specs.List.{AllByRecursion}
use Rattle.ent_value.specs.Value.{kinds_of}
use Rattle.ent_value.specs.declared.value.Value.{Value}
use Rattle.ent_value.specs.declared.value.Kind.{Kind}
use Rattle.ent_page.specs.Key.{key_of, AreStorable}
use Rattle.ent_page.specs.Read.{row_from}
use Rattle.ent_page.specs.ReadBack.{row_back}

-- the key is that of the row that is read of it
pub record IsKey (kinds : List Kind) (key : List ℕ) : Type 0 where
  pub again : key_of (row_from kinds key) ≡ key
  pub same : kinds_of (row_from kinds key) ≡ kinds
  pub fits : AreStorable (row_from kinds key)

abbrev pub AreKeys : List Kind → List (List ℕ) → Type 0
AreKeys kinds = AllByRecursion (IsKey kinds)

pub row_again : (kinds : List Kind) (row : List Value) → kinds_of row ≡ kinds → AreStorable row
    → row_from kinds (key_of row) ≡ row
row_again kinds row same fits = ap (λ ks. row_from ks (key_of row)) (sym same) ∙ row_back row fits

pub key_of_row : (kinds : List Kind) (row : List Value) → kinds_of row ≡ kinds → AreStorable row
    → IsKey kinds (key_of row)
key_of_row kinds row same fits =
    let e = row_again kinds row same fits in
    record { again = ap key_of e; same = ap kinds_of e ∙ same; fits = subst AreStorable (sym e) fits }
