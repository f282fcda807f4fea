-- Tuples, column by column.
use Rattle.std.proofs.Common.{◌≡◌, ℕ, zero, suc, ◌<◌, List, [], ◌∷◌, map, length, get_or, refl, sym, ◌∙◌, ap, arith}
use Rattle.std.proofs.Common.{All}
use Rattle.std.specs.Prelude.{slice_get}
use Rattle.std.proofs.lemmas.List.Elements.{All-nil, All-cons, All-head, All-tail}
use Rattle.ent_value.specs.Value.{kind_of}
use Rattle.ent_value.specs.declared.value.Kind.{Kind}
use Rattle.ent_value.specs.declared.value.Value.{Value}
use Rattle.ent_semantics.specs.Entangled.{Valuation}
use Rattle.ent_semantics.specs.Term.{no_value}
use Rattle.ent_semantics.specs.Form.{term_worth}
use Rattle.ent_semantics.specs.declared.entangled.Term.{Term}
use Rattle.ent_semantics.specs.declared.entangled.Term.TheVariants as terms
use Rattle.ent_unify.specs.declared.variable.Representative.{Representative}
use Rattle.ent_unify.specs.Side.{Assignment, worth, side_kind}
use Rattle.ent_unify.specs.Equation.{Sides, Holds, HasKinds}
use Rattle.ent_unify.specs.Tuple.{variable_side, term_side, column_sides}

abbrev pub Terms : Type 0
Terms = List (Term Value)

pub column_at : (f g : Term Value → Representative) (ts us : Terms) (n : ℕ) (t u : Term Value) (d : Sides)
    → n < length ts → n < length us → t ≡ get_or ts n t → u ≡ get_or us n u
    → (f t, g u) ≡ get_or (column_sides f g ts us) n d
column_at f g [] us n t u d left right = absurd (omega arith)
column_at f g (x ∷ ts) [] n t u d left right = absurd (omega arith)
column_at f g (x ∷ ts) (y ∷ us) zero t u d left right = λ first second. λ i. (f (first i), g (second i))
column_at f g (x ∷ ts) (y ∷ us) (suc n) t u d left right = column_at f g ts us n t u d (omega arith) (omega arith)

pub length-columns : (f g : Term Value → Representative) (ts us : Terms) → length ts ≡ length us
    → length (column_sides f g ts us) ≡ length ts
length-columns f g [] us same = refl
length-columns f g (x ∷ ts) [] same = absurd (omega arith)
length-columns f g (x ∷ ts) (y ∷ us) same = ap suc (length-columns f g ts us (omega arith))

-- ---- what terms are worth

abbrev value_of_term : Valuation → Term Value → Value
value_of_term = term_worth (λ value. value)

-- an assignment gives a member's variables the values of a valuation
abbrev pub Reads : Assignment → ℕ → List Kind → Valuation → Type 0
Reads values member kinds valuation =
    (n : ℕ) → worth values (variable_side member n (slice_get kinds n)) ≡ get_or valuation n no_value

-- an assignment gives a member's variables values of their kinds
abbrev pub IsKinded : Assignment → ℕ → List Kind → Type 0
IsKinded values member kinds =
    (n : ℕ) → kind_of (worth values (variable_side member n (slice_get kinds n))) ≡ side_kind
    (variable_side member n (slice_get kinds n))

pub term_is : (values : Assignment) (m : ℕ) (ks : List Kind) (V : Valuation) → Reads values m ks V
    → (t : Term Value) → worth values (term_side m ks t) ≡ value_of_term V t
term_is values m ks V reads (terms.Known value) = refl
term_is values m ks V reads (terms.Variable n) = reads n

term_kind : (values : Assignment) (m : ℕ) (ks : List Kind) → IsKinded values m ks
    → (t : Term Value) → kind_of (worth values (term_side m ks t)) ≡ side_kind (term_side m ks t)
term_kind values m ks kinded (terms.Known value) = refl
term_kind values m ks kinded (terms.Variable n) = kinded n

module _ (values : Assignment) (l r : ℕ) (ks js : List Kind) where
  pub columns_kinded : (ts us : Terms) → IsKinded values l ks → IsKinded values r js
      → All (HasKinds values) (column_sides (term_side l ks) (term_side r js) ts us)
  columns_kinded [] us left right = All-nil (HasKinds values)
  columns_kinded (t ∷ ts) [] left right = All-nil (HasKinds values)
  columns_kinded (t ∷ ts) (u ∷ us) left right =
      All-cons (HasKinds values) _ _ (term_kind values l ks left t, term_kind values r js right u)
      (columns_kinded ts us left right)

  module _ (V W : Valuation) (left : Reads values l ks V) (right : Reads values r js W) where
    pub values_from_columns : (ts us : Terms) → length ts ≡ length us
        → All (Holds values) (column_sides (term_side l ks) (term_side r js) ts us)
        → map (value_of_term V) ts ≡ map (value_of_term W) us
    values_from_columns [] [] same hold = refl
    values_from_columns [] (u ∷ us) same hold = absurd (omega arith)
    values_from_columns (t ∷ ts) [] same hold = absurd (omega arith)
    values_from_columns (t ∷ ts) (u ∷ us) same hold =
        let first = All-head (Holds values) (term_side l ks t, term_side r js u)
        (column_sides (term_side l ks) (term_side r js) ts us) hold in
        let rest = All-tail (Holds values) (term_side l ks t, term_side r js u)
        (column_sides (term_side l ks) (term_side r js) ts us) hold in
        let one : value_of_term V t ≡ value_of_term W u = sym (term_is values l ks V left t)
        ∙ (first ∙ term_is values r js W right u) in
        let others = values_from_columns ts us (omega arith) rest in
        λ i. one i ∷ others i

    pub columns_from_values : (ts us : Terms) → map (value_of_term V) ts ≡ map (value_of_term W) us
        → All (Holds values) (column_sides (term_side l ks) (term_side r js) ts us)
    columns_from_values [] us same = All-nil (Holds values)
    columns_from_values (t ∷ ts) [] same = All-nil (Holds values)
    columns_from_values (t ∷ ts) (u ∷ us) same =
        let one : value_of_term V t ≡ value_of_term W u = cc in
        let others : map (value_of_term V) ts ≡ map (value_of_term W) us = cc in
        All-cons (Holds values) (term_side l ks t, term_side r js u)
        (column_sides (term_side l ks) (term_side r js) ts us)
        (term_is values l ks V left t ∙ (one ∙ sym (term_is values r js W right u)))
        (columns_from_values ts us others)
