-- What a text of variables and their values says, whatever stands behind its line.
use Rattle.std.proofs.Common.{◌≡◌, ℕ, List, [], ◌∷◌, ◌++◌, length, Option, Some, None, refl, ap, sym, ◌∙◌, subst}
use Rattle.std.proofs.Common.{arith, append_assoc}
use Rattle.std.specs.Prelude.{slice_index}
use Rattle.std.specs.List.{AllByRecursion}
use Rattle.ent_value.specs.Print.{value_text}
use Rattle.ent_value.specs.declared.value.Value.{Value}
use Rattle.ent_semantics.specs.Database.{Name}
use Rattle.ent_book.specs.Report2.{binding_text, bindings_text}
use Rattle.ent_text.specs.Written.{IsOver}
use Rattle.ent_history.specs.Parts.{IsName, IsValue}
use Rattle.ent_history.specs.Joints.{Binds, BindsRight}
use Rattle.ent_history.proofs.BreaksOff.{same_behind}
use Rattle.ent_program_laws.proofs.Fronts.{name_once, value_once}

-- ---- names

-- what stands before a `=` tells these names apart
abbrev TellApart : Name → Name → Type 0
TellApart one other = (x y : List ℕ) → one ++ (61 ∷ x) ≡ other ++ (61 ∷ y) → one ≡ other

-- the same of each two at the same place
abbrev AllTellApart : List Name → List Name → Type 0
AllTellApart [] others = Unit {0}
AllTellApart (one ∷ more) [] = Unit {0}
AllTellApart (one ∷ more) (other ∷ others) = TellApart one other × AllTellApart more others

own_apart : (names : List Name) → AllTellApart names names
own_apart [] = tt
own_apart (name ∷ names) = (λ x y e. refl, own_apart names)

names_apart : (one other : List Name) → AllByRecursion IsName one → AllByRecursion IsName other
    → AllTellApart one other
names_apart [] others h k = tt
names_apart (one ∷ more) [] h k = tt
names_apart (one ∷ more) (other ∷ others) h k =
    (λ x y e. name_once one other x y h.0 k.0 e, names_apart more others h.1 k.1)

-- ---- variables with their values

regrouped : (name : Name) (value : Value) (more behind : List ℕ)
    → (binding_text name value ++ more) ++ behind
    ≡ 32 ∷ (name ++ (61 ∷ (value_text value ++ (more ++ behind))))
regrouped name value more behind =
    ap (λ (r : List ℕ). 32 ∷ r)
    (append_assoc (name ++ (61 ∷ value_text value)) more behind
    ∙ append_assoc name (61 ∷ value_text value) (more ++ behind))

over_line : (names : List Name) (values : List Value) (behind : List ℕ)
    → IsOver (bindings_text names values ++ (10 ∷ behind))
over_line [] values behind = refl
over_line (name ∷ names) [] behind = refl
over_line (name ∷ names) (value ∷ values) behind = refl

pub record BindingsOnce (one other : List Name) (values worth : List Value) : Type 0 where
  pub variables : one ≡ other
  pub values_are : values ≡ worth

first_differs : (x y : List ℕ) → 10 ∷ x ≡ 32 ∷ y → ⊥
first_differs x y e = let first : 10 ≡ 32 = ap (λ (l : List ℕ). slice_index l 0) e in absurd (omega (arith, first))

bindings_once : (one other : List Name) (values worth : List Value) (x y : List ℕ) → AllTellApart one other
    → length one ≡ length values → length other ≡ length worth
    → AllByRecursion IsValue values → AllByRecursion IsValue worth
    → bindings_text one values ++ (10 ∷ x) ≡ bindings_text other worth ++ (10 ∷ y)
    → BindingsOnce one other values worth
bindings_once [] [] [] [] x y apart p q h k e = record { variables = refl; values_are = refl }
bindings_once [] other (v ∷ values) worth x y apart p q h k e = absurd (omega (arith, p))
bindings_once (n ∷ one) other [] worth x y apart p q h k e = absurd (omega (arith, p))
bindings_once [] [] [] (w ∷ worth) x y apart p q h k e = absurd (omega (arith, q))
bindings_once [] (m ∷ other) [] [] x y apart p q h k e = absurd (omega (arith, q))
bindings_once [] (m ∷ other) [] (w ∷ worth) x y apart p q h k e =
    let theirs = bindings_text other worth in
    absurd (first_differs x (m ++ (61 ∷ (value_text w ++ (theirs ++ (10 ∷ y))))) (e ∙ regrouped m w theirs (10 ∷ y)))
bindings_once (n ∷ one) [] (v ∷ values) [] x y apart p q h k e =
    let mine = bindings_text one values in
    absurd (first_differs y (n ++ (61 ∷ (value_text v ++ (mine ++ (10 ∷ x))))) (sym e ∙ regrouped n v mine (10 ∷ x)))
bindings_once (n ∷ one) [] (v ∷ values) (w ∷ worth) x y apart p q h k e = absurd (omega (arith, q))
bindings_once (n ∷ one) (m ∷ other) (v ∷ values) [] x y apart p q h k e = absurd (omega (arith, q))
bindings_once (n ∷ one) (m ∷ other) (v ∷ values) (w ∷ worth) x y apart p q h k e =
    let mine = bindings_text one values ++ (10 ∷ x) in
    let theirs = bindings_text other worth ++ (10 ∷ y) in
    let whole : 32 ∷ (n ++ (61 ∷ (value_text v ++ mine))) ≡ 32 ∷ (m ++ (61 ∷ (value_text w ++ theirs))) =
    sym (regrouped n v (bindings_text one values) (10 ∷ x)) ∙ e
    ∙ regrouped m w (bindings_text other worth) (10 ∷ y) in
    let space = same_behind (32 ∷ []) (n ++ (61 ∷ (value_text v ++ mine)))
    (m ++ (61 ∷ (value_text w ++ theirs))) whole in
    let named = apart.0 (value_text v ++ mine) (value_text w ++ theirs) space in
    let equal = same_behind n (61 ∷ (value_text v ++ mine)) (61 ∷ (value_text w ++ theirs))
    (space ∙ ap (λ k. k ++ (61 ∷ (value_text w ++ theirs))) (sym named)) in
    let text = same_behind (61 ∷ []) (value_text v ++ mine) (value_text w ++ theirs) equal in
    let valued = value_once v w mine theirs h.0 k.0 (over_line one values x) (over_line other worth y) text in
    let more = bindings_once one other values worth x y apart.1 (omega (arith, p)) (omega (arith, q)) h.1 k.1
    valued.behind in
    record {
      variables = λ i. named i ∷ more.variables i;
      values_are = λ i. valued.value i ∷ more.values_are i;
    }

-- of an entangled statement the variables are known, of anything else they are names
pub binds_once : (binds : Option Binds) (one other : List Name) (values worth : List Value) (x y : List ℕ)
    → BindsRight binds one values → BindsRight binds other worth
    → length one ≡ length values → length other ≡ length worth
    → AllByRecursion IsValue values → AllByRecursion IsValue worth
    → bindings_text one values ++ (10 ∷ x) ≡ bindings_text other worth ++ (10 ∷ y)
    → BindingsOnce one other values worth
binds_once (Some binds) one other values worth x y right own p q h k e =
    bindings_once one other values worth x y
    (subst (λ (names : List Name). AllTellApart one names) (right.0 ∙ sym own.0) (own_apart one)) p q h k e
binds_once None one other values worth x y right own p q h k e =
    bindings_once one other values worth x y (names_apart one other right own) p q h k e
