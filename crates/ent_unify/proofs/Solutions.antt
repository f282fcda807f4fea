-- What solves equations gives values under which they hold.
use Rattle.std.proofs.Common.{◌≡◌, ℕ, ◌<◌, List, [], ◌∷◌, length, get_or, refl, sym, ◌∙◌, ap, subst, arith, pos}
use Rattle.std.proofs.lemmas.List.Elements.{All-nil, All-cons, All-get_or, All-head}
use Rattle.ent_value.specs.declared.value.Kind.{Kind}
use Rattle.ent_value.specs.declared.value.Kind.TheVariants as kinds
use Rattle.ent_value.specs.declared.value.Value.{Value}
use Rattle.ent_value.specs.declared.value.Value.TheVariants.{Int, Text}
use Rattle.ent_semantics.specs.Kinds.{IsOfKind}
use Rattle.ent_semantics.specs.declared.entangled.Term.{Term}
use Rattle.ent_semantics.specs.declared.entangled.Term.TheVariants as terms
use Rattle.ent_unify.specs.declared.variable.Representative.{Representative}
use Rattle.ent_unify.specs.declared.variable.Representative.TheVariants.{Constant, Variable}
use Rattle.ent_unify.specs.Side.{worth, side_kind, IsWithinBounds, Substitution, resolved}
use Rattle.ent_unify.specs.Equation.{Sides, Holds, HasKinds, Solves, AreRefuted, HaveSolution}
use Rattle.ent_unify.specs.Tuple.{AreOtherValues, term_side}

-- some value of a kind
abbrev some_of : Kind → Value
some_of kinds.Int = Int (pos 0)
some_of kinds.Text = Text []

some_of_kind : (k : Kind) → IsOfKind k (some_of k)
some_of_kind kinds.Int = refl
some_of_kind kinds.Text = (omega arith, tt)

-- a constant, or some value of a variable's kind
abbrev value_for : Representative → Value
value_for (Constant value) = value
value_for (Variable x) = some_of x.kind

value_for_kind : (s : Representative) (k : Kind) → side_kind s ≡ k → IsWithinBounds s → IsOfKind k (value_for s)
value_for_kind (Constant value) k kind bounds = subst (λ j. IsOfKind j value) kind bounds
value_for_kind (Variable x) k kind bounds = subst (λ j. IsOfKind j (some_of x.kind)) kind (some_of_kind x.kind)

worth_for : (stands : Substitution) (s : Representative)
    → worth (λ x. value_for (stands x)) s ≡ value_for (resolved stands s)
worth_for stands (Constant value) = refl
worth_for stands (Variable x) = refl

pub has_solution : (es : List Sides) (stands : Substitution) → Solves es (length es) stands → HaveSolution es
has_solution es stands solves =
    record {
      values = λ x. value_for (stands x);
      of_kinds = λ x. value_for_kind (stands x) x.kind (solves.kinds x) (solves.bounds x);
      hold = λ k d below. worth_for stands (get_or es k d).0
          ∙ (ap value_for (solves.equal k d below) ∙ sym (worth_for stands (get_or es k d).1));
    }

-- two values that differ are never one
pub other_values_refuted : (m n : ℕ) (ks js : List Kind) (term other : Term Value) → AreOtherValues term other
    → AreRefuted ((term_side m ks term, term_side n js other) ∷ [])
other_values_refuted m n ks js (terms.Known value) (terms.Known own) differ values kinds hold =
    differ (All-head (Holds values) (Constant value, Constant own) [] hold)
other_values_refuted m n ks js (terms.Known value) (terms.Variable index) differ values kinds hold = absurd differ
other_values_refuted m n ks js (terms.Variable index) other differ values kinds hold = absurd differ

-- one equation that nothing makes hold is enough
pub refuted_at : (es : List Sides) (n : ℕ) (e : Sides) → n < length es → e ≡ get_or es n e → AreRefuted (e ∷ [])
    → AreRefuted es
refuted_at es n e below is refuted values kinds hold =
    refuted values
    (All-cons (HasKinds values) e []
    (subst (HasKinds values) (sym is) (All-get_or (HasKinds values) es n e below kinds))
    (All-nil (HasKinds values)))
    (All-cons (Holds values) e [] (subst (Holds values) (sym is) (All-get_or (Holds values) es n e below hold))
    (All-nil (Holds values)))
