-- A written variable is demanded in the kind of the first term that demands it.
use Rattle.std.proofs.Common.{◌≡◌, Bool, true, false, List, [], ◌∷◌, ◌++◌, Option, Some, None, ◌⊎◌, inl, inr, refl}
use Rattle.std.proofs.Common.{sym, ap}
use Rattle.std.proofs.Common.{◌∙◌}
use Rattle.std.specs.Prelude.{◌↔◌, is_some, if◌then◌else◌}
use Rattle.std.specs.List.{AllByRecursion, flat_map, zip}
use Rattle.ent_lists.proofs.Truth.{in_turn}
use Rattle.ent_value.specs.declared.value.Kind.{Kind}
use Rattle.ent_tree.specs.declared.entangled.Condition.{Condition}
use Rattle.ent_tree.specs.declared.entangled.Condition.TheVariants as conditions
use Rattle.ent_tree.specs.declared.entangled.Term.{Term}
use Rattle.ent_tree.specs.declared.entangled.Term.TheVariants as terms
use Rattle.ent_semantics.specs.Database.{Name, same_name}
use Rattle.ent_semantics.specs.Names.{equal_names}
use Rattle.ent_form.specs.declared.catalogue.TableSchema.{TableSchema}
use Rattle.ent_form.specs.declared.fault.FormFault.{FormFault}
use Rattle.ent_form.specs.Kinds.{Bound, none_bound, with_kind}
use Rattle.ent_form.specs.AllFaults.{select_faults}
use Rattle.ent_form.specs.Demanded.{sides_unless, condition_sides, kind_demanded, IsDemandedFirst}
use Rattle.ent_form.specs.EntangledFaults.{select_kinds, demanding, demanding_all, demanding_unless, demanded_from}
use Rattle.ent_form.specs.EntangledStanding.{demanding_sides}
use Rattle.ent_form.proofs.ResolvedMembership.{turned, CutWhere, cut_nil, cut_cons}

-- ---- term by term

sides_all : (kinds : List (Option Kind)) (all : List Term) (demanded : Bound)
    → demanding_all demanded kinds all ≡ demanding_sides demanded (zip kinds all)
sides_all [] all demanded = refl
sides_all (kind ∷ kinds) [] demanded = refl
sides_all (kind ∷ kinds) (term ∷ more) demanded = sides_all kinds more (demanding demanded kind term)

sides_same : (faults : List FormFault) (kinds : List (Option Kind)) (all : List Term) (demanded : Bound)
    → demanding_unless faults demanded kinds all ≡ demanding_sides demanded (sides_unless faults kinds all)
sides_same [] kinds all demanded = sides_all kinds all demanded
sides_same (fault ∷ more) kinds all demanded = refl

sides_behind : (sides more : List (Option Kind × Term)) (demanded : Bound)
    → demanding_sides demanded (sides ++ more) ≡ demanding_sides (demanding_sides demanded sides) more
sides_behind [] more demanded = refl
sides_behind (side ∷ sides) more demanded = sides_behind sides more (demanding demanded side.0 side.1)

from_sides : (tables : List TableSchema) (bound : Bound) (all : List Condition) (demanded : Bound)
    → demanded_from tables bound demanded all
    ≡ demanding_sides demanded (flat_map (condition_sides tables bound) all)
from_sides tables bound [] demanded = refl
from_sides tables bound (conditions.InSelect tuple select ∷ more) demanded =
    let faults = select_faults tables bound select in
    let kinds = select_kinds tables bound select in
    from_sides tables bound more (demanding_unless faults demanded kinds tuple.terms)
    ∙ ap (λ (next : Bound). demanding_sides next (flat_map (condition_sides tables bound) more))
    (sides_same faults kinds tuple.terms demanded)
    ∙ sym (sides_behind (sides_unless faults kinds tuple.terms) (flat_map (condition_sides tables bound) more) demanded)
from_sides tables bound (conditions.InAnswer tuple relation ∷ more) demanded =
    from_sides tables bound more demanded
from_sides tables bound (conditions.Test test ∷ more) demanded = from_sides tables bound more demanded

-- ---- one variable

-- the first of two kinds that there is
abbrev or_else : Option Kind → Option Kind → Option Kind
or_else (Some kind) later = Some kind
or_else None later = later

or_nothing : (kind : Option Kind) → kind ≡ or_else kind None
or_nothing (Some kind) = refl
or_nothing None = refl

no_kind : (b : Bool) (kind : Option Kind) → kind ≡ or_else kind (if b then None else None)
no_kind true kind = or_nothing kind
no_kind false kind = or_nothing kind

one_term : (demanded : Bound) (kind : Option Kind) (term : Term) (name : Name)
    → demanding demanded kind term name ≡ or_else (demanded name) (kind_demanded name kind term)
one_term demanded None (terms.Value value) name = or_nothing (demanded name)
one_term demanded (Some kind) (terms.Value value) name = or_nothing (demanded name)
one_term demanded None (terms.Variable variable) name = no_kind (same_name variable.name name) (demanded name)
one_term demanded (Some kind) (terms.Variable variable) name =
    by (demanded variable.name) refl (same_name variable.name name) refl
  where
    by : (earlier : Option Kind) → demanded variable.name ≡ earlier → (b : Bool) → same_name variable.name name ≡ b
        → (if is_some earlier then demanded else with_kind demanded variable.name kind) name
        ≡ or_else (demanded name) (if b then Some kind else None)
    by None e true same =
        ap (λ b. if b then Some kind else demanded name) same
        ∙ sym (ap (λ (there : Option Kind). or_else there (Some kind))
        (ap demanded (sym (equal_names variable.name name same)) ∙ e))
    by None e false other = ap (λ b. if b then Some kind else demanded name) other ∙ or_nothing (demanded name)
    by (Some earlier) e true same =
        let there : demanded name ≡ Some earlier = ap demanded (sym (equal_names variable.name name same)) ∙ e in
        there ∙ sym (ap (λ (known : Option Kind). or_else known (Some kind)) there)
    by (Some earlier) e false other = or_nothing (demanded name)

module _ (name : Name) where
  abbrev of_side : Option Kind × Term → Option Kind
  of_side side = kind_demanded name side.0 side.1

  abbrev walk : Option Kind → List (Option Kind × Term) → Option Kind
  walk known [] = known
  walk known (side ∷ more) = walk (or_else known (of_side side)) more

  walked : (sides : List (Option Kind × Term)) (demanded : Bound)
      → demanding_sides demanded sides name ≡ walk (demanded name) sides
  walked [] demanded = refl
  walked (side ∷ more) demanded =
      walked more (demanding demanded side.0 side.1)
      ∙ ap (λ (known : Option Kind). walk known more) (one_term demanded side.0 side.1 name)

  stays : (kind : Kind) (sides : List (Option Kind × Term)) → walk (Some kind) sides ≡ Some kind
  stays kind [] = refl
  stays kind (side ∷ more) = stays kind more

  abbrev IsFirst : Kind → List (Option Kind × Term) → Option Kind × Term → Type 0
  IsFirst kind before side = (of_side side ≡ Some kind) × AllByRecursion (λ earlier. of_side earlier ≡ None) before

  here_to : (kind found : Kind) (side : Option Kind × Term) (more : List (Option Kind × Term))
      → of_side side ≡ Some found
      → walk (Some found) more ≡ Some kind
      → IsFirst kind [] side ⊎ CutWhere (λ before. IsFirst kind (side ∷ before)) more
  here_to kind found side more is e = inl (is ∙ sym (stays found more) ∙ e, tt)

  here_from : (kind found : Kind) (side : Option Kind × Term) (more : List (Option Kind × Term))
      → of_side side ≡ Some found → IsFirst kind [] side ⊎ CutWhere (λ before. IsFirst kind (side ∷ before)) more
      → walk (Some found) more ≡ Some kind
  here_from kind found side more is (inl h) = stays found more ∙ sym is ∙ h.0
  here_from kind found side more is (inr h) = let none : of_side side ≡ None = h.4.1.0 in cc

  later_from : (kind : Kind) (side : Option Kind × Term) (more : List (Option Kind × Term)) → of_side side ≡ None
      → IsFirst kind [] side ⊎ CutWhere (λ before. IsFirst kind (side ∷ before)) more → CutWhere (IsFirst kind) more
  later_from kind side more none (inl h) = let some : of_side side ≡ Some kind = h.0 in cc
  later_from kind side more none (inr h) = (h.0, h.1, h.2, h.3, (h.4.0, h.4.1.1))

  first_walked : (kind : Kind) (sides : List (Option Kind × Term))
      → (walk None sides ≡ Some kind) ↔ CutWhere (IsFirst kind) sides
  first_walked kind [] = (λ e. cc, λ h. absurd (cut_nil (IsFirst kind) h))
  first_walked kind (side ∷ more) =
      in_turn (by (of_side side) refl (first_walked kind more)) (turned (cut_cons (IsFirst kind) side more))
    where
      by : (found : Option Kind) → of_side side ≡ found → (walk None more ≡ Some kind) ↔ CutWhere (IsFirst kind) more
          → (walk found more ≡ Some kind)
          ↔ (IsFirst kind [] side ⊎ CutWhere (λ before. IsFirst kind (side ∷ before)) more)
      by (Some found) is rest = (here_to kind found side more is, here_from kind found side more is)
      by None none rest = (
        λ e. let h = rest.0 e in inr (h.0, h.1, h.2, h.3, (h.4.0, (none, h.4.1))),
        λ h. rest.1 (later_from kind side more none h),
      )

pub demanded_first : (tables : List TableSchema) (bound : Bound) (all : List Condition) (name : Name) (kind : Kind)
    → (demanded_from tables bound none_bound all name ≡ Some kind)
    ↔ IsDemandedFirst name kind (flat_map (condition_sides tables bound) all)
demanded_first tables bound all name kind =
    let sides = flat_map (condition_sides tables bound) all in
    let same : demanded_from tables bound none_bound all name ≡ walk name None sides =
    ap (λ (demanded : Bound). demanded name) (from_sides tables bound all none_bound) ∙ walked name sides none_bound in
    in_turn (λ e. sym same ∙ e, λ e. same ∙ e)
    (in_turn (first_walked name kind sides)
    (λ h. (h.0, h.1, h.2, h.3, h.4.0, h.4.1), λ h. (h.0, h.1, h.2, h.3, (h.4, h.5))))
