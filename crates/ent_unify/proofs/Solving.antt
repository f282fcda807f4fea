-- Equations are solved one after the other.
use Rattle.std.proofs.Common.{◌≡◌, ◌≢◌, ℕ, zero, suc, ◌+◌, ◌<◌, inl, inr, true, cond, List, [], ◌∷◌, map, length}
use Rattle.std.proofs.Common.{get_or, refl, sym, ◌∙◌, ap, subst, arith, All}
use Rattle.std.specs.Prelude.{◌==◌}
use Rattle.std.proofs.lemmas.Bool.{and_parts, and_from, eqb-true, eq-eqb, cases_Bool, cases_lt}
use Rattle.std.proofs.lemmas.List.{get_or_default}
use Rattle.std.proofs.lemmas.List.Elements.{All-nil, All-cons, All-head, All-get_or}
use Rattle.ent_value.specs.Value.{kind_of}
use Rattle.ent_value.specs.Kinds.{equal_kinds, kind_itself}
use Rattle.ent_unify.specs.declared.variable.Representative.{Representative}
use Rattle.ent_unify.specs.declared.variable.Representative.TheVariants.{Constant, Variable}
use Rattle.ent_unify.specs.declared.variable.Variable.{Variable as Variables}
use Rattle.ent_unify.specs.Side.{Assignment, worth, side_kind, IsWithinBounds, same_variable, Substitution}
use Rattle.ent_unify.specs.Side.{resolved, single}
use Rattle.ent_unify.specs.Equation.{Sides, Holds, HasKinds, AreWithinBounds, resolved_both, Solves, AreRefuted}
use Rattle.ent_unify.specs.Equation.{PutsSolution}
use Rattle.ent_unify.proofs.Places.{get_or-map}

-- ---- a variable and itself

pub same_variable-self : (x : Variables) → same_variable x x ≡ true
same_variable-self x =
    and_from _ _ (eq-eqb x.member x.member refl)
    (and_from _ _ (eq-eqb x.index x.index refl) (kind_itself x.kind))

pub same_variable-true : (x y : Variables) → same_variable x y ≡ true → x ≡ y
same_variable-true x y h =
    let parts : _ × _ = and_parts (x.member == y.member) _ h in
    let rest : _ × _ = and_parts (x.index == y.index) _ parts.1 in
    let member = eqb-true x.member y.member parts.0 in
    let index = eqb-true x.index y.index rest.0 in
    let kind = equal_kinds x.kind y.kind rest.1 in
    λ i. record { member = member i; index = index i; kind = kind i }

-- ---- what is put in the place of variables

resolved-twice : (first later : Substitution) (s : Representative)
    → resolved (λ x. resolved later (first x)) s ≡ resolved later (resolved first s)
resolved-twice first later (Constant value) = refl
resolved-twice first later (Variable x) = refl

worth-resolved : (values : Assignment) (stands : Substitution) (s : Representative)
    → ((x : Variables) → worth values (stands x) ≡ values x) → worth values (resolved stands s) ≡ worth values s
worth-resolved values stands (Constant value) kept = refl
worth-resolved values stands (Variable x) kept = kept x

kind-resolved : (stands : Substitution) (s : Representative) → ((x : Variables) → side_kind (stands x) ≡ x.kind)
    → side_kind (resolved stands s) ≡ side_kind s
kind-resolved stands (Constant value) kinds = refl
kind-resolved stands (Variable x) kinds = kinds x

bounds-resolved : (stands : Substitution) (s : Representative) → ((x : Variables) → IsWithinBounds (stands x))
    → IsWithinBounds s → IsWithinBounds (resolved stands s)
bounds-resolved stands (Constant value) bounds within = within
bounds-resolved stands (Variable x) bounds within = bounds x

resolved-itself : (s : Representative) → resolved (λ x. Variable x) s ≡ s
resolved-itself (Constant value) = refl
resolved-itself (Variable x) = refl

map-itself : (es : List Sides) → es ≡ map (resolved_both (λ x. Variable x)) es
map-itself [] = refl
map-itself (e ∷ es) =
    (λ i. (sym (resolved-itself e.0) i, sym (resolved-itself e.1) i) ∷ es)
    ∙ ap (λ fs. resolved_both (λ x. Variable x) e ∷ fs) (map-itself es)

map-twice : (first later : Substitution) (es : List Sides)
    → map (resolved_both later) (map (resolved_both first) es) ≡ map (resolved_both (λ x. resolved later (first x))) es
map-twice first later [] = refl
map-twice first later (e ∷ es) =
    (λ i. (sym (resolved-twice first later e.0) i, sym (resolved-twice first later e.1) i)
    ∷ map (resolved_both later) (map (resolved_both first) es))
    ∙ ap (λ fs. resolved_both (λ x. resolved later (first x)) e ∷ fs) (map-twice first later es)

-- nothing is put yet
pub starts : (es : List Sides) → PutsSolution es 0 es es
starts es =
    record {
      stands = λ x. Variable x;
      solves = record {
        equal = λ k d below. absurd (omega arith);
        kinds = λ x. refl;
        bounds = λ x. tt;
        kept = λ values holds x. refl;
      };
      put = map-itself es;
    }

-- ---- one equation

one_place : (P : ℕ → Type 0) → P 0 → (k : ℕ) → k < 1 → P k
one_place P here zero below = here
one_place P here (suc k) below = absurd (omega arith)

-- both sides are one
pub puts_nothing : (l r : Representative) (es : List Sides) → l ≡ r → PutsSolution ((l, r) ∷ []) 1 es es
puts_nothing l r es same =
    record {
      stands = λ x. Variable x;
      solves = record {
        equal = λ k d. one_place (λ k. resolved (λ x. Variable x) (get_or ((l, r) ∷ []) k d).0
            ≡ resolved (λ x. Variable x) (get_or ((l, r) ∷ []) k d).1)
            (resolved-itself l ∙ (same ∙ sym (resolved-itself r))) k;
        kinds = λ x. refl;
        bounds = λ x. tt;
        kept = λ values holds x. refl;
      };
      put = map-itself es;
    }

single-self : (x : Variables) (by : Representative) → single x by x ≡ by
single-self x by = ap (λ b. cond b by (Variable x)) (same_variable-self x)

resolved-single_other : (x : Variables) (by s : Representative) → s ≢ Variable x → resolved (single x by) s ≡ s
resolved-single_other x by (Constant value) other = refl
resolved-single_other x by (Variable y) other =
    elim (cases_Bool (same_variable x y)) [
      | inl same ↦ absurd (other (ap (λ z. Variable z) (sym (same_variable-true x y same))))
      | inr differs ↦ ap (λ b. cond b by (Variable y)) differs
    ]

-- of what stands for a variable, where another side stands for one
of_single : (P : Variables → Representative → Type 0) (x : Variables) (by : Representative) → P x by
    → ((y : Variables) → P y (Variable y)) → (y : Variables) → P y (single x by y)
of_single P x by here others y =
    elim (cases_Bool (same_variable x y)) [
      | inl same ↦ subst (λ z. P z (single x by z)) (same_variable-true x y same)
          (subst (P x) (sym (single-self x by)) here)
      | inr differs ↦ subst (P y) (sym (ap (λ b. cond b by (Variable y)) differs)) (others y)
    ]

solves_single : (x : Variables) (by : Representative) → by ≢ Variable x → side_kind by ≡ x.kind → IsWithinBounds by
    → Solves ((Variable x, by) ∷ []) 1 (single x by)
solves_single x by other kind bounds =
    record {
      equal = λ k d. one_place (λ k. resolved (single x by) (get_or ((Variable x, by) ∷ []) k d).0
          ≡ resolved (single x by) (get_or ((Variable x, by) ∷ []) k d).1)
          (single-self x by ∙ sym (resolved-single_other x by by other)) k;
      kinds = of_single (λ y s. side_kind s ≡ y.kind) x by kind (λ y. refl);
      bounds = of_single (λ y s. IsWithinBounds s) x by bounds (λ y. tt);
      kept = λ values holds. of_single (λ y s. worth values s ≡ values y) x by
          (sym (All-head (Holds values) (Variable x, by) [] holds)) (λ y. refl);
    }

solves_flipped : (l r : Representative) (stands : Substitution) → Solves ((l, r) ∷ []) 1 stands
    → Solves ((r, l) ∷ []) 1 stands
solves_flipped l r stands s =
    record {
      equal = λ k d. one_place (λ k. resolved stands (get_or ((r, l) ∷ []) k d).0
          ≡ resolved stands (get_or ((r, l) ∷ []) k d).1) (sym (s.equal 0 (l, r) (omega arith))) k;
      kinds = s.kinds;
      bounds = s.bounds;
      kept = λ values holds. s.kept values
          (All-cons (Holds values) (l, r) [] (sym (All-head (Holds values) (r, l) [] holds)) (All-nil (Holds values)));
    }

-- a side stands for the variable on the left
pub puts_left : (x : Variables) (l r : Representative) (old new : List Sides) → l ≡ Variable x → l ≢ r
    → side_kind l ≡ side_kind r → IsWithinBounds r → new ≡ map (resolved_both (single x r)) old
    → PutsSolution ((l, r) ∷ []) 1 old new
puts_left x l r old new is differ kind bounds put =
    record {
      stands = single x r;
      solves = subst (λ z. Solves ((z, r) ∷ []) 1 (single x r)) (sym is)
          (solves_single x r (λ e. differ (is ∙ sym e)) (sym kind ∙ ap side_kind is) bounds);
      put = put;
    }

pub puts_right : (x : Variables) (l r : Representative) (old new : List Sides) → r ≡ Variable x → l ≢ r
    → side_kind l ≡ side_kind r → IsWithinBounds l → new ≡ map (resolved_both (single x l)) old
    → PutsSolution ((l, r) ∷ []) 1 old new
puts_right x l r old new is differ kind bounds put =
    let flipped = puts_left x r l old new is (λ e. differ (sym e)) (sym kind) bounds put in
    record { stands = flipped.stands; solves = solves_flipped r l flipped.stands flipped.solves; put = flipped.put }

-- sides of two kinds, and two values, can't be one
pub refuted_by_kind : (l r : Representative) → side_kind l ≢ side_kind r → AreRefuted ((l, r) ∷ [])
refuted_by_kind l r differ values kinds holds =
    let kind = All-head (HasKinds values) (l, r) [] kinds in
    differ (sym kind.0 ∙ (ap kind_of (All-head (Holds values) (l, r) [] holds) ∙ kind.1))

constant : (s : Representative) (values : Assignment) → ((x : Variables) → s ≢ Variable x)
    → s ≡ Constant (worth values s)
constant (Constant value) values h = refl
constant (Variable x) values h = absurd (h x refl)

pub refuted_constants : (l r : Representative) → l ≢ r → ((x : Variables) → l ≢ Variable x)
    → ((x : Variables) → r ≢ Variable x) → AreRefuted ((l, r) ∷ [])
refuted_constants l r differ left right values kinds holds =
    differ (constant l values left
    ∙ (ap (λ v. Constant v) (All-head (Holds values) (l, r) [] holds) ∙ sym (constant r values right)))

-- ---- one more equation

module _ (es cur : List Sides) (n : ℕ) (e : Sides) (below : n < length es) (is : e ≡ get_or cur n e)
    (puts : PutsSolution es n es cur) where
  -- the equation as it was given
  given : Sides
  given = get_or es n e

  pub now_is : e ≡ resolved_both puts.stands (get_or es n e)
  now_is = is ∙ (ap (λ xs. get_or xs n e) puts.put ∙ get_or-map (resolved_both puts.stands) es n e e below)

  pub now_within_bounds : All AreWithinBounds es → AreWithinBounds e
  now_within_bounds all =
      let bounds = All-get_or AreWithinBounds es n e below all in
      subst AreWithinBounds (sym now_is) (
        bounds-resolved puts.stands (get_or es n e).0 puts.solves.bounds bounds.0,
        bounds-resolved puts.stands (get_or es n e).1 puts.solves.bounds bounds.1,
      )

  now_holds : (values : Assignment) → All (Holds values) es → Holds values e
  now_holds values holds =
      let kept = puts.solves.kept values holds in
      ap (λ z. worth values z.0) now_is
      ∙ (worth-resolved values puts.stands (get_or es n e).0 kept
      ∙ (All-get_or (Holds values) es n e below holds
      ∙ (sym (worth-resolved values puts.stands (get_or es n e).1 kept) ∙ sym (ap (λ z. worth values z.1) now_is))))

  now_of_kinds : (values : Assignment) → All (HasKinds values) es → All (Holds values) es → HasKinds values e
  now_of_kinds values kinds holds =
      let kept = puts.solves.kept values holds in
      let of = All-get_or (HasKinds values) es n e below kinds in
      subst (HasKinds values) (sym now_is) (
        ap kind_of (worth-resolved values puts.stands (get_or es n e).0 kept)
            ∙ (of.0 ∙ sym (kind-resolved puts.stands (get_or es n e).0 puts.solves.kinds)),
        ap kind_of (worth-resolved values puts.stands (get_or es n e).1 kept)
            ∙ (of.1 ∙ sym (kind-resolved puts.stands (get_or es n e).1 puts.solves.kinds)),
      )

  pub refuted_more : AreRefuted (e ∷ []) → AreRefuted es
  refuted_more refuted values kinds holds =
      refuted values (All-cons (HasKinds values) e [] (now_of_kinds values kinds holds) (All-nil (HasKinds values)))
      (All-cons (Holds values) e [] (now_holds values holds) (All-nil (Holds values)))

  equal_here : (later : Substitution) → Solves (e ∷ []) 1 later → (d : Sides)
      → resolved later (resolved puts.stands (get_or es n d).0) ≡ resolved later
      (resolved puts.stands (get_or es n d).1)
  equal_here later step d =
      let now : e ≡ resolved_both puts.stands (get_or es n d) = now_is
      ∙ ap (resolved_both puts.stands) (get_or_default es n e d below) in
      sym (ap (λ z. resolved later z.0) now) ∙ (step.equal 0 e (omega arith) ∙ ap (λ z. resolved later z.1) now)

  equal_now : (later : Substitution) → Solves (e ∷ []) 1 later → (k : ℕ) (d : Sides) → k < n + 1
      → resolved later (resolved puts.stands (get_or es k d).0) ≡ resolved later
      (resolved puts.stands (get_or es k d).1)
  equal_now later step k d lt =
      elim (cases_lt k n) [
        | inl before ↦ ap (resolved later) (puts.solves.equal k d before)
        | inr not_before ↦
            let here : n ≡ k = omega arith in
            subst (λ j. resolved later (resolved puts.stands (get_or es j d).0)
            ≡ resolved later (resolved puts.stands (get_or es j d).1)) here (equal_here later step d)
      ]

  equal_more : (later : Substitution) → Solves (e ∷ []) 1 later → (k : ℕ) (d : Sides) → k < n + 1
      → resolved (λ x. resolved later (puts.stands x)) (get_or es k d).0
      ≡ resolved (λ x. resolved later (puts.stands x)) (get_or es k d).1
  equal_more later step k d lt =
      resolved-twice puts.stands later (get_or es k d).0
      ∙ (equal_now later step k d lt ∙ sym (resolved-twice puts.stands later (get_or es k d).1))

  pub puts_more : (new : List Sides) → PutsSolution (e ∷ []) 1 cur new → PutsSolution es (n + 1) es new
  puts_more new step =
      record {
        stands = λ x. resolved step.stands (puts.stands x);
        solves = record {
          equal = equal_more step.stands step.solves;
          kinds = λ x. kind-resolved step.stands (puts.stands x) step.solves.kinds ∙ puts.solves.kinds x;
          bounds = λ x. bounds-resolved step.stands (puts.stands x) step.solves.bounds (puts.solves.bounds x);
          kept = λ values holds x. worth-resolved values step.stands (puts.stands x) (step.solves.kept values
              (All-cons (Holds values) e [] (now_holds values holds) (All-nil (Holds values))))
              ∙ puts.solves.kept values holds x;
        };
        put = step.put ∙ (ap (map (resolved_both step.stands)) puts.put ∙ map-twice puts.stands step.stands es);
      }
