-- Who is in conflict with a request for locks, and what granting it and dropping locks make of the uses that are held.
use Rattle.std.proofs.Common.{◌≡◌, ◌≢◌, ℕ, zero, suc, ◌≤◌, ◌==◌, Bool, true, false, not, ◌&&◌, ◌||◌, if◌then◌else◌, min}
use Rattle.std.proofs.Common.{◌⊎◌, inl, inr, List, [], ◌∷◌, ◌++◌, refl, sym, ap, subst, ◌∙◌, arith, true≢false}
use Rattle.std.specs.Prelude.{Contains, IsTrue, Option, None, Some, ◌↔◌}
use Rattle.std.specs.List.{list_any}
use Rattle.std.specs.FinSet as finite
use Rattle.std.proofs.lemmas.Bool.{eqb-true, eq-eqb, ne_eqb, or_left, or_right}
use Rattle.std.proofs.lemmas.List.Elements.{Contains-append_left, Contains-append_right, Contains-append_cases}
use Rattle.ent_lists.specs.Elements.{and_both, not_so, or_cases}
use Rattle.ent_lock.specs.declared.mode.Mode.{Mode}
use Rattle.ent_lock.specs.declared.holders.Holder.{Holder}
use Rattle.ent_lock.specs.Mode.{in_conflict}
use Rattle.ent_lock.specs.Holders.{is_conflicting, lesser, least_conflicting}
use Rattle.ent_lock.specs.Use.{Use, Uses, Holds, Blocks, IsLeastIfAny, AddsUses, DropsUses, with_uses}
use Rattle.ent_lock.specs.Layout.{is_use_of_none}
use Rattle.ent_lock.proofs.Held.{the_use, use_total, is_use, is_use-true, is_use-itself, of_none_alike}

-- ---- numbers of a list

pub any_from_number : (x : ℕ) (xs : List ℕ) → Contains xs x → list_any (λ m. m == x) xs ≡ true
any_from_number x [] (k, within, e) = absurd (omega arith)
any_from_number x (y ∷ ys) (zero, within, e) = λ i. eq-eqb y x e i || list_any (λ m. m == x) ys
any_from_number x (y ∷ ys) (suc k, within, e) = ap (λ b. (y == x) || b) (any_from_number x ys (k, omega arith, e))
    ∙ or_true (y == x)
  where
    or_true : (a : Bool) → (a || true) ≡ true
    or_true true = refl
    or_true false = refl

pub number_from_any : (x : ℕ) (xs : List ℕ) → list_any (λ m. m == x) xs ≡ true → Contains xs x
number_from_any x [] = λ e. absurd (true≢false (sym e))
number_from_any x (y ∷ ys) =
    elim (y == x) as (λ b. (y == x) ≡ b → (b || list_any (λ m. m == x) ys) ≡ true → Contains (y ∷ ys) x) [
      | true ↦ λ same _. (0, omega arith, eqb-true y x same)
      | false ↦ λ _ later. Contains-append_right (y ∷ []) ys x (number_from_any x ys later)
    ] refl

not_any : (x : ℕ) (xs : List ℕ) → ¬ Contains xs x → not (list_any (λ m. m == x) xs) ≡ true
not_any x xs apart = ap not (not_so (list_any (λ m. m == x) xs) (λ e. apart (number_from_any x xs e)))

not_inside : (x : ℕ) (xs : List ℕ) → not (list_any (λ m. m == x) xs) ≡ true → ¬ Contains xs x
not_inside x xs none inside = true≢false (sym (sym (ap not (any_from_number x xs inside)) ∙ none))

-- ---- the least number of which a fact holds

pub least_same : (P Q : ℕ → Type 0) (o : Option ℕ) → ((v : ℕ) → P v → Q v) → ((v : ℕ) → Q v → P v) → IsLeastIfAny P o
    → IsLeastIfAny Q o
least_same P Q None to from h = λ v q. h v (from v q)
least_same P Q (Some x) to from h = (to x h.0, λ w q. h.1 w (from w q))

min_left : (x y w : ℕ) → x ≤ w → min x y ≤ w
min_left x y w h = omega arith

min_right : (x y w : ℕ) → y ≤ w → min x y ≤ w
min_right x y w h = omega arith

min_is : (x y : ℕ) → (min x y ≡ x) ⊎ (min x y ≡ y)
min_is x y = grind arith

pub least_either : (P Q : ℕ → Type 0) (a b : Option ℕ) → IsLeastIfAny P a → IsLeastIfAny Q b
    → IsLeastIfAny (λ v. P v ⊎ Q v) (lesser a b)
least_either P Q None None p q = λ v either. elim either [ inl h ↦ p v h | inr h ↦ q v h ]
least_either P Q None (Some y) p q = (inr q.0, λ w either. elim either [ inl h ↦ absurd (p w h) | inr h ↦ q.1 w h ])
least_either P Q (Some x) None p q = (inl p.0, λ w either. elim either [ inl h ↦ p.1 w h | inr h ↦ absurd (q w h) ])
least_either P Q (Some x) (Some y) p q = (
  elim (min_is x y) [ inl e ↦ inl (subst P (sym e) p.0) | inr e ↦ inr (subst Q (sym e) q.0) ],
  λ w either. elim either [ inl h ↦ min_left x y w (p.1 w h) | inr h ↦ min_right x y w (q.1 w h) ],
)

-- ---- the holders in conflict

abbrev pub holder_of : ℕ → Mode → Holder
holder_of v mode = record { holder = v; mode = mode }

abbrev pub Conflicting : ℕ → Mode → List ℕ → List Holder → ℕ → Type 0
Conflicting tx mode pass hs v =
    (theirs : Mode) × Contains hs (holder_of v theirs) × (is_conflicting tx mode pass (holder_of v theirs) ≡ true)

abbrev FirstConflicting : ℕ → Mode → List ℕ → Holder → ℕ → Type 0
FirstConflicting tx mode pass h v = (h.holder ≡ v) × (is_conflicting tx mode pass h ≡ true)

least_first : (tx : ℕ) (mode : Mode) (pass : List ℕ) (h : Holder)
    → IsLeastIfAny (FirstConflicting tx mode pass h) (if is_conflicting tx mode pass h then Some h.holder else None)
least_first tx mode pass h =
    elim (is_conflicting tx mode pass h) as (λ b. is_conflicting tx mode pass h ≡ b
    → IsLeastIfAny (FirstConflicting tx mode pass h) (if b then Some h.holder else None)) [
      | true ↦ λ e. ((refl, e), λ w it. omega (arith, it.0))
      | false ↦ λ e v it. true≢false (sym it.1 ∙ e)
    ] refl

conflicting_head : (tx : ℕ) (mode : Mode) (pass : List ℕ) (h : Holder) (hs : List Holder) (v : ℕ)
    → FirstConflicting tx mode pass h v ⊎ Conflicting tx mode pass hs v → Conflicting tx mode pass (h ∷ hs) v
conflicting_head tx mode pass h hs v (inl (same, conflicting)) =
    let whole : h ≡ holder_of v h.mode = λ i. holder_of (same i) h.mode in
    (h.mode, (0, omega arith, whole), ap (is_conflicting tx mode pass) (sym whole) ∙ conflicting)
conflicting_head tx mode pass h hs v (inr (theirs, inside, conflicting)) =
    (theirs, Contains-append_right (h ∷ []) hs (holder_of v theirs) inside, conflicting)

conflicting_cases : (tx : ℕ) (mode : Mode) (pass : List ℕ) (h : Holder) (hs : List Holder) (v : ℕ)
    → Conflicting tx mode pass (h ∷ hs) v → FirstConflicting tx mode pass h v ⊎ Conflicting tx mode pass hs v
conflicting_cases tx mode pass h hs v (theirs, (zero, within, e), conflicting) =
    inl (ap (λ (k : Holder). k.holder) e, ap (is_conflicting tx mode pass) e ∙ conflicting)
conflicting_cases tx mode pass h hs v (theirs, (suc k, within, e), conflicting) =
    inr (theirs, (k, omega arith, e), conflicting)

pub least_conflicting-IsLeastIfAny : (tx : ℕ) (mode : Mode) (pass : List ℕ) (hs : List Holder)
    → IsLeastIfAny (Conflicting tx mode pass hs) (least_conflicting tx mode pass hs)
least_conflicting-IsLeastIfAny tx mode pass [] = λ v it. nobody it
  where
    nobody : {v : ℕ} → Conflicting tx mode pass [] v → ⊥
    nobody (theirs, (k, within, e), conflicting) = absurd (omega arith)
least_conflicting-IsLeastIfAny tx mode pass (h ∷ hs) =
    least_same (λ v. FirstConflicting tx mode pass h v ⊎ Conflicting tx mode pass hs v)
    (Conflicting tx mode pass (h ∷ hs)) (least_conflicting tx mode pass (h ∷ hs))
    (conflicting_head tx mode pass h hs) (conflicting_cases tx mode pass h hs)
    (least_either (FirstConflicting tx mode pass h) (Conflicting tx mode pass hs)
    (if is_conflicting tx mode pass h then Some h.holder else None) (least_conflicting tx mode pass hs)
    (least_first tx mode pass h) (least_conflicting-IsLeastIfAny tx mode pass hs))

-- ---- who blocks

-- a transaction's use of one table is in conflict with one that is requested
abbrev pub BlocksOne : Uses → ℕ → List ℕ → Mode → List ℕ → ℕ → Type 0
BlocksOne held tx table mode pass v =
    (v ≢ tx) × ¬ Contains pass v × ((theirs : Mode) × Holds held v table theirs × IsTrue (in_conflict theirs mode))

way_parts : (tx : ℕ) (mode : Mode) (pass : List ℕ) (v : ℕ) (theirs : Mode)
    → is_conflicting tx mode pass (holder_of v theirs) ≡ true
    → (v ≢ tx) × ¬ Contains pass v × IsTrue (in_conflict theirs mode)
way_parts tx mode pass v theirs e =
    let first = and_both (not (v == tx)) (in_conflict theirs mode && not (list_any (λ m. m == v) pass)) e in
    let second = and_both (in_conflict theirs mode) (not (list_any (λ m. m == v) pass)) first.1 in
    (λ same. true≢false (sym (sym (ap not (eq-eqb v tx same)) ∙ first.0)), not_inside v pass second.1, second.0)

way_whole : (tx : ℕ) (mode : Mode) (pass : List ℕ) (v : ℕ) (theirs : Mode) → (v ≢ tx) → ¬ Contains pass v
    → IsTrue (in_conflict theirs mode) → is_conflicting tx mode pass (holder_of v theirs) ≡ true
way_whole tx mode pass v theirs other apart conflict =
    λ i. ap not (ne_eqb v tx other) i && (conflict i && not_any v pass apart i)

conflicting_blocks : (held : Uses) (tx : ℕ) (table : List ℕ) (mode : Mode) (pass : List ℕ) (hs : List Holder) →
    ((v : ℕ) (theirs : Mode) → Contains hs (holder_of v theirs) ↔ Holds held v table theirs) → (v : ℕ)
    → Conflicting tx mode pass hs v → BlocksOne held tx table mode pass v
conflicting_blocks held tx table mode pass hs holders v (theirs, inside, conflicting) =
    let parts = way_parts tx mode pass v theirs conflicting in
    (parts.0, parts.1, (theirs, (holders v theirs).0 inside, parts.2))

blocks_conflicting : (held : Uses) (tx : ℕ) (table : List ℕ) (mode : Mode) (pass : List ℕ) (hs : List Holder) →
    ((v : ℕ) (theirs : Mode) → Contains hs (holder_of v theirs) ↔ Holds held v table theirs) → (v : ℕ)
    → BlocksOne held tx table mode pass v → Conflicting tx mode pass hs v
blocks_conflicting held tx table mode pass hs holders v (other, apart, (theirs, there, conflict)) =
    (theirs, (holders v theirs).1 there, way_whole tx mode pass v theirs other apart conflict)

pub least_of_one : (held : Uses) (tx : ℕ) (table : List ℕ) (mode : Mode) (pass : List ℕ) (hs : List Holder) →
    ((v : ℕ) (theirs : Mode) → Contains hs (holder_of v theirs) ↔ Holds held v table theirs)
    → IsLeastIfAny (BlocksOne held tx table mode pass) (least_conflicting tx mode pass hs)
least_of_one held tx table mode pass hs holders =
    least_same (Conflicting tx mode pass hs) (BlocksOne held tx table mode pass) (least_conflicting tx mode pass hs)
    (conflicting_blocks held tx table mode pass hs holders) (blocks_conflicting held tx table mode pass hs holders)
    (least_conflicting-IsLeastIfAny tx mode pass hs)

blocks_more : (held : Uses) (tx : ℕ) (a : List ℕ × Mode) (asked : List (List ℕ × Mode)) (pass : List ℕ) (v : ℕ)
    → Blocks held tx asked pass v ⊎ BlocksOne held tx a.0 a.1 pass v → Blocks held tx (asked ++ a ∷ []) pass v
blocks_more held tx a asked pass v (inl (other, apart, (table, mode, theirs, inside, there, conflict))) =
    (other, apart, (table, mode, theirs, Contains-append_left asked (a ∷ []) (table, mode) inside, there, conflict))
blocks_more held tx a asked pass v (inr (other, apart, (theirs, there, conflict))) =
    (other, apart, (a.0, a.1, theirs, Contains-append_right asked (a ∷ []) a (0, omega arith, refl), there, conflict))

blocks_cases : (held : Uses) (tx : ℕ) (a : List ℕ × Mode) (asked : List (List ℕ × Mode)) (pass : List ℕ) (v : ℕ)
    → Blocks held tx (asked ++ a ∷ []) pass v → Blocks held tx asked pass v ⊎ BlocksOne held tx a.0 a.1 pass v
blocks_cases held tx a asked pass v (other, apart, (table, mode, theirs, inside, there, conflict)) =
    elim (Contains-append_cases asked (a ∷ []) (table, mode) inside) [
      | inl before ↦ inl (other, apart, (table, mode, theirs, before, there, conflict))
      | inr last ↦
          let here = subst (λ (b : List ℕ × Mode). Holds held v b.0 theirs × IsTrue (in_conflict theirs b.1))
          (sym (only last)) (there, conflict) in
          inr (other, apart, (theirs, here.0, here.1))
    ]
  where
    only : {b : List ℕ × Mode} → Contains (a ∷ []) b → a ≡ b
    only (zero, within, e) = e
    only (suc k, within, e) = absurd (omega arith)

pub least_of_more : (held : Uses) (tx : ℕ) (a : List ℕ × Mode) (asked : List (List ℕ × Mode)) (pass : List ℕ)
    (o p : Option ℕ) →
    IsLeastIfAny (Blocks held tx asked pass) o → IsLeastIfAny (BlocksOne held tx a.0 a.1 pass) p
    → IsLeastIfAny (Blocks held tx (asked ++ a ∷ []) pass) (lesser o p)
least_of_more held tx a asked pass o p before last =
    least_same (λ v. Blocks held tx asked pass v ⊎ BlocksOne held tx a.0 a.1 pass v)
    (Blocks held tx (asked ++ a ∷ []) pass) (lesser o p)
    (blocks_more held tx a asked pass) (blocks_cases held tx a asked pass)
    (least_either (Blocks held tx asked pass) (BlocksOne held tx a.0 a.1 pass) o p before last)

pub nobody_blocks : (held : Uses) (tx : ℕ) (pass : List ℕ) (v : ℕ) → ¬ Blocks held tx [] pass v
nobody_blocks held tx pass v (other, apart, (table, mode, theirs, (k, within, e), there, conflict)) =
    absurd (omega arith)

-- ---- uses that are added

added_back : (held : Uses) (tx : ℕ) (asked : List (List ℕ × Mode)) (v : ℕ) (table : List ℕ) (mode : Mode)
    → Holds (with_uses held tx asked) v table mode
    → Holds held v table mode ⊎ ((v ≡ tx) × Contains asked (table, mode))
added_back held tx [] v table mode h = inl h
added_back held tx (a ∷ asked) v table mode h =
    let q = the_use v table mode in
    let u = the_use tx a.0 a.1 in
    elim (added_back (finite.insert held u) tx asked v table mode h) [
      | inl there ↦ elim (or_cases (is_use q u) (finite.contains held q)
          (sym (finite.contains-insert use_total held u q) ∙ there)) [
            | inl same ↦
                let e = is_use-true q u same in
                let pair : a ≡ (table, mode) =
                λ i. (ap (λ (w : Use). w.table) (sym e) i, ap (λ (w : Use). w.mode) (sym e) i) in
                inr (ap (λ (w : Use). w.holder) e, (0, omega arith, pair))
            | inr before ↦ inl before
          ]
      | inr later ↦ inr (later.0, Contains-append_right (a ∷ []) asked (table, mode) later.1)
    ]

added_from : (held : Uses) (tx : ℕ) (asked : List (List ℕ × Mode)) (v : ℕ) (table : List ℕ) (mode : Mode)
    → Holds held v table mode ⊎ ((v ≡ tx) × Contains asked (table, mode))
    → Holds (with_uses held tx asked) v table mode
added_from held tx [] v table mode (inl h) = h
added_from held tx [] v table mode (inr (same, (k, within, e))) = absurd (omega arith)
added_from held tx (a ∷ asked) v table mode (inl h) =
    let q = the_use v table mode in
    let u = the_use tx a.0 a.1 in
    added_from (finite.insert held u) tx asked v table mode
    (inl (finite.contains-insert use_total held u q ∙ or_right (is_use q u) (finite.contains held q) h))
added_from held tx (a ∷ asked) v table mode (inr (same, (zero, within, e))) =
    let q = the_use v table mode in
    let u = the_use tx a.0 a.1 in
    let it : q ≡ u = λ i. the_use (same i) (ap (λ (b : List ℕ × Mode). b.0) (sym e) i)
    (ap (λ (b : List ℕ × Mode). b.1) (sym e) i) in
    added_from (finite.insert held u) tx asked v table mode
    (inl (finite.contains-insert use_total held u q ∙ or_left (is_use q u) (finite.contains held q)
    (is_use-itself q u it)))
added_from held tx (a ∷ asked) v table mode (inr (same, (suc k, within, e))) =
    added_from (finite.insert held (the_use tx a.0 a.1)) tx asked v table mode (inr (same, (k, omega arith, e)))

pub with_uses-AddsUses : (held : Uses) (tx : ℕ) (asked : List (List ℕ × Mode))
    → AddsUses held (with_uses held tx asked) tx asked
with_uses-AddsUses held tx asked v table mode =
    (added_back held tx asked v table mode, added_from held tx asked v table mode)

-- ---- uses that are dropped

pub retain-DropsUses : (held : Uses) (members : List ℕ)
    → DropsUses held (finite.retain held (is_use_of_none members)) members
retain-DropsUses held members v table mode =
    let q = the_use v table mode in
    let is = finite.contains-retain held (is_use_of_none members) q (λ u tie. of_none_alike members q u tie) in (
      λ there.
          let parts = and_both (finite.contains held q) (is_use_of_none members q) (sym is ∙ there) in
          (parts.0, not_inside v members parts.1),
      λ kept. is ∙ (λ i. kept.0 i && not_any v members kept.1 i),
    )
