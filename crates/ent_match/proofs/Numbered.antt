-- Statements by number.
use Rattle.std.proofs.Common.{◌≡◌, ◌⊎◌, ℕ, ◌+◌, ◌<◌, ◌≤◌, List, [], ◌∷◌, ◌++◌, take, length, get_or, sym, ◌∙◌, ap}
use Rattle.std.proofs.Common.{subst, arith, inl, inr}
use Rattle.std.specs.Prelude.{Contains}
use Rattle.std.proofs.lemmas.Bool.{cases_lt}
use Rattle.std.proofs.lemmas.List.{get_or_default, get_or-take, length-take, take_more, take_all}
use Rattle.std.proofs.lemmas.List.Elements.{Contains-push_cases, Contains-push, Contains-append_left}
use Rattle.ent_semantics.specs.Pool.{Posted}
use Rattle.ent_match.specs.Fault.{IsByNumber}

-- what stands at a place
pub at_place : (pool : List Posted) (x : Posted) (k : ℕ) (d : Posted) → k < length pool → get_or pool k x ≡ x
    → get_or pool k d ≡ x
at_place pool x k d below is = get_or_default pool k d x below ∙ is

pub same_member : (pool : List Posted) → IsByNumber pool → (x y : Posted) → Contains pool x → Contains pool y
    → x.tx ≡ y.tx → x ≡ y
same_member pool ordered x y (k, below_k, is_x) (j, below_j, is_y) same =
    elim (cases_lt k j) [
      | inl before ↦
          let less = ordered k j x before below_j in
          let at = at_place pool y j x below_j is_y in
          absurd (let less' : x.tx < y.tx =
          subst (λ z. z.tx < y.tx) is_x (subst (λ z. (get_or pool k x).tx < z.tx) at less) in omega arith)
      | inr not_before ↦ elim (cases_lt j k) [
        | inl after ↦
            let less = ordered j k y after below_k in
            let at = at_place pool x k y below_k is_x in
            absurd (let less' : y.tx < x.tx =
            subst (λ z. z.tx < x.tx) is_y (subst (λ z. (get_or pool j y).tx < z.tx) at less) in omega arith)
        | inr not_after ↦
            let here : k ≡ j = omega arith in
            sym is_x ∙ (ap (λ n. get_or pool n x) here ∙ at_place pool y j x below_j is_y)
      ]
    ]

pub in_front : (pool : List Posted) (n : ℕ) (x : Posted) → Contains (take n pool) x → Contains pool x
in_front pool n x (k, below, is) =
    let l = length-take n pool in
    let under : k < n = omega arith in
    (k, omega arith, sym (get_or-take n pool k x under) ∙ is)

pub front_cases : (pool : List Posted) (n : ℕ) (o x : Posted) → n < length pool → o ≡ get_or pool n o
    → Contains (take (n + 1) pool) x → Contains (take n pool) x ⊎ (o ≡ x)
front_cases pool n o x below is inside =
    Contains-push_cases (take n pool) o x
    (subst (λ xs. Contains xs x) (take_more pool n o below ∙ ap (λ z. take n pool ++ z ∷ []) (sym is)) inside)

pub front_more : (pool : List Posted) (n : ℕ) (o x : Posted) → n < length pool → o ≡ get_or pool n o
    → Contains (take n pool) x → Contains (take (n + 1) pool) x
front_more pool n o x below is inside =
    subst (λ xs. Contains xs x) (sym (take_more pool n o below ∙ ap (λ z. take n pool ++ z ∷ []) (sym is)))
    (Contains-append_left (take n pool) (o ∷ []) x inside)

pub front_last : (pool : List Posted) (n : ℕ) (o : Posted) → n < length pool → o ≡ get_or pool n o
    → Contains (take (n + 1) pool) o
front_last pool n o below is =
    subst (λ xs. Contains xs o) (sym (take_more pool n o below ∙ ap (λ z. take n pool ++ z ∷ []) (sym is)))
    (Contains-push (take n pool) o)

pub front_all : (pool : List Posted) (n : ℕ) (x : Posted) → length pool ≤ n → Contains pool x → Contains (take n pool) x
front_all pool n x all inside = subst (λ xs. Contains xs x) (sym (take_all n pool all)) inside

-- a statement stands before the one at a place, is it, or is of a greater transaction
pub data Stands (pool : List Posted) (n : ℕ) (o x : Posted) : Type 0 where
  before : Contains (take n pool) x → Stands pool n o x
  here : o ≡ x → Stands pool n o x
  after : o.tx < x.tx → Stands pool n o x

pub stands : (pool : List Posted) → IsByNumber pool → (n : ℕ) (o x : Posted) → n < length pool → o ≡ get_or pool n o
    → Contains pool x → Stands pool n o x
stands pool ordered n o x below is (k, below_k, is_x) =
    elim (cases_lt k n) [
      | inl first ↦
          let l = length-take n pool in
          before (k, omega arith, get_or-take n pool k x first ∙ is_x)
      | inr not_first ↦ elim (cases_lt n k) [
        | inl later ↦
            let less = ordered n k o later below_k in
            let at = at_place pool x k o below_k is_x in
            after (subst (λ z. z.tx < x.tx) (sym is) (subst (λ z. (get_or pool n o).tx < z.tx) at less))
        | inr not_later ↦
            let same : n ≡ k = omega arith in
            here (is ∙ (ap (λ j. get_or pool j o) same ∙ at_place pool x k o below_k is_x))
      ]
    ]

-- one in front is of a lesser transaction
pub front_less : (pool : List Posted) → IsByNumber pool → (n : ℕ) (o x : Posted) → n < length pool → o ≡ get_or pool n o
    → Contains (take n pool) x → x.tx < o.tx
front_less pool ordered n o x below is (k, below_k, is_x) =
    let l = length-take n pool in
    let under : k < n = omega arith in
    let at : get_or pool k x ≡ x = sym (get_or-take n pool k x under) ∙ is_x in
    let less = ordered k n x under below in
    let last : get_or pool n x ≡ o = get_or_default pool n x o below ∙ sym is in
    subst (λ z. x.tx < z.tx) last (subst (λ z. z.tx < (get_or pool n x).tx) at less)
