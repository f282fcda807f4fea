-- Marks that go along links.
use Rattle.std.proofs.Common.{◌≡◌, ◌≢◌, ◌⊎◌, ℕ, zero, suc, ◌+◌, ◌<◌, ◌≤◌, Bool, true, false, List, [], ◌∷◌, ◌++◌}
use Rattle.std.proofs.Common.{take, set, length, get_or, refl, sym, ◌∙◌, ap, subst, arith, inl, inr, true≢false}
use Rattle.std.specs.Prelude.{Contains, MatchBool}
use Rattle.std.proofs.lemmas.Bool.{cases_lt}
use Rattle.std.proofs.lemmas.List.{get_or-set_same, get_or-set_other, length-set, take_more, take_all}
use Rattle.std.proofs.lemmas.List.Elements.{Contains-push_cases}
use Rattle.ent_match.specs.declared.link.Link.{Link}
use Rattle.ent_match.specs.Links.{IsMarked, PathIn, Grows, Closed, unmarked}

pub same_or_not : (a b : ℕ) → (a ≡ b) ⊎ (a ≢ b)
same_or_not a b =
    elim (cases_lt a b) [
      | inl less ↦ inr (λ e. omega arith)
      | inr not_less ↦ elim (cases_lt b a) [ inl more ↦ inr (λ e. omega arith) | inr not_more ↦ inl (omega arith) ]
    ]

pub unmarked-set : (marks : List Bool) (i : ℕ) → i < length marks → get_or marks i false ≡ false
    → unmarked (set marks i true) < unmarked marks
unmarked-set [] i below is = absurd (omega arith)
unmarked-set (true ∷ marks) zero below is = absurd (true≢false is)
unmarked-set (false ∷ marks) zero below is = omega arith
unmarked-set (true ∷ marks) (suc i) below is = unmarked-set marks i (omega arith) is
unmarked-set (false ∷ marks) (suc i) below is = let less = unmarked-set marks i (omega arith) is in omega arith

pub grows_none : (links : List Link) (marks : List Bool) → Grows links marks marks
grows_none links marks =
    record {
      room = refl;
      kept = λ place is. is;
      reached =
          λ place is. record { first = place; marked = is; steps = 0; path = refl };
    }

-- a place is marked to which a link leads from a marked one
module _ (links : List Link) (old cur : List Bool) (link : Link) (inside : Contains links link)
    (grows : Grows links old cur)
    (from : IsMarked cur link.from) (below : link.to < length cur) where
  new_mark : (place : ℕ) → IsMarked (set cur link.to true) place → (link.to ≡ place) ⊎ IsMarked cur place
  new_mark place is =
      elim (same_or_not link.to place) [
        | inl same ↦ inl same
        | inr other ↦ inr (sym (get_or-set_other cur link.to place true false (λ e. other (sym e))) ∙ is)
      ]

  pub mark_grows : Grows links old (set cur link.to true)
  mark_grows =
      record {
        room = length-set cur link.to true ∙ grows.room;
        kept = λ place is. still place (grows.kept place is);
        reached = λ place is. elim (new_mark place is) [
          | inl same ↦
              let r = grows.reached link.from from in
              record { first = r.first; marked = r.marked; steps = suc r.steps; path = (link, inside, same, r.path) }
          | inr before ↦ grows.reached place before
        ];
      }
    where
      still : (place : ℕ) → IsMarked cur place → IsMarked (set cur link.to true) place
      still place is =
          elim (same_or_not link.to place) [
            | inl same ↦ subst (λ p. IsMarked (set cur link.to true) p) same
                (get_or-set_same cur link.to true false below)
            | inr other ↦ get_or-set_other cur link.to place true false (λ e. other (sym e)) ∙ is
          ]

  pub mark_less : get_or cur link.to false ≡ false → unmarked (set cur link.to true) < unmarked cur
  mark_less is = unmarked-set cur link.to below is

-- what is found out in a round: nothing yet, or a new mark
abbrev pub SoFar : List Link → List Bool → List Bool → Bool → Type 0
SoFar front old cur true = unmarked cur < unmarked old
SoFar front old cur false = (cur ≡ old) × Closed front old

pub front_cases : (links : List Link) (n : ℕ) (o x : Link) → n < length links → o ≡ get_or links n o
    → Contains (take (n + 1) links) x → Contains (take n links) x ⊎ (o ≡ x)
front_cases links n o x below is inside =
    Contains-push_cases (take n links) o x
    (subst (λ xs. Contains xs x) (take_more links n o below ∙ ap (λ z. take n links ++ z ∷ []) (sym is)) inside)

-- a link that marks nothing
pub passes : (links : List Link) (n : ℕ) (o : Link) (old cur : List Bool) (b : Bool) → n < length links
    → o ≡ get_or links n o
    → SoFar (take n links) old cur b → (IsMarked cur o.from → IsMarked cur o.to) → SoFar (take (n + 1) links) old cur b
passes links n o old cur true below is so_far leads = so_far
passes links n o old cur false below is (same, closed) leads = (
  same,
  λ link inside from. elim (front_cases links n o link below is inside) [
    | inl front ↦ closed link front from
    | inr last ↦
        let leads_old = subst (λ xs. IsMarked xs o.from → IsMarked xs o.to) same leads in
        subst (λ (l : Link). IsMarked old l.from → IsMarked old l.to) last leads_old from
  ],
)

-- a link that marks a place
pub marks_one : (links : List Link) (n : ℕ) (old cur new : List Bool) (b : Bool) → SoFar (take n links) old cur b
    → unmarked new < unmarked cur → SoFar (take (n + 1) links) old new true
marks_one links n old cur new true so_far less = omega arith
marks_one links n old cur new false (same, closed) less = subst (λ xs. unmarked new < unmarked xs) same less

pub ends : (links : List Link) (n : ℕ) (old cur : List Bool) → length links ≤ n → SoFar (take n links) old cur false
    → Closed links cur
ends links n old cur all (same, closed) =
    subst (Closed links) (sym same)
    (λ link inside. closed link (subst (λ xs. Contains xs link) (sym (take_all n links all)) inside))

-- ---- round after round

pub path-append : (links : List Link) (n m : ℕ) (first mid last : ℕ) → PathIn links n first mid
    → PathIn links m mid last
    → (k : ℕ) × PathIn links k first last
path-append links n zero first mid last front is = (n, subst (PathIn links n first) is front)
path-append links n (suc m) first mid last front (link, inside, to, path) =
    let rest = path-append links n m first mid link.from front path in (suc rest.0, (link, inside, to, rest.1))

pub grows_more : (links : List Link) (old mid new : List Bool) → Grows links old mid → Grows links mid new
    → Grows links old new
grows_more links old mid new one other =
    record {
      room = other.room ∙ one.room;
      kept = λ place is. other.kept place (one.kept place is);
      reached = λ place is.
          let late = other.reached place is in
          let early = one.reached late.first late.marked in
          let path = path-append links early.steps late.steps early.first late.first place early.path late.path in
          record { first = early.first; marked = early.marked; steps = path.0; path = path.1 };
    }

pub ended : (links : List Link) (n : ℕ) (old cur : List Bool) (b : Bool) → length links ≤ n
    → SoFar (take n links) old cur b
    → MatchBool b (unmarked cur < unmarked old) (Closed links cur)
ended links n old cur true all less = less
ended links n old cur false all so_far = ends links n old cur all so_far
