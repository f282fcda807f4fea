-- The marked statements of a list from a place on.
use Rattle.std.proofs.Common.{◌≡◌, ℕ, zero, suc, ◌+◌, ◌<◌, ◌≤◌, Bool, true, false, List, [], ◌∷◌, ◌++◌, drop, length}
use Rattle.std.proofs.Common.{map}
use Rattle.std.proofs.Common.{get_or, refl, sym, ◌∙◌, ap, arith, true≢false, Option, None}
use Rattle.std.specs.Prelude.{◌==◌, IsTrue}
use Rattle.std.proofs.lemmas.Bool.{eq-eqb, eqb-true}
use Rattle.std.proofs.lemmas.List.{append_assoc, append-nil}
use Rattle.ent_lists.proofs.Numbers.{plus_one}
use Rattle.ent_semantics.specs.Pool.{Posted}
use Rattle.ent_match.specs.Components.{begins_at, marked_in}
use Rattle.ent_match.specs.Links.{IsMarked}

-- the marks of a component
pub marks_at : (firsts : List (Option ℕ)) (place k : ℕ)
    → get_or (map (begins_at place) firsts) k false ≡ begins_at place (get_or firsts k None)
marks_at [] place k = refl
marks_at (first ∷ firsts) place zero = refl
marks_at (first ∷ firsts) place (suc k) = marks_at firsts place k

-- those from a place on
abbrev pub rest_of : List Bool → ℕ → List Posted → List Posted
rest_of marks n pool = marked_in (drop n marks) (drop n pool)

nothing : (marks : List Bool) → marked_in marks [] ≡ []
nothing [] = refl
nothing (b ∷ marks) = refl

rest_nothing : (marks : List Bool) (n : ℕ) → rest_of marks n [] ≡ []
rest_nothing marks zero = nothing marks
rest_nothing [] (suc n) = refl
rest_nothing (b ∷ marks) (suc n) = nothing (drop n marks)

rest_next : (marks : List Bool) (pool : List Posted) (n : ℕ) (o : Posted) → n < length pool → o ≡ get_or pool n o
    → IsMarked marks n → rest_of marks n pool ≡ o ∷ rest_of marks (suc n) pool
rest_next [] pool n o below is marked = absurd (true≢false (sym marked))
rest_next (b ∷ marks) [] n o below is marked = absurd (omega arith)
rest_next (true ∷ marks) (m ∷ pool) zero o below is marked = ap (λ z. z ∷ marked_in marks pool) (sym is)
rest_next (false ∷ marks) (m ∷ pool) zero o below is marked = absurd (true≢false (sym marked))
rest_next (b ∷ marks) (m ∷ pool) (suc n) o below is marked = rest_next marks pool n o (omega arith) is marked

rest_passed : (marks : List Bool) (pool : List Posted) (n : ℕ) → get_or marks n false ≡ false
    → rest_of marks n pool ≡ rest_of marks (suc n) pool
rest_passed [] pool zero unmarked = refl
rest_passed [] pool (suc n) unmarked = refl
rest_passed (b ∷ marks) [] n unmarked = rest_nothing (b ∷ marks) n ∙ sym (rest_nothing (b ∷ marks) (suc n))
rest_passed (true ∷ marks) (m ∷ pool) zero unmarked = absurd (true≢false unmarked)
rest_passed (false ∷ marks) (m ∷ pool) zero unmarked = refl
rest_passed (b ∷ marks) (m ∷ pool) (suc n) unmarked = rest_passed marks pool n unmarked

pub rest_more : (marks : List Bool) (pool : List Posted) (n : ℕ) (o : Posted) → n < length pool → o ≡ get_or pool n o
    → IsMarked marks n → rest_of marks n pool ≡ o ∷ rest_of marks (n + 1) pool
rest_more marks pool n o below is marked =
    rest_next marks pool n o below is marked ∙ ap (λ k. o ∷ rest_of marks k pool) (sym (plus_one n))

pub rest_same : (marks : List Bool) (pool : List Posted) (n : ℕ) → get_or marks n false ≡ false
    → rest_of marks n pool ≡ rest_of marks (n + 1) pool
rest_same marks pool n unmarked = rest_passed marks pool n unmarked ∙ ap (λ k. rest_of marks k pool) (sym (plus_one n))

-- there is none behind the last
pub rest_none : (marks : List Bool) (pool : List Posted) (n : ℕ) → length pool ≤ n → rest_of marks n pool ≡ []
rest_none marks [] n all = rest_nothing marks n
rest_none [] (m ∷ pool) zero all = absurd (omega arith)
rest_none [] (m ∷ pool) (suc n) all = refl
rest_none (b ∷ marks) (m ∷ pool) zero all = absurd (omega arith)
rest_none (b ∷ marks) (m ∷ pool) (suc n) all = rest_none marks pool n (omega arith)

-- they are all where none before is marked
pub rest_whole : (marks : List Bool) (pool : List Posted) (n : ℕ) → ((k : ℕ) → IsMarked marks k → n ≤ k)
    → rest_of marks n pool ≡ marked_in marks pool
rest_whole marks [] n least = rest_nothing marks n ∙ sym (nothing marks)
rest_whole marks (m ∷ pool) zero least = refl
rest_whole [] (m ∷ pool) (suc n) least = refl
rest_whole (true ∷ marks) (m ∷ pool) (suc n) least = absurd (let l = least 0 refl in omega arith)
rest_whole (false ∷ marks) (m ∷ pool) (suc n) least =
    rest_whole marks pool n (λ k marked. let l = least (suc k) marked in omega arith)

-- ---- statement by statement

pub put_next : (marks : List Bool) (pool : List Posted) (i : ℕ) (o member : Posted) (list new whole : List Posted)
    → i < length pool → o ≡ get_or pool i o → member ≡ o → IsMarked marks i → new ≡ list ++ member ∷ []
    → list ++ rest_of marks i pool ≡ whole → new ++ rest_of marks (i + 1) pool ≡ whole
put_next marks pool i o member list new whole below is same marked pushed so_far =
    let rest = rest_of marks (i + 1) pool in
    ap (λ xs. xs ++ rest) (pushed ∙ ap (λ x. list ++ x ∷ []) same)
    ∙ (append_assoc list (o ∷ []) rest
    ∙ (ap (λ xs. list ++ xs) (sym (rest_more marks pool i o below is marked)) ∙ so_far))

pub put_none : (marks : List Bool) (pool : List Posted) (i : ℕ) (list whole : List Posted)
    → get_or marks i false ≡ false → list ++ rest_of marks i pool ≡ whole → list ++ rest_of marks (i + 1) pool ≡ whole
put_none marks pool i list whole unmarked so_far =
    ap (λ xs. list ++ xs) (sym (rest_same marks pool i unmarked)) ∙ so_far

pub put_all : (marks : List Bool) (pool : List Posted) (i : ℕ) (list whole : List Posted) → length pool ≤ i
    → list ++ rest_of marks i pool ≡ whole → list ≡ whole
put_all marks pool i list whole all so_far =
    sym (append-nil list) ∙ (ap (λ xs. list ++ xs) (sym (rest_none marks pool i all)) ∙ so_far)

-- ---- statements that are compared with others

tail_is : (o a : Posted) (more others : List Posted) → a ∷ others ≡ o ∷ more → more ≡ others
tail_is o a more others is = cc

next_of : (asked : List Posted) (n : ℕ) (o : Posted) (more : List Posted) → drop n asked ≡ o ∷ more
    → more ≡ drop (suc n) asked
next_of [] zero o more is = let e : [] ≡ o ∷ more = is in absurd cc
next_of [] (suc n) o more is = let e : [] ≡ o ∷ more = is in absurd cc
next_of (a ∷ asked) zero o more is = tail_is o a more asked is
next_of (a ∷ asked) (suc n) o more is = next_of asked n o more is

pub next_within : (asked : List Posted) (n : ℕ) (o : Posted) (more : List Posted) → drop n asked ≡ o ∷ more
    → n < length asked
next_within [] zero o more is = let e : [] ≡ o ∷ more = is in absurd cc
next_within [] (suc n) o more is = let e : [] ≡ o ∷ more = is in absurd cc
next_within (a ∷ asked) zero o more is = omega arith
next_within (a ∷ asked) (suc n) o more is = let below = next_within asked n o more is in omega arith

-- what is left decides whether statements are the asked ones
pub record Decides (rest : List Posted) (n : ℕ) (asked whole : List Posted) : Type 0 where
  pub there : whole ≡ asked → rest ≡ drop n asked
  pub back : rest ≡ drop n asked → whole ≡ asked

pub decides_next : (asked whole rest more : List Posted) (n : ℕ) (o : Posted) → rest ≡ o ∷ more
    → drop n asked ≡ o ∷ drop (n + 1) asked → Decides rest n asked whole → Decides more (n + 1) asked whole
decides_next asked whole rest more n o is next decides =
    record {
      there = λ same. tail_is o o more (drop (n + 1) asked) (sym (decides.there same ∙ next) ∙ is);
      back = λ same. decides.back (is ∙ (ap (λ xs. o ∷ xs) same ∙ sym next));
    }

pub decides_not : (asked whole rest more : List Posted) (n : ℕ) (o : Posted) → rest ≡ o ∷ more
    → (drop n asked ≡ o ∷ drop (n + 1) asked → ⊥) → Decides rest n asked whole → whole ≡ asked → ⊥
decides_not asked whole rest more n o is differs decides same =
    let starts : drop n asked ≡ o ∷ more = sym (decides.there same) ∙ is in
    let tail : more ≡ drop (n + 1) asked = next_of asked n o more starts ∙ ap (λ k. drop k asked) (sym (plus_one n)) in
    differs (starts ∙ ap (λ xs. o ∷ xs) tail)

pub decides_same : (asked whole rest more : List Posted) (n : ℕ) → rest ≡ more → Decides rest n asked whole
    → Decides more n asked whole
decides_same asked whole rest more n is decides =
    record { there = λ same. sym is ∙ decides.there same; back = λ same. decides.back (is ∙ same) }

none_left : (asked : List Posted) → drop (length asked) asked ≡ []
none_left [] = refl
none_left (a ∷ asked) = none_left asked

all_left : (asked : List Posted) (n : ℕ) → n ≤ length asked → [] ≡ drop n asked → n ≡ length asked
all_left [] n most is = omega arith
all_left (a ∷ asked) zero most is = let e : [] ≡ a ∷ asked = is in absurd cc
all_left (a ∷ asked) (suc n) most is = let same = all_left asked n (omega arith) is in omega arith

pub decided : (asked whole rest : List Posted) (n : ℕ) → n ≤ length asked → rest ≡ [] → Decides rest n asked whole
    → (IsTrue (n == length asked) → whole ≡ asked) × (whole ≡ asked → IsTrue (n == length asked))
decided asked whole rest n most ends decides = (
  λ is.
      let same : n ≡ length asked = eqb-true n (length asked) is in
      decides.back (ends ∙ (sym (none_left asked) ∙ ap (λ k. drop k asked) (sym same))),
  λ same. eq-eqb n (length asked) (all_left asked n most (sym ends ∙ decides.there same)),
)
