-- Names where they come first.
use Rattle.std.proofs.Common.{◌≡◌, Bool, true, false, not, ◌||◌, List, [], ◌∷◌, ◌++◌, cond, refl, sym, ap, ◌∙◌}
use Rattle.std.proofs.lemmas.List.{append-nil}
use Rattle.std.proofs.lemmas.List.Elements.{filter-append}
use Rattle.std.specs.List.{filter, list_any}
use Rattle.std.specs.Cmp.Lexicographic.{same_text}
use Rattle.ent_semantics.specs.Database.{Name, same_name}
use Rattle.ent_semantics.specs.Entangled.{first_of_each}

-- whether a name is among some
abbrev is_there : Name → List Name → Bool
is_there name names = list_any (λ other. same_name other name) names

-- some names without one
abbrev without : Name → List Name → List Name
without out names = filter (λ other. not (same_name out other)) names

-- a name goes out of some, and another is looked for
kept_by : (name out first : Name) (names : List Name) (test : Bool)
    → same_name out name ≡ false
    → same_name out first ≡ test
    → is_there name (without out names) ≡ is_there name names
    → is_there name (without out (first ∷ names)) ≡ is_there name (first ∷ names)
kept_by name out first names true other same rest =
    let differs : same_name first name ≡ false =
    ap (λ (n : Name). same_name n name) (sym (same_text out first (sym same))) ∙ other in
    rw same (rest ∙ sym (ap (λ b. b || is_there name names) differs))
kept_by name out first names false other same rest = rw same (ap (λ b. same_name first name || b) rest)

kept : (name out : Name) → same_name out name ≡ false → (names : List Name)
    → is_there name (without out names) ≡ is_there name names
kept name out other [] = refl
kept name out other (first ∷ names) =
    kept_by name out first names (same_name out first) other refl (kept name out other names)

there_by : (name first : Name) (names : List Name) (test : Bool)
    → same_name first name ≡ test
    → is_there name (first_of_each names) ≡ is_there name names
    → is_there name (first_of_each (first ∷ names)) ≡ is_there name (first ∷ names)
there_by name first names true same rest = rw same refl
there_by name first names false same rest = rw same (kept name first same (first_of_each names) ∙ rest)

-- the first of each are the same names
there : (name : Name) (names : List Name) → is_there name (first_of_each names) ≡ is_there name names
there name [] = refl
there name (first ∷ names) = there_by name first names (same_name first name) refl (there name names)

-- a name behind some, where it isn't there yet
last_by : (name first : Name) (before test : Bool)
    → same_name first name ≡ test
    → without first (cond before [] (name ∷ [])) ≡ cond (test || before) [] (name ∷ [])
last_by name first true true same = refl
last_by name first true false same = refl
last_by name first false true same = rw same refl
last_by name first false false same = rw same refl

one_more : (name : Name) (names : List Name)
    → first_of_each (names ++ name ∷ []) ≡ first_of_each names ++ cond (is_there name names) [] (name ∷ [])
one_more name [] = refl
one_more name (first ∷ names) =
    ap (λ (firsts : List Name). first ∷ without first firsts) (one_more name names)
    ∙ ap (λ (firsts : List Name). first ∷ firsts)
    (filter-append (λ other. not (same_name first other)) (first_of_each names) _
    ∙ ap (λ (firsts : List Name). without first (first_of_each names) ++ firsts)
    (last_by name first (is_there name names) (same_name first name) refl))

module _ (names firsts : List Name) (name : Name) (are : firsts ≡ first_of_each names) where
  behind : (test : Bool) → is_there name firsts ≡ test
      → first_of_each (names ++ name ∷ []) ≡ firsts ++ cond test [] (name ∷ [])
  behind test found =
      one_more name names
      ∙ ap (λ (firsts : List Name). firsts ++ cond (is_there name names) [] (name ∷ [])) (sym are)
      ∙ ap (λ b. firsts ++ cond b [] (name ∷ []))
      (sym (there name names) ∙ ap (is_there name) (sym are) ∙ found)

  pub with_new : is_there name firsts ≡ false → firsts ++ name ∷ [] ≡ first_of_each (names ++ name ∷ [])
  with_new new = sym (behind false new)

  pub with_old : is_there name firsts ≡ true → firsts ≡ first_of_each (names ++ name ∷ [])
  with_old old = sym (behind true old ∙ append-nil firsts)
