-- Reserved words by their initials.
use Rattle.std.proofs.Common.{◌≡◌, ℕ, Bool, true, false, cond, eqb, List, [], ◌∷◌, ap, sym, refl, ◌∙◌, ◌<◌, length}
use Rattle.std.proofs.Common.{arith, Option, Some, None, eq-eqb}
use Rattle.std.specs.Prelude.{slice_index, ◌==◌}
use Rattle.std.proofs.lemmas.Bool.{and_parts, eqb-true}
use Rattle.std.specs.List.{find, filter}
use Rattle.std.specs.Char.{to_ascii_uppercase}
use Rattle.ent_text.specs.declared.keyword.Keyword.{Keyword}
use Rattle.ent_text.specs.Keyword.{keyword_text}
use Rattle.ent_text.specs.Lexing.{keywords, keyword_of, is_written}

-- the first that passes is among those that may pass
find_filtered : (p q : Keyword → Bool) → ((k : Keyword) → p k ≡ true → q k ≡ true) → (ks : List Keyword)
    → find p (filter q ks) ≡ find p ks
find_filtered p q may [] = refl
find_filtered p q may (k ∷ ks) = on (find_filtered p q may ks) (q k) (p k) refl refl
  where
    on : find p (filter q ks) ≡ find p ks → (t u : Bool) → q k ≡ t → p k ≡ u
        → find p (cond t (k ∷ filter q ks) (filter q ks)) ≡ cond u (Some k) (find p ks)
    on others true u e f = ap (λ (v : Bool). cond v (Some k) (find p (filter q ks))) f
        ∙ ap (λ (o : Option Keyword). cond u (Some k) o) others
    on others false true e f = absurd (let h : q k ≡ true = may k f in cc)
    on others false false e f = others

begins_so : (b : ℕ) (bs capitals : List ℕ) → is_written (b ∷ bs) capitals ≡ true
    → (slice_index capitals 0 == to_ascii_uppercase b) ≡ true
begins_so b bs [] e = absurd cc
begins_so b bs (c ∷ cs) e =
    let h = and_parts (eqb (to_ascii_uppercase b) c) (is_written bs cs) e in
    eq-eqb c (to_ascii_uppercase b) (sym (eqb-true (to_ascii_uppercase b) c h.0))

-- the empty word isn't reserved
pub none_is_empty : (word : List ℕ) → length word < 1 → None ≡ keyword_of word
unfolding keyword_of
none_is_empty [] short = refl
none_is_empty (b ∷ bs) short = absurd (omega (arith, short))

-- a word is reserved just where it is one of those with its initial
pub by_initial : (word : List ℕ) → 0 < length word
    → find (λ keyword. is_written word (keyword_text keyword))
    (filter (λ keyword. slice_index (keyword_text keyword) 0 == to_ascii_uppercase (slice_index word 0)) keywords)
    ≡ keyword_of word
unfolding keyword_of
by_initial [] some = absurd (omega (arith, some))
by_initial (b ∷ bs) some = find_filtered (λ keyword. is_written (b ∷ bs) (keyword_text keyword))
    (λ keyword. slice_index (keyword_text keyword) 0 == to_ascii_uppercase b)
    (λ keyword e. begins_so b bs (keyword_text keyword) e) keywords

-- a word that is written so is as long
pub written_is_as_long : (word capitals : List ℕ) → is_written word capitals ≡ true → length word ≡ length capitals
written_is_as_long [] [] e = refl
written_is_as_long [] (c ∷ cs) e = absurd cc
written_is_as_long (b ∷ bs) [] e = absurd cc
written_is_as_long (b ∷ bs) (c ∷ cs) e =
    let h = and_parts (eqb (to_ascii_uppercase b) c) (is_written bs cs) e in
    omega (arith, written_is_as_long bs cs h.1)

-- a word of another length isn't written so
pub other_length : (word capitals : List ℕ) → (length word ≡ length capitals → ⊥) → false ≡ is_written word capitals
other_length word capitals other = on (is_written word capitals) refl
  where
    on : (t : Bool) → is_written word capitals ≡ t → false ≡ t
    on false e = refl
    on true e = absurd (other (written_is_as_long word capitals e))
