-- Reading on behind things that were read, as a loop does.
use Rattle.std.proofs.Common.{◌≡◌, ℕ, zero, suc, ◌-◌, Bool, true, false, List, [], ◌∷◌, ◌++◌, drop, Ok, Err, refl, sym}
use Rattle.std.proofs.Common.{ap, ◌∙◌, append_assoc, arith, length}
use Rattle.std.proofs.lemmas.List.{append-nil}
use Rattle.ent_text.specs.declared.token.Token.{Token}
use Rattle.ent_text.specs.declared.token.TokenKind.{TokenKind}
use Rattle.ent_text.specs.declared.grammar_fault.GrammarFault.{GrammarFault}
use Rattle.ent_text.specs.declared.grammar_fault.GrammarFault.TheVariants.{Unexpected, TooMany}
use Rattle.ent_value.specs.declared.refusal.Refusal.{Refusal}
use Rattle.ent_value.specs.declared.refusal.Refusal.TheVariants as errors
use Rattle.ent_value.specs.Refusal.{◌>>=◌, Refuses}
use Rattle.ent_text.specs.Read.{Read, place_of, begins}
use Rattle.ent_text.specs.List.{joined, more_at, many_at}

-- what was read before, and what is still read
abbrev pub with_front : {A : Type 0} → List A → Read (List A) → Read (List A)
with_front front read = read >>= λ x. Ok (front ++ x.0, x.1)

regroup : {A : Type 0} (front : List A) (x : A) (read : Read (List A))
    → with_front front (joined x read) ≡ with_front (front ++ x ∷ []) read
regroup {A} front x (Ok xs) =
    ap (λ (y : List A). let r : Read (List A) = Ok (y, xs.1) in r) (sym (append_assoc front (x ∷ []) xs.0))
regroup front x (Err f) = refl

nothing_front : {A : Type 0} (read : Read (List A)) → with_front [] read ≡ read
nothing_front (Ok xs) = refl
nothing_front (Err f) = refl

module _ {A : Type 0} (divides starts : TokenKind → Bool) (item : ℕ → List Token → Read A) (end : ℕ) where
  abbrev pub More : List A → ℕ → List Token → Read (List A) → Type 0
  More items left rest total = with_front items (more_at divides starts item end left rest) ≡ total

  pub more_start : (items : List A) (limit left : ℕ) (ts : List Token) → left ≡ limit - length items
      → More items left ts (with_front items (more_at divides starts item end (limit - length items) ts))
  more_start items limit left ts e = rw e refl

  pub more_on : (items new : List A) (left : ℕ) (rest next after : List Token) (x : A) (total : Read (List A))
      → begins divides rest ≡ true → (left ≡ 0 → ⊥) → next ≡ drop 1 rest → item end next ≡ Ok (x, after)
      → new ≡ items ++ x ∷ []
      → More items left rest total → More new (left - 1) after total
  unfolding more_at
  more_on items new zero rest next after x total b some is e pushed kept = absurd (some refl)
  more_on items new (suc left) rest next after x total b some is e pushed kept =
      let here : item end (drop 1 rest) ≡ Ok (x, after) = ap (item end) (sym is) ∙ e in
      let one : with_front items (more_at divides starts item end (suc left) rest) ≡ with_front (items ++ x ∷ [])
      (more_at divides starts item end left after) =
      rw (b, here) (regroup items x (more_at divides starts item end left after)) in
      let same : suc left - 1 ≡ left = omega arith in
      rw (pushed, same) (sym one ∙ kept)

  pub more_fault : (e : Refusal GrammarFault) (items : List A) (left : ℕ) (rest next : List Token)
      (total : Read (List A)) → begins divides rest ≡ true → (left ≡ 0 → ⊥) → next ≡ drop 1 rest
      → Refuses e (item end next) → More items left rest total → Refuses e total
  unfolding more_at
  more_fault errors.Memory items left rest next total b some is h kept = tt
  more_fault (errors.Fault f) items zero rest next total b some is h kept = absurd (some refl)
  more_fault (errors.Fault f) items (suc left) rest next total b some is h kept =
      let here : item end (drop 1 rest) ≡ Err f = ap (item end) (sym is) ∙ h in
      let one : with_front items (more_at divides starts item end (suc left) rest) ≡ Err f = rw (b, here) refl in
      sym kept ∙ one

  pub more_too_many : (items : List A) (left : ℕ) (rest next : List Token) (total : Read (List A)) → left ≡ 0
      → begins divides rest ≡ true → next ≡ drop 1 rest → begins starts next ≡ true → More items left rest total
      → total ≡ Err (TooMany (place_of end next))
  unfolding more_at
  more_too_many items (suc left) rest next total none b is h kept = absurd (omega arith)
  more_too_many items zero rest next total none b is h kept =
      let here : begins starts (drop 1 rest) ≡ true = ap (begins starts) (sym is) ∙ h in
      let one : with_front items (more_at divides starts item end 0 rest) ≡ Err (TooMany (place_of end (drop 1 rest))) =
      rw (b, here) refl in
      sym kept ∙ one ∙ ap (λ (ts : List Token). let r : Read (List A) = Err (TooMany (place_of end ts)) in r) (sym is)

  pub more_unexpected : (items : List A) (left : ℕ) (rest next : List Token) (total : Read (List A)) → left ≡ 0
      → begins divides rest ≡ true → next ≡ drop 1 rest → begins starts next ≡ false → More items left rest total
      → total ≡ Err (Unexpected (place_of end next))
  unfolding more_at
  more_unexpected items (suc left) rest next total none b is h kept = absurd (omega arith)
  more_unexpected items zero rest next total none b is h kept =
      let here : begins starts (drop 1 rest) ≡ false = ap (begins starts) (sym is) ∙ h in
      let one : with_front items (more_at divides starts item end 0 rest) ≡ Err
      (Unexpected (place_of end (drop 1 rest))) = rw (b, here) refl in
      sym kept ∙ one ∙ ap (λ (ts : List Token). let r : Read (List A) = Err (Unexpected (place_of end ts)) in r)
      (sym is)

  pub more_done : (items : List A) (left : ℕ) (rest : List Token) (total : Read (List A)) → begins divides rest ≡ false
      → More items left rest total → total ≡ Ok (items, rest)
  unfolding more_at
  more_done items zero rest total b kept =
      let one : with_front items (more_at divides starts item end 0 rest) ≡ Ok (items, rest) =
      rw b (ap (λ (xs : List A). let r : Read (List A) = Ok (xs, rest) in r) (append-nil items)) in sym kept ∙ one
  more_done items (suc left) rest total b kept =
      let one : with_front items (more_at divides starts item end (suc left) rest) ≡ Ok (items, rest) =
      rw b (ap (λ (xs : List A). let r : Read (List A) = Ok (xs, rest) in r) (append-nil items)) in sym kept ∙ one

module _ {A : Type 0} (starts : TokenKind → Bool) (item : ℕ → List Token → Read A) (end : ℕ) where
  abbrev pub Many : List A → ℕ → List Token → Read (List A) → Type 0
  Many items left rest total = with_front items (many_at starts item end left rest) ≡ total

  pub many_first : (items : List A) (room : ℕ) (ts : List Token) → items ≡ []
      → Many items room ts (many_at starts item end room ts)
  many_first items room ts is = rw is (nothing_front (many_at starts item end room ts))

  pub many_on : (items new : List A) (left : ℕ) (rest after : List Token) (x : A) (total : Read (List A))
      → begins starts rest ≡ true → (left ≡ 0 → ⊥) → item end rest ≡ Ok (x, after) → new ≡ items ++ x ∷ []
      → Many items left rest total → Many new (left - 1) after total
  unfolding many_at
  many_on items new zero rest after x total b some e pushed kept = absurd (some refl)
  many_on items new (suc left) rest after x total b some e pushed kept =
      let one : with_front items (many_at starts item end (suc left) rest) ≡ with_front (items ++ x ∷ [])
      (many_at starts item end left after) = rw (b, e) (regroup items x (many_at starts item end left after)) in
      let same : suc left - 1 ≡ left = omega arith in
      rw (pushed, same) (sym one ∙ kept)

  pub many_fault : (e : Refusal GrammarFault) (items : List A) (left : ℕ) (rest : List Token) (total : Read (List A))
      → begins starts rest ≡ true → (left ≡ 0 → ⊥) → Refuses e (item end rest) → Many items left rest total
      → Refuses e total
  unfolding many_at
  many_fault errors.Memory items left rest total b some h kept = tt
  many_fault (errors.Fault f) items zero rest total b some h kept = absurd (some refl)
  many_fault (errors.Fault f) items (suc left) rest total b some h kept =
      let one : with_front items (many_at starts item end (suc left) rest) ≡ Err f = rw (b, h) refl in
      sym kept ∙ one

  pub many_too_many : (items : List A) (left : ℕ) (rest : List Token) (total : Read (List A)) → left ≡ 0
      → begins starts rest ≡ true → Many items left rest total → total ≡ Err (TooMany (place_of end rest))
  unfolding many_at
  many_too_many items (suc left) rest total none b kept = absurd (omega arith)
  many_too_many items zero rest total none b kept =
      let one : with_front items (many_at starts item end 0 rest) ≡ Err (TooMany (place_of end rest)) = rw b refl in
      sym kept ∙ one

  pub many_done : (items : List A) (left : ℕ) (rest : List Token) (total : Read (List A)) → begins starts rest ≡ false
      → Many items left rest total → total ≡ Ok (items, rest)
  unfolding many_at
  many_done items zero rest total b kept =
      let one : with_front items (many_at starts item end 0 rest) ≡ Ok (items, rest) =
      rw b (ap (λ (xs : List A). let r : Read (List A) = Ok (xs, rest) in r) (append-nil items)) in sym kept ∙ one
  many_done items (suc left) rest total b kept =
      let one : with_front items (many_at starts item end (suc left) rest) ≡ Ok (items, rest) =
      rw b (ap (λ (xs : List A). let r : Read (List A) = Ok (xs, rest) in r) (append-nil items)) in sym kept ∙ one
