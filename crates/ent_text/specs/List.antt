-- Reading lists of things, up to a limit.
use Rattle.std.specs.Prelude.{ℕ, zero, suc, ◌-◌, Bool, List, [], ◌∷◌, drop, Ok, Err, if◌then◌else◌}
use Rattle.ent_text.specs.declared.token.Token.{Token}
use Rattle.ent_text.specs.declared.token.TokenKind.{TokenKind}
use Rattle.ent_text.specs.declared.grammar_fault.GrammarFault.TheVariants.{Unexpected, TooMany}
use Rattle.ent_value.specs.Refusal.{◌>>=◌}
use Rattle.ent_text.specs.Read.{Read, place_of, begins}

-- the values of a list, one behind the other
abbrev pub joined : {A : Type 0} → A → Read (List A) → Read (List A)
joined x read = read >>= λ xs. Ok (x ∷ xs.0, xs.1)

-- behind a divider where the list is full: a thing too much, or no thing
abbrev pub full_at : {A : Type 0} → (TokenKind → Bool) → ℕ → List Token → Read A
full_at starts end ts =
    if begins starts ts then Err (TooMany (place_of end ts)) else Err (Unexpected (place_of end ts))

-- Things behind dividers, room at most. A divider that ends them is the fault of what stands behind it.
unfoldable pub more_at : {A : Type 0} → (TokenKind → Bool) → (TokenKind → Bool) → (ℕ → List Token → Read A) → ℕ → ℕ
    → List Token → Read (List A)
more_at divides starts item end zero ts =
    if begins divides ts then full_at starts end (drop 1 ts) else Ok ([], ts)
more_at divides starts item end (suc room) ts =
    if begins divides ts
    then (item end (drop 1 ts) >>= λ x. joined x.0 (more_at divides starts item end room x.1)) else Ok ([], ts)

-- things with dividers between them: one at least, limit at most
abbrev pub listed_at : {A : Type 0} → (TokenKind → Bool) → (TokenKind → Bool) → (ℕ → List Token → Read A) → ℕ → ℕ
    → List Token → Read (List A)
listed_at divides starts item end limit ts =
    item end ts >>= λ x. joined x.0 (more_at divides starts item end (limit - 1) x.1)

-- things one behind the other, room at most
unfoldable pub many_at : {A : Type 0} → (TokenKind → Bool) → (ℕ → List Token → Read A) → ℕ → ℕ → List Token
    → Read (List A)
many_at starts item end zero ts = if begins starts ts then Err (TooMany (place_of end ts)) else Ok ([], ts)
many_at starts item end (suc room) ts =
    if begins starts ts then (item end ts >>= λ x. joined x.0 (many_at starts item end room x.1)) else Ok ([], ts)
