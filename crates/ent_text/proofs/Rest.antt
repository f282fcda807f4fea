-- Reading on behind tokens.
use Rattle.std.proofs.Common.{◌≡◌, ℕ, zero, suc, ◌+◌, ◌-◌, ◌<◌, ◌≤◌, List, [], ◌∷◌, ◌++◌, length, Result, Ok, Err, refl}
use Rattle.std.proofs.Common.{ap, sym, ◌∙◌, append_assoc, arith, Option, Some, None}
use Rattle.std.proofs.lemmas.List.{append-nil}
use Rattle.ent_text.specs.declared.token.TokenKind.{TokenKind}
use Rattle.ent_text.proofs.Shorter.{piece_shorter}
use Rattle.ent_text.specs.declared.fault.TextFault.{TextFault}
use Rattle.ent_text.specs.declared.token.Token.{Token}
use Rattle.ent_value.specs.Refusal.{◌>>=◌, Refuses}
use Rattle.ent_text.specs.Lexing.{tokens_from, tokens_of, piece_at, Piece, with_token}
use Rattle.ent_value.specs.declared.refusal.Refusal.{Refusal}
use Rattle.ent_value.specs.declared.refusal.Refusal.TheVariants as errors

abbrev pub with_tokens : List Token → Result (List Token) TextFault → Result (List Token) TextFault
with_tokens front read = read >>= λ ts. Ok (front ++ ts)

-- what was found and what is left, read on in some number of pieces, are all
abbrev pub LeftToRead : List Token → ℕ → List ℕ → Result (List Token) TextFault → Type 0
LeftToRead found place rest total = (n : ℕ) × (length rest ≤ n) × (with_tokens found (tokens_from n place rest) ≡ total)

pub left_at_first : (found : List Token) (bytes text : List ℕ) → found ≡ [] → bytes ≡ text
    → LeftToRead found 0 bytes (tokens_of text)
unfolding tokens_of
left_at_first found bytes text none same =
    rw (none, ← same) (length bytes, omega arith, with_none (tokens_from (length bytes) 0 bytes))
  where
    with_none : (read : Result (List Token) TextFault) → with_tokens [] read ≡ read
    with_none (Ok ts) = refl
    with_none (Err f) = refl

pub nothing_left : (found : List Token) (place : ℕ) (rest : List ℕ) (total : Result (List Token) TextFault)
    → length rest ≡ 0 → LeftToRead found place rest total → total ≡ Ok found
unfolding tokens_from
nothing_left found place [] total e (zero, le, kept) =
    sym kept ∙ ap (λ (ts : List Token). let r : Result (List Token) TextFault = Ok ts in r) (append-nil found)
nothing_left found place [] total e (suc n, le, kept) =
    sym kept ∙ ap (λ (ts : List Token). let r : Result (List Token) TextFault = Ok ts in r) (append-nil found)
nothing_left found place (b ∷ rest) total e left = absurd (omega arith)

-- a fault here is the fault of all
pub fault_here : (e : Refusal TextFault) (found : List Token) (place : ℕ) (rest : List ℕ)
    (total : Result (List Token) TextFault) → 0 < length rest → Refuses e (piece_at place rest)
    → LeftToRead found place rest total → Refuses e total
unfolding tokens_from
fault_here errors.Memory found place rest total lt e left = tt
fault_here (errors.Fault f) found place [] total lt e left = absurd (omega arith)
fault_here (errors.Fault f) found place (b ∷ rest) total lt e (zero, le, kept) = absurd (omega arith)
fault_here (errors.Fault f) found place (b ∷ rest) total lt e (suc n, le, kept) =
    let one : with_tokens found (tokens_from (suc n) place (b ∷ rest)) ≡ Err f = rw e refl in sym kept ∙ one

front_joins : (found : List Token) (piece : Option TokenKind) (start end : ℕ) (read : Result (List Token) TextFault)
    → with_tokens found (read >>= λ more. Ok (with_token piece start end more)) ≡ with_tokens
    (found ++ with_token piece start end []) read
front_joins found None start end (Ok ts) =
    ap (λ (front : List Token). let r : Result (List Token) TextFault = Ok (front ++ ts) in r) (sym (append-nil found))
front_joins found (Some kind) start end (Ok ts) =
    ap (λ (front : List Token). let r : Result (List Token) TextFault = Ok front in r)
    (sym (append_assoc found (record { kind = kind; start = start; end = end } ∷ []) ts))
front_joins found piece start end (Err f) = refl

pub left_behind : (found : List Token) (place : ℕ) (rest : List ℕ) (total : Result (List Token) TextFault)
    (piece : Piece) → 0 < length rest → piece_at place rest ≡ Ok piece → LeftToRead found place rest total
    → LeftToRead (found ++ with_token piece.0 place (place + (length rest - length piece.1)) [])
    (place + (length rest - length piece.1)) piece.1 total
unfolding tokens_from
left_behind found place [] total piece lt e left = absurd (omega arith)
left_behind found place (b ∷ rest) total piece lt e (zero, le, kept) = absurd (omega arith)
left_behind found place (b ∷ rest) total piece lt e (suc n, le, kept) =
    let shorter = piece_shorter place (b ∷ rest) piece lt e in
    let next = place + (length (b ∷ rest) - length piece.1) in
    let step : with_tokens found (tokens_from n next piece.1 >>= λ more. Ok (with_token piece.0 place next more))
    ≡ total = rw e at kept in
    (n, omega arith, sym (front_joins found piece.0 place next (tokens_from n next piece.1)) ∙ step)
