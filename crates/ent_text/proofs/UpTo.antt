-- The tokens of what is left of a text, up to its first fault.
use Rattle.std.proofs.Common.{◌≡◌, true, ℕ, zero, suc, ◌+◌, ◌-◌, ◌<◌, ◌≤◌, List, [], ◌∷◌, length, drop, Result, Ok, Err}
use Rattle.std.proofs.Common.{refl, ap, ◌∙◌, arith, Option, Some, None}
use Rattle.std.specs.Prelude.{slice_index}
use Rattle.ent_text.specs.declared.fault.TextFault.{TextFault}
use Rattle.ent_text.specs.declared.token.TokenKind.{TokenKind}
use Rattle.ent_text.specs.declared.token.TokenKind.TheVariants.{Fault}
use Rattle.ent_text.specs.declared.view.TokenView.{TokenView}
use Rattle.ent_text.specs.Lexing.{piece_at, Piece, with_token}
use Rattle.ent_text.specs.Left.{led_by, tokens_up_to, tokens_left, tokens_seen, IsAtEnd}
use Rattle.ent_text.specs.View.{kind_seen, kind_if_seen}
use Rattle.ent_text.specs.Spelling.{is_blank}
use Rattle.ent_text.proofs.Shorter.{piece_shorter, piece_of_blank}
use Rattle.ent_text.proofs.ReadOn.{one_on}

step : (n m place size : ℕ) (read : Result Piece TextFault)
    → ((piece : Piece) → read ≡ Ok piece
    → let next = place + (size - length piece.1) in tokens_up_to n next piece.1 ≡ tokens_up_to m next piece.1)
    → led_by read place size (tokens_up_to n) ≡ led_by read place size (tokens_up_to m)
step n m place size (Ok piece) again =
    ap (with_token piece.0 place (place + (size - length piece.1))) (again piece refl)
step n m place size (Err f) again = refl

-- more pieces than there are bytes change nothing
pub enough : (n m place : ℕ) (rest : List ℕ) → length rest ≤ n → length rest ≤ m
    → tokens_up_to n place rest ≡ tokens_up_to m place rest
unfolding tokens_up_to
enough zero zero place rest le le' = refl
enough zero (suc m) place [] le le' = refl
enough (suc n) zero place [] le le' = refl
enough (suc n) (suc m) place [] le le' = refl
enough zero (suc m) place (b ∷ rest) le le' = absurd (omega arith)
enough (suc n) zero place (b ∷ rest) le le' = absurd (omega arith)
enough (suc n) (suc m) place (b ∷ rest) le le' =
    step n m place (length (b ∷ rest)) (piece_at place (b ∷ rest)) (λ piece e.
    let shorter = piece_shorter place (b ∷ rest) piece (omega arith) e in
    enough n m (place + (length (b ∷ rest) - length piece.1)) piece.1 (omega arith) (omega arith))

-- a piece, and the tokens behind it
pub left_on : (place : ℕ) (rest behind : List ℕ) (kind : Option TokenKind) → 0 < length rest
    → piece_at place rest ≡ Ok (kind, behind)
    → let next = place + (length rest - length behind) in
    tokens_left place rest ≡ with_token kind place next (tokens_left next behind)
unfolding tokens_up_to
left_on place [] behind kind lt e = absurd (omega arith)
left_on place (b ∷ rest) behind kind lt e =
    let shorter = piece_shorter place (b ∷ rest) (kind, behind) lt e in
    ap (λ (r : Result Piece TextFault). led_by r place (length (b ∷ rest)) (tokens_up_to (length rest))) e
    ∙ ap (with_token kind place (place + (length (b ∷ rest) - length behind)))
    (enough (length rest) (length behind) (place + (length (b ∷ rest) - length behind)) behind (omega arith)
    (omega arith))

-- a fault ends the tokens
pub left_fault : (place : ℕ) (rest : List ℕ) (fault : TextFault) → 0 < length rest → piece_at place rest ≡ Err fault
    → tokens_left place rest ≡ record { kind = Fault fault; start = place; end = place + length rest } ∷ []
unfolding tokens_up_to
left_fault place [] fault lt e = absurd (omega arith)
left_fault place (b ∷ rest) fault lt e =
    ap (λ (r : Result Piece TextFault). led_by r place (length (b ∷ rest)) (tokens_up_to (length rest))) e

pub left_nothing : (place : ℕ) (rest : List ℕ) → length rest ≡ 0 → tokens_left place rest ≡ []
unfolding tokens_up_to
left_nothing place [] e = refl
left_nothing place (b ∷ rest) e = absurd (omega arith)

-- a token that is seen, and those behind it
pub left_seen : (place : ℕ) (rest behind : List ℕ) (front : Option TokenView) (view : TokenView) → 0 < length rest
    → piece_at place rest ≡ Ok (kind_if_seen front, behind) → front ≡ Some view
    → tokens_left place rest ≡ tokens_seen (Some view) place (place + (length rest - length behind)) behind
left_seen place rest behind front view lt e is =
    left_on place rest behind (Some (kind_seen view)) lt
    (e ∙ ap (λ (o : Option TokenView). let r : Result Piece TextFault = Ok (kind_if_seen o, behind) in r) is)

-- a gap is read over
pub left_unseen : (place : ℕ) (rest behind : List ℕ) (front : Option TokenView) → 0 < length rest
    → piece_at place rest ≡ Ok (kind_if_seen front, behind) → front ≡ None
    → tokens_left place rest ≡ tokens_left (place + (length rest - length behind)) behind
left_unseen place rest behind front lt e is =
    left_on place rest behind None lt
    (e ∙ ap (λ (o : Option TokenView). let r : Result Piece TextFault = Ok (kind_if_seen o, behind) in r) is)

-- a blank is read over
pub left_blank : (place : ℕ) (rest behind : List ℕ) → 0 < length rest → is_blank (slice_index rest 0) ≡ true
    → behind ≡ drop 1 rest
    → tokens_left place rest ≡ tokens_left (place + 1) behind
left_blank place rest behind lt blank is =
    left_on place rest behind None lt (piece_of_blank place rest behind blank is)
    ∙ ap (λ (k : ℕ). tokens_left k behind) (one_on place rest behind lt is)

-- the tokens behind the first
pub behind_first : (front : Option TokenView) (start end : ℕ) (behind : List ℕ) → IsAtEnd front behind
    → tokens_left end behind ≡ drop 1 (tokens_seen front start end behind)
behind_first None start end behind at_end = ap (tokens_left end) at_end ∙ left_nothing end [] refl
behind_first (Some view) start end behind at_end = refl
