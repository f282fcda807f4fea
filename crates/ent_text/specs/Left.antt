-- The tokens of what is left of a text.
use Rattle.std.specs.Prelude.{◌≡◌, ◌<◌, ◌+◌, ◌-◌, ◌^◌, ℕ, zero, suc, List, [], ◌∷◌, ◌++◌, length}
use Rattle.std.specs.Prelude.{Option, Some, None, Result, Ok, Err, ⊤}
use Rattle.ent_text.specs.declared.fault.TextFault.{TextFault}
use Rattle.ent_text.specs.declared.token.Token.{Token}
use Rattle.ent_text.specs.declared.token.TokenKind.{TokenKind}
use Rattle.ent_text.specs.declared.view.TokenView.{TokenView}
use Rattle.ent_text.specs.declared.token.TokenKind.TheVariants.{Fault}
use Rattle.ent_text.specs.Lexing.{Piece, piece_at, with_token}
use Rattle.ent_text.specs.Reading.{Reads, IsFaulty}
use Rattle.ent_text.specs.View.{kind_seen, CanBeMadeIfSeen}

-- the token that the piece at the front is, and those behind it; or the fault that stands there, with all behind it
abbrev pub led_by : Result Piece TextFault → ℕ → ℕ → (ℕ → List ℕ → List Token) → List Token
led_by (Ok piece) place size more =
    let next = place + (size - length piece.1) in with_token piece.0 place next (more next piece.1)
led_by (Err fault) place size more = record { kind = Fault fault; start = place; end = place + size } ∷ []

-- The tokens of the bytes from a place on, up to the first fault, which ends them. n bytes have no more than n pieces.
unfoldable pub tokens_up_to : ℕ → ℕ → List ℕ → List Token
tokens_up_to n place [] = []
tokens_up_to zero place (b ∷ bytes) = []
tokens_up_to (suc n) place (b ∷ bytes) =
    led_by (piece_at place (b ∷ bytes)) place (length (b ∷ bytes)) (λ next rest. tokens_up_to n next rest)

abbrev pub tokens_left : ℕ → List ℕ → List Token
tokens_left place bytes = tokens_up_to (length bytes) place bytes

-- the fault that a token of this kind is, else this one, if there is one
abbrev pub fault_or : TokenKind → Option TextFault → Option TextFault
fault_or (Fault fault) other = Some fault
fault_or kind other = other

-- the fault that the first of these tokens is that is one
abbrev pub fault_among : List Token → Option TextFault
fault_among [] = None
fault_among (t ∷ ts) = fault_or t.kind (fault_among ts)

-- the token that is seen, if there is one, and those behind it
abbrev pub tokens_seen : Option TokenView → ℕ → ℕ → List ℕ → List Token
tokens_seen None start end behind = []
tokens_seen (Some view) start end behind =
    record { kind = kind_seen view; start = start; end = end } ∷ tokens_left end behind

-- where no token is seen, none stands behind
abbrev pub IsAtEnd : Option TokenView → List ℕ → Type 0
IsAtEnd None behind = behind ≡ []
IsAtEnd (Some view) behind = ⊤

-- a token is seen that can be made, or none is left
pub record IsReadOn (front : Option TokenView) (end : ℕ) (behind : List ℕ) : Type 0 where
  pub room : end + length behind < 2 ^ 64
  pub made : CanBeMadeIfSeen front
  pub at_end : IsAtEnd front behind

-- what the first of these tokens is, if there is one
abbrev pub kind_of_first : List Token → Option TokenKind
kind_of_first [] = None
kind_of_first (t ∷ ts) = Some t.kind

-- where the first of these tokens stands; another place, if there is none
abbrev pub start_of_first : ℕ → List Token → ℕ
start_of_first none [] = none
start_of_first none (t ∷ ts) = t.start

-- where the first of these tokens ends; another place, if there is none
abbrev pub end_of_first : ℕ → List Token → ℕ
end_of_first none [] = none
end_of_first none (t ∷ ts) = t.end

-- A token stands at this place, or the text's tokens end there, and no token before it is a fault.
pub record IsFaultlessBefore (text : List ℕ) (place : ℕ) : Type 0 where
  pub before : List Token
  pub back : List Token
  pub whole : tokens_left 0 text ≡ before ++ back
  pub faultless : fault_among before ≡ None
  pub stands : place ≡ start_of_first (length text) back

-- The text is gaps and tokens up to some place, and what stands there has this fault. The text's tokens up to its first
-- fault are these, and the fault, from its place to the end of the text.
pub record EndsInFault (text : List ℕ) (fault : TextFault) : Type 0 where
  pub tokens : List Token
  pub place : ℕ
  pub rest : List ℕ
  pub reads : Reads 0 text tokens place rest
  pub faulty : IsFaulty place rest fault
  pub whole : tokens_left 0 text ≡ tokens ++ record { kind = Fault fault; start = place; end = length text } ∷ []
