-- Phrases: sets of lists of tokens.
use Rattle.std.specs.Prelude.{◌≡◌, List, [], ◌∷◌, ◌++◌, Some}
use Rattle.ent_text.specs.declared.token.Token.{Token}
use Rattle.ent_text.specs.Class.{Class, Given, given}

infixr 60 ◌⨾◌
-- a phrase is the set of the token lists that spell it
abbrev pub Phrase : Type 1
Phrase = List Token → Type 0

-- the tokens of one phrase, and those of another behind them
pub record ◌⨾◌ (one other : Phrase) (tokens : List Token) : Type 0 where
  pub front : List Token
  pub back : List Token
  pub whole : tokens ≡ front ++ back
  pub first : one front
  pub second : other back

-- no token
abbrev pub nothing : Phrase
nothing tokens = tokens ≡ []

-- a single token of the class, which gives this
pub record Single (c : Class) (gives : Given c) (tokens : List Token) : Type 0 where
  pub token : Token
  pub whole : tokens ≡ token ∷ []
  pub is_given : given c token.kind token.start ≡ Some gives

-- things one behind the other
abbrev pub all : {A : Type 0} → (A → Phrase) → List A → Phrase
all of [] = nothing
all of (x ∷ xs) = of x ⨾ all of xs
