-- What a fault means: the first token that can't follow, or that begins a thing too much.
use Rattle.std.specs.Prelude.{◌≡◌, ℕ, true, false, List, [], ◌∷◌, ◌++◌, take, ◌⊎◌}
use Rattle.ent_text.specs.declared.token.Token.{Token}
use Rattle.ent_text.specs.Read.{place_of}
use Rattle.ent_text.specs.declared.divider.Divider.{Divider}
use Rattle.ent_text.specs.Class.{class_of, Given}
use Rattle.ent_text.specs.Phrase.{Phrase, nothing, Single}
use Rattle.ent_text.specs.Grammar.{Grammar}
use Rattle.ent_text.specs.GrammarSpelling.{spells}

-- the tokens are a sentence, of whatever size
abbrev pub IsSentence : {A : Type 0} → Grammar A → Phrase
IsSentence {A} g tokens = (y : A) × spells g false y tokens

-- some sentence begins with these tokens
abbrev pub CanGoOn : {A : Type 0} → Grammar A → Phrase
CanGoOn g tokens = (onward : List Token) × IsSentence g (tokens ++ onward)

-- a comma or AND
abbrev pub IsDivider : Phrase
IsDivider tokens = (d : Divider) × (gives : Given (class_of d)) × Single (class_of d) gives tokens

-- nothing, or a comma or AND
abbrev pub AtMostADivider : Phrase
AtMostADivider tokens = nothing tokens ⊎ IsDivider tokens

-- some sentence that keeps the limits begins with these tokens, but for a comma or AND at their end
pub record KeepsLimits {A : Type 0} (g : Grammar A) (tokens : List Token) : Type 0 where
  pub front : List Token
  pub divider : List Token
  pub whole : tokens ≡ front ++ divider
  pub divides : AtMostADivider divider
  pub onward : List Token
  pub value : A
  pub spelled : spells g true value (front ++ onward)

-- The tokens up to a place begin a sentence, and none goes on with the token that stands there.
-- At the end: the tokens begin a sentence, and are none.
pub record CantFollow {A : Type 0} (g : Grammar A) (end : ℕ) (tokens : List Token) (place : ℕ) : Type 0 where
  pub before : List Token
  pub back : List Token
  pub whole : tokens ≡ before ++ back
  pub stands : place ≡ place_of end back
  pub keeps_limits : KeepsLimits g before
  pub can_go_on : CanGoOn g before
  pub not_so : (onward : List Token) → take 1 onward ≡ take 1 back → IsSentence g (before ++ onward) → ⊥

-- The tokens up to and with the one at a place begin a sentence, but none that keeps the limits.
-- It is the first token of a thing, and no divider before it.
pub record IsTooMuch {A : Type 0} (g : Grammar A) (tokens : List Token) (place : ℕ) : Type 0 where
  pub before : List Token
  pub token : Token
  pub back : List Token
  pub whole : tokens ≡ before ++ token ∷ back
  pub stands : place ≡ token.start
  pub no_divider : AtMostADivider (token ∷ []) → ⊥
  pub keeps_limits : KeepsLimits g before
  pub can_go_on : CanGoOn g (before ++ token ∷ [])
  pub not_so : (onward : List Token) (y : A) → spells g true y (before ++ token ∷ onward) → ⊥
