-- Phrases of the language: which tokens say something.
use Rattle.std.specs.Prelude.{◌≡◌, ◌↔◌, ℕ, ◌≤◌, true, List, [], ◌∷◌, length}
use Rattle.ent_text.specs.declared.keyword.Keyword.{Keyword}
use Rattle.ent_text.specs.declared.keyword.Keyword.TheVariants as words
use Rattle.ent_text.specs.declared.symbol.Symbol.{Symbol}
use Rattle.ent_text.specs.declared.symbol.Symbol.TheVariants as signs
use Rattle.ent_text.specs.declared.token.Token.{Token}
use Rattle.ent_text.specs.declared.token.TokenKind.{TokenKind}
use Rattle.ent_text.specs.declared.token.TokenKind.TheVariants as kinds
use Rattle.ent_text.specs.declared.divider.Divider.{Divider}
use Rattle.ent_text.specs.declared.divider.Divider.TheVariants.{Comma, And}
use Rattle.ent_text.specs.Phrase.{Phrase, ◌⨾◌, all}
use Rattle.ent_text.specs.Grammar.{Grammar}
use Rattle.ent_text.specs.GrammarSpelling.{spells}

-- a single token of this kind, which stands at this place
pub record Standing (place : ℕ) (kind : TokenKind) (tokens : List Token) : Type 0 where
  pub token : Token
  pub whole : tokens ≡ token ∷ []
  pub is_kind : token.kind ≡ kind
  pub stands : token.start ≡ place

-- a single token of this kind, wherever it stands
abbrev pub single : TokenKind → Phrase
single kind tokens = (place : ℕ) × Standing place kind tokens

abbrev pub word : Keyword → Phrase
word keyword = single (kinds.Word keyword)

abbrev pub sign : Symbol → Phrase
sign symbol = single (kinds.Sign symbol)

-- a comma, or AND
abbrev pub divides : Divider → Phrase
divides Comma = sign signs.Comma
divides And = word words.And

-- things one behind the other, a limit at most
abbrev pub many : {A : Type 0} → ℕ → (A → Phrase) → List A → Phrase
many limit thing xs = λ tokens. (length xs ≤ limit) × all thing xs tokens

-- one thing or more with a divider between each two, a limit at most
abbrev pub listed : {A : Type 0} → ℕ → Divider → (A → Phrase) → List A → Phrase
listed limit divider thing [] = λ tokens. ⊥
listed limit divider thing (x ∷ xs) =
    λ tokens. (length (x ∷ xs) ≤ limit) × (thing x ⨾ all (λ y. divides divider ⨾ thing y) xs) tokens

-- the tokens that a grammar spells of each thing, within its limits, are just this phrase
abbrev pub IsSpelledAs : {A : Type 0} → Grammar A → (A → Phrase) → Type 0
IsSpelledAs {A} g phrase = (thing : A) (tokens : List Token) → spells g true thing tokens ↔ phrase thing tokens
