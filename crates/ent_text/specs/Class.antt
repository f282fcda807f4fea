-- Classes of tokens: what a grammar asks of a token, and what the token gives.
use Rattle.std.specs.Prelude.{ℕ, Bool, true, false, ◌||◌, ◌&&◌, ◌==◌, not, nat_le, List, [], ◌∷◌, Option, Some, None}
use denote.Enum.Bare.{sameb}
use Rattle.ent_text.specs.contracts.keyword.Keyword.{the_type as keyword_type}
use Rattle.ent_text.specs.contracts.symbol.Symbol.{the_type as symbol_type}
use Rattle.ent_text.specs.declared.token.TokenKind.{TokenKind}
use Rattle.ent_text.specs.declared.token.TokenKind.TheVariants as kinds
use Rattle.ent_text.specs.declared.keyword.Keyword.{Keyword}
use Rattle.ent_text.specs.declared.keyword.Keyword.TheVariants as words
use Rattle.ent_text.specs.declared.symbol.Symbol.{Symbol}
use Rattle.ent_text.specs.declared.symbol.Symbol.TheVariants as signs
use Rattle.ent_text.specs.declared.divider.Divider.{Divider}
use Rattle.ent_text.specs.declared.divider.Divider.TheVariants.{Comma, And}

-- this reserved word, this symbol, any name, any host variable, any number, a number from 1 on, the number 1, any text
pub data Class : Type 0 where
  word : Keyword → Class
  sign : Symbol → Class
  name : Class
  variable : Class
  number : Class
  positive : Class
  one : Class
  text : Class

-- these are the same reserved word
abbrev pub same_word : Keyword → Keyword → Bool
same_word found wanted = sameb keyword_type found wanted

-- these are the same symbol
abbrev pub same_sign : Symbol → Symbol → Bool
same_sign found wanted = sameb symbol_type found wanted

-- what a token of the class gives: where it stands, and what it says
abbrev pub Given : Class → Type 0
Given (word w) = ℕ
Given (sign s) = ℕ
Given name = List ℕ × ℕ
Given variable = List ℕ × ℕ
Given number = ℕ × ℕ
Given positive = ℕ × ℕ
Given one = ℕ
Given text = List ℕ × ℕ

abbrev pub if_so : {A : Type 0} → Bool → A → Option A
if_so true x = Some x
if_so false x = None

-- what a token of this kind at this place gives, if it is of the class
abbrev pub given : (c : Class) → TokenKind → ℕ → Option (Given c)
given (word w) (kinds.Word found) place = if_so (same_word found w) place
given (sign s) (kinds.Sign found) place = if_so (same_sign found s) place
given name (kinds.Name n) place = Some (n, place)
given variable (kinds.HostVariable n) place = Some (n, place)
given number (kinds.Number n) place = Some (n, place)
given positive (kinds.Number n) place = if_so (nat_le 1 n) (n, place)
given one (kinds.Number n) place = if_so (n == 1) place
given text (kinds.Literal t) place = Some (t, place)
given _ _ place = None

-- a token of this kind is of the class
abbrev pub is : Class → TokenKind → Bool
is (word w) (kinds.Word found) = same_word found w
is (sign s) (kinds.Sign found) = same_sign found s
is name (kinds.Name n) = true
is variable (kinds.HostVariable n) = true
is number (kinds.Number n) = true
is positive (kinds.Number n) = nat_le 1 n
is one (kinds.Number n) = n == 1
is text (kinds.Literal t) = true
is _ _ = false

-- it is of one of these classes
abbrev pub among : List Class → TokenKind → Bool
among [] kind = false
among (c ∷ []) kind = is c kind
among (c ∷ d ∷ cs) kind = is c kind || among (d ∷ cs) kind

-- a kind of token that stands for the class
abbrev pub kind_of : Class → TokenKind
kind_of (word w) = kinds.Word w
kind_of (sign s) = kinds.Sign s
kind_of name = kinds.Name (120 ∷ [])
kind_of variable = kinds.HostVariable (120 ∷ [])
kind_of number = kinds.Number 1
kind_of positive = kinds.Number 1
kind_of one = kinds.Number 1
kind_of text = kinds.Literal []

-- these kinds of token are the same, whatever they say
abbrev pub alike : TokenKind → TokenKind → Bool
alike (kinds.Word these) (kinds.Word those) = same_word these those
alike (kinds.Sign these) (kinds.Sign those) = same_sign these those
alike (kinds.Name these) (kinds.Name those) = true
alike (kinds.HostVariable these) (kinds.HostVariable those) = true
alike (kinds.Number these) (kinds.Number those) = true
alike (kinds.Literal these) (kinds.Literal those) = true
alike (kinds.Fault this) (kinds.Fault that) = true
alike _ _ = false

-- no token is of the class and of one of these
abbrev pub unlike : Class → List Class → Bool
unlike c [] = true
unlike c (d ∷ ds) = not (alike (kind_of c) (kind_of d)) && unlike c ds

-- no token is of one of these classes and of one of those
abbrev pub apart : List Class → List Class → Bool
apart [] ds = true
apart (c ∷ cs) ds = unlike c ds && apart cs ds

-- what stands between two things of a list
abbrev pub class_of : Divider → Class
class_of Comma = sign signs.Comma
class_of And = word words.And

abbrev pub dividers : List Class
dividers = class_of Comma ∷ class_of And ∷ []
