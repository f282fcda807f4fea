-- What holds of everything that a grammar reads from tokens of whole characters.
use Rattle.std.proofs.Common.{◌≡◌, ℕ, ◌-◌, Bool, true, false, cond, List, [], ◌∷◌, ◌++◌, subst, sym, Some, inl, inr}
use Rattle.std.specs.List.{AllByRecursion}
use Rattle.ent_text.specs.declared.token.Token.{Token}
use Rattle.ent_text.specs.declared.token.TokenKind.{TokenKind}
use Rattle.ent_text.specs.declared.divider.Divider.{Divider}
use Rattle.ent_text.specs.Class.{Class, Given, given, class_of}
use Rattle.ent_text.specs.Phrase.{Phrase, all, Single}
use Rattle.ent_text.specs.Grammar.{Grammar, give, token, chain, pick, many, more, listed}
use Rattle.ent_text.specs.GrammarSpelling.{spells, chained}
use Rattle.ent_lists.specs.Elements.{all_first, all_second}
use Rattle.ent_program_laws.specs.Characters.{IsKindOfCharacters}

abbrev pub AreOfCharacters : List Token → Type 0
AreOfCharacters tokens = AllByRecursion (λ t. IsKindOfCharacters t.kind) tokens

-- whatever is read from such tokens within the limits is so
pub record Carries {A : Type 0} (g : Grammar A) (so : A → Type 0) : Type 0 where
  pub carries : (y : A) (tokens : List Token) → AreOfCharacters tokens → spells g true y tokens → so y

front_of : (front back : List Token) → AreOfCharacters (front ++ back) → AreOfCharacters front
front_of front back are = all_first (λ (t : Token). IsKindOfCharacters t.kind) front back are

back_of : (front back : List Token) → AreOfCharacters (front ++ back) → AreOfCharacters back
back_of front back are = all_second (λ (t : Token). IsKindOfCharacters t.kind) front back are

pub carry_give : {A : Type 0} {x : A} {so : A → Type 0} → so x → Carries (give x) so
carry_give {so = so} is = record { carries = λ y tokens are spelled. subst so (sym spelled.0) is }

pub carry_token : (c : Class) {so : Given c → Type 0}
    → ((kind : TokenKind) (place : ℕ) (y : Given c) → IsKindOfCharacters kind → given c kind place ≡ Some y → so y)
    → Carries (token c) so
carry_token c gives = record {
  carries = λ y tokens are one.
      gives one.token.kind one.token.start y (subst AreOfCharacters one.whole are).0 one.is_given;
}

pub carry_then : {A B : Type 0} {g : Grammar A} {next : A → Grammar B} {such : A → Type 0} {so : B → Type 0}
    → Carries g such → ((x : A) → such x → Carries (next x) so) → Carries (chain g next) so
carry_then first second = record {
  carries = λ y tokens are spelled.
      let s = spelled.1 in
      let parts = subst AreOfCharacters s.whole are in
      let x = first.carries spelled.0 s.front (front_of s.front s.back parts) s.first in
      (second spelled.0 x).carries y s.back (back_of s.front s.back parts) s.second;
}

-- where nothing is asked of the first part
pub carry_behind : {A B : Type 0} {g : Grammar A} {next : A → Grammar B} {so : B → Type 0}
    → ((x : A) → Carries (next x) so) → Carries (chain g next) so
carry_behind rest =
    carry_then {such = λ x. Unit {0}} (record { carries = λ y tokens are spelled. tt }) (λ x h. rest x)

pub carry_either : {A : Type 0} {g h : Grammar A} {so : A → Type 0} → Carries g so → Carries h so
    → Carries (pick g h) so
carry_either {g = g} {h = h} {so = so} one other = record { carries = on }
  where
    on : (y : _) (tokens : List Token) → AreOfCharacters tokens → spells (pick g h) true y tokens → so y
    on y tokens are (inl spelled) = one.carries y tokens are spelled
    on y tokens are (inr spelled) = other.carries y tokens are spelled

pub carry_so : {A : Type 0} {g : Grammar A} {such so : A → Type 0} → ((x : A) → such x → so x) → Carries g such
    → Carries g so
carry_so then each = record { carries = λ y tokens are spelled. then y (each.carries y tokens are spelled) }

pub carry_if : {A : Type 0} {g h : Grammar A} {so : A → Type 0} (test : Bool) → Carries g so → Carries h so
    → Carries (cond test g h) so
carry_if true one other = one
carry_if false one other = other

-- ---- lists

each_carried : {A : Type 0} (of : A → Phrase) (so : A → Type 0)
    → ((x : A) (tokens : List Token) → AreOfCharacters tokens → of x tokens → so x)
    → (xs : List A) (tokens : List Token) → AreOfCharacters tokens → all of xs tokens → AllByRecursion so xs
each_carried of so each [] tokens are spelled = tt
each_carried of so each (x ∷ xs) tokens are spelled =
    let parts = subst AreOfCharacters spelled.whole are in (
      each x spelled.front (front_of spelled.front spelled.back parts) spelled.first,
      each_carried of so each xs spelled.back (back_of spelled.front spelled.back parts) spelled.second,
    )

pub carry_many : {A : Type 0} (limit : ℕ) {thing : Grammar A} {so : A → Type 0} → Carries thing so
    → Carries (many limit thing) (AllByRecursion so)
carry_many limit {thing = thing} {so = so} each = record {
  carries = λ xs tokens are spelled. each_carried (spells thing true) so each.carries xs tokens are spelled.0;
}

pub carry_more : {A : Type 0} (limit : ℕ) (divider : Divider) {thing : Grammar A} {so : A → Type 0}
    → Carries thing so → Carries (more limit divider thing) (AllByRecursion so)
carry_more limit divider {thing = thing} {so = so} each = record {
  carries = λ xs tokens are spelled.
      each_carried (chained (Single (class_of divider)) (λ place. spells thing true)) so
      (carry_behind {g = token (class_of divider)} {next = λ place. thing} (λ place. each)).carries xs tokens are
      spelled.0;
}

pub carry_listed : {A : Type 0} (limit : ℕ) (divider : Divider) {thing : Grammar A} {so : A → Type 0}
    → Carries thing so → Carries (listed limit divider thing) (AllByRecursion so)
carry_listed limit divider each =
    carry_then each
    (λ x h. carry_then (carry_more (limit - 1) divider each) (λ xs hs. carry_give (h, hs)))
