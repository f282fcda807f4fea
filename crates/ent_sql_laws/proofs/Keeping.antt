-- What holds of everything that a grammar reads from tokens of a text.
use Rattle.std.proofs.Common.{◌≡◌, ℕ, ◌≤◌, ◌-◌, Bool, true, false, cond, nat_le, List, [], ◌∷◌, ◌++◌, length, subst}
use Rattle.std.proofs.Common.{sym, arith, Some, inl, inr, suc, zero, refl}
use Rattle.std.specs.List.{All}
use Rattle.ent_text.specs.declared.token.Token.{Token}
use Rattle.ent_text.specs.declared.token.TokenKind.{TokenKind}
use Rattle.ent_text.specs.declared.divider.Divider.{Divider}
use Rattle.ent_text.specs.Class.{Class, positive, Given, given, class_of}
use Rattle.ent_text.specs.Phrase.{Phrase, all, Single}
use Rattle.ent_text.specs.Grammar.{Grammar, give, token, up_to, chain, pick, many, more, listed}
use Rattle.ent_text.specs.GrammarSpelling.{spells, chained}
use Rattle.ent_print.specs.Reading.{CanStand}
use Rattle.ent_sql_laws.specs.Fits.{Each, HasParts}

-- ---- what holds of each thing of a list

pub each_append : {A : Type 0} (holds : A → Type 0) (xs ys : List A) → Each holds xs → Each holds ys
    → Each holds (xs ++ ys)
each_append holds [] ys hs ks = ks
each_append holds (x ∷ xs) ys hs ks = (hs.0, each_append holds xs ys hs.1 ks)

pub each_front : {A : Type 0} (holds : A → Type 0) (xs ys : List A) → Each holds (xs ++ ys) → Each holds xs
each_front holds [] ys hs = tt
each_front holds (x ∷ xs) ys hs = (hs.0, each_front holds xs ys hs.1)

pub each_back : {A : Type 0} (holds : A → Type 0) (xs ys : List A) → Each holds (xs ++ ys) → Each holds ys
each_back holds [] ys hs = hs
each_back holds (x ∷ xs) ys hs = each_back holds xs ys hs.1

pub each_implies : {A : Type 0} (these those : A → Type 0) → ((x : A) → these x → those x) → (xs : List A)
    → Each these xs
    → Each those xs
each_implies these those so [] hs = tt
each_implies these those so (x ∷ xs) hs = (so x hs.0, each_implies these those so xs hs.1)

pub each_at : {A : Type 0} (holds : A → Type 0) (xs : List A) → Each holds xs → All holds xs
each_at holds [] hs k d lt = absurd (omega arith)
each_at holds (x ∷ xs) hs zero d lt = hs.0
each_at holds (x ∷ xs) hs (suc k) d lt = each_at holds xs hs.1 k d (omega arith)

pub each_of : {A : Type 0} (holds : A → Type 0) (xs : List A) → All holds xs → Each holds xs
each_of holds [] hs = tt
each_of holds (x ∷ xs) hs = (hs 0 x (omega arith), each_of holds xs (λ k d lt. hs (suc k) d (omega arith)))

-- ---- grammars

-- each of these tokens can stand in a text
abbrev pub CanAllStand : List Token → Type 0
CanAllStand = Each (λ t. CanStand t.kind)

-- whatever is read from such tokens within the limits is so
pub record Keeps {A : Type 0} (g : Grammar A) (so : A → Type 0) : Type 0 where
  pub keeps : (y : A) (tokens : List Token) → CanAllStand tokens → spells g true y tokens → so y

pub keep_give : {A : Type 0} {x : A} {so : A → Type 0} → so x → Keeps (give x) so
keep_give {so = so} is = record { keeps = λ y tokens stand spelled. subst so (sym spelled.0) is }

single_stands : (c : Class) (y : Given c) (tokens : List Token) (stand : CanAllStand tokens) (one : Single c y tokens)
    → CanStand one.token.kind
single_stands c y tokens stand one = (subst CanAllStand one.whole stand).0

pub keep_token : (c : Class) {so : Given c → Type 0}
    → ((kind : TokenKind) (place : ℕ) (y : Given c) → CanStand kind → given c kind place ≡ Some y → so y)
    → Keeps (token c) so
keep_token c gives = record {
  keeps = λ y tokens stand one.
      gives one.token.kind one.token.start y (single_stands c y tokens stand one) one.is_given;
}

pub keep_up_to : (most : ℕ) {so : ℕ × ℕ → Type 0}
    → ((kind : TokenKind) (place : ℕ) (y : ℕ × ℕ) → CanStand kind → given positive kind place ≡ Some y
    → nat_le y.0 most ≡ true → so y) → Keeps (up_to most) so
keep_up_to most gives = record {
  keeps = λ y tokens stand spelled.
      let one = spelled.0 in
      gives one.token.kind one.token.start y (single_stands positive y tokens stand one) one.is_given (spelled.1 refl);
}

pub keep_then : {A B : Type 0} {g : Grammar A} {next : A → Grammar B} {such : A → Type 0} {so : B → Type 0}
    → Keeps g such → ((x : A) → such x → Keeps (next x) so) → Keeps (chain g next) so
keep_then first second = record {
  keeps = λ y tokens stand spelled.
      let s = spelled.1 in
      let parts = subst CanAllStand s.whole stand in
      let x = first.keeps spelled.0 s.front (each_front (λ t. CanStand t.kind) s.front s.back parts) s.first in
      (second spelled.0 x).keeps y s.back (each_back (λ t. CanStand t.kind) s.front s.back parts) s.second;
}

-- where nothing is asked of the first part
pub keep_behind : {A B : Type 0} {g : Grammar A} {next : A → Grammar B} {so : B → Type 0}
    → ((x : A) → Keeps (next x) so) → Keeps (chain g next) so
keep_behind rest = keep_then {such = λ x. Unit {0}} (record { keeps = λ y tokens stand spelled. tt }) (λ x h. rest x)

pub keep_either : {A : Type 0} {g h : Grammar A} {so : A → Type 0} → Keeps g so → Keeps h so → Keeps (pick g h) so
keep_either {g = g} {h = h} {so = so} one other = record { keeps = on }
  where
    on : (y : _) (tokens : List Token) → CanAllStand tokens → spells (pick g h) true y tokens → so y
    on y tokens stand (inl spelled) = one.keeps y tokens stand spelled
    on y tokens stand (inr spelled) = other.keeps y tokens stand spelled

pub keep_so : {A : Type 0} {g : Grammar A} {such so : A → Type 0} → ((x : A) → such x → so x) → Keeps g such
    → Keeps g so
keep_so then each = record { keeps = λ y tokens stand spelled. then y (each.keeps y tokens stand spelled) }

pub keep_if : {A : Type 0} {g h : Grammar A} {so : A → Type 0} (test : Bool) → Keeps g so → Keeps h so
    → Keeps (cond test g h) so
keep_if true one other = one
keep_if false one other = other

-- ---- lists

each_kept : {A : Type 0} (of : A → Phrase) (so : A → Type 0)
    → ((x : A) (tokens : List Token) → CanAllStand tokens → of x tokens → so x)
    → (xs : List A) (tokens : List Token) → CanAllStand tokens → all of xs tokens → Each so xs
each_kept of so each [] tokens stand spelled = tt
each_kept of so each (x ∷ xs) tokens stand spelled =
    let parts = subst CanAllStand spelled.whole stand in
    let front = each_front (λ t. CanStand t.kind) spelled.front spelled.back parts in
    let back = each_back (λ t. CanStand t.kind) spelled.front spelled.back parts in
    (each x spelled.front front spelled.first, each_kept of so each xs spelled.back back spelled.second)

pub keep_many : {A : Type 0} (limit : ℕ) {thing : Grammar A} {so : A → Type 0} → Keeps thing so
    → Keeps (many limit thing) (λ xs. Each so xs × (length xs ≤ limit))
keep_many limit {thing = thing} {so = so} each = record {
  keeps = λ xs tokens stand spelled.
      (each_kept (spells thing true) so each.keeps xs tokens stand spelled.0, spelled.1 refl);
}

pub keep_more : {A : Type 0} (limit : ℕ) (divider : Divider) {thing : Grammar A} {so : A → Type 0} → Keeps thing so
    → Keeps (more limit divider thing) (λ xs. Each so xs × (length xs ≤ limit))
keep_more limit divider {thing = thing} {so = so} each = record {
  keeps = λ xs tokens stand spelled. (
    each_kept (chained (Single (class_of divider)) (λ place. spells thing true)) so
        (keep_behind {g = token (class_of divider)} {next = λ place. thing} (λ place. each)).keeps xs tokens stand
        spelled.0,
    spelled.1 refl,
  );
}

pub keep_listed : {A : Type 0} (limit : ℕ) (divider : Divider) {thing : Grammar A} {so : A → Type 0} → 1 ≤ limit
    → Keeps thing so → Keeps (listed limit divider thing) (λ xs. Each so xs × HasParts xs limit)
keep_listed limit divider some each =
    keep_then each
    (λ x h. keep_then (keep_more (limit - 1) divider each)
    (λ xs hs. keep_give ((h, hs.0), (omega arith, omega (arith, hs.1)))))
