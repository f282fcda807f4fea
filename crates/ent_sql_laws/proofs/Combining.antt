-- Reading parts of a grammar again, one behind the other.
use Rattle.std.proofs.Common.{◌≡◌, ℕ, ◌≤◌, true, List, [], ◌∷◌, ◌++◌, map, refl, ap, ◌∙◌}
use Rattle.std.proofs.Common.{Some, inl, inr}
use Rattle.ent_text.specs.declared.token.Token.{Token}
use Rattle.ent_text.specs.declared.token.TokenKind.{TokenKind}
use Rattle.std.proofs.Common.{Bool, arith}
use Rattle.std.proofs.lemmas.Bool.{le-leb}
use Rattle.ent_text.specs.declared.token.TokenKind.TheVariants as kinds
use Rattle.ent_text.specs.Class.{Class, Given, given, positive, if_so}
use Rattle.ent_text.specs.Grammar.{Grammar, give, token, up_to, chain, pick, many}
use Rattle.ent_text.specs.GrammarSpelling.{spells}
use Rattle.ent_sql_laws.specs.Again.{Rereads}

abbrev pub kind : Token → TokenKind
kind t = t.kind

-- the tokens of a front of the kinds, and those of the rest
pub split : (tokens : List Token) (xs ys : List TokenKind) → map kind tokens ≡ xs ++ ys
    → (front back : List Token) × (tokens ≡ front ++ back) × (map kind front ≡ xs) × (map kind back ≡ ys)
split tokens [] ys e = ([], tokens, refl, refl, e)
split [] (x ∷ xs) ys e = absurd cc
split (t ∷ tokens) (x ∷ xs) ys e =
    let whole : t.kind ∷ map kind tokens ≡ x ∷ (xs ++ ys) = e in
    let first : t.kind ≡ x = cc in
    let others : map kind tokens ≡ xs ++ ys = cc in
    let rest = split tokens xs ys others in
    let back : map kind rest.0 ≡ xs = rest.3 in
    (t ∷ rest.0, rest.1, ap (λ (l : List Token). t ∷ l) rest.2, cc, rest.4)

pub again_then : {A B : Type 0} {g : Grammar A} {next : A → Grammar B} {same : A → Type 0} {such : B → Type 0}
    {xs ys ks : List TokenKind} → ks ≡ xs ++ ys → Rereads g same xs → ((x : A) → same x → Rereads (next x) such ys)
    → Rereads (chain g next) such ks
again_then {xs = xs} {ys = ys} is first second = record {
  read = λ tokens e.
      let s = split tokens xs ys (e ∙ is) in
      let p = first.read s.0 s.3 in
      let q = (second p.0 p.2).read s.1 s.4 in
      (q.0, (p.0, record { front = s.0; back = s.1; whole = s.2; first = p.1; second = q.1 }), q.2);
}

give_read : {A : Type 0} (x : A) (such : A → Type 0) → such x → (tokens : List Token) → map kind tokens ≡ []
    → (y : A) × spells (give x) true y tokens × such y
give_read x such is [] e = (x, (refl, refl), is)
give_read x such is (t ∷ tokens) e = absurd cc

pub again_give : {A : Type 0} {x : A} {such : A → Type 0} → such x → Rereads (give x) such []
again_give {x = x} {such = such} is = record { read = give_read x such is }

token_read : (c : Class) (wanted : TokenKind) (same : Given c → Type 0)
    → ((place : ℕ) → (y : Given c) × (given c wanted place ≡ Some y) × same y) → (tokens : List Token)
    → map kind tokens ≡ wanted ∷ [] → (y : Given c) × spells (token c) true y tokens × same y
token_read c wanted same gives [] e = absurd cc
token_read c wanted same gives (t ∷ u ∷ tokens) e = absurd cc
token_read c wanted same gives (t ∷ []) e =
    let k : t.kind ≡ wanted = cc in
    let y = gives t.start in
    (y.0, record { token = t; whole = refl; is_given = ap (λ (w : TokenKind). given c w t.start) k ∙ y.1 }, y.2)

pub again_token : {c : Class} {wanted : TokenKind} {same : Given c → Type 0}
    → ((place : ℕ) → (y : Given c) × (given c wanted place ≡ Some y) × same y) → Rereads (token c) same (wanted ∷ [])
again_token {c = c} {wanted = wanted} {same = same} gives = record { read = token_read c wanted same gives }

-- a token, and what stands behind it
pub again_next : (c : Class) (same : Given c → Type 0) {B : Type 0} {wanted : TokenKind} {next : Given c → Grammar B}
    {such : B → Type 0} {ks : List TokenKind}
    → ((place : ℕ) → (y : Given c) × (given c wanted place ≡ Some y) × same y)
    → ((x : Given c) → same x → Rereads (next x) such ks) → Rereads (chain (token c) next) such (wanted ∷ ks)
again_next c same {ks = ks} gives rest = again_then {same = same} {ys = ks} refl (again_token {c = c} gives) rest

-- a reserved word or a symbol, and what stands behind it
pub again_mark : (c : Class) {B : Type 0} {wanted : TokenKind} {next : Given c → Grammar B} {such : B → Type 0}
    {ks : List TokenKind} → ((place : ℕ) → (y : Given c) × (given c wanted place ≡ Some y))
    → ((x : Given c) → Rereads (next x) such ks) → Rereads (chain (token c) next) such (wanted ∷ ks)
again_mark c gives rest =
    again_next c (λ y. Unit {0}) (λ place. ((gives place).0, (gives place).1, tt)) (λ x same. rest x)

pub again_left : {A : Type 0} {g h : Grammar A} {such : A → Type 0} {ks : List TokenKind} → Rereads g such ks
    → Rereads (pick g h) such ks
again_left r = record { read = λ tokens e. let p = r.read tokens e in (p.0, inl p.1, p.2) }

pub again_right : {A : Type 0} {g h : Grammar A} {such : A → Type 0} {ks : List TokenKind} → Rereads h such ks
    → Rereads (pick g h) such ks
again_right r = record { read = λ tokens e. let p = r.read tokens e in (p.0, inr p.1, p.2) }

pub again_as : {A : Type 0} {g : Grammar A} {such : A → Type 0} {xs ks : List TokenKind} → ks ≡ xs → Rereads g such xs
    → Rereads g such ks
again_as is r = record { read = λ tokens e. r.read tokens (e ∙ is) }

up_to_read : (most n : ℕ) → 1 ≤ n → n ≤ most → (tokens : List Token) → map kind tokens ≡ kinds.Number n ∷ []
    → (y : ℕ × ℕ) × spells (up_to most) true y tokens × (y.0 ≡ n)
up_to_read most n low high [] e = absurd cc
up_to_read most n low high (t ∷ u ∷ tokens) e = absurd cc
up_to_read most n low high (t ∷ []) e =
    let k : t.kind ≡ kinds.Number n = cc in
    let is : given positive (kinds.Number n) t.start ≡ Some (n, t.start) =
    ap (λ (b : Bool). if_so {A = ℕ × ℕ} b (n, t.start)) (le-leb 1 n low) in (
      (n, t.start),
      (
        record {
          token = t;
          whole = refl;
          is_given = ap (λ (w : TokenKind). given positive w t.start) k ∙ is;
        },
        λ kept. le-leb n most high,
      ),
      refl,
    )

-- a number from 1 on, up to a limit
pub again_up_to : (most n : ℕ) → 1 ≤ n → n ≤ most → Rereads (up_to most) (λ y. y.0 ≡ n) (kinds.Number n ∷ [])
again_up_to most n low high = record { read = up_to_read most n low high }

none_read : {A : Type 0} (limit : ℕ) (thing : Grammar A) (tokens : List Token) → map kind tokens ≡ []
    → (ys : List A) × spells (many limit thing) true ys tokens × (ys ≡ [])
none_read limit thing [] e = ([], (refl, λ kept. omega arith), refl)
none_read limit thing (t ∷ tokens) e = absurd cc

-- no thing, of no token
pub again_none : {A : Type 0} {limit : ℕ} {thing : Grammar A} → Rereads (many limit thing) (λ ys. ys ≡ []) []
again_none {limit = limit} {thing = thing} = record { read = none_read limit thing }
