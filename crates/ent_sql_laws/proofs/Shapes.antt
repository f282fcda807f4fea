-- What the parts of a grammar spell, in the words of phrases.
use Rattle.std.proofs.Common.{◌≡◌, ℕ, ◌≤◌, ◌-◌, Bool, true, false, nat_le, eqb, cond, List, [], ◌∷◌, ◌++◌, refl, ap}
use Rattle.std.proofs.Common.{sym, ◌∙◌, subst, arith, rules, Some, ◌⊎◌, inl, inr}
use Rattle.std.proofs.lemmas.List.{append-nil}
use Rattle.std.proofs.lemmas.Bool.{eqb-true, leb-true, le-leb}
use denote.Enum.Bare.{same_true, true_same}
use Rattle.ent_text.specs.contracts.keyword.Keyword.{the_type as keyword_type}
use Rattle.ent_text.specs.contracts.symbol.Symbol.{the_type as symbol_type}
use Rattle.ent_text.specs.declared.token.Token.{Token}
use Rattle.ent_text.specs.declared.token.TokenKind.{TokenKind}
use Rattle.ent_text.specs.declared.token.TokenKind.TheVariants as kinds
use Rattle.ent_text.specs.declared.keyword.Keyword.{Keyword}
use Rattle.ent_text.specs.declared.symbol.Symbol.{Symbol}
use Rattle.ent_text.specs.declared.divider.Divider.{Divider}
use Rattle.ent_text.specs.declared.divider.Divider.TheVariants.{Comma, And}
use Rattle.ent_text.specs.Class.{Class, word, sign, name, variable, number, positive, one, text, Given, given, if_so}
use Rattle.ent_text.specs.Class.{same_word, same_sign, class_of}
use Rattle.ent_text.specs.Phrase.{Phrase, ◌⨾◌, nothing, Single, all}
use Rattle.ent_text.specs.Grammar.{Grammar, give, token, up_to, chain, pick, many, more, listed}
use Rattle.ent_text.specs.GrammarSpelling.{spells, chained}
use Rattle.ent_sql_laws.specs.Phrases.{Standing, divides, IsSpelledAs}
use Rattle.ent_sql_laws.specs.Phrases as phrases

-- the grammar spells just this phrase of each value
pub record Spelled {A : Type 0} (g : Grammar A) (phrase : A → Phrase) : Type 0 where
  pub says : (y : A) (tokens : List Token) → spells g true y tokens → phrase y tokens
  pub said : (y : A) (tokens : List Token) → phrase y tokens → spells g true y tokens

pub both : {A : Type 0} {g : Grammar A} {phrase : A → Phrase} → Spelled g phrase → IsSpelledAs g phrase
both each = λ thing tokens. (each.says thing tokens, each.said thing tokens)

-- a value made of parts, which are these phrases
pub record Made {A P : Type 0} (make : P → A) (phrase : P → Phrase) (y : A) (tokens : List Token) : Type 0 where
  pub parts : P
  pub is : y ≡ make parts
  pub spelled : phrase parts tokens

-- ---- single tokens

-- the kind of a token of the class that gives this, where it stands, and what holds besides
abbrev pub kind_for : (c : Class) → Given c → TokenKind
kind_for (word w) y = kinds.Word w
kind_for (sign s) y = kinds.Sign s
kind_for name y = kinds.Name y.0
kind_for variable y = kinds.HostVariable y.0
kind_for number y = kinds.Number y.0
kind_for positive y = kinds.Number y.0
kind_for one y = kinds.Number 1
kind_for text y = kinds.Literal y.0

abbrev pub place_for : (c : Class) → Given c → ℕ
place_for (word w) y = y
place_for (sign s) y = y
place_for name y = y.1
place_for variable y = y.1
place_for number y = y.1
place_for positive y = y.1
place_for one y = y
place_for text y = y.1

abbrev pub Besides : (c : Class) → Given c → Type 0
Besides positive y = 1 ≤ y.0
Besides _ y = Unit {0}

-- a token of the class that gives this
abbrev Stands : (c : Class) → Given c → TokenKind → ℕ → Type 0
Stands c y kind start = (kind ≡ kind_for c y) × (start ≡ place_for c y) × Besides c y

if_so_is : {A : Type 0} (b : Bool) (x y : A) → if_so b x ≡ Some y → (b ≡ true) × (x ≡ y)
if_so_is true x y e = (refl, cc)
if_so_is false x y e = absurd cc

given_stands : (c : Class) (y : Given c) (kind : TokenKind) (start : ℕ) → given c kind start ≡ Some y
    → Stands c y kind start
given_stands (word w) y (kinds.Word v) start e =
    let h = if_so_is (same_word v w) start y e in
    (ap (λ (u : Keyword). kinds.Word u) (same_true keyword_type (search rules) v w h.0), h.1, tt)
given_stands (sign s) y (kinds.Sign v) start e =
    let h = if_so_is (same_sign v s) start y e in
    (ap (λ (u : Symbol). kinds.Sign u) (same_true symbol_type (search rules) v s h.0), h.1, tt)
given_stands name y (kinds.Name n) start e =
    let k : (n, start) ≡ y = cc in
    (ap (λ (z : List ℕ × ℕ). kinds.Name z.0) k, ap (λ (z : List ℕ × ℕ). z.1) k, tt)
given_stands variable y (kinds.HostVariable n) start e =
    let k : (n, start) ≡ y = cc in
    (ap (λ (z : List ℕ × ℕ). kinds.HostVariable z.0) k, ap (λ (z : List ℕ × ℕ). z.1) k, tt)
given_stands number y (kinds.Number n) start e =
    let k : (n, start) ≡ y = cc in (ap (λ (z : ℕ × ℕ). kinds.Number z.0) k, ap (λ (z : ℕ × ℕ). z.1) k, tt)
given_stands positive y (kinds.Number n) start e =
    let h = if_so_is (nat_le 1 n) (n, start) y e in
    let same : n ≡ y.0 = ap (λ (z : ℕ × ℕ). z.0) h.1 in
    (ap (λ (z : ℕ × ℕ). kinds.Number z.0) h.1, ap (λ (z : ℕ × ℕ). z.1) h.1, omega (arith, leb-true 1 n h.0))
given_stands one y (kinds.Number n) start e =
    let h = if_so_is (eqb n 1) start y e in (ap (λ (m : ℕ). kinds.Number m) (eqb-true n 1 h.0), h.1, tt)
given_stands text y (kinds.Literal n) start e =
    let k : (n, start) ≡ y = cc in
    (ap (λ (z : List ℕ × ℕ). kinds.Literal z.0) k, ap (λ (z : List ℕ × ℕ). z.1) k, tt)
given_stands _ y _ start e = absurd cc

-- a token of that kind at that place gives this
gives_so : (c : Class) (y : Given c) → Besides c y → given c (kind_for c y) (place_for c y) ≡ Some y
gives_so (word w) y h = ap (λ (b : Bool). if_so b y) (true_same keyword_type w w refl)
gives_so (sign s) y h = ap (λ (b : Bool). if_so b y) (true_same symbol_type s s refl)
gives_so name y h = refl
gives_so variable y h = refl
gives_so number y h = refl
gives_so positive y h = ap (λ (b : Bool). if_so {A = ℕ × ℕ} b y) (le-leb 1 y.0 h)
gives_so one y h = refl
gives_so text y h = refl

-- a token of the class at the place, of which nothing holds besides
pub standing_spelled : (c : Class) → ((y : Given c) → Besides c y)
    → Spelled (token c) (λ y. Standing (place_for c y) (kind_for c y))
standing_spelled c besides = record {
  says = λ y tokens h.
      let stands = given_stands c y h.token.kind h.token.start h.is_given in
      record { token = h.token; whole = h.whole; is_kind = stands.0; stands = stands.1 };
  said = λ y tokens h. record {
    token = h.token;
    whole = h.whole;
    is_given = (λ i. given c (h.is_kind i) (h.stands i)) ∙ gives_so c y (besides y);
  };
}

-- a number from 1 on, up to a limit
pub up_to_spelled : (most : ℕ)
    → Spelled (up_to most) (λ y tokens. (1 ≤ y.0) × (y.0 ≤ most) × Standing y.1 (kinds.Number y.0) tokens)
up_to_spelled most = record {
  says = λ y tokens h.
      let one_token = h.0 in
      let stands = given_stands positive y one_token.token.kind one_token.token.start one_token.is_given in (
        stands.2,
        leb-true y.0 most (h.1 refl),
        record { token = one_token.token; whole = one_token.whole; is_kind = stands.0; stands = stands.1 },
      );
  said = λ y tokens h. (
    record {
      token = h.2.token;
      whole = h.2.whole;
      is_given = (λ i. given positive (h.2.is_kind i) (h.2.stands i)) ∙ gives_so positive y h.0;
    },
    λ kept. le-leb y.0 most h.1,
  );
}

pub word_spelled : (w : Keyword) → Spelled (token (word w)) (λ place. Standing place (kinds.Word w))
word_spelled w = standing_spelled (word w) (λ y. tt)

pub sign_spelled : (s : Symbol) → Spelled (token (sign s)) (λ place. Standing place (kinds.Sign s))
sign_spelled s = standing_spelled (sign s) (λ y. tt)

-- ---- one part behind the other

pub spelled_as : {A : Type 0} {g : Grammar A} {phrase other : A → Phrase} → Spelled g phrase
    → ((y : A) (tokens : List Token) → phrase y tokens → other y tokens)
    → ((y : A) (tokens : List Token) → other y tokens → phrase y tokens) → Spelled g other
spelled_as each to from = record {
  says = λ y tokens h. to y tokens (each.says y tokens h);
  said = λ y tokens h. each.said y tokens (from y tokens h);
}

-- no token, which gives this
pub give_spelled : {A : Type 0} (x : A) → Spelled (give x) (Made {P = Unit {0}} (λ parts. x) (λ parts. nothing))
give_spelled x = record {
  says = λ y tokens h. record { parts = tt; is = h.0; spelled = h.1 };
  said = λ y tokens h. (h.is, h.spelled);
}

-- a last part, of which the value is made
pub last_spelled : {A B : Type 0} {g : Grammar A} {phrase : A → Phrase} (make : A → B) → Spelled g phrase
    → Spelled (chain g (λ x. give (make x))) (Made make phrase)
last_spelled {phrase = phrase} make each = record {
  says = λ y tokens h.
      let whole : tokens ≡ h.1.front =
      h.1.whole ∙ ap (λ (l : List Token). h.1.front ++ l) h.1.second.1 ∙ append-nil h.1.front in
      record {
        parts = h.0;
        is = h.1.second.0;
        spelled = subst (phrase h.0) (sym whole) (each.says h.0 h.1.front h.1.first);
      };
  said = λ y tokens h. (
    h.parts,
    record {
      front = tokens;
      back = [];
      whole = sym (append-nil tokens);
      first = each.said h.parts tokens h.spelled;
      second = (h.is, refl);
    },
  );
}

-- a part, and what stands behind it
pub then_spelled : {A B P : Type 0} {g : Grammar A} {next : A → Grammar B} {phrase : A → Phrase} (make : A → P → B)
    (rest : A → P → Phrase) → Spelled g phrase → ((x : A) → Spelled (next x) (Made (make x) (rest x)))
    → Spelled (chain g next) (Made {P = A × P} (λ parts. make parts.0 parts.1)
    (λ parts. phrase parts.0 ⨾ rest parts.0 parts.1))
then_spelled make rest first second = record {
  says = λ y tokens h.
      let r = (second h.0).says y h.1.back h.1.second in
      record {
        parts = (h.0, r.parts);
        is = r.is;
        spelled = record {
          front = h.1.front;
          back = h.1.back;
          whole = h.1.whole;
          first = first.says h.0 h.1.front h.1.first;
          second = r.spelled;
        };
      };
  said = λ y tokens h. (
    h.parts.0,
    record {
      front = h.spelled.front;
      back = h.spelled.back;
      whole = h.spelled.whole;
      first = first.said h.parts.0 h.spelled.front h.spelled.first;
      second = (second h.parts.0).said y h.spelled.back
          (record { parts = h.parts.1; is = h.is; spelled = h.spelled.second });
    },
  );
}

-- a part, and what stands behind it, whatever it is
pub chain_spelled : {A B : Type 0} {g : Grammar A} {next : A → Grammar B} {phrase : A → Phrase} {rest : A → B → Phrase}
    → Spelled g phrase → ((x : A) → Spelled (next x) (rest x)) → Spelled (chain g next) (chained phrase rest)
chain_spelled first second = record {
  says = λ y tokens h. (
    h.0,
    record {
      front = h.1.front;
      back = h.1.back;
      whole = h.1.whole;
      first = first.says h.0 h.1.front h.1.first;
      second = (second h.0).says y h.1.back h.1.second;
    },
  );
  said = λ y tokens h. (
    h.0,
    record {
      front = h.1.front;
      back = h.1.back;
      whole = h.1.whole;
      first = first.said h.0 h.1.front h.1.first;
      second = (second h.0).said y h.1.back h.1.second;
    },
  );
}

pub join : {before behind : Phrase} {tokens : List Token} (front back : List Token) → tokens ≡ front ++ back
    → before front → behind back → (before ⨾ behind) tokens
join front back is h k = record { front = front; back = back; whole = is; first = h; second = k }

-- with nothing behind it
pub alone_is : (phrase : Phrase) {tokens : List Token} (front back : List Token) → tokens ≡ front ++ back
    → phrase front → nothing back → phrase tokens
alone_is phrase front back is h none =
    subst phrase (sym (is ∙ ap (λ (l : List Token). front ++ l) none ∙ append-nil front)) h

-- some value of the phrase, whichever
abbrev pub any : {A : Type 0} → (A → Phrase) → Phrase
any {A} phrase tokens = (x : A) × phrase x tokens

-- a part whose value isn't kept, and what stands behind it
pub mark_spelled : {A B P : Type 0} {g : Grammar A} {next : A → Grammar B} {phrase : A → Phrase} {make : P → B}
    {rest : P → Phrase} → Spelled g phrase → ((x : A) → Spelled (next x) (Made make rest))
    → Spelled (chain g next) (Made make (λ parts. any phrase ⨾ rest parts))
mark_spelled first second = record {
  says = λ y tokens h.
      let r = (second h.0).says y h.1.back h.1.second in
      record {
        parts = r.parts;
        is = r.is;
        spelled = record {
          front = h.1.front;
          back = h.1.back;
          whole = h.1.whole;
          first = (h.0, first.says h.0 h.1.front h.1.first);
          second = r.spelled;
        };
      };
  said = λ y tokens h. (
    h.spelled.first.0,
    record {
      front = h.spelled.front;
      back = h.spelled.back;
      whole = h.spelled.whole;
      first = first.said h.spelled.first.0 h.spelled.front h.spelled.first.1;
      second = (second h.spelled.first.0).said y h.spelled.back
          (record { parts = h.parts; is = h.is; spelled = h.spelled.second });
    },
  );
}

-- a last part whose value isn't kept
pub end_spelled : {A B : Type 0} {g : Grammar A} {phrase : A → Phrase} (y : B) → Spelled g phrase
    → Spelled (chain g (λ x. give y)) (Made {P = Unit {0}} (λ parts. y) (λ parts. any phrase))
end_spelled y each =
    spelled_as (last_spelled (λ x. y) each)
    (λ z tokens h. record { parts = tt; is = h.is; spelled = (h.parts, h.spelled) })
    (λ z tokens h. record { parts = h.spelled.0; is = h.is; spelled = h.spelled.1 })

-- a part that isn't kept before one that is
pub behind_spelled : {A B : Type 0} {g : Grammar A} {h : Grammar B} {phrase : A → Phrase} {other : B → Phrase}
    → Spelled g phrase → Spelled h other → Spelled (chain g (λ x. h)) (λ y. any phrase ⨾ other y)
behind_spelled first second = record {
  says = λ y tokens h. record {
    front = h.1.front;
    back = h.1.back;
    whole = h.1.whole;
    first = (h.0, first.says h.0 h.1.front h.1.first);
    second = second.says y h.1.back h.1.second;
  };
  said = λ y tokens h. (
    h.first.0,
    record {
      front = h.front;
      back = h.back;
      whole = h.whole;
      first = first.said h.first.0 h.front h.first.1;
      second = second.said y h.back h.second;
    },
  );
}

-- ---- one part or another

pub either_spelled : {A : Type 0} {g h : Grammar A} {phrase other : A → Phrase} → Spelled g phrase → Spelled h other
    → Spelled (pick g h) (λ y tokens. phrase y tokens ⊎ other y tokens)
either_spelled {A} {g = g} {h = h} {phrase = phrase} {other = other} left right = record { says = to; said = from }
  where
    to : (y : A) (tokens : List Token) → spells (pick g h) true y tokens → phrase y tokens ⊎ other y tokens
    to y tokens (inl k) = inl (left.says y tokens k)
    to y tokens (inr k) = inr (right.says y tokens k)

    from : (y : A) (tokens : List Token) → phrase y tokens ⊎ other y tokens → spells (pick g h) true y tokens
    from y tokens (inl k) = inl (left.said y tokens k)
    from y tokens (inr k) = inr (right.said y tokens k)

-- what holds of each value that is made so holds of a value that is
pub made_gives : {A P : Type 0} {make : P → A} {phrase : P → Phrase} (goal : A → Type 0) {y : A} {tokens : List Token}
    → ((parts : P) → phrase parts tokens → goal (make parts)) → Made make phrase y tokens → goal y
made_gives goal so h = subst goal (sym h.is) (so h.parts h.spelled)

pub made_spelled : {A P : Type 0} {g : Grammar A} {make : P → A} {phrase : P → Phrase} (whole : A → Phrase)
    → Spelled g (Made make phrase)
    → ((parts : P) (tokens : List Token) → phrase parts tokens → whole (make parts) tokens)
    → ((y : A) (tokens : List Token) → whole y tokens → Made make phrase y tokens) → Spelled g whole
made_spelled whole each to from =
    spelled_as each (λ y tokens h. made_gives (λ z. whole z tokens) (λ parts k. to parts tokens k) h) from

pub either_made : {A P Q : Type 0} {g h : Grammar A} {make : P → A} {phrase : P → Phrase} {other : Q → A}
    {other_phrase : Q → Phrase} (whole : A → Phrase) → Spelled g (Made make phrase)
    → Spelled h (Made other other_phrase)
    → ((parts : P) (tokens : List Token) → phrase parts tokens → whole (make parts) tokens)
    → ((parts : Q) (tokens : List Token) → other_phrase parts tokens → whole (other parts) tokens)
    → ((y : A) (tokens : List Token) → whole y tokens
    → Made make phrase y tokens ⊎ Made other other_phrase y tokens) → Spelled (pick g h) whole
either_made {A} {make = make} {phrase = phrase} {other = other} {other_phrase = other_phrase} whole left right first
    second from =
    spelled_as (either_spelled left right) to from
  where
    to : (y : A) (tokens : List Token) → Made make phrase y tokens ⊎ Made other other_phrase y tokens → whole y tokens
    to y tokens (inl h) = made_gives (λ z. whole z tokens) (λ parts k. first parts tokens k) h
    to y tokens (inr h) = made_gives (λ z. whole z tokens) (λ parts k. second parts tokens k) h

pub if_spelled : {A : Type 0} {g h : Grammar A} {phrase other : A → Phrase} (test : Bool) → Spelled g phrase
    → Spelled h other → Spelled (cond test g h) (cond test phrase other)
if_spelled true left right = left
if_spelled false left right = right

-- ---- lists

all_alike : {A : Type 0} (these those : A → Phrase)
    → ((x : A) (tokens : List Token) → these x tokens → those x tokens)
    → (xs : List A) (tokens : List Token) → all these xs tokens → all those xs tokens
all_alike these those so [] tokens h = h
all_alike these those so (x ∷ xs) tokens h = record {
  front = h.front;
  back = h.back;
  whole = h.whole;
  first = so x h.front h.first;
  second = all_alike these those so xs h.back h.second;
}

pub many_spelled : {A : Type 0} (limit : ℕ) {g : Grammar A} {phrase : A → Phrase} → Spelled g phrase
    → Spelled (many limit g) (phrases.many limit phrase)
many_spelled limit {g = g} {phrase = phrase} each = record {
  says = λ xs tokens h. (h.1 refl, all_alike (spells g true) phrase each.says xs tokens h.0);
  said = λ xs tokens h. (all_alike phrase (spells g true) each.said xs tokens h.1, λ kept. h.0);
}

divider_spelled : (d : Divider) {A : Type 0} {g : Grammar A} {phrase : A → Phrase} → Spelled g phrase
    → Spelled (chain (token (class_of d)) (λ place. g)) (λ y. divides d ⨾ phrase y)
divider_spelled Comma each = behind_spelled (standing_spelled (sign _) (λ y. tt)) each
divider_spelled And each = behind_spelled (standing_spelled (word _) (λ y. tt)) each

-- things, each behind a divider
pub more_spelled : {A : Type 0} (limit : ℕ) (d : Divider) {g : Grammar A} {phrase : A → Phrase} → Spelled g phrase
    → Spelled (more limit d g) (phrases.many limit (λ y. divides d ⨾ phrase y))
more_spelled limit d {g = g} {phrase = phrase} each =
    let thing = divider_spelled d each in
    record {
      says = λ xs tokens h. (
        h.1 refl,
        all_alike (chained (Single (class_of d)) (λ place. spells g true)) (λ y. divides d ⨾ phrase y) thing.says xs
            tokens h.0,
      );
      said = λ xs tokens h. (
        all_alike (λ y. divides d ⨾ phrase y) (chained (Single (class_of d)) (λ place. spells g true)) thing.said xs
            tokens h.1,
        λ kept. h.0,
      );
    }

pub listed_spelled : {A : Type 0} (limit : ℕ) (d : Divider) {g : Grammar A} {phrase : A → Phrase} → 1 ≤ limit
    → Spelled g phrase → Spelled (listed limit d g) (phrases.listed limit d phrase)
listed_spelled {A} limit d {g = g} {phrase = phrase} some each =
    made_spelled (phrases.listed limit d phrase)
    (then_spelled (λ x xs. x ∷ xs) (λ x. phrases.many (limit - 1) (λ y. divides d ⨾ phrase y)) each
    (λ x. last_spelled (λ xs. x ∷ xs) (more_spelled (limit - 1) d each)))
    (λ parts tokens h. (
      omega (arith, h.second.0),
      record { front = h.front; back = h.back; whole = h.whole; first = h.first; second = h.second.1 },
    ))
    parted
  where
    parted : (xs : List A) (tokens : List Token) → phrases.listed limit d phrase xs tokens
        → Made {A = List A} {P = A × List A} (λ parts. parts.0 ∷ parts.1)
        (λ parts. phrase parts.0 ⨾ phrases.many (limit - 1) (λ y. divides d ⨾ phrase y) parts.1) xs tokens
    parted [] tokens h = absurd h
    parted (x ∷ xs) tokens h = record {
      parts = (x, xs);
      is = refl;
      spelled = record {
        front = h.1.front;
        back = h.1.back;
        whole = h.1.whole;
        first = h.1.first;
        second = (omega (arith, h.0), h.1.second);
      };
    }
