-- Classes of tokens that are apart have no token in common.
use Rattle.std.proofs.Common.{◌≡◌, ℕ, Bool, true, false, not, ◌&&◌, List, [], ◌∷◌, ◌++◌, Some, refl, sym, ap, ◌∙◌}
use Rattle.std.proofs.Common.{rules, inl, inr, ◌⊎◌}
use denote.Enum.Bare.{same_true, true_same}
use Rattle.ent_lists.specs.Elements.{or_cases, and_both, or_first, or_second}
use Rattle.ent_text.specs.contracts.keyword.Keyword.{the_type as keyword_type}
use Rattle.ent_text.specs.contracts.symbol.Symbol.{the_type as symbol_type}
use Rattle.ent_text.specs.declared.token.TokenKind.{TokenKind}
use Rattle.ent_text.specs.declared.token.TokenKind.TheVariants as kinds
use Rattle.ent_text.specs.declared.keyword.Keyword.{Keyword}
use Rattle.ent_text.specs.declared.symbol.Symbol.{Symbol}
use Rattle.ent_text.specs.Class.{Class, word, sign, name, variable, number, positive, one, text, Given, given, if_so}
use Rattle.ent_text.specs.Class.{is, among, kind_of, same_word, same_sign, alike, unlike, apart}

pub by_either : {P Q R : Type 0} → P ⊎ Q → (P → R) → (Q → R) → R
by_either (inl p) f g = f p
by_either (inr q) f g = g q

pub word_same : (v w : Keyword) → same_word v w ≡ true → v ≡ w
word_same v w e = same_true keyword_type (search rules) v w e

pub sign_same : (v w : Symbol) → same_sign v w ≡ true → v ≡ w
sign_same v w e = same_true symbol_type (search rules) v w e

pub alike_self : (k : TokenKind) → alike k k ≡ true
alike_self (kinds.Word w) = true_same keyword_type w w refl
alike_self (kinds.Sign s) = true_same symbol_type s s refl
alike_self (kinds.Name n) = refl
alike_self (kinds.HostVariable n) = refl
alike_self (kinds.Number n) = refl
alike_self (kinds.Literal n) = refl
alike_self (kinds.Fault f) = refl

-- a kind that says the same of itself, whatever else it says
abbrev bare : TokenKind → TokenKind
bare (kinds.Word w) = kinds.Word w
bare (kinds.Sign s) = kinds.Sign s
bare (kinds.Name n) = kinds.Name (120 ∷ [])
bare (kinds.HostVariable n) = kinds.HostVariable (120 ∷ [])
bare (kinds.Number n) = kinds.Number 1
bare (kinds.Literal n) = kinds.Literal []
bare (kinds.Fault f) = kinds.Fault f

of_class : (c : Class) (k : TokenKind) → is c k ≡ true → bare k ≡ kind_of c
of_class (word w) (kinds.Word v) e = ap (λ (u : Keyword). kinds.Word u) (word_same v w e)
of_class (sign s) (kinds.Sign v) e = ap (λ (u : Symbol). kinds.Sign u) (sign_same v s e)
of_class name (kinds.Name n) e = refl
of_class variable (kinds.HostVariable n) e = refl
of_class number (kinds.Number n) e = refl
of_class positive (kinds.Number n) e = refl
of_class one (kinds.Number n) e = refl
of_class text (kinds.Literal n) e = refl
of_class _ _ e = absurd cc

-- a token of two classes
both_alike : (c d : Class) (k : TokenKind) → is c k ≡ true → is d k ≡ true → alike (kind_of c) (kind_of d) ≡ true
both_alike c d k h g =
    let same : kind_of c ≡ kind_of d = sym (of_class c k h) ∙ of_class d k g in
    ap (alike (kind_of c)) (sym same) ∙ alike_self (kind_of c)

pub among_head : (c : Class) (cs : List Class) (k : TokenKind) → is c k ≡ true → among (c ∷ cs) k ≡ true
among_head c [] k e = e
among_head c (d ∷ cs) k e = or_first (is c k) (among (d ∷ cs) k) e

pub among_tail : (c : Class) (cs : List Class) (k : TokenKind) → among cs k ≡ true → among (c ∷ cs) k ≡ true
among_tail c [] k e = absurd cc
among_tail c (d ∷ cs) k e = or_second (is c k) (among (d ∷ cs) k) e

pub among_part : (c : Class) (cs : List Class) (k : TokenKind) → among (c ∷ cs) k ≡ true
    → (is c k ≡ true) ⊎ (among cs k ≡ true)
among_part c [] k e = inl e
among_part c (d ∷ cs) k e = or_cases (is c k) (among (d ∷ cs) k) e

pub among_left : (cs ds : List Class) (k : TokenKind) → among cs k ≡ true → among (cs ++ ds) k ≡ true
among_left [] ds k e = absurd cc
among_left (c ∷ cs) ds k e = by_either (among_part c cs k e) (λ h. among_head c (cs ++ ds) k h)
    (λ h. among_tail c (cs ++ ds) k (among_left cs ds k h))

pub among_right : (cs ds : List Class) (k : TokenKind) → among ds k ≡ true → among (cs ++ ds) k ≡ true
among_right [] ds k e = e
among_right (c ∷ cs) ds k e = among_tail c (cs ++ ds) k (among_right cs ds k e)

pub among_either : (cs ds : List Class) (k : TokenKind) → among (cs ++ ds) k ≡ true
    → (among cs k ≡ true) ⊎ (among ds k ≡ true)
among_either [] ds k e = inr e
among_either (c ∷ cs) ds k e =
    by_either (among_part c (cs ++ ds) k e) (λ h. inl (among_head c cs k h))
    (λ h. by_either (among_either cs ds k h) (λ j. inl (among_tail c cs k j)) (λ j. inr j))

alike_not : (b c : Bool) → (not b && c) ≡ true → b ≡ true → ⊥
alike_not true c e h = absurd cc
alike_not false c e h = absurd cc

unlike_so : (c : Class) (ds : List Class) (k : TokenKind) → unlike c ds ≡ true → is c k ≡ true → among ds k ≡ true → ⊥
unlike_so c [] k e h g = absurd cc
unlike_so c (d ∷ ds) k e h g =
    by_either (among_part d ds k g)
    (λ j. alike_not (alike (kind_of c) (kind_of d)) (unlike c ds) e (both_alike c d k h j))
    (λ j. unlike_so c ds k (and_both (not (alike (kind_of c) (kind_of d))) (unlike c ds) e).1 h j)

pub never_both : (cs ds : List Class) (k : TokenKind) → apart cs ds ≡ true → among cs k ≡ true → among ds k ≡ true → ⊥
never_both [] ds k e h g = absurd cc
never_both (c ∷ cs) ds k e h g =
    let b = and_both (unlike c ds) (apart cs ds) e in
    by_either (among_part c cs k h) (λ j. unlike_so c ds k b.0 j g) (λ j. never_both cs ds k b.1 j g)

-- ---- what a token gives

pub is_so : {A : Type 0} (b : Bool) (x : A) → b ≡ true → if_so b x ≡ Some x
is_so true x e = refl
is_so false x e = absurd cc

so_of : {A : Type 0} (b : Bool) (x y : A) → if_so b x ≡ Some y → b ≡ true
so_of true x y e = refl
so_of false x y e = absurd cc

-- what gives something is of the class
pub given_is : (c : Class) (k : TokenKind) (p : ℕ) (x : Given c) → given c k p ≡ Some x → is c k ≡ true
given_is (word w) (kinds.Word v) p x e = so_of (same_word v w) p x e
given_is (sign s) (kinds.Sign v) p x e = so_of (same_sign v s) p x e
given_is name (kinds.Name n) p x e = refl
given_is variable (kinds.HostVariable n) p x e = refl
given_is number (kinds.Number n) p x e = refl
given_is positive (kinds.Number n) p x e = so_of _ (n, p) x e
given_is one (kinds.Number n) p x e = so_of _ p x e
given_is text (kinds.Literal n) p x e = refl
given_is _ _ p x e = absurd cc

-- what is of the class gives something
pub is_given : (c : Class) (k : TokenKind) (p : ℕ) → is c k ≡ true → (x : Given c) × (given c k p ≡ Some x)
is_given (word w) (kinds.Word v) p e = (p, is_so (same_word v w) p e)
is_given (sign s) (kinds.Sign v) p e = (p, is_so (same_sign v s) p e)
is_given name (kinds.Name n) p e = ((n, p), refl)
is_given variable (kinds.HostVariable n) p e = ((n, p), refl)
is_given number (kinds.Number n) p e = ((n, p), refl)
is_given positive (kinds.Number n) p e = ((n, p), is_so _ (n, p) e)
is_given one (kinds.Number n) p e = (p, is_so _ p e)
is_given text (kinds.Literal n) p e = ((n, p), refl)
is_given _ _ p e = absurd cc

-- what stands for a class is of it
pub is_kind_of : (c : Class) → is c (kind_of c) ≡ true
is_kind_of (word w) = true_same keyword_type w w refl
is_kind_of (sign s) = true_same symbol_type s s refl
is_kind_of name = refl
is_kind_of variable = refl
is_kind_of number = refl
is_kind_of positive = refl
is_kind_of one = refl
is_kind_of text = refl
