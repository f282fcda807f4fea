-- No sentence has a token that is a fault.
use Rattle.std.proofs.Common.{◌≡◌, ℕ, Bool, true, false, List, [], ◌∷◌, ◌++◌, Option, Some, None, Ok, refl, ap, ◌∙◌}
use Rattle.std.proofs.Common.{inl, inr}
use Rattle.ent_text.specs.declared.fault.TextFault.{TextFault}
use Rattle.ent_text.specs.declared.token.Token.{Token}
use Rattle.ent_text.specs.declared.token.TokenKind.{TokenKind}
use Rattle.ent_text.specs.declared.token.TokenKind.TheVariants as kinds
use Rattle.ent_text.specs.Left.{fault_or, fault_among}
use Rattle.ent_text.proofs.FirstFault.{fault_behind, faultless_front}
use Rattle.ent_text.specs.Class.{Class, word, sign, name, variable, number, positive, one, text}
use Rattle.ent_text.specs.Class.{Given, given, class_of}
use Rattle.ent_text.specs.Phrase.{Phrase, ◌⨾◌, Single, all}
use Rattle.ent_text.specs.Grammar.{Grammar, give, token, up_to, chain, pick, many, more, reads_all}
use Rattle.ent_text.specs.GrammarSpelling.{spells}
use Rattle.ent_text.specs.Foresight.{IsPredictive}
use Rattle.ent_text.specs.FirstFault.{CanGoOn}
use Rattle.ent_text.proofs.Stopped.{read_is_spelled}

-- a token of a class is no fault
of_class : (c : Class) (k : TokenKind) (place : ℕ) (x : Given c) (other : Option TextFault) → given c k place ≡ Some x
    → fault_or k other ≡ other
of_class c (kinds.Word w) place x other e = refl
of_class c (kinds.Sign s) place x other e = refl
of_class c (kinds.Name n) place x other e = refl
of_class c (kinds.HostVariable n) place x other e = refl
of_class c (kinds.Number n) place x other e = refl
of_class c (kinds.Literal t) place x other e = refl
of_class (word w) (kinds.Fault f) place x other e = absurd cc
of_class (sign s) (kinds.Fault f) place x other e = absurd cc
of_class name (kinds.Fault f) place x other e = absurd cc
of_class variable (kinds.Fault f) place x other e = absurd cc
of_class number (kinds.Fault f) place x other e = absurd cc
of_class positive (kinds.Fault f) place x other e = absurd cc
of_class one (kinds.Fault f) place x other e = absurd cc
of_class text (kinds.Fault f) place x other e = absurd cc

-- these tokens have no fault
abbrev IsFaultless : Phrase
IsFaultless ts = fault_among ts ≡ None

of_single : (c : Class) (x : Given c) (ts : List Token) → Single c x ts → IsFaultless ts
of_single c x ts s = ap fault_among s.whole ∙ of_class c s.token.kind s.token.start x None s.is_given

of_both : (this that : Phrase) (ts : List Token) → ((us : List Token) → this us → IsFaultless us)
    → ((us : List Token) → that us → IsFaultless us) → (this ⨾ that) ts → IsFaultless ts
of_both this that ts first second both =
    ap fault_among both.whole ∙ fault_behind both.front both.back (first both.front both.first)
    ∙ second both.back both.second

of_all : {A : Type 0} (of : A → Phrase) → ((x : A) (us : List Token) → of x us → IsFaultless us)
    → (xs : List A) (ts : List Token) → all of xs ts → IsFaultless ts
of_all of each [] ts none = ap fault_among none
of_all of each (x ∷ xs) ts both = of_both (of x) (all of xs) ts (each x) (λ us h. of_all of each xs us h) both

-- what spells a value has no fault
pub spelled_without_fault : {A : Type 0} (g : Grammar A) (kept : Bool) (y : A) (ts : List Token) → spells g kept y ts
    → fault_among ts ≡ None
spelled_without_fault (give x) kept y ts h = ap fault_among h.1
spelled_without_fault (token c) kept y ts h = of_single c y ts h
spelled_without_fault (up_to most) kept y ts h = of_single positive y ts h.0
spelled_without_fault (chain g next) kept y ts (x, h) =
    of_both (spells g kept x) (spells (next x) kept y) ts (λ us k. spelled_without_fault g kept x us k)
    (λ us k. spelled_without_fault (next x) kept y us k) h
spelled_without_fault (pick g h) kept y ts (inl k) = spelled_without_fault g kept y ts k
spelled_without_fault (pick g h) kept y ts (inr k) = spelled_without_fault h kept y ts k
spelled_without_fault (many limit item) kept xs ts h =
    of_all (spells item kept) (λ x us k. spelled_without_fault item kept x us k) xs ts h.0
spelled_without_fault (more limit divider item) kept xs ts h =
    of_all _ (λ x us k. of_both (Single (class_of divider) k.0) (spells item kept x) us
    (λ vs s. of_single (class_of divider) k.0 vs s) (λ vs s. spelled_without_fault item kept x vs s) k.1) xs ts h.0

-- tokens that are read whole have no fault
pub read_without_fault : {A : Type 0} (g : Grammar A) → IsPredictive g [] → (end : ℕ) (ts : List Token) (y : A)
    → reads_all g end ts ≡ Ok y → fault_among ts ≡ None
read_without_fault g predictive end ts y e =
    spelled_without_fault g true y ts (read_is_spelled g predictive end ts y e true)

-- tokens with which some sentence begins have no fault
pub begun_without_fault : {A : Type 0} (g : Grammar A) (ts : List Token) → CanGoOn g ts → fault_among ts ≡ None
begun_without_fault g ts (onward, sentence) =
    faultless_front ts onward (spelled_without_fault g false sentence.0 (ts ++ onward) sentence.1)
