-- Tokens have one first fault at most, and none where they are a sentence.
use Rattle.std.proofs.Common.{◌≡◌, ℕ, true, false, List, [], ◌∷◌, ◌++◌, take, Result, Ok, Err, refl, sym, ap, ◌∙◌}
use Rattle.std.proofs.Common.{append_assoc, subst, inl, inr, ◌⊎◌}
use Rattle.ent_text.specs.declared.token.Token.{Token}
use Rattle.ent_text.specs.declared.grammar_fault.GrammarFault.{GrammarFault}
use Rattle.ent_text.specs.declared.grammar_fault.GrammarFault.TheVariants.{Unexpected, TooMany}
use Rattle.ent_text.specs.Read.{place_of}
use Rattle.ent_text.specs.Grammar.{Grammar, reads_all}
use Rattle.ent_text.specs.GrammarSpelling.{spells}
use Rattle.ent_text.specs.Foresight.{IsPredictive}
use Rattle.ent_text.specs.FirstFault.{AtMostADivider, KeepsLimits, IsSentence, CanGoOn, CantFollow, IsTooMuch}
use Rattle.ent_text.proofs.Tongue.{front_same}
use Rattle.ent_text.proofs.Stopped.{read_is_spelled, spelled_is_read, unexpected_cant_follow, too_many_is_too_much}

-- ---- two beginnings of one list

-- the second goes on behind the first, or ends before it does
abbrev Beginnings : List Token → List Token → List Token → List Token → Type 0
Beginnings a b c d = ((m : List Token) × (c ≡ a ++ m) × (b ≡ m ++ d))
    ⊎ ((t : Token) × (m : List Token) × (a ≡ c ++ t ∷ m) × (d ≡ t ∷ m ++ b))

longer : (t u : Token) (a b c d : List Token) → t ≡ u → Beginnings a b c d → Beginnings (t ∷ a) b (u ∷ c) d
longer t u a b c d e (inl h) = inl (h.0, (λ i. sym e i ∷ h.1 i), h.2)
longer t u a b c d e (inr h) = inr (h.0, h.1, (λ i. e i ∷ h.2 i), h.3)

beginnings : (a b c d : List Token) → a ++ b ≡ c ++ d → Beginnings a b c d
beginnings [] b c d e = inl (c, refl, e)
beginnings (t ∷ a) b [] d e = inr (t, a, refl, sym e)
beginnings (t ∷ a) b (u ∷ c) d e = let k : t ≡ u = cc in let l : a ++ b ≡ c ++ d = cc in
    longer t u a b c d k (beginnings a b c d l)

-- ---- what stands behind a fault

no_longer_divider : (t : Token) (m rest : List Token) → AtMostADivider (m ++ t ∷ rest) → (AtMostADivider (t ∷ []) → ⊥)
    → ⊥
no_longer_divider t [] [] h plain = plain h
no_longer_divider t [] (u ∷ us) (inl e) plain = absurd cc
no_longer_divider t [] (u ∷ us) (inr h) plain = let e = h.2.whole in absurd cc
no_longer_divider t (v ∷ []) rest (inl e) plain = absurd cc
no_longer_divider t (v ∷ []) rest (inr h) plain = let e = h.2.whole in absurd cc
no_longer_divider t (v ∷ w ∷ m) rest (inl e) plain = absurd cc
no_longer_divider t (v ∷ w ∷ m) rest (inr h) plain = let e = h.2.whole in absurd cc

module _ {A : Type 0} (g : Grammar A) (end : ℕ) (ts : List Token) where
  -- no sentence goes on past a token that can't follow
  past_unexpected : (place : ℕ) (h : CantFollow g end ts place) (t : Token) (m rest back : List Token)
      → h.back ≡ t ∷ m ++ back → CanGoOn g (h.before ++ t ∷ rest) → ⊥
  past_unexpected place h t m rest back at_back goes =
      let so : (h.before ++ t ∷ rest) ++ goes.0 ≡ h.before ++ (t ∷ (rest ++ goes.0)) =
      append_assoc h.before (t ∷ rest) goes.0 in
      let alike : take 1 (t ∷ (rest ++ goes.0)) ≡ take 1 h.back = ap (λ (us : List Token). take 1 us) (sym at_back) in
      h.not_so (t ∷ (rest ++ goes.0)) alike (subst (λ (us : List Token). IsSentence g us) so goes.1)

  past_much_of : (place : ℕ) (h : IsTooMuch g ts place) (rest : List Token)
      (k : KeepsLimits g (h.before ++ h.token ∷ rest)) → Beginnings k.front k.divider h.before (h.token ∷ rest) → ⊥
  past_much_of place h rest k (inl b) =
      no_longer_divider h.token b.0 rest (subst (λ (us : List Token). AtMostADivider us) b.2 k.divides) h.no_divider
  past_much_of place h rest k (inr b) =
      let same : h.token ≡ b.0 = let e = b.3 in cc in
      let so : k.front ++ k.onward ≡ h.before ++ (h.token ∷ (b.1 ++ k.onward)) =
      ap (λ (us : List Token). us ++ k.onward) b.2 ∙ append_assoc h.before (b.0 ∷ b.1) k.onward
      ∙ ap (λ (t : Token). h.before ++ (t ∷ (b.1 ++ k.onward))) (sym same) in
      h.not_so (b.1 ++ k.onward) k.value (subst (λ (us : List Token). spells g true k.value us) so k.spelled)

  -- nothing that keeps the limits goes on past a thing too much
  past_much : (place : ℕ) (h : IsTooMuch g ts place) (rest : List Token) → KeepsLimits g (h.before ++ h.token ∷ rest)
      → ⊥
  past_much place h rest k =
      past_much_of place h rest k (beginnings k.front k.divider h.before (h.token ∷ rest) (sym k.whole))

  -- ---- two faults

  unexpected_once_of : (p q : ℕ) (h : CantFollow g end ts p) (k : CantFollow g end ts q)
      → Beginnings h.before h.back k.before k.back → p ≡ q
  unexpected_once_of p q h k (inl ([], e, f)) = h.stands ∙ ap (λ (us : List Token). place_of end us) f ∙ sym k.stands
  unexpected_once_of p q h k (inl (t ∷ m, e, f)) =
      absurd (past_unexpected p h t m m k.back f (subst (λ (us : List Token). CanGoOn g us) e k.can_go_on))
  unexpected_once_of p q h k (inr (t, m, e, f)) =
      absurd (past_unexpected q k t m m h.back f (subst (λ (us : List Token). CanGoOn g us) e h.can_go_on))

  unexpected_once : (p q : ℕ) → CantFollow g end ts p → CantFollow g end ts q → p ≡ q
  unexpected_once p q h k =
      unexpected_once_of p q h k (beginnings h.before h.back k.before k.back (sym h.whole ∙ k.whole))

  much_once_of : (p q : ℕ) (h : IsTooMuch g ts p) (k : IsTooMuch g ts q)
      → Beginnings h.before (h.token ∷ h.back) k.before (k.token ∷ k.back) → p ≡ q
  much_once_of p q h k (inl ([], e, f)) = let same : h.token ≡ k.token = cc in
      h.stands ∙ ap (λ (t : Token). t.start) same ∙ sym k.stands
  much_once_of p q h k (inl (t ∷ m, e, f)) =
      let same : h.token ≡ t = cc in
      let so : k.before ≡ h.before ++ h.token ∷ m = e ∙ ap (λ (u : Token). h.before ++ u ∷ m) (sym same) in
      absurd (past_much p h m (subst (λ (us : List Token). KeepsLimits g us) so k.keeps_limits))
  much_once_of p q h k (inr (t, m, e, f)) =
      let same : k.token ≡ t = cc in
      let so : h.before ≡ k.before ++ k.token ∷ m = e ∙ ap (λ (u : Token). k.before ++ u ∷ m) (sym same) in
      absurd (past_much q k m (subst (λ (us : List Token). KeepsLimits g us) so h.keeps_limits))

  much_once : (p q : ℕ) → IsTooMuch g ts p → IsTooMuch g ts q → p ≡ q
  much_once p q h k = much_once_of p q h k
      (beginnings h.before (h.token ∷ h.back) k.before (k.token ∷ k.back) (sym h.whole ∙ k.whole))

  not_both_of : (p q : ℕ) (h : CantFollow g end ts p) (k : IsTooMuch g ts q)
      → Beginnings h.before h.back k.before (k.token ∷ k.back) → ⊥
  not_both_of p q h k (inl (m, e, f)) =
      let goes = k.can_go_on in
      let so : (k.before ++ k.token ∷ []) ++ goes.0 ≡ h.before ++ (m ++ k.token ∷ goes.0) =
      append_assoc k.before (k.token ∷ []) goes.0 ∙ ap (λ (us : List Token). us ++ k.token ∷ goes.0) e
      ∙ append_assoc h.before m (k.token ∷ goes.0) in
      let alike : take 1 (m ++ k.token ∷ goes.0) ≡ take 1 h.back =
      front_same m (k.token ∷ goes.0) (k.token ∷ k.back) refl ∙ ap (λ (us : List Token). take 1 us) (sym f) in
      h.not_so (m ++ k.token ∷ goes.0) alike (subst (λ (us : List Token). IsSentence g us) so goes.1)
  not_both_of p q h k (inr (t, m, e, f)) =
      let same : k.token ≡ t = cc in
      let so : h.before ≡ k.before ++ k.token ∷ m = e ∙ ap (λ (u : Token). k.before ++ u ∷ m) (sym same) in
      past_much q k m (subst (λ (us : List Token). KeepsLimits g us) so h.keeps_limits)

  not_both : (p q : ℕ) → CantFollow g end ts p → IsTooMuch g ts q → ⊥
  not_both p q h k = not_both_of p q h k
      (beginnings h.before h.back k.before (k.token ∷ k.back) (sym h.whole ∙ k.whole))

  -- ---- so each fault is answered where it is meant

  module _ (foreseen : IsPredictive g []) where
    -- what is read has no fault
    read_can_follow : (place : ℕ) (y : A) → CantFollow g end ts place → reads_all g end ts ≡ Ok y → ⊥
    read_can_follow place y h e = h.not_so h.back refl
        (subst (λ (us : List Token). IsSentence g us) h.whole (y, read_is_spelled g foreseen end ts y e false))

    read_is_not_too_much : (place : ℕ) (y : A) → IsTooMuch g ts place → reads_all g end ts ≡ Ok y → ⊥
    read_is_not_too_much place y h e =
        h.not_so h.back y (subst (λ (us : List Token). spells g true y us) h.whole
        (read_is_spelled g foreseen end ts y e true))

    unexpected_is : (place : ℕ) → CantFollow g end ts place → (read : Result A GrammarFault) → reads_all g end ts ≡ read
        → read ≡ Err (Unexpected place)
    unexpected_is place h (Ok y) e = absurd (read_can_follow place y h e)
    unexpected_is place h (Err (Unexpected q)) e = let same = unexpected_once q place
        (unexpected_cant_follow g foreseen end ts q e) h in ap (λ (n : ℕ). Err (Unexpected n)) same
    unexpected_is place h (Err (TooMany q)) e = absurd (not_both place q h (too_many_is_too_much g foreseen end ts q e))

    too_many_is : (place : ℕ) → IsTooMuch g ts place → (read : Result A GrammarFault) → reads_all g end ts ≡ read
        → read ≡ Err (TooMany place)
    too_many_is place h (Ok y) e = absurd (read_is_not_too_much place y h e)
    too_many_is place h (Err (Unexpected q)) e =
        absurd (not_both q place (unexpected_cant_follow g foreseen end ts q e) h)
    too_many_is place h (Err (TooMany q)) e = let same =
        much_once q place (too_many_is_too_much g foreseen end ts q e) h in ap (λ (n : ℕ). Err (TooMany n)) same

    pub cant_follow_is_unexpected : (place : ℕ) → CantFollow g end ts place
        → reads_all g end ts ≡ Err (Unexpected place)
    cant_follow_is_unexpected place h = unexpected_is place h (reads_all g end ts) refl

    pub too_much_is_too_many : (place : ℕ) → IsTooMuch g ts place → reads_all g end ts ≡ Err (TooMany place)
    too_much_is_too_many place h = too_many_is place h (reads_all g end ts) refl

    pub one_value : (y z : A) → spells g true y ts → spells g true z ts → y ≡ z
    one_value y z h k = let a = spelled_is_read g foreseen end ts y h in
        let b = spelled_is_read g foreseen end ts z k in cc
