-- All of the tokens: what is read of them, and where reading stops.
use Rattle.std.proofs.Common.{◌≡◌, ℕ, Bool, true, false, List, [], ◌∷◌, ◌++◌, take, Result, Ok, Err, refl, sym, ap, ◌∙◌}
use Rattle.std.proofs.Common.{inl, inr, subst, append_assoc}
use Rattle.std.proofs.lemmas.List.{append-nil}
use Rattle.ent_text.specs.declared.token.Token.{Token}
use Rattle.ent_value.specs.Refusal.{◌>>=◌}
use Rattle.ent_text.specs.declared.grammar_fault.GrammarFault.{GrammarFault}
use Rattle.ent_text.specs.declared.grammar_fault.GrammarFault.TheVariants.{Unexpected, TooMany}
use Rattle.ent_text.specs.Read.{Read, place_of}
use Rattle.ent_text.specs.Phrase.{nothing}
use Rattle.ent_text.specs.Grammar.{Grammar, reads, reads_all, ended}
use Rattle.ent_text.specs.GrammarSpelling.{spells}
use Rattle.ent_text.specs.Foresight.{IsPredictive}
use Rattle.ent_text.specs.FirstFault.{IsSentence, KeepsLimits, CantFollow, IsTooMuch}
use Rattle.ent_text.proofs.Tongue.{Tongue, Halted, Says_so, Firm, linked, firm_then, fault_at, OpensWith}
use Rattle.ent_text.proofs.Firm.{firm}
use Rattle.ent_text.proofs.Complete.{Answered, complete}

-- ---- the end of the tokens

closed : {A : Type 0} → A → ℕ → List Token → Read A
closed x end [] = Ok (x, [])
closed x end (t ∷ ts) = Err (Unexpected t.start)

closed_says : {A : Type 0} (x : A) (end : ℕ) (ts : List Token)
    → Says_so (λ kept y us. (y ≡ x) × nothing us) (closed x) end ts (closed x end ts)
unfolding closed
closed_says {A} x end [] = record { front = []; whole = refl; again = again; spelled = λ kept. (refl, refl) }
  where
    again : (e : ℕ) (others : List Token) → take 1 others ≡ take 1 [] → closed x e others ≡ Ok (x, others)
    again e [] same = refl
    again e (u ∷ us) same = absurd cc
closed_says {A} x end (t ∷ ts) =
    record {
      before = [];
      back = t ∷ ts;
      more = false;
      whole = refl;
      stands = refl;
      again = again;
      onward = [];
      goes_on = tt;
      long = x;
      spelled = (refl, refl);
      short = [];
      dropped = [];
      parted = refl;
      divides =
          inl refl;
      finish = [];
      brief = x;
      kept = (refl, refl);
    }
  where
    again : (e : ℕ) (others : List Token) → take 1 others ≡ take 1 (t ∷ ts)
        → closed x e others ≡ Err (Unexpected (place_of e others))
    again e [] same = absurd cc
    again e (u ∷ us) same = refl

closed_firm : {A : Type 0} (x : A) → Firm (λ kept y ts. (y ≡ x) × nothing ts) (closed x)
closed_firm x = record { value = x; sample = []; in_tongue = λ kept. (refl, refl); says = closed_says x }

all_at : {A : Type 0} → Grammar A → ℕ → List Token → Read A
all_at g end ts = reads g end ts >>= λ x. closed x.0 end x.1

abbrev All : {A : Type 0} → Grammar A → Tongue A
All g = linked (spells g) (λ x kept y ts. (y ≡ x) × nothing ts)

all_firm : {A : Type 0} (g : Grammar A) → IsPredictive g [] → Firm (All g) (all_at g)
unfolding all_at
all_firm g h = firm_then (reads g) (λ e x. closed x.0 e x.1) (firm g [] h) (λ x. closed_firm x)

all_spelled : {A : Type 0} (g : Grammar A) (kept : Bool) (y : A) (ts : List Token) → All g kept y ts
    → spells g kept y ts
all_spelled {A} g kept y ts h =
    let back : ts ≡ h.1.front = h.1.whole ∙ ap (λ (us : List Token). h.1.front ++ us) h.1.second.1
    ∙ append-nil h.1.front in
    let said : spells g kept h.0 ts = subst (λ (us : List Token). spells g kept h.0 us) (sym back) h.1.first in
    subst (λ (z : A). spells g kept z ts) (sym h.1.second.0) said

strip : {A : Type 0} → Read A → Result A GrammarFault
strip (Ok x) = Ok x.0
strip (Err f) = Err f

closed_is : {A : Type 0} (x : A) (end : ℕ) (ts : List Token) → ended x end ts ≡ strip (closed x end ts)
unfolding closed strip
closed_is x end [] = refl
closed_is x end (t ∷ ts) = refl

all_from : {A : Type 0} (end : ℕ) (r : Read A) → (r >>= λ x. ended x.0 end x.1) ≡ strip (r >>= λ x. closed x.0 end x.1)
unfolding strip
all_from end (Ok x) = closed_is x.0 end x.1
all_from end (Err f) = refl

all_is : {A : Type 0} (g : Grammar A) (end : ℕ) (ts : List Token) → reads_all g end ts ≡ strip (all_at g end ts)
unfolding all_at
all_is g end ts = all_from end (reads g end ts)

-- ---- what is read

read_of : {A : Type 0} (g : Grammar A) (end : ℕ) (ts : List Token) (y : A) (r : Read A) → reads g end ts ≡ r
    → Says_so (spells g) (reads g) end ts r → (r >>= λ x. ended x.0 end x.1) ≡ Ok y → (kept : Bool)
    → spells g kept y ts
read_of {A} g end ts y (Ok (x, [])) is h e kept =
    let back : ts ≡ h.front = h.whole ∙ append-nil h.front in
    let same : x ≡ y = cc in
    subst (λ (z : A). spells g kept z ts) same
    (subst (λ (us : List Token). spells g kept x us) (sym back) (h.spelled kept))
read_of g end ts y (Ok (x, t ∷ rest)) is h e kept = absurd cc
read_of g end ts y (Err f) is h e kept = absurd cc

-- what is read is spelled so
pub read_is_spelled : {A : Type 0} (g : Grammar A) → IsPredictive g [] → (end : ℕ) (ts : List Token) (y : A)
    → reads_all g end ts ≡ Ok y → (kept : Bool) → spells g kept y ts
read_is_spelled g h end ts y e kept = read_of g end ts y (reads g end ts) refl ((firm g [] h).says end ts) e kept

spelled_from : {A : Type 0} (kept : Bool) (y : A) (end : ℕ) (r : Read A) → Answered kept r y [] → Answered kept r y []
    → (kept ≡ true → (r >>= λ x. ended x.0 end x.1) ≡ Ok y)
spelled_from {A} kept y end r (inl e) h k = ap (λ (q : Read A). q >>= λ x. ended x.0 end x.1) e
spelled_from kept y end r (inr e) h k = absurd (e.2 k)

answered : {A : Type 0} (g : Grammar A) → IsPredictive g [] → (kept : Bool) (end : ℕ) (ts : List Token) (y : A)
    → spells g kept y ts → Answered kept (reads g end ts) y []
answered {A} g h kept end ts y spelled = subst (λ (us : List Token). Answered kept (reads g end us) y [])
    (append-nil ts) (complete g [] h kept y ts [] spelled tt end)

-- what is spelled is read
pub spelled_is_read : {A : Type 0} (g : Grammar A) → IsPredictive g [] → (end : ℕ) (ts : List Token) (y : A)
    → spells g true y ts → reads_all g end ts ≡ Ok y
spelled_is_read g h end ts y spelled = let a = answered g h true end ts y spelled in
    spelled_from true y end (reads g end ts) a a refl

unexpected_none : {A : Type 0} (y : A) (end place : ℕ) (r : Read A) → Answered false r y []
    → (r >>= λ x. ended x.0 end x.1) ≡ Err (Unexpected place) → ⊥
unexpected_none {A} y end place r (inl e) k = let a : (r >>= λ x. ended x.0 end x.1) ≡ Ok y =
    ap (λ (q : Read A). q >>= λ x. ended x.0 end x.1) e in absurd cc
unexpected_none {A} y end place r (inr e) k = let a : (r >>= λ x. ended x.0 end x.1) ≡ Err (TooMany e.0) =
    ap (λ (q : Read A). q >>= λ x. ended x.0 end x.1) e.1 in absurd cc

-- where a token can't stand, nothing is spelled so, of whatever size
pub never_unexpected : {A : Type 0} (g : Grammar A) → IsPredictive g [] → (end place : ℕ) (ts : List Token)
    → reads_all g end ts ≡ Err (Unexpected place) → IsSentence g ts → ⊥
never_unexpected g h end place ts e sentence =
    unexpected_none sentence.0 end place (reads g end ts) (answered g h false end ts sentence.0 sentence.1) e

-- ---- where it stops

module _ {A : Type 0} (g : Grammar A) (foreseen : IsPredictive g []) (end : ℕ) (ts : List Token) where
  abbrev Stop : GrammarFault → Type 0
  Stop f = Halted (All g) (all_at g) end ts f

  stopped_of : (f : GrammarFault) (r : Read A) → Says_so (All g) (all_at g) end ts r → strip r ≡ Err f → Stop f
  unfolding strip
  stopped_of f (Ok x) h e = absurd cc
  stopped_of f (Err k) h e = let same : k ≡ f = cc in subst (λ (fault : GrammarFault). Stop fault) same h

  stopped : (f : GrammarFault) → reads_all g end ts ≡ Err f → Stop f
  stopped f e = stopped_of f (all_at g end ts) ((all_firm g foreseen).says end ts) (sym (all_is g end ts) ∙ e)

  again : (us : List Token) (f : GrammarFault) → all_at g end us ≡ Err f → reads_all g end us ≡ Err f
  unfolding strip
  again us f e = all_is g end us ∙ ap strip e

  kept_before : (f : GrammarFault) (s : Stop f) → KeepsLimits g s.before
  kept_before f s = record {
    front = s.short;
    divider = s.dropped;
    whole = s.parted;
    divides = s.divides;
    onward =
        s.finish;
    value = s.brief;
    spelled = all_spelled g true s.brief (s.short ++ s.finish) s.kept;
  }

  follow_from : (place : ℕ) (s : Stop (Unexpected place)) (more : Bool) → s.more ≡ more → CantFollow g end ts place
  follow_from place s true e = let k : Unexpected place ≡ TooMany (place_of end s.back) =
      s.stands ∙ ap (λ (b : Bool). fault_at b (place_of end s.back)) e in absurd cc
  follow_from place s false e =
      let at_back : Unexpected place ≡ Unexpected (place_of end s.back) =
      s.stands ∙ ap (λ (b : Bool). fault_at b (place_of end s.back)) e in
      let there : place ≡ place_of end s.back = cc in
      record {
        before = s.before;
        back = s.back;
        whole = s.whole;
        stands = there;
        keeps_limits = kept_before (Unexpected place) s;
        can_go_on = (s.onward, (s.long, all_spelled g false s.long (s.before ++ s.onward) s.spelled));
        not_so = λ onward alike sentence.
            let f : all_at g end (s.before ++ onward) ≡ Err (Unexpected (place_of end onward)) =
            s.again end onward alike ∙ ap (λ (b : Bool). Err (fault_at b (place_of end onward))) e in
            never_unexpected g foreseen end (place_of end onward) (s.before ++ onward) (again (s.before ++ onward) _ f)
            sentence;
      }

  much_from : (place : ℕ) (s : Stop (TooMany place)) → s.more ≡ true → (back onward : List Token) → s.back ≡ back
      → s.onward ≡ onward → OpensWith true back onward → IsTooMuch g ts place
  much_from place s e [] onward at_back at_onward opens = absurd opens
  much_from place s e (t ∷ back) [] at_back at_onward opens = absurd opens
  much_from place s e (t ∷ back) (u ∷ onward) at_back at_onward opens =
      let there : TooMany place ≡ TooMany t.start = s.stands ∙ ap (λ (b : Bool). fault_at b (place_of end s.back)) e
      ∙ ap (λ (us : List Token). TooMany (place_of end us)) at_back in
      let at_token : place ≡ t.start = cc in
      record {
        before = s.before;
        token = t;
        back = back;
        whole = s.whole ∙ ap (λ (us : List Token). s.before ++ us) at_back;
        stands = at_token;
        no_divider = opens.1;
        keeps_limits = kept_before (TooMany place) s;
        can_go_on =
            let so : s.before ++ s.onward ≡ (s.before ++ t ∷ []) ++ onward = ap (λ (us : List Token). s.before ++ us)
            at_onward ∙ ap (λ (v : Token). s.before ++ v ∷ onward) (sym opens.0)
            ∙ sym (append_assoc s.before (t ∷ []) onward) in
            let sentence : IsSentence g (s.before ++ s.onward) =
            (s.long, all_spelled g false s.long (s.before ++ s.onward) s.spelled) in
            (onward, subst (λ (us : List Token). IsSentence g us) so sentence);
        not_so = λ others y spelled.
            let alike : take 1 (t ∷ others) ≡ take 1 s.back = ap (λ (us : List Token). take 1 us) (sym at_back) in
            let f : reads_all g end (s.before ++ t ∷ others) ≡ Err (fault_at s.more t.start) =
            again (s.before ++ t ∷ others) _ (s.again end (t ∷ others) alike) in
            let r : reads_all g end (s.before ++ t ∷ others) ≡ Ok y =
            spelled_is_read g foreseen end (s.before ++ t ∷ others) y spelled in
            absurd cc;
      }

  much_of : (place : ℕ) (s : Stop (TooMany place)) (more : Bool) → s.more ≡ more → IsTooMuch g ts place
  much_of place s false e = let k : TooMany place ≡ Unexpected (place_of end s.back) =
      s.stands ∙ ap (λ (b : Bool). fault_at b (place_of end s.back)) e in absurd cc
  much_of place s true e =
      much_from place s e s.back s.onward refl refl (subst (λ (b : Bool). OpensWith b s.back s.onward) e s.goes_on)

  pub unexpected_cant_follow : (place : ℕ) → reads_all g end ts ≡ Err (Unexpected place) → CantFollow g end ts place
  unexpected_cant_follow place e = let s = stopped (Unexpected place) e in follow_from place s s.more refl

  pub too_many_is_too_much : (place : ℕ) → reads_all g end ts ≡ Err (TooMany place) → IsTooMuch g ts place
  too_many_is_too_much place e = let s = stopped (TooMany place) e in much_of place s s.more refl
