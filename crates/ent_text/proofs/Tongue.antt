-- What a reader gives is decided by the tokens that it read and the one behind them, and is spelled so.
use Rattle.std.proofs.Common.{◌≡◌, ℕ, Bool, true, false, List, [], ◌∷◌, ◌++◌, take, Ok, Err, refl, sym, ap, ◌∙◌}
use Rattle.std.proofs.Common.{append_assoc}
use Rattle.ent_text.specs.declared.token.Token.{Token}
use Rattle.ent_value.specs.Refusal.{◌>>=◌}
use Rattle.ent_text.specs.declared.grammar_fault.GrammarFault.{GrammarFault}
use Rattle.ent_text.specs.declared.grammar_fault.GrammarFault.TheVariants.{Unexpected, TooMany}
use Rattle.ent_text.specs.Read.{Read, place_of}
use Rattle.ent_text.specs.Phrase.{Phrase}
use Rattle.ent_text.specs.GrammarSpelling.{chained}
use Rattle.ent_text.specs.FirstFault.{AtMostADivider}

-- the tokens of a value: those that keep the limits, or those of any size
abbrev pub Tongue : Type 0 → Type 1
Tongue A = Bool → A → Phrase

abbrev pub fault_at : Bool → ℕ → GrammarFault
fault_at false place = Unexpected place
fault_at true place = TooMany place

-- these tokens go on with the token at the fault, if it begins a thing too much
abbrev pub OpensWith : Bool → List Token → List Token → Type 0
OpensWith false back others = Unit {0}
OpensWith true [] others = ⊥
OpensWith true (t ∷ back) [] = ⊥
OpensWith true (t ∷ back) (u ∷ others) = (t ≡ u) × (AtMostADivider (t ∷ []) → ⊥)

pub front_same : (front others rest : List Token) → take 1 others ≡ take 1 rest
    → take 1 (front ++ others) ≡ take 1 (front ++ rest)
front_same [] others rest e = e
front_same (t ∷ front) others rest e = refl

pub opens_append : (more : Bool) (back onward others : List Token) → OpensWith more back onward
    → OpensWith more back (onward ++ others)
opens_append false back onward others h = tt
opens_append true [] onward others h = absurd h
opens_append true (t ∷ back) [] others h = absurd h
opens_append true (t ∷ back) (u ∷ onward) others h = h

pub record Read_so {A : Type 0} (tongue : Tongue A) (read : ℕ → List Token → Read A) (ts : List Token) (x : A)
    (rest : List Token) : Type 0 where
  pub front : List Token
  pub whole : ts ≡ front ++ rest
  pub again : (end : ℕ) (others : List Token) → take 1 others ≡ take 1 rest
      → read end (front ++ others) ≡ Ok (x, others)
  pub spelled : (kept : Bool) → tongue kept x front

pub record Halted {A : Type 0} (tongue : Tongue A) (read : ℕ → List Token → Read A) (end : ℕ) (ts : List Token)
    (fault : GrammarFault) : Type 0 where
  pub before : List Token
  pub back : List Token
  pub more : Bool
  pub whole : ts ≡ before ++ back
  pub stands : fault ≡ fault_at more (place_of end back)
  pub again : (other_end : ℕ) (others : List Token) → take 1 others ≡ take 1 back
      → read other_end (before ++ others) ≡ Err (fault_at more (place_of other_end others))
  pub onward : List Token
  pub goes_on : OpensWith more back onward
  pub long : A
  pub spelled : tongue false long (before ++ onward)
  pub short : List Token
  pub dropped : List Token
  pub parted : before ≡ short ++ dropped
  pub divides : AtMostADivider dropped
  pub finish : List Token
  pub brief : A
  pub kept : tongue true brief (short ++ finish)

abbrev pub Says_so : {A : Type 0} → Tongue A → (ℕ → List Token → Read A) → ℕ → List Token → Read A → Type 0
Says_so tongue read end ts (Ok x) = Read_so tongue read ts x.0 x.1
Says_so tongue read end ts (Err f) = Halted tongue read end ts f

pub record Firm {A : Type 0} (tongue : Tongue A) (read : ℕ → List Token → Read A) : Type 0 where
  pub value : A
  pub sample : List Token
  pub in_tongue : (kept : Bool) → tongue kept value sample
  pub says : (end : ℕ) (ts : List Token) → Says_so tongue read end ts (read end ts)

-- one behind the other, where what may follow depends on what was read
abbrev pub linked : {A B : Type 0} → Tongue A → (A → Tongue B) → Tongue B
linked one other kept = chained (one kept) (λ x. other x kept)

next_so : {A B : Type 0} (one : Tongue A) (other : A → Tongue B) (read : ℕ → List Token → Read A)
    (next : ℕ → A × List Token → Read B) (end : ℕ) (ts : List Token) (x : A × List Token)
    → Read_so one read ts x.0 x.1
    → (r : Read B) → Says_so (other x.0) (λ e us. next e (x.0, us)) end x.1 r
    → Says_so (linked one other) (λ e us. read e us >>= next e) end ts r
next_so {A} {B} one other read next end ts x w (Ok y) h = record {
  front = w.front ++ h.front;
  whole = w.whole ∙ ap (λ (us : List Token). w.front ++ us) h.whole ∙ sym (append_assoc w.front h.front y.1);
  again = λ e others same.
      let a = w.again e (h.front ++ others)
      (front_same h.front others y.1 same ∙ sym (ap (λ (us : List Token). take 1 us) h.whole)) in
      rw append_assoc (ap (λ (q : Read A). q >>= next e) a ∙ h.again e others same);
  spelled = λ kept. (
    x.0,
    record {
      front = w.front;
      back = h.front;
      whole = refl;
      first = w.spelled kept;
      second =
          h.spelled kept;
    },
  );
}
next_so {A} {B} one other read next end ts x w (Err f) h = record {
  before = w.front ++ h.before;
  back = h.back;
  more = h.more;
  whole = w.whole ∙ ap (λ (us : List Token). w.front ++ us) h.whole ∙ sym (append_assoc w.front h.before h.back);
  stands = h.stands;
  again = λ e others same.
      let a = w.again e (h.before ++ others)
      (front_same h.before others h.back same ∙ sym (ap (λ (us : List Token). take 1 us) h.whole)) in
      rw append_assoc (ap (λ (q : Read A). q >>= next e) a ∙ h.again e others same);
  onward = h.onward;
  goes_on = h.goes_on;
  long = h.long;
  spelled = (
    x.0,
    record {
      front = w.front;
      back = h.before ++ h.onward;
      whole = append_assoc w.front h.before h.onward;
      first = w.spelled false;
      second = h.spelled;
    },
  );
  short = w.front ++ h.short;
  dropped = h.dropped;
  parted = ap (λ (us : List Token). w.front ++ us) h.parted ∙ sym (append_assoc w.front h.short h.dropped);
  divides = h.divides;
  finish = h.finish;
  brief = h.brief;
  kept = (
    x.0,
    record {
      front = w.front;
      back = h.short ++ h.finish;
      whole = append_assoc w.front h.short h.finish;
      first = w.spelled true;
      second = h.kept;
    },
  );
}

from_so : {A B : Type 0} (one : Tongue A) (other : A → Tongue B) (read : ℕ → List Token → Read A)
    (next : ℕ → A × List Token → Read B) → ((x : A) → Firm (other x) (λ e us. next e (x, us)))
    → (end : ℕ) (ts : List Token) (r : Read A) → Says_so one read end ts r
    → Says_so (linked one other) (λ e us. read e us >>= next e) end ts (r >>= next end)
from_so one other read next second end ts (Ok x) h =
    next_so one other read next end ts x h (next end x) ((second x.0).says end x.1)
from_so {A} {B} one other read next second end ts (Err f) h =
    let long_so = second h.long in
    let brief_so = second h.brief in
    record {
      before = h.before;
      back = h.back;
      more = h.more;
      whole = h.whole;
      stands = h.stands;
      again = λ e others same. ap (λ (q : Read A). q >>= next e) (h.again e others same);
      onward = h.onward ++ long_so.sample;
      goes_on = opens_append h.more h.back h.onward long_so.sample h.goes_on;
      long = long_so.value;
      spelled = (
        h.long,
        record {
          front = h.before ++ h.onward;
          back = long_so.sample;
          whole = sym
              (append_assoc h.before h.onward long_so.sample);
          first = h.spelled;
          second = long_so.in_tongue false;
        },
      );
      short = h.short;
      dropped = h.dropped;
      parted = h.parted;
      divides = h.divides;
      finish = h.finish ++ brief_so.sample;
      brief = brief_so.value;
      kept = (
        h.brief,
        record {
          front = h.short ++ h.finish;
          back = brief_so.sample;
          whole = sym
              (append_assoc h.short h.finish brief_so.sample);
          first = h.kept;
          second = brief_so.in_tongue true;
        },
      );
    }

pub firm_then : {A B : Type 0} {one : Tongue A} {other : A → Tongue B} (read : ℕ → List Token → Read A)
    (next : ℕ → A × List Token → Read B) → Firm one read → ((x : A) → Firm (other x) (λ e us. next e (x, us)))
    → Firm (linked one other) (λ e us. read e us >>= next e)
firm_then {A} {B} {one} {other} read next first second = let last = second first.value in record {
  value = last.value;
  sample = first.sample ++ last.sample;
  in_tongue = λ kept. (
    first.value,
    record {
      front = first.sample;
      back = last.sample;
      whole = refl;
      first = first.in_tongue kept;
      second =
          last.in_tongue kept;
    },
  );
  says = λ end ts. from_so one other read next second end ts (read end ts) (first.says end ts);
}
