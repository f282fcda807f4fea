-- Tokens, and which of two things is read.
use Rattle.std.proofs.Common.{◌≡◌, ℕ, Bool, true, false, cond, List, [], ◌∷◌, ◌++◌, take, Option, Some, None, Ok, Err}
use Rattle.std.proofs.Common.{refl, sym, ap, ◌∙◌, inl, inr, ◌⊎◌, subst}
use Rattle.std.specs.Prelude.{nat_le}
use Rattle.ent_text.specs.declared.token.Token.{Token}
use Rattle.ent_text.specs.declared.token.TokenKind.{TokenKind}
use Rattle.ent_text.specs.declared.grammar_fault.GrammarFault.TheVariants.{Unexpected, TooMany}
use Rattle.ent_text.specs.Read.{Read, place_of, begins}
use Rattle.ent_text.specs.declared.divider.Divider.{Divider}
use Rattle.ent_text.specs.declared.divider.Divider.TheVariants.{Comma, And}
use Rattle.ent_text.specs.Class.{Class, word, sign, name, variable, number, positive, one, text, Given, given}
use Rattle.ent_text.specs.Class.{kind_of, dividers, class_of, is, among}
use Rattle.ent_text.specs.Phrase.{nothing, Single}
use Rattle.ent_text.specs.Grammar.{taken_from, taken_at, limited_from, limited_at}
use Rattle.ent_text.specs.Foresight.{sample_of}
use Rattle.ent_text.specs.FirstFault.{AtMostADivider}
use Rattle.ent_text.specs.Class.{apart, same_word, same_sign}
use Rattle.ent_text.proofs.Classes.{never_both, given_is, is_so, is_kind_of, among_head, among_tail}
use Rattle.ent_text.proofs.Tongue.{Tongue, Halted, Says_so, Firm, front_same}

-- ---- no token

pub end_firm : {A : Type 0} (x : A) → Firm (λ kept y ts. (y ≡ x) × nothing ts) (λ e ts. Ok (x, ts))
end_firm x = record {
  value = x;
  sample = [];
  in_tongue = λ kept. (refl, refl);
  says = λ e ts.
      record { front = []; whole = refl; again = λ e others same. refl; spelled = λ kept. (refl, refl) };
}

-- ---- one token

-- a reader that refuses what stands at the front
unexpected_so : {A : Type 0} (tongue : Tongue A) (read : ℕ → List Token → Read A) (value : A) (sample : List Token)
    → ((kept : Bool) → tongue kept value sample) → (e : ℕ) (ts : List Token)
    → ((end : ℕ) (others : List Token) → take 1 others ≡ take 1 ts
    → read end others ≡ Err (Unexpected (place_of end others)))
    → Halted tongue read e ts (Unexpected (place_of e ts))
unexpected_so tongue read value sample is e ts again =
    record {
      before = [];
      back = ts;
      more = false;
      whole = refl;
      stands = refl;
      again = again;
      onward = sample;
      goes_on = tt;
      long = value;
      spelled = is false;
      short = [];
      dropped = [];
      parted = refl;
      divides =
          inl refl;
      finish = sample;
      brief = value;
      kept = is true;
    }

pub sample_token : Class → Token
sample_token c = record { kind = kind_of c; start = 0; end = 0 }

sample_given : (c : Class) → given c (kind_of c) 0 ≡ Some (sample_of c)
sample_given (word w) = is_so (same_word w w) 0 (is_kind_of (word w))
sample_given (sign s) = is_so (same_sign s s) 0 (is_kind_of (sign s))
sample_given name = refl
sample_given variable = refl
sample_given number = refl
sample_given positive = refl
sample_given one = refl
sample_given text = refl

pub sample_single : (c : Class) → Single c (sample_of c) (sample_token c ∷ [])
unfolding sample_token
sample_single c = record { token = sample_token c; whole = refl; is_given = sample_given c }

taken_again : (c : Class) (t : Token) (ts : List Token) → given c t.kind t.start ≡ None → (e : ℕ) (others : List Token)
    → take 1 others ≡ take 1 (t ∷ ts) → taken_at c e others ≡ Err (Unexpected (place_of e others))
taken_again c t ts is e [] same = absurd cc
taken_again c t ts is e (u ∷ us) same =
    let k : u ≡ t = cc in subst (λ (v : Token). taken_at c e (v ∷ us) ≡ Err (Unexpected v.start)) (sym k)
    (ap (λ (o : Option (Given c)). taken_from o t.start us) is)

none_again : (c : Class) (e : ℕ) (others : List Token) → take 1 others ≡ take 1 []
    → taken_at c e others ≡ Err (Unexpected (place_of e others))
none_again c e [] same = refl
none_again c e (u ∷ us) same = absurd cc

token_says : (c : Class) (e : ℕ) (t : Token) (ts : List Token) (r : Option (Given c)) → given c t.kind t.start ≡ r
    → Says_so (λ kept y us. Single c y us) (taken_at c) e (t ∷ ts) (taken_from r t.start ts)
token_says c e t ts (Some x) is =
    record {
      front = t ∷ [];
      whole = refl;
      again = λ e others same.
          ap (λ (o : Option (Given c)). taken_from o t.start others) is;
      spelled =
          λ kept. record { token = t; whole = refl; is_given = is };
    }
token_says c e t ts None is = unexpected_so (λ kept y us. Single c y us) (taken_at c) (sample_of c)
    (sample_token c ∷ []) (λ kept. sample_single c) e (t ∷ ts) (taken_again c t ts is)

pub token_firm : (c : Class) → Firm (λ kept y ts. Single c y ts) (taken_at c)
token_firm c = record {
  value = sample_of c;
  sample = sample_token c ∷ [];
  in_tongue = λ kept. sample_single c;
  says =
      says;
}
  where
    says : (e : ℕ) (ts : List Token) → Says_so (λ kept y us. Single c y us) (taken_at c) e ts (taken_at c e ts)
    says e [] = unexpected_so (λ kept y us. Single c y us) (taken_at c) (sample_of c) (sample_token c ∷ [])
        (λ kept. sample_single c) e [] (none_again c)
    says e (t ∷ ts) = token_says c e t ts (given c t.kind t.start) refl

-- ---- no divider

divider_among : (d : Divider) (k : TokenKind) → is (class_of d) k ≡ true → among dividers k ≡ true
divider_among Comma k e = among_head (class_of Comma) (class_of And ∷ []) k e
divider_among And k e = among_tail (class_of Comma) (class_of And ∷ []) k e

-- a token of classes that are no dividers
pub no_divider : (cs : List Class) (t : Token) → apart cs dividers ≡ true → among cs t.kind ≡ true
    → AtMostADivider (t ∷ []) → ⊥
no_divider cs t away mine (inl e) = absurd cc
no_divider cs t away mine (inr h) =
    let k = h.2 in
    let same : k.token ≡ t = let w = k.whole in cc in
    let here : is (class_of h.0) t.kind ≡ true = subst (λ (u : Token). is (class_of h.0) u.kind ≡ true) same
    (given_is (class_of h.0) k.token.kind k.token.start h.1 k.is_given) in
    never_both cs dividers t.kind away mine (divider_among h.0 t.kind here)

-- ---- a number up to a limit

abbrev Limited : ℕ → Tongue (ℕ × ℕ)
Limited most kept y ts = Single positive y ts × (kept ≡ true → nat_le y.0 most ≡ true)

module _ (most : ℕ) (some : nat_le 1 most ≡ true) where
  limited_sample : (kept : Bool) → Limited most kept (1, 0) (sample_token positive ∷ [])
  limited_sample kept = (sample_single positive, λ e. some)

  limited_none : (e : ℕ) (others : List Token) → take 1 others ≡ take 1 []
      → limited_at most e others ≡ Err (Unexpected (place_of e others))
  limited_none e [] same = refl
  limited_none e (u ∷ us) same = absurd cc

  limited_again : (t : Token) (ts : List Token) → given positive t.kind t.start ≡ None → (e : ℕ) (others : List Token)
      → take 1 others ≡ take 1 (t ∷ ts) → limited_at most e others ≡ Err (Unexpected (place_of e others))
  limited_again t ts is e [] same = absurd cc
  limited_again t ts is e (u ∷ us) same =
      let k : u ≡ t = cc in subst (λ (v : Token). limited_at most e (v ∷ us) ≡ Err (Unexpected v.start)) (sym k)
      (ap (λ (o : Option (ℕ × ℕ)). limited_from o most t.start us) is)

  much_again : (t : Token) (ts : List Token) (x : ℕ × ℕ) → given positive t.kind t.start ≡ Some x
      → nat_le x.0 most ≡ false → (e : ℕ) (others : List Token) → take 1 others ≡ take 1 (t ∷ ts)
      → limited_at most e others ≡ Err (TooMany (place_of e others))
  much_again t ts x is big e [] same = absurd cc
  much_again t ts x is big e (u ∷ us) same =
      let k : u ≡ t = cc in
      let at : limited_at most e (t ∷ us) ≡ Err (TooMany t.start) =
      ap (λ (o : Option (ℕ × ℕ)). limited_from o most t.start us) is ∙ (rw big refl) in
      subst (λ (v : Token). limited_at most e (v ∷ us) ≡ Err (TooMany v.start)) (sym k) at

  much_says : (e : ℕ) (t : Token) (ts : List Token) (x : ℕ × ℕ) (b : Bool) → given positive t.kind t.start ≡ Some x
      → nat_le x.0 most ≡ b → Says_so (Limited most) (limited_at most) e (t ∷ ts)
      (cond b (Ok (x, ts)) (Err (TooMany t.start)))
  much_says e t ts x true is fits = record {
    front = t ∷ [];
    whole = refl;
    again = λ e others same. ap (λ (o : Option (ℕ × ℕ)). limited_from o most t.start others) is ∙ (rw fits refl);
    spelled = λ kept. (record { token = t; whole = refl; is_given = is }, λ k. fits);
  }
  much_says e t ts x false is big = record {
    before = [];
    back = t ∷ ts;
    more = true;
    whole = refl;
    stands = refl;
    again = much_again t ts x is big;
    onward = t ∷ [];
    goes_on = (refl, no_divider (positive ∷ []) t refl (given_is positive t.kind t.start x is));
    long = x;
    spelled = (record { token = t; whole = refl; is_given = is }, λ k. absurd cc);
    short = [];
    dropped = [];
    parted = refl;
    divides = inl refl;
    finish = sample_token positive ∷ [];
    brief = (1, 0);
    kept = limited_sample true;
  }

  number_says : (e : ℕ) (t : Token) (ts : List Token) (r : Option (ℕ × ℕ)) → given positive t.kind t.start ≡ r
      → Says_so (Limited most) (limited_at most) e (t ∷ ts) (limited_from r most t.start ts)
  number_says e t ts (Some x) is = much_says e t ts x (nat_le x.0 most) is refl
  number_says e t ts None is = unexpected_so (Limited most) (limited_at most) (1, 0) (sample_token positive ∷ [])
      limited_sample e (t ∷ ts) (limited_again t ts is)

  says_limited : (e : ℕ) (ts : List Token) → Says_so (Limited most) (limited_at most) e ts (limited_at most e ts)
  says_limited e [] = unexpected_so (Limited most) (limited_at most) (1, 0) (sample_token positive ∷ []) limited_sample
      e [] limited_none
  says_limited e (t ∷ ts) = number_says e t ts (given positive t.kind t.start) refl

  pub limited_firm : Firm (Limited most) (limited_at most)
  limited_firm = record {
    value = (1, 0);
    sample = sample_token positive ∷ [];
    in_tongue = limited_sample;
    says =
        says_limited;
  }

-- ---- one of two

pub begins_alike : (test : TokenKind → Bool) (ts us : List Token) → take 1 ts ≡ take 1 us
    → begins test ts ≡ begins test us
begins_alike test [] [] e = refl
begins_alike test [] (u ∷ us) e = absurd cc
begins_alike test (t ∷ ts) [] e = absurd cc
begins_alike test (t ∷ ts) (u ∷ us) e = let k : t ≡ u = cc in ap (λ (v : Token). test v.kind) k

-- what one reader says, another says that reads the same here
pub tested : {A : Type 0} (mine all : Tongue A) (test : TokenKind → Bool) (b : Bool)
    (read whole : ℕ → List Token → Read A)
    → ((kept : Bool) (y : A) (ts : List Token) → mine kept y ts → all kept y ts)
    → ((e : ℕ) (ts : List Token) → begins test ts ≡ b → whole e ts ≡ read e ts) → (e : ℕ) (ts : List Token)
    → begins test ts ≡ b → (r : Read A) → Says_so mine read e ts r → Says_so all whole e ts r
tested mine all test b read whole into same e ts is (Ok x) h = record {
  front = h.front;
  whole = h.whole;
  again = λ e others alike.
      let first = front_same h.front others x.1 alike ∙ sym (ap (λ (us : List Token). take 1 us) h.whole) in
      same e (h.front ++ others) (begins_alike test (h.front ++ others) ts first ∙ is) ∙ h.again e others alike;
  spelled = λ kept. into kept x.0 h.front (h.spelled kept);
}
tested mine all test b read whole into same e ts is (Err f) h = record {
  before = h.before;
  back = h.back;
  more = h.more;
  whole = h.whole;
  stands = h.stands;
  again = λ e others alike.
      let first = front_same h.before others h.back alike ∙ sym (ap (λ (us : List Token). take 1 us) h.whole) in
      same e (h.before ++ others) (begins_alike test (h.before ++ others) ts first ∙ is) ∙ h.again e others alike;
  onward = h.onward;
  goes_on = h.goes_on;
  long = h.long;
  spelled = into false h.long (h.before ++ h.onward) h.spelled;
  short = h.short;
  dropped = h.dropped;
  parted = h.parted;
  divides = h.divides;
  finish = h.finish;
  brief = h.brief;
  kept = into true h.brief (h.short ++ h.finish) h.kept;
}

-- two readers, and what each of them reads is of one tongue
pub pick_says : {A : Type 0} (first_tongue other_tongue all : Tongue A) (test : TokenKind → Bool)
    (read next : ℕ → List Token → Read A)
    → ((kept : Bool) (y : A) (ts : List Token) → first_tongue kept y ts → all kept y ts)
    → ((kept : Bool) (y : A) (ts : List Token) → other_tongue kept y ts → all kept y ts) → Firm first_tongue read
    → Firm other_tongue next → (e : ℕ) (ts : List Token) (b : Bool) → begins test ts ≡ b
    → Says_so all (λ e us. cond (begins test us) (read e us) (next e us)) e ts (cond b (read e ts) (next e ts))
pick_says first_tongue other_tongue all test read next into onto first second e ts true is =
    tested first_tongue all test true read (λ e us. cond (begins test us) (read e us) (next e us)) into
    (λ e us k. rw k refl) e ts is (read e ts) (first.says e ts)
pick_says first_tongue other_tongue all test read next into onto first second e ts false is =
    tested other_tongue all test false next (λ e us. cond (begins test us) (read e us) (next e us)) onto
    (λ e us k. rw k refl) e ts is (next e ts) (second.says e ts)

pub pick_firm : {A : Type 0} {first_tongue other_tongue : Tongue A} (test : TokenKind → Bool)
    (read next : ℕ → List Token → Read A) → Firm first_tongue read → Firm other_tongue next
    → Firm (λ kept y ts. first_tongue kept y ts ⊎ other_tongue kept y ts)
    (λ e ts. cond (begins test ts) (read e ts) (next e ts))
pick_firm {A} {first_tongue} {other_tongue} test read next first second = record {
  value = first.value;
  sample = first.sample;
  in_tongue = λ kept. inl (first.in_tongue kept);
  says = λ e ts. pick_says first_tongue other_tongue (λ kept y us. first_tongue kept y us ⊎ other_tongue kept y us) test
      read next (λ kept y us h. inl h) (λ kept y us h. inr h) first second e ts (begins test ts) refl;
}
