-- Lists of things behind dividers are read firmly.
use Rattle.std.proofs.Common.{◌≡◌, ℕ, zero, suc, Bool, true, false, cond, List, [], ◌∷◌, take, drop, Ok, Err, refl, sym}
use Rattle.std.proofs.Common.{ap, ◌∙◌, inr, subst}
use Rattle.std.proofs.lemmas.List.{append-nil}
use Rattle.ent_text.specs.declared.token.Token.{Token}
use Rattle.ent_text.specs.declared.token.TokenKind.{TokenKind}
use Rattle.ent_value.specs.Refusal.{◌>>=◌}
use Rattle.ent_text.specs.declared.grammar_fault.GrammarFault.TheVariants.{Unexpected, TooMany}
use Rattle.ent_text.specs.Read.{Read, place_of, begins}
use Rattle.ent_text.specs.declared.divider.Divider.{Divider}
use Rattle.ent_text.specs.Class.{is, class_of}
use Rattle.ent_text.specs.Phrase.{Single}
use Rattle.ent_text.specs.List.{joined, full_at, more_at}
use Rattle.ent_text.specs.Grammar.{taken_from, taken_at}
use Rattle.ent_text.specs.FirstFault.{AtMostADivider}
use Rattle.ent_text.proofs.Classes.{is_given}
use Rattle.ent_text.proofs.Tongue.{Tongue, Halted, Says_so, Firm, linked, firm_then, fault_at, OpensWith}
use Rattle.ent_text.proofs.Picks.{token_firm, tested}
use Rattle.ent_text.proofs.Lists.{Lists, Things, one_more, ends_says, things_firm, empty_list}

-- a divider is taken
taken : {B : Type 0} (d : Divider) (e : ℕ) (ts : List Token) (next : List Token → Read B)
    → begins (is (class_of d)) ts ≡ true → next (drop 1 ts) ≡ (taken_at (class_of d) e ts >>= λ p. next p.1)
taken d e [] next is_so = absurd cc
taken {B} d e (t ∷ ts) next is_so = let g = is_given (class_of d) t.kind t.start is_so in
    sym (ap (λ o. taken_from o t.start ts >>= λ p. next p.1) g.1)

module _ {A : Type 0} {tongue : Tongue A} (d : Divider) (starts : TokenKind → Bool) (read : ℕ → List Token → Read A)
    (each : Firm tongue read)
    (opens : (t : Token) → starts t.kind ≡ true → (x : A) × (onward : List Token) × tongue false x (t ∷ onward))
    (plain : (t : Token) → starts t.kind ≡ true → AtMostADivider (t ∷ []) → ⊥) where
  abbrev divides : TokenKind → Bool
  divides = is (class_of d)

  -- a thing behind a divider
  abbrev Entry : Tongue A
  Entry = linked (λ kept p. Single (class_of d) p) (λ p. tongue)

  entry_at : ℕ → List Token → Read A
  entry_at e us = taken_at (class_of d) e us >>= λ p. read e p.1

  entry_firm : Firm Entry entry_at
  unfolding entry_at
  entry_firm = firm_then (taken_at (class_of d)) (λ e p. read e p.1) (token_firm (class_of d)) (λ p. each)

  -- such a list of one thing
  single_list : (t : Token) (x : A) (us : List Token) → divides t.kind ≡ true → tongue false x us
      → Lists Entry 0 false (x ∷ []) (t ∷ us)
  single_list t x us is_so h =
      let g = is_given (class_of d) t.kind t.start is_so in (
        record {
          front = t ∷ us;
          back = [];
          whole = sym (append-nil (t ∷ us));
          first = (
            g.0,
            record {
              front = t ∷ [];
              back = us;
              whole = refl;
              first =
                  record { token = t; whole = refl; is_given = g.1 };
              second = h;
            },
          );
          second = refl;
        },
        λ k. absurd cc,
      )

  may_divide : (t : Token) → divides t.kind ≡ true → AtMostADivider (t ∷ [])
  may_divide t is_so = let g = is_given (class_of d) t.kind t.start is_so in
      inr (d, g.0, record { token = t; whole = refl; is_given = g.1 })

  full_none : (whole : ℕ → List Token → Read (List A)) (t : Token) → divides t.kind ≡ true
      → ((e : ℕ) (us : List Token) → whole e (t ∷ us) ≡ full_at starts e us) → (end : ℕ)
      → Halted (Lists Entry 0) whole end (t ∷ []) (Unexpected end)
  full_none whole t is_so same end = record {
    before = t ∷ [];
    back = [];
    more = false;
    whole = refl;
    stands = refl;
    again = again;
    onward = each.sample;
    goes_on = tt;
    long = each.value ∷ [];
    spelled = single_list t each.value each.sample is_so (each.in_tongue false);
    short = [];
    dropped = t ∷ [];
    parted = refl;
    divides = may_divide t is_so;
    finish = [];
    brief = [];
    kept = empty_list Entry 0 true;
  }
    where
      again : (e : ℕ) (others : List Token) → take 1 others ≡ take 1 []
          → whole e (t ∷ others) ≡ Err (Unexpected (place_of e others))
      again e [] k = same e []
      again e (u ∷ us) k = absurd cc

  full_token : (whole : ℕ → List Token → Read (List A)) (t u : Token) (b : Bool) → divides t.kind ≡ true
      → starts u.kind ≡ b → ((e : ℕ) (us : List Token) → whole e (t ∷ us) ≡ full_at starts e us)
      → (x : A) (onward : List Token) → ((ts : List Token) → OpensWith b (u ∷ ts) onward) → tongue false x onward
      → (end : ℕ) (ts : List Token) → Halted (Lists Entry 0) whole end (t ∷ u ∷ ts) (fault_at b u.start)
  full_token whole t u b is_so is_start same x onward opens_so spelled end ts = record {
    before = t ∷ [];
    back = u ∷ ts;
    more = b;
    whole = refl;
    stands = refl;
    again = again;
    onward = onward;
    goes_on = opens_so ts;
    long = x ∷ [];
    spelled = single_list t x onward is_so spelled;
    short = [];
    dropped = t ∷ [];
    parted = refl;
    divides = may_divide t is_so;
    finish = [];
    brief = [];
    kept = empty_list Entry 0 true;
  }
    where
      full : (v : Token) (e : ℕ) (us : List Token) (more : Bool) → starts v.kind ≡ more
          → (let r : Read (List A) = full_at starts e (v ∷ us) in r) ≡ Err (fault_at more v.start)
      full v e us true k = rw k refl
      full v e us false k = rw k refl

      again : (e : ℕ) (others : List Token) → take 1 others ≡ take 1 (u ∷ ts)
          → whole e (t ∷ others) ≡ Err (fault_at b (place_of e others))
      again e [] k = absurd cc
      again e (v ∷ us) k = let j : v ≡ u = cc in
          same e (v ∷ us) ∙ full v e us b (ap (λ (w : Token). starts w.kind) j ∙ is_start)

  zero_at : ℕ → List Token → Read (List A)
  zero_at e us = cond (begins divides us) (full_at starts e (drop 1 us)) (Ok ([], us))

  zero_here : (t : Token) → divides t.kind ≡ true → (e : ℕ) (us : List Token) → zero_at e (t ∷ us) ≡ full_at starts e us
  unfolding zero_at
  zero_here t is_so e us = rw is_so refl

  next_says : (t u : Token) (b : Bool) → divides t.kind ≡ true → starts u.kind ≡ b → (end : ℕ) (ts : List Token)
      → Halted (Lists Entry 0) zero_at end (t ∷ u ∷ ts) (fault_at b u.start)
  next_says t u true is_so is_start end ts = let o = opens u is_start in
      full_token zero_at t u true is_so is_start (zero_here t is_so) o.0 (u ∷ o.1) (λ us. (refl, plain u is_start)) o.2
      end ts
  next_says t u false is_so is_start end ts = full_token zero_at t u false is_so is_start (zero_here t is_so) each.value
      each.sample (λ us. tt) (each.in_tongue false) end ts

  full_says : (t u : Token) (b : Bool) → divides t.kind ≡ true → starts u.kind ≡ b → (end : ℕ) (ts : List Token)
      → Says_so (Lists Entry 0) zero_at end (t ∷ u ∷ ts) (cond b (Err (TooMany u.start)) (Err (Unexpected u.start)))
  full_says t u true is_so is_start end ts = next_says t u true is_so is_start end ts
  full_says t u false is_so is_start end ts = next_says t u false is_so is_start end ts

  zero_says : (e : ℕ) (ts : List Token) (b : Bool) → begins divides ts ≡ b
      → Says_so (Lists Entry 0) zero_at e ts (cond b (full_at starts e (drop 1 ts)) (Ok ([], ts)))
  unfolding zero_at
  zero_says e [] true is_so = absurd cc
  zero_says e (t ∷ []) true is_so = full_none zero_at t is_so (zero_here t is_so) e
  zero_says e (t ∷ u ∷ ts) true is_so = full_says t u (starts u.kind) is_so refl e ts
  zero_says e ts false is_so = ends_says Entry 0 divides zero_at (λ e us k. rw k refl) e ts is_so

  suc_at : ℕ → ℕ → List Token → Read (List A)
  suc_at room e us = cond (begins divides us)
      (read e (drop 1 us) >>= λ x. joined x.0 (more_at divides starts read e room x.1)) (Ok ([], us))

  entry_is : (room e : ℕ) (us : List Token) → begins divides us ≡ true
      → suc_at room e us ≡ (entry_at e us >>= λ x. joined x.0 (more_at divides starts read e room x.1))
  unfolding suc_at entry_at
  entry_is room e us is_so =
      rw is_so (ap (λ (r : Read A). r >>= λ x. joined x.0 (more_at divides starts read e room x.1))
      (taken d e us (read e) is_so))

  suc_says : (room : ℕ) → Firm (Lists Entry room) (λ e us. more_at divides starts read e room us)
      → (e : ℕ) (ts : List Token) (b : Bool) → begins divides ts ≡ b
      → Says_so (Lists Entry (suc room)) (suc_at room) e ts
      (cond b (read e (drop 1 ts) >>= λ x. joined x.0 (more_at divides starts read e room x.1)) (Ok ([], ts)))
  unfolding suc_at
  suc_says room rest e ts true is_so =
      let f = things_firm room entry_at (λ e us. more_at divides starts read e room us) entry_firm rest in
      let here : suc_at room e ts ≡ (read e (drop 1 ts) >>= λ x. joined x.0 (more_at divides starts read e room x.1)) =
      rw is_so refl in
      let said : Says_so (Lists Entry (suc room)) (suc_at room) e ts
      (entry_at e ts >>= λ x. joined x.0 (more_at divides starts read e room x.1)) =
      tested (Things Entry room) (Lists Entry (suc room)) divides true
      (λ e us. entry_at e us >>= λ x. joined x.0 (more_at divides starts read e room x.1)) (suc_at room)
      (one_more Entry room) (entry_is room) e ts is_so
      (entry_at e ts >>= λ x. joined x.0 (more_at divides starts read e room x.1)) (f.says e ts) in
      subst (λ (r : Read (List A)). Says_so (Lists Entry (suc room)) (suc_at room) e ts r)
      (sym (entry_is room e ts is_so) ∙ here) said
  suc_says room rest e ts false is_so =
      ends_says Entry (suc room) divides (suc_at room) (λ e us k. rw k refl) e ts is_so

  pub more_firm : (room : ℕ) → Firm (Lists Entry room) (λ e us. more_at divides starts read e room us)
  unfolding more_at zero_at suc_at
  more_firm zero = record {
    value = [];
    sample = [];
    in_tongue = empty_list Entry 0;
    says = λ e ts. zero_says e ts
        (begins divides ts) refl;
  }
  more_firm (suc room) = record {
    value = [];
    sample = [];
    in_tongue = empty_list Entry (suc room);
    says = λ e ts.
        suc_says room (more_firm room) e ts (begins divides ts) refl;
  }
