-- Lists of things are read firmly.
use Rattle.std.proofs.Common.{◌≡◌, ℕ, zero, suc, ◌≤◌, Bool, true, false, cond, List, [], ◌∷◌, ◌++◌, take, length, Ok}
use Rattle.std.proofs.Common.{Err, refl, sym, ap, ◌∙◌, inl, subst, arith}
use Rattle.std.proofs.lemmas.List.{append-nil}
use Rattle.ent_text.specs.declared.token.Token.{Token}
use Rattle.ent_text.specs.declared.token.TokenKind.{TokenKind}
use Rattle.ent_value.specs.Refusal.{◌>>=◌}
use Rattle.ent_text.specs.declared.grammar_fault.GrammarFault.TheVariants.{TooMany}
use Rattle.ent_text.specs.Read.{Read, place_of, begins}
use Rattle.ent_text.specs.Class.{is}
use Rattle.ent_text.specs.Phrase.{nothing, all}
use Rattle.ent_text.specs.List.{joined, many_at}
use Rattle.ent_text.specs.FirstFault.{AtMostADivider}
use Rattle.ent_text.proofs.Tongue.{Tongue, Halted, Says_so, Firm, linked, firm_then}
use Rattle.ent_text.proofs.Picks.{end_firm, tested}

-- lists of so many at most, or of any number
abbrev pub Lists : {A : Type 0} → Tongue A → ℕ → Tongue (List A)
Lists entry room kept xs ts = all (entry kept) xs ts × (kept ≡ true → length xs ≤ room)

no_things : {A : Type 0} (entry : Tongue A) (room : ℕ) (kept : Bool) (xs : List A) (ts : List Token)
    → (xs ≡ []) × nothing ts → Lists entry room kept xs ts
no_things {A} entry room kept xs ts h =
    subst (λ (ys : List A). Lists entry room kept ys ts) (sym h.0) (h.1, λ e. omega arith)

-- a thing, and a list of things
abbrev pub Things : {A : Type 0} → Tongue A → ℕ → Tongue (List A)
Things entry room = linked entry (λ x. linked (Lists entry room) (λ xs kept ys ts. (ys ≡ x ∷ xs) × nothing ts))

pub one_more : {A : Type 0} (entry : Tongue A) (room : ℕ) (kept : Bool) (ys : List A) (ts : List Token)
    → Things entry room kept ys ts → Lists entry (suc room) kept ys ts
one_more {A} entry room kept ys ts h =
    let x = h.0 in
    let k = h.1.second in
    let xs = k.0 in
    let same : ys ≡ x ∷ xs = k.1.second.0 in
    let back : h.1.back ≡ k.1.front = k.1.whole ∙ ap (λ (us : List Token). k.1.front ++ us) k.1.second.1
    ∙ append-nil k.1.front in
    subst (λ (zs : List A). Lists entry (suc room) kept zs ts) (sym same) (
      record {
        front = h.1.front;
        back = h.1.back;
        whole = h.1.whole;
        first = h.1.first;
        second = subst (λ (us : List Token). all (entry kept) xs us) (sym back) k.1.first.0;
      },
      λ e. omega (arith, k.1.first.1 e),
    )

-- a list that ends here
pub ends_says : {A : Type 0} (entry : Tongue A) (room : ℕ) (test : TokenKind → Bool)
    (whole : ℕ → List Token → Read (List A))
    → ((e : ℕ) (us : List Token) → begins test us ≡ false → whole e us ≡ Ok ([], us))
    → (e : ℕ) (ts : List Token) → begins test ts ≡ false → Says_so (Lists entry room) whole e ts (Ok ([], ts))
ends_says {A} entry room test whole same e ts is =
    tested (λ kept (ys : List A) us. (ys ≡ []) × nothing us) (Lists entry room) test false (λ e us. Ok ([], us)) whole
    (no_things entry room) same e ts is (Ok ([], ts))
    (let f : Firm (λ kept (ys : List A) us. (ys ≡ []) × nothing us) (λ e us. Ok ([], us)) = end_firm [] in f.says e ts)

-- a reader of a thing and then of a list
pub things_firm : {A : Type 0} {entry : Tongue A} (room : ℕ) (read : ℕ → List Token → Read A)
    (rest : ℕ → List Token → Read (List A)) → Firm entry read → Firm (Lists entry room) rest
    → Firm (Things entry room) (λ e us. read e us >>= λ x. joined x.0 (rest e x.1))
things_firm {A} room read rest first second = firm_then read (λ e x. joined x.0 (rest e x.1)) first
    (λ x. firm_then rest (λ e xs. Ok (x ∷ xs.0, xs.1)) second (λ xs. end_firm (x ∷ xs)))

pub empty_list : {A : Type 0} (entry : Tongue A) (room : ℕ) (kept : Bool) → Lists entry room kept [] []
empty_list entry room kept = (refl, λ e. omega arith)

-- ---- one behind the other

module _ {A : Type 0} {entry : Tongue A} (starts : TokenKind → Bool) (read : ℕ → List Token → Read A)
    (each : Firm entry read)
    (opens : (t : Token) → starts t.kind ≡ true → (x : A) × (onward : List Token) × entry false x (t ∷ onward))
    (plain : (t : Token) → starts t.kind ≡ true → AtMostADivider (t ∷ []) → ⊥) where
  full_many : (e : ℕ) (t : Token) (ts : List Token) → starts t.kind ≡ true
      → Halted (Lists entry 0) (λ e us. cond (begins starts us) (Err (TooMany (place_of e us))) (Ok ([], us))) e
      (t ∷ ts) (TooMany t.start)
  full_many e t ts is =
      let o = opens t is in
      record {
        before = [];
        back = t ∷ ts;
        more = true;
        whole = refl;
        stands = refl;
        again = again;
        onward = t ∷ o.1;
        goes_on = (refl, plain t is);
        long = o.0 ∷ [];
        spelled = (
          record {
            front = t ∷ o.1;
            back = [];
            whole = sym (append-nil (t ∷ o.1));
            first = o.2;
            second = refl;
          },
          λ k. absurd cc,
        );
        short = [];
        dropped = [];
        parted = refl;
        divides = inl refl;
        finish = [];
        brief = [];
        kept = empty_list entry 0 true;
      }
    where
      again : (e : ℕ) (others : List Token) → take 1 others ≡ take 1 (t ∷ ts)
          → cond (begins starts others) (Err (TooMany (place_of e others)))
          (let r : Read (List A) = Ok ([], others) in r) ≡ Err (TooMany (place_of e others))
      again e [] same = absurd cc
      again e (u ∷ us) same = let k : starts u.kind ≡ true = ap (λ (v : Token). starts v.kind) (let j : u ≡ t = cc in j)
          ∙ is in rw k refl

  zero_says : (e : ℕ) (ts : List Token) (b : Bool) → begins starts ts ≡ b
      → Says_so (Lists entry 0) (λ e us. cond (begins starts us) (Err (TooMany (place_of e us))) (Ok ([], us))) e ts
      (cond b (Err (TooMany (place_of e ts))) (Ok ([], ts)))
  zero_says e [] true is = absurd cc
  zero_says e (t ∷ ts) true is = full_many e t ts is
  zero_says e ts false is = ends_says entry 0 starts
      (λ e us. cond (begins starts us) (Err (TooMany (place_of e us))) (Ok ([], us))) (λ e us k. rw k refl) e ts is

  suc_says : (room : ℕ) → Firm (Lists entry room) (λ e us. many_at starts read e room us)
      → (e : ℕ) (ts : List Token) (b : Bool) → begins starts ts ≡ b
      → Says_so (Lists entry (suc room))
      (λ e us. cond (begins starts us) (read e us >>= λ x. joined x.0 (many_at starts read e room x.1))
      (Ok ([], us))) e ts
      (cond b (read e ts >>= λ x. joined x.0 (many_at starts read e room x.1)) (Ok ([], ts)))
  suc_says room rest e ts true is =
      let f = things_firm room read (λ e us. many_at starts read e room us) each rest in
      tested (Things entry room) (Lists entry (suc room)) starts true
      (λ e us. read e us >>= λ x. joined x.0 (many_at starts read e room x.1))
      (λ e us. cond (begins starts us) (read e us >>= λ x. joined x.0 (many_at starts read e room x.1)) (Ok ([], us)))
      (one_more entry room) (λ e us k. rw k refl) e ts is
      (read e ts >>= λ x. joined x.0 (many_at starts read e room x.1)) (f.says e ts)
  suc_says room rest e ts false is =
      ends_says entry (suc room) starts
      (λ e us. cond (begins starts us) (read e us >>= λ x. joined x.0 (many_at starts read e room x.1))
      (Ok ([], us))) (λ e us k. rw k refl) e ts is

  pub many_firm : (room : ℕ) → Firm (Lists entry room) (λ e us. many_at starts read e room us)
  unfolding many_at
  many_firm zero = record {
    value = [];
    sample = [];
    in_tongue = empty_list entry 0;
    says = λ e ts. zero_says e ts
        (begins starts ts) refl;
  }
  many_firm (suc room) = record {
    value = [];
    sample = [];
    in_tongue = empty_list entry (suc room);
    says = λ e ts.
        suc_says room (many_firm room) e ts (begins starts ts) refl;
  }
