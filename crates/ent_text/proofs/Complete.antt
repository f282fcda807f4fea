-- What a grammar spells is read, or there is too much of something.
use Rattle.std.proofs.Common.{◌≡◌, ℕ, zero, suc, ◌≤◌, Bool, true, false, cond, List, [], ◌∷◌, ◌++◌, length, Option}
use Rattle.std.proofs.Common.{Some, None, Ok, Err, refl, sym, ap, ◌∙◌, inl, inr, ◌⊎◌, subst, append_assoc, arith}
use Rattle.std.specs.Prelude.{nat_le}
use Rattle.ent_lists.specs.Elements.{not_so}
use Rattle.ent_text.specs.declared.token.Token.{Token}
use Rattle.ent_value.specs.Refusal.{◌>>=◌}
use Rattle.ent_text.specs.declared.grammar_fault.GrammarFault.TheVariants.{TooMany}
use Rattle.ent_text.specs.Read.{Read, place_of, begins}
use Rattle.ent_text.specs.declared.divider.Divider.{Divider}
use Rattle.ent_text.specs.Class.{Class, positive, Given, is, among, apart, class_of}
use Rattle.ent_text.specs.Phrase.{Phrase, nothing, Single, all}
use Rattle.ent_text.specs.List.{joined, more_at, many_at}
use Rattle.ent_text.specs.Grammar.{Grammar, give, token, up_to, chain, pick, many, more, nullable, firsts, after}
use Rattle.ent_text.specs.Grammar.{behind, reads, taken_from, taken_at, limited_from, limited_at}
use Rattle.ent_text.specs.GrammarSpelling.{spells, chained}
use Rattle.ent_text.specs.Foresight.{IsPredictive, if_some}
use Rattle.ent_text.proofs.Classes.{among_left, among_right, never_both, given_is}

-- ---- how a sentence begins

-- it is no token and the value of none, or it begins with a token that the grammar can begin with
abbrev pub Begun : {A : Type 0} → Option A → List Class → A → List Token → Type 0
Begun empty classes y [] = empty ≡ Some y
Begun empty classes y (t ∷ ts) = among classes t.kind ≡ true

begun_single : (c : Class) (y : Given c) (ts : List Token) → Single c y ts → Begun None (c ∷ []) y ts
begun_single c y [] h = let e = h.whole in absurd cc
begun_single c y (t ∷ ts) h =
    let same : h.token ≡ t = let w = h.whole in cc in
    subst (λ (u : Token). is c u.kind ≡ true) same (given_is c h.token.kind h.token.start y h.is_given)

begun_chain : {A B : Type 0} (one_empty : Option A) (one_firsts : List Class) (next_empty : A → Option B)
    (next_firsts : A → List Class) (x : A) (y : B) (front back : List Token)
    → Begun one_empty one_firsts x front → Begun (next_empty x) (next_firsts x) y back
    → Begun (after one_empty next_empty) (one_firsts ++ behind one_empty next_firsts) y (front ++ back)
begun_chain {A} {B} one_empty one_firsts next_empty next_firsts x y [] back h k =
    subst (λ (o : Option A). Begun (after o next_empty) (one_firsts ++ behind o next_firsts) y back) (sym h)
    (rest back k)
  where
    rest : (us : List Token) → Begun (next_empty x) (next_firsts x) y us
        → Begun (after (Some x) next_empty) (one_firsts ++ behind (Some x) next_firsts) y us
    rest [] j = j
    rest (u ∷ us) j = among_right one_firsts (next_firsts x) u.kind j
begun_chain one_empty one_firsts next_empty next_firsts x y (t ∷ front) back h k =
    among_left one_firsts (behind one_empty next_firsts) t.kind h

begun_all : {A : Type 0} (of : A → Phrase) (classes : List Class)
    → ((x : A) (ts : List Token) → of x ts → Begun None classes x ts) → (xs : List A) (ts : List Token) → all of xs ts
    → Begun (Some []) classes xs ts
begun_all of classes each [] [] h = refl
begun_all of classes each [] (t ∷ ts) h = absurd cc
begun_all {A} of classes each (x ∷ xs) ts h = subst (λ (us : List Token). Begun (Some []) classes (x ∷ xs) us)
    (sym h.whole) (from h.front (each x h.front h.first))
  where
    from : (front : List Token) → Begun None classes x front → Begun (Some []) classes (x ∷ xs) (front ++ h.back)
    from [] j = absurd cc
    from (u ∷ front) j = j

begun_left : {A : Type 0} (one_firsts two_firsts : List Class) (two_empty : Option A) (y : A) (ts : List Token)
    → Begun None one_firsts y ts → Begun two_empty (one_firsts ++ two_firsts) y ts
begun_left one_firsts two_firsts two_empty y [] h = absurd cc
begun_left one_firsts two_firsts two_empty y (t ∷ ts) h = among_left one_firsts two_firsts t.kind h

begun_right : {A : Type 0} (one_firsts two_firsts : List Class) (two_empty : Option A) (y : A) (ts : List Token)
    → Begun two_empty two_firsts y ts → Begun two_empty (one_firsts ++ two_firsts) y ts
begun_right one_firsts two_firsts two_empty y [] h = h
begun_right one_firsts two_firsts two_empty y (t ∷ ts) h = among_right one_firsts two_firsts t.kind h

begun_entry : {A : Type 0} (c : Class) (of : A → Phrase) (x : A) (ts : List Token)
    → chained (Single c) (λ gives. of) x ts → Begun None (c ∷ []) x ts
begun_entry {A} c of x ts h =
    subst (λ (us : List Token). Begun None (c ∷ []) x us) (sym h.1.whole)
    (from h.1.front (begun_single c h.0 h.1.front h.1.first))
  where
    from : (front : List Token) → Begun None (c ∷ []) h.0 front
        → Begun (let o : Option A = None in o) (c ∷ []) x (front ++ h.1.back)
    from [] j = absurd cc
    from (u ∷ front) j = j

begun_give : {A : Type 0} (x y : A) (ts : List Token) → (y ≡ x) × nothing ts → Begun (Some x) [] y ts
begun_give {A} x y [] h = ap (λ (z : A). Some z) (sym h.0)
begun_give x y (t ∷ ts) h = let e = h.1 in absurd cc

pub begun : {A : Type 0} (g : Grammar A) (follow : List Class) → IsPredictive g follow
    → (kept : Bool) (y : A) (ts : List Token) → spells g kept y ts → Begun (nullable g) (firsts g) y ts
begun (give x) follow h kept y ts is = begun_give x y ts is
begun (token c) follow h kept y ts is = begun_single c y ts is
begun (up_to most) follow h kept y ts is = begun_single positive y ts is.0
begun (chain g next) follow h kept y ts is =
    let x = is.0 in
    subst (λ (us : List Token). Begun (nullable (chain g next)) (firsts (chain g next)) y us) (sym is.1.whole)
    (begun_chain (nullable g) (firsts g) (λ z. nullable (next z)) (λ z. firsts (next z)) x y is.1.front is.1.back
    (begun g _ (h x).0 kept x is.1.front is.1.first) (begun (next x) follow (h x).1 kept y is.1.back is.1.second))
begun (pick g h) follow k kept y ts (inl is) =
    begun_left (firsts g) (firsts h) (nullable h) y ts
    (subst (λ o. Begun o (firsts g) y ts) k.0 (begun g follow k.2 kept y ts is))
begun (pick g h) follow k kept y ts (inr is) =
    begun_right (firsts g) (firsts h) (nullable h) y ts (begun h follow k.3 kept y ts is)
begun (many limit item) follow h kept xs ts is =
    begun_all (spells item kept) (firsts item)
    (λ x us j. subst (λ o. Begun o (firsts item) x us) h.0 (begun item _ h.3 kept x us j)) xs ts is.0
begun (more limit divider item) follow h kept xs ts is =
    begun_all (chained (Single (class_of divider)) (λ place. spells item kept)) (class_of divider ∷ [])
    (λ x us j. begun_entry (class_of divider) (spells item kept) x us j) xs ts is.0

-- ---- what stands behind

-- nothing, or a token of these classes
abbrev pub Ahead : List Class → List Token → Type 0
Ahead follow [] = Unit {0}
Ahead follow (t ∷ ts) = among follow t.kind ≡ true

ahead_right : (cs ds : List Class) (ts : List Token) → Ahead ds ts → Ahead (cs ++ ds) ts
ahead_right cs ds [] h = tt
ahead_right cs ds (t ∷ ts) h = among_right cs ds t.kind h

ahead_with : {A : Type 0} (empty : Option A) (classes follow : List Class) (y : A) (ts rest : List Token)
    → Begun empty classes y ts → Ahead follow rest → Ahead (classes ++ if_some empty follow) (ts ++ rest)
ahead_with {A} empty classes follow y [] rest h k =
    subst (λ (o : Option A). Ahead (classes ++ if_some o follow) rest) (sym h) (ahead_right classes follow rest k)
ahead_with empty classes follow y (t ∷ ts) rest h k = among_left classes (if_some empty follow) t.kind h

not_begins : (cs ds : List Class) (ts : List Token) → apart cs ds ≡ true → Ahead ds ts → begins (among cs) ts ≡ false
not_begins cs ds [] e h = refl
not_begins cs ds (t ∷ ts) e h = not_so (among cs t.kind) (λ k. never_both cs ds t.kind e k h)

begins_so : {A : Type 0} (classes : List Class) (y : A) (ts rest : List Token) → Begun None classes y ts
    → begins (among classes) (ts ++ rest) ≡ true
begins_so classes y [] rest h = absurd cc
begins_so classes y (t ∷ ts) rest h = h

-- ---- answers

-- it is read, or there is too much, and then it doesn't keep the limits
abbrev pub Answered : {A : Type 0} → Bool → Read A → A → List Token → Type 0
Answered kept read y rest = (read ≡ Ok (y, rest)) ⊎ ((place : ℕ) × (read ≡ Err (TooMany place)) × (kept ≡ true → ⊥))

next_answered : {A B : Type 0} (kept : Bool) (read : Read A) (x : A) (rest : List Token)
    (next : A × List Token → Read B) (y : B) (last : List Token) → Answered kept read x rest
    → Answered kept (next (x, rest)) y last → Answered kept (read >>= next) y last
next_answered {A} kept read x rest next y last (inl e) (inl k) = inl (ap (λ (r : Read A). r >>= next) e ∙ k)
next_answered {A} kept read x rest next y last (inl e) (inr k) = inr (k.0, ap (λ (r : Read A). r >>= next) e ∙ k.1, k.2)
next_answered {A} kept read x rest next y last (inr k) h = inr (k.0, ap (λ (r : Read A). r >>= next) k.1, k.2)

answered_along : {A : Type 0} (kept : Bool) (read other : Read A) (y : A) (rest : List Token) → read ≡ other
    → Answered kept other y rest → Answered kept read y rest
answered_along {A} kept read other y rest e h = subst (λ (r : Read A). Answered kept r y rest) (sym e) h

given_answered : (c : Class) (kept : Bool) (y : Given c) (ts rest : List Token) → Single c y ts → (e : ℕ)
    → Answered kept (taken_at c e (ts ++ rest)) y rest
given_answered c kept y ts rest h e =
    inl (ap (λ (us : List Token). taken_at c e (us ++ rest)) h.whole
    ∙ ap (λ (o : Option (Given c)). taken_from o h.token.start rest) h.is_given)

limited_answered : (most : ℕ) (kept : Bool) (y : ℕ × ℕ) (place : ℕ) (rest : List Token) (b : Bool) → nat_le y.0 most ≡ b
    → (kept ≡ true → nat_le y.0 most ≡ true) → Answered kept (cond b (Ok (y, rest)) (Err (TooMany place))) y rest
limited_answered most kept y place rest true is_so h = inl refl
limited_answered most kept y place rest false is_so h = inr (place, refl, λ k. let a = h k in absurd cc)

-- ---- lists

module _ {A : Type 0} (kept : Bool) (of : A → Phrase) (classes follow : List Class) (read : ℕ → List Token → Read A)
    (each_begun : (x : A) (ts : List Token) → of x ts → Begun None classes x ts)
    (each : (x : A) (ts rest : List Token) → of x ts → Ahead (classes ++ follow) rest → (e : ℕ)
    → Answered kept (read e (ts ++ rest)) x rest) (away : apart classes follow ≡ true) where
  list_ahead : (xs : List A) (ts rest : List Token) → all of xs ts → Ahead follow rest
      → Ahead (classes ++ follow) (ts ++ rest)
  list_ahead xs ts rest h k = ahead_with (Some []) classes follow xs ts rest (begun_all of classes each_begun xs ts h) k

  many_answered : (xs : List A) (room : ℕ) (ts rest : List Token) → all of xs ts → (kept ≡ true → length xs ≤ room)
      → Ahead follow rest → (e : ℕ) → Answered kept (many_at (among classes) read e room (ts ++ rest)) xs rest
  unfolding many_at
  many_answered [] zero ts rest h few k e = inl (rw (h, not_begins classes follow rest away k) refl)
  many_answered [] (suc room) ts rest h few k e = inl (rw (h, not_begins classes follow rest away k) refl)
  many_answered (x ∷ xs) zero ts rest h few k e =
      let shape : ts ++ rest ≡ h.front ++ (h.back ++ rest) = ap (λ (us : List Token). us ++ rest) h.whole
      ∙ append_assoc h.front h.back rest in
      let b : begins (among classes) (h.front ++ (h.back ++ rest)) ≡ true =
      begins_so classes x h.front (h.back ++ rest) (each_begun x h.front h.first) in
      inr (place_of e (h.front ++ (h.back ++ rest)), (rw (shape, b) refl), λ j. absurd (omega (arith, few j)))
  many_answered (x ∷ xs) (suc room) ts rest h few k e =
      let shape : ts ++ rest ≡ h.front ++ (h.back ++ rest) = ap (λ (us : List Token). us ++ rest) h.whole
      ∙ append_assoc h.front h.back rest in
      let b : begins (among classes) (h.front ++ (h.back ++ rest)) ≡ true =
      begins_so classes x h.front (h.back ++ rest) (each_begun x h.front h.first) in
      let one : Answered kept (read e (h.front ++ (h.back ++ rest))) x (h.back ++ rest) =
      each x h.front (h.back ++ rest) h.first (list_ahead xs h.back rest h.second k) e in
      let others : Answered kept (many_at (among classes) read e room (h.back ++ rest)) xs rest =
      many_answered xs room h.back rest h.second (λ j. omega (arith, few j)) k e in
      let last : Answered kept (joined x (many_at (among classes) read e room (h.back ++ rest))) (x ∷ xs) rest =
      next_answered kept (many_at (among classes) read e room (h.back ++ rest)) xs rest (λ z. Ok (x ∷ z.0, z.1))
      (x ∷ xs) rest others (inl refl) in
      answered_along kept (many_at (among classes) read e (suc room) (ts ++ rest))
      (read e (h.front ++ (h.back ++ rest)) >>= λ z. joined z.0 (many_at (among classes) read e room z.1))
      (x ∷ xs) rest
      (rw (shape, b) refl) (next_answered kept (read e (h.front ++ (h.back ++ rest))) x (h.back ++ rest)
      (λ z. joined z.0 (many_at (among classes) read e room z.1)) (x ∷ xs) rest one last)

module _ {A : Type 0} (kept : Bool) (d : Divider) (of : A → Phrase) (classes follow : List Class)
    (read : ℕ → List Token → Read A) (each_begun : (x : A) (ts : List Token) → of x ts → Begun None classes x ts)
    (each : (x : A) (ts rest : List Token) → of x ts → Ahead (class_of d ∷ follow) rest → (e : ℕ)
    → Answered kept (read e (ts ++ rest)) x rest) (away : apart (class_of d ∷ []) follow ≡ true) where
  abbrev divided : A → Phrase
  divided = chained (Single (class_of d)) (λ place. of)

  more_ahead : (xs : List A) (ts rest : List Token) → all divided xs ts → Ahead follow rest
      → Ahead (class_of d ∷ follow) (ts ++ rest)
  more_ahead xs ts rest h k = ahead_with (Some []) (class_of d ∷ []) follow xs ts rest
      (begun_all divided (class_of d ∷ []) (λ x us j. begun_entry (class_of d) of x us j) xs ts h) k

  -- the divider, the thing behind it, and what stands behind that
  record Parts (x : A) (ts rest : List Token) : Type 0 where
    divider : Token
    thing : List Token
    whole : ts ≡ divider ∷ thing ++ rest
    divides : is (class_of d) divider.kind ≡ true
    spelled : of x thing

  parts : (x : A) (ts rest back : List Token) → divided x ts → rest ≡ ts ++ back → Parts x rest back
  parts x ts rest back h shape =
      let t = h.1.first.token in
      let whole : ts ≡ t ∷ h.1.back = h.1.whole ∙ ap (λ (us : List Token). us ++ h.1.back) h.1.first.whole in
      record {
        divider = t;
        thing = h.1.back;
        whole = shape
            ∙ ap (λ (us : List Token). us ++ back) whole;
        divides =
            given_is (class_of d) t.kind t.start h.0 h.1.first.is_given;
        spelled = h.1.second;
      }

  -- a list of divided things where there is no room, and where there is
  full_is : (t : Token) (us thing : List Token) → us ≡ t ∷ thing → is (class_of d) t.kind ≡ true
      → begins (among classes) thing ≡ true → (e : ℕ) → more_at (is (class_of d)) (among classes) read e 0 us ≡ Err
      (TooMany (place_of e thing))
  unfolding more_at
  full_is t us thing shape is_divider starts e = rw (shape, is_divider, starts) refl

  more_is : (t : Token) (us thing : List Token) → us ≡ t ∷ thing → is (class_of d) t.kind ≡ true → (room e : ℕ)
      → more_at (is (class_of d)) (among classes) read e
      (suc room) us ≡ (read e thing >>= λ z. joined z.0 (more_at (is (class_of d)) (among classes) read e room z.1))
  unfolding more_at
  more_is t us thing shape is_divider room e = rw (shape, is_divider) refl

  more_answered : (xs : List A) (room : ℕ) (ts rest : List Token) → all divided xs ts → (kept ≡ true → length xs ≤ room)
      → Ahead follow rest → (e : ℕ)
      → Answered kept (more_at (is (class_of d)) (among classes) read e room (ts ++ rest)) xs rest
  unfolding more_at
  more_answered [] zero ts rest h few k e = inl (rw (h, not_begins (class_of d ∷ []) follow rest away k) refl)
  more_answered [] (suc room) ts rest h few k e = inl (rw (h, not_begins (class_of d ∷ []) follow rest away k) refl)
  more_answered (x ∷ xs) zero ts rest h few k e =
      let shape : ts ++ rest ≡ h.front ++ (h.back ++ rest) = ap (λ (us : List Token). us ++ rest) h.whole
      ∙ append_assoc h.front h.back rest in
      let p = parts x h.front (ts ++ rest) (h.back ++ rest) h.first shape in
      let b : begins (among classes) (p.thing ++ (h.back ++ rest)) ≡ true =
      begins_so classes x p.thing (h.back ++ rest) (each_begun x p.thing p.spelled) in
      inr (
        place_of e (p.thing ++ (h.back ++ rest)),
        full_is p.divider (ts ++ rest) (p.thing ++ (h.back ++ rest))
            p.whole p.divides b e,
        λ j. absurd (omega (arith, few j)),
      )
  more_answered (x ∷ xs) (suc room) ts rest h few k e =
      let shape : ts ++ rest ≡ h.front ++ (h.back ++ rest) = ap (λ (us : List Token). us ++ rest) h.whole
      ∙ append_assoc h.front h.back rest in
      let p = parts x h.front (ts ++ rest) (h.back ++ rest) h.first shape in
      let first_one : Answered kept (read e (p.thing ++ (h.back ++ rest))) x (h.back ++ rest) =
      each x p.thing (h.back ++ rest) p.spelled (more_ahead xs h.back rest h.second k) e in
      let others : Answered kept (more_at (is (class_of d)) (among classes) read e room (h.back ++ rest)) xs rest =
      more_answered xs room h.back rest h.second (λ j. omega (arith, few j)) k e in
      let last : Answered kept (joined x (more_at (is (class_of d)) (among classes) read e room (h.back ++ rest)))
      (x ∷ xs) rest =
      next_answered kept (more_at (is (class_of d)) (among classes) read e room (h.back ++ rest)) xs rest
      (λ z. Ok (x ∷ z.0, z.1)) (x ∷ xs) rest others (inl refl) in
      answered_along kept (more_at (is (class_of d)) (among classes) read e (suc room) (ts ++ rest))
      (read e (p.thing ++ (h.back ++ rest)) >>= λ z. joined z.0
      (more_at (is (class_of d)) (among classes) read e room z.1)) (x ∷ xs) rest
      (more_is p.divider (ts ++ rest) (p.thing ++ (h.back ++ rest)) p.whole p.divides room e)
      (next_answered kept (read e (p.thing ++ (h.back ++ rest))) x (h.back ++ rest)
      (λ z. joined z.0 (more_at (is (class_of d)) (among classes) read e room z.1)) (x ∷ xs) rest first_one last)

-- ---- every grammar

pub complete : {A : Type 0} (g : Grammar A) (follow : List Class) → IsPredictive g follow
    → (kept : Bool) (y : A) (ts rest : List Token) → spells g kept y ts → Ahead follow rest → (e : ℕ)
    → Answered kept (reads g e (ts ++ rest)) y rest
complete {A} (give x) follow h kept y ts rest spelled k e =
    let same : ts ++ rest ≡ rest = ap (λ (us : List Token). us ++ rest) spelled.1 in
    let value : y ≡ x = spelled.0 in
    let r : (let a : Read A = Ok (x, ts ++ rest) in a) ≡ Ok (y, rest) = rw (value, same) refl in
    inl r
complete (token c) follow h kept y ts rest spelled k e = given_answered c kept y ts rest spelled e
complete (up_to most) follow h kept y ts rest spelled k e =
    let s = spelled.0 in
    answered_along kept (limited_at most e (ts ++ rest))
    (cond (nat_le y.0 most) (Ok (y, rest)) (Err (TooMany s.token.start))) y rest
    (ap (λ (us : List Token). limited_at most e (us ++ rest)) s.whole
    ∙ ap (λ (o : Option (ℕ × ℕ)). limited_from o most s.token.start rest) s.is_given)
    (limited_answered most kept y s.token.start rest (nat_le y.0 most) refl spelled.1)
complete (chain g next) follow h kept y ts rest spelled k e =
    let x = spelled.0 in
    let s = spelled.1 in
    let p = h x in
    let shape : ts ++ rest ≡ s.front ++ (s.back ++ rest) = ap (λ (us : List Token). us ++ rest) s.whole
    ∙ append_assoc s.front s.back rest in
    let first_one = complete g _ p.0 kept x s.front (s.back ++ rest) s.first
    (ahead_with (nullable (next x)) (firsts (next x)) follow y s.back rest
    (begun (next x) follow p.1 kept y s.back s.second) k) e in
    let last = complete (next x) follow p.1 kept y s.back rest s.second k e in
    answered_along kept (reads (chain g next) e (ts ++ rest)) (reads (chain g next) e (s.front ++ (s.back ++ rest))) y
    rest (ap (λ (us : List Token). reads (chain g next) e us) shape)
    (next_answered kept (reads g e (s.front ++ (s.back ++ rest))) x (s.back ++ rest) (λ z. reads (next z.0) e z.1) y
    rest first_one last)
complete {A} (pick g h) follow p kept y ts rest (inl spelled) k e =
    let b : begins (among (firsts g)) (ts ++ rest) ≡ true = begins_so (firsts g) y ts rest
    (subst (λ (o : Option A). Begun o (firsts g) y ts) p.0 (begun g follow p.2 kept y ts spelled)) in
    answered_along kept (reads (pick g h) e (ts ++ rest)) (reads g e (ts ++ rest)) y rest (rw b refl)
    (complete g follow p.2 kept y ts rest spelled k e)
complete (pick g h) follow p kept y ts rest (inr spelled) k e =
    let a = ahead_with (nullable h) (firsts h) follow y ts rest (begun h follow p.3 kept y ts spelled) k in
    let b : begins (among (firsts g)) (ts ++ rest) ≡ false =
    not_begins (firsts g) (firsts h ++ if_some (nullable h) follow) (ts ++ rest) p.1 a in
    answered_along kept (reads (pick g h) e (ts ++ rest)) (reads h e (ts ++ rest)) y rest (rw b refl)
    (complete h follow p.3 kept y ts rest spelled k e)
complete (many limit item) follow h kept xs ts rest spelled k e =
    many_answered kept (spells item kept) (firsts item) follow (reads item)
    (λ x us j. subst (λ o. Begun o (firsts item) x us) h.0 (begun item _ h.3 kept x us j))
    (λ x us left j l end. complete item _ h.3 kept x us left j l end) h.1 xs limit ts rest spelled.0 spelled.1 k e
complete (more limit divider item) follow h kept xs ts rest spelled k e =
    more_answered kept divider (spells item kept) (firsts item) follow (reads item)
    (λ x us j. subst (λ o. Begun o (firsts item) x us) h.0 (begun item _ h.3 kept x us j))
    (λ x us left j l end. complete item _ h.3 kept x us left j l end) h.1 xs limit ts rest spelled.0 spelled.1 k e
