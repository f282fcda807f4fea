-- Each grammar has a sentence, and one that begins with each token that it can begin with.
use Rattle.std.proofs.Common.{◌≡◌, Bool, true, false, List, [], ◌∷◌, ◌++◌, Option, Some, None, refl, sym, inl, inr}
use Rattle.std.proofs.Common.{subst, arith}
use Rattle.std.proofs.lemmas.List.{append-nil}
use Rattle.ent_text.specs.declared.token.Token.{Token}
use Rattle.ent_text.specs.Class.{Class, positive, is, among, class_of}
use Rattle.ent_text.specs.Grammar.{Grammar, give, token, up_to, chain, pick, many, more, nullable, firsts, after}
use Rattle.ent_text.specs.Grammar.{behind}
use Rattle.ent_text.specs.GrammarSpelling.{spells}
use Rattle.ent_text.specs.Foresight.{sample, IsPredictive}
use Rattle.ent_text.proofs.Classes.{by_either, among_either, is_given}
use Rattle.ent_text.proofs.Picks.{sample_token, sample_single}

-- ---- a sentence

abbrev pub HasSentence : {A : Type 0} → Grammar A → Type 0
HasSentence g = (ts : List Token) × ((kept : Bool) → spells g kept (sample g) ts)

pub sentence : {A : Type 0} (g : Grammar A) (follow : List Class) → IsPredictive g follow → HasSentence g
sentence (give x) follow h = ([], λ kept. (refl, refl))
sentence (token c) follow h = (sample_token c ∷ [], λ kept. sample_single c)
sentence (up_to most) follow h = (sample_token positive ∷ [], λ kept. (sample_single positive, λ e. h))
sentence (chain g next) follow h =
    let k = h (sample g) in
    let a = sentence g _ k.0 in
    let b = sentence (next (sample g)) follow k.1 in (
      a.0 ++ b.0,
      λ kept. (
        sample g,
        record { front = a.0; back = b.0; whole = refl; first = a.1 kept; second = b.1 kept },
      ),
    )
sentence (pick g h) follow k = let a = sentence g follow k.2 in (a.0, λ kept. inl (a.1 kept))
sentence (many limit item) follow h = ([], λ kept. (refl, λ e. omega arith))
sentence (more limit divider item) follow h = ([], λ kept. (refl, λ e. omega arith))

-- ---- no token

abbrev EmptySo : {A : Type 0} → Grammar A → Type 0
EmptySo {A} g = (x : A) → nullable g ≡ Some x → (kept : Bool) → spells g kept x []

chained_empty : {A B : Type 0} (g : Grammar A) (next : A → Grammar B) → EmptySo g → ((x : A) → EmptySo (next x))
    → (o : Option A) → nullable g ≡ o → (y : B) → after o (λ x. nullable (next x)) ≡ Some y
    → (kept : Bool) → spells (chain g next) kept y []
chained_empty g next first second None is y e kept = absurd cc
chained_empty g next first second (Some x) is y e kept =
    (x, record { front = []; back = []; whole = refl; first = first x is kept; second = second x y e kept })

pub empty_so : {A : Type 0} (g : Grammar A) → EmptySo g
empty_so (give x) y e kept = (let k : y ≡ x = cc in k, refl)
empty_so (token c) y e kept = absurd cc
empty_so (up_to most) y e kept = absurd cc
empty_so (chain g next) y e kept = chained_empty g next (empty_so g) (λ x. empty_so (next x)) (nullable g) refl y e kept
empty_so (pick g h) y e kept = inr (empty_so h y e kept)
empty_so (many limit item) y e kept =
    let k : [] ≡ y = cc in subst (λ ys. spells (many limit item) kept ys []) k (refl, λ e. omega arith)
empty_so (more limit divider item) y e kept =
    let k : [] ≡ y = cc in subst (λ ys. spells (more limit divider item) kept ys []) k (refl, λ e. omega arith)

-- ---- a token that it can begin with

abbrev pub Opens : {A : Type 0} → Grammar A → Token → Type 0
Opens {A} g t = (x : A) × (onward : List Token) × spells g false x (t ∷ onward)

opens_on : {A B : Type 0} (g : Grammar A) (next : A → Grammar B) (t : Token) → ((x : A) → HasSentence (next x))
    → Opens g t → Opens (chain g next) t
opens_on g next t sentences h =
    let s = sentences h.0 in (
      sample (next h.0),
      h.1 ++ s.0,
      (h.0, record { front = t ∷ h.1; back = s.0; whole = refl; first = h.2; second = s.1 false }),
    )

opens_behind : {A B : Type 0} (g : Grammar A) (next : A → Grammar B) (t : Token)
    → ((x : A) → among (firsts (next x)) t.kind ≡ true → Opens (next x) t) → (o : Option A) → nullable g ≡ o
    → among (behind o (λ x. firsts (next x))) t.kind ≡ true → Opens (chain g next) t
opens_behind g next t second None is e = absurd cc
opens_behind g next t second (Some x) is e =
    let h = second x e in
    (h.0, h.1, (x, record { front = []; back = t ∷ h.1; whole = refl; first = empty_so g x is false; second = h.2 }))

pub opening : {A : Type 0} (g : Grammar A) (follow : List Class) → IsPredictive g follow → (t : Token)
    → among (firsts g) t.kind ≡ true → Opens g t
opening (give x) follow h t e = absurd cc
opening (token c) follow h t e = let k = is_given c t.kind t.start e in
    (k.0, [], record { token = t; whole = refl; is_given = k.1 })
opening (up_to most) follow h t e = let k = is_given positive t.kind t.start e in
    (k.0, [], (record { token = t; whole = refl; is_given = k.1 }, λ f. absurd cc))
opening (chain g next) follow h t e =
    by_either (among_either (firsts g) (behind (nullable g) (λ x. firsts (next x))) t.kind e)
    (λ k. opens_on g next t (λ x. sentence (next x) follow (h x).1) (opening g _ (h (sample g)).0 t k))
    (λ k. opens_behind g next t (λ x j. opening (next x) follow (h x).1 t j) (nullable g) refl k)
opening (pick g h) follow k t e =
    by_either (among_either (firsts g) (firsts h) t.kind e)
    (λ j. let o = opening g follow k.2 t j in (o.0, o.1, inl o.2))
    (λ j. let o = opening h follow k.3 t j in (o.0, o.1, inr o.2))
opening (many limit item) follow h t e =
    let o = opening item _ h.3 t e in (
      o.0 ∷ [],
      o.1,
      (
        record {
          front = t ∷ o.1;
          back = [];
          whole = sym (append-nil (t ∷ o.1));
          first = o.2;
          second = refl;
        },
        λ f. absurd cc,
      ),
    )
opening (more limit divider item) follow h t e =
    let k = is_given (class_of divider) t.kind t.start e in
    let s = sentence item _ h.3 in (
      sample item ∷ [],
      s.0,
      (
        record {
          front = t ∷ s.0;
          back = [];
          whole = sym (append-nil (t ∷ s.0));
          first = (
            k.0,
            record {
              front = t ∷ [];
              back = s.0;
              whole = refl;
              first =
                  record { token = t; whole = refl; is_given = k.1 };
              second = s.1 false;
            },
          );
          second = refl;
        },
        λ f. absurd cc,
      ),
    )
