-- Posts, heads and their pairs, one after the other.
use Rattle.std.proofs.Common.{◌≡◌, ◌⊎◌, inl, inr, ℕ, zero, suc, ◌+◌, ◌<◌, Bool, true, false, List, [], ◌∷◌, ◌++◌, map}
use Rattle.std.proofs.Common.{take, length, get_or, sym, ◌∙◌, ap, subst, arith}
use Rattle.std.specs.Prelude.{Contains, MatchBool}
use Rattle.std.proofs.lemmas.List.{append-nil, append_assoc, map-append, map_more}
use Rattle.std.proofs.lemmas.List.Elements.{Contains-append_left, Contains-push, Contains-push_cases}
use Rattle.ent_value.specs.declared.value.Value.{Value}
use Rattle.ent_semantics.specs.declared.entangled.Atom.{Atom}
use Rattle.ent_semantics.specs.Pool.{Posted}
use Rattle.ent_unify.specs.declared.unifier.MemberAtom.{MemberAtom}
use Rattle.ent_plan.specs.declared.pair.PlacedAtom.{PlacedAtom}
use Rattle.ent_plan.specs.Pairs.{Placed, seen, placed_at, placed_from, AtPlace, seen_pair, pair_of, DoUnify, StandApart}
use Rattle.ent_plan.specs.Pairs.{IsAlone, IsMetIn, PutsPairs, ArePairs}

-- ---- the atoms of one more member

pub placed_more : (atoms : Posted → List (Atom Value)) (n : ℕ) (members : List Posted) (i : ℕ) (member : Posted)
    → i < length members → member ≡ get_or members i member
    → placed_from atoms n (take (suc i) members)
    ≡ placed_from atoms n (take i members) ++ map (placed_at (n + i) member.statement.variables) (atoms member)
placed_more atoms n [] i member below is = absurd (omega arith)
placed_more atoms n (x ∷ members) zero member below is =
    let place : n ≡ n + 0 = omega arith in
    append-nil (map (placed_at n x.statement.variables) (atoms x))
    ∙ (λ i. map (placed_at (place i) (sym is i).statement.variables) (atoms (sym is i)))
placed_more atoms n (x ∷ members) (suc i) member below is =
    let here = map (placed_at n x.statement.variables) (atoms x) in
    let place : suc n + i ≡ n + suc i = omega arith in
    ap (λ rest. here ++ rest) (placed_more atoms (suc n) members i member (omega arith) is)
    ∙ (sym (append_assoc here (placed_from atoms (suc n) (take i members))
    (map (placed_at (suc n + i) member.statement.variables) (atoms member)))
    ∙ ap (λ p. (here ++ placed_from atoms (suc n) (take i members))
    ++ map (placed_at p member.statement.variables) (atoms member)) place)

-- what is put down for a member is what its atoms are
pub placed_step : (atoms : Posted → List (Atom Value)) (members : List Posted) (i : ℕ) (member : Posted)
    (old new : List Placed) (fresh : List Placed) → i < length members → member ≡ get_or members i member
    → old ≡ placed_from atoms 0 (take i members) → new ≡ old ++ fresh
    → fresh ≡ map (placed_at i member.statement.variables) (atoms member)
    → new ≡ placed_from atoms 0 (take (i + 1) members)
placed_step atoms members i member old new fresh below is so_far pushed fresh_is =
    let place : i ≡ 0 + i = omega arith in
    let next : suc i ≡ i + 1 = omega arith in
    pushed
    ∙ ((λ t. so_far t ++ fresh_is t)
    ∙ (ap (λ p. placed_from atoms 0 (take i members) ++ map (placed_at p member.statement.variables) (atoms member))
    place
    ∙ (sym (placed_more atoms 0 members i member below is) ∙ ap (λ n. placed_from atoms 0 (take n members)) next)))

-- ---- one more head

abbrev Pair : Type 0
Pair = AtPlace × AtPlace

grown : (heads : List Placed) (head : Placed) (new : List Pair) (post : Placed) → IsMetIn new heads post
    → IsMetIn new (heads ++ head ∷ []) post
grown heads head new post (one, there, paired) = (one, Contains-append_left heads (head ∷ []) one there, paired)

alone_more : (heads : List Placed) (head post : Placed) → IsAlone heads post → StandApart post head
    → IsAlone (heads ++ head ∷ []) post
alone_more heads head post alone apart other there =
    elim (Contains-push_cases heads head other there) [
      | inl earlier ↦ alone other earlier
      | inr last ↦ subst (StandApart post) last apart
    ]

still_met : (post : Placed) (heads : List Placed) (head : Placed) (new : List Pair) (was : Bool) → StandApart post head
    → MatchBool was (IsMetIn new heads post) (IsAlone heads post)
    → MatchBool was (IsMetIn new (heads ++ head ∷ []) post) (IsAlone (heads ++ head ∷ []) post)
still_met post heads head new true apart met = grown heads head new post met
still_met post heads head new false apart alone = alone_more heads head post alone apart

pub head_apart : (post : Placed) (heads : List Placed) (head : Placed) (old new : List Pair) (was : Bool)
    → StandApart post head → PutsPairs post heads old new was → PutsPairs post (heads ++ head ∷ []) old new was
head_apart post heads head old new was apart puts =
    record {
      kept = puts.kept;
      sound = λ pair there. elim (puts.sound pair there) [
        | inl earlier ↦ inl earlier
        | inr found ↦ inr (found.0, Contains-append_left heads (head ∷ []) found.0 found.1, found.2, found.3)
      ];
      told = λ other there. elim (Contains-push_cases heads head other there) [
        | inl earlier ↦ puts.told other earlier
        | inr last ↦ inl (subst (StandApart post) last apart)
      ];
      met = still_met post heads head new was apart puts.met;
    }

pub head_met : (post : Placed) (heads : List Placed) (head : Placed) (old mid new : List Pair) (was : Bool)
    → DoUnify post head → new ≡ mid ++ pair_of post head ∷ [] → PutsPairs post heads old mid was
    → PutsPairs post (heads ++ head ∷ []) old new true
head_met post heads head old mid new was unify pushed puts =
    record {
      kept = λ pair there. later pair (puts.kept pair there);
      sound = λ pair there. elim (Contains-push_cases mid (pair_of post head) pair
          (subst (λ xs. Contains xs pair) pushed there)) [
            | inl earlier ↦ elim (puts.sound pair earlier) [
              | inl before ↦ inl before
              | inr found ↦ inr (found.0, Contains-append_left heads (head ∷ []) found.0 found.1, found.2, found.3)
            ]
            | inr last ↦ inr (head, Contains-push heads head, last, unify)
          ];
      told = λ other there. elim (Contains-push_cases heads head other there) [
        | inl earlier ↦ puts.told other earlier
        | inr last ↦ inr (subst (DoUnify post) last unify)
      ];
      met = (head, Contains-push heads head, here);
    }
  where
    here : Contains new (pair_of post head)
    here = subst (λ xs. Contains xs (pair_of post head)) (sym pushed) (Contains-push mid (pair_of post head))

    later : (pair : Pair) → Contains mid pair → Contains new pair
    later pair there =
        subst (λ xs. Contains xs pair) (sym pushed) (Contains-append_left mid (pair_of post head ∷ []) pair there)

-- what is pushed is the pair of a post and a head
pub pushed_pair : (old new : List (MemberAtom × MemberAtom)) (left right : MemberAtom) (post head : PlacedAtom)
    → new ≡ old ++ (left, right) ∷ [] → left.member ≡ post.member → left.atom.now ≡ post.atom.now
    → right.member ≡ head.member → right.atom.now ≡ head.atom.now
    → map seen_pair new ≡ map seen_pair old ++ pair_of (seen post) (seen head) ∷ []
pushed_pair old new left right post head pushed m a n b =
    ap (map seen_pair) pushed
    ∙ (map-append seen_pair old ((left, right) ∷ [])
    ∙ ap (λ p. map seen_pair old ++ p ∷ []) (λ i. ((m i, a i), (n i, b i))))

pub seen_more : (atoms : List PlacedAtom) (i : ℕ) (atom : PlacedAtom) → i < length atoms → atom ≡ get_or atoms i atom
    → map seen (take (i + 1) atoms) ≡ map seen (take i atoms) ++ seen atom ∷ []
seen_more atoms i atom below is =
    map_more seen atoms i atom below ∙ ap (λ x. map seen (take i atoms) ++ seen x ∷ []) (sym is)

pub seen_there : (atoms : List PlacedAtom) (i : ℕ) (atom : PlacedAtom) → i < length atoms → atom ≡ get_or atoms i atom
    → Contains (map seen atoms) (seen atom)
seen_there [] i atom below is = absurd (omega arith)
seen_there (x ∷ atoms) zero atom below is = (0, omega arith, ap seen (sym is))
seen_there (x ∷ atoms) (suc i) atom below is =
    let r = seen_there atoms i atom (omega arith) is in (suc r.0, (let l = r.1 in omega arith), r.2)

-- ---- one more post

pub post_more : (posts heads : List Placed) (post : Placed) (old new : List Pair) → ArePairs posts heads old
    → PutsPairs post heads old new true → ArePairs (posts ++ post ∷ []) heads new
post_more posts heads post old new are puts =
    record {
      sound = λ pair there. elim (puts.sound pair there) [
        | inl earlier ↦ (
            let found = are.sound pair earlier in
            (found.0, found.1, Contains-append_left posts (post ∷ []) found.0 found.2, found.3, found.4, found.5)
            )
        | inr found ↦ (post, found.0, Contains-push posts post, found.1, found.2, found.3)
      ];
      told = λ one head there offered. elim (Contains-push_cases posts post one there) [
        | inl earlier ↦ are.told one head earlier offered
        | inr last ↦ subst (λ p. StandApart p head ⊎ DoUnify p head) last (puts.told head offered)
      ];
      met = λ one there. elim (Contains-push_cases posts post one there) [
        | inl earlier ↦ (
            let found = are.met one earlier in
            (found.0, found.1, puts.kept (pair_of one found.0) found.2)
            )
        | inr last ↦ subst (IsMetIn new heads) last puts.met
      ];
    }
