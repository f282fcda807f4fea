-- Joins of statements that remain, and the classes to which they lead.
use Rattle.std.proofs.Common.{◌≡◌, ℕ, zero, suc, ◌<◌, Bool, true, false, List, [], ◌∷◌}
use Rattle.std.proofs.Common.{length, get_or, refl, sym, ◌∙◌, ap, subst, arith, inl, inr, true≢false}
use Rattle.std.proofs.Common.{All}
use Rattle.std.specs.Prelude.{Contains}
use Rattle.std.proofs.lemmas.Bool.{cases_Bool}
use Rattle.std.proofs.lemmas.List.{get_or_default}
use Rattle.std.proofs.lemmas.List.Kept.{AllPairs-cons}
use Rattle.ent_lists.proofs.Contained.{contains_cases, contains_later, contains_first}
use Rattle.ent_semantics.specs.Component.{IsComponent, IsInRemainder, AreLinked}
use Rattle.ent_semantics.specs.Component.{AreLinkedIn}
use Rattle.ent_semantics.specs.Pool.{Posted}
use Rattle.ent_semantics.proofs.Linked.{linked_end}
use Rattle.ent_match.specs.declared.link.Link.{Link}
use Rattle.ent_match.specs.Fault.{IsByNumber}
use Rattle.ent_match.specs.Links.{IsMarked, PathIn, Closed}
use Rattle.ent_match.specs.Remainder.{At}
use Rattle.ent_match.specs.Components.{flipped, IsKept, AreJoinsOf, both_ways, joins_of, marked_in, AreLinkedBy}
use Rattle.ent_match.proofs.Linked.{one_place}

-- ---- joins

module _ (links : List Link) (removed : List Bool) (o : Link) (joins : List Link)
    (are : AreJoinsOf links removed joins) where
  later : (x : Link) → IsKept links removed x → IsKept (o ∷ links) removed x
  later x (inside, remains) = (contains_later o links x inside, remains)

  joins_same : get_or removed o.to false ≡ true → AreJoinsOf (o ∷ links) removed joins
  joins_same gone =
      record {
        sound = λ join inside. elim (are.sound join inside) [
          | inl kept ↦ inl (later join kept)
          | inr kept ↦ inr (later (flipped join) kept)
        ];
        there = λ link kept. are.there link (before link kept);
        back = λ link kept. are.back link (before link kept);
      }
    where
      before : (link : Link) → IsKept (o ∷ links) removed link → IsKept links removed link
      before link (inside, remains) =
          elim (contains_cases o links link inside) [
            | inl is ↦ absurd (true≢false (sym gone ∙ (ap (λ (l : Link). get_or removed l.to false) is ∙ remains)))
            | inr rest ↦ (rest, remains)
          ]

  joins_more : get_or removed o.to false ≡ false → AreJoinsOf (o ∷ links) removed (o ∷ flipped o ∷ joins)
  joins_more remains =
      record {
        sound = λ join inside. elim (contains_cases o (flipped o ∷ joins) join inside) [
          | inl is ↦ inl (subst (IsKept (o ∷ links) removed) is (contains_first o links o refl, remains))
          | inr rest ↦ elim (contains_cases (flipped o) joins join rest) [
            | inl is ↦ inr (subst (λ j. IsKept (o ∷ links) removed (flipped j)) is
                (contains_first o links o refl, remains))
            | inr old ↦ elim (are.sound join old) [
              | inl kept ↦ inl (later join kept)
              | inr kept ↦ inr (later (flipped join) kept)
            ]
          ]
        ];
        there = λ link (inside, kept). elim (contains_cases o links link inside) [
          | inl is ↦ contains_first o (flipped o ∷ joins) link is
          | inr rest ↦ behind link (are.there link (rest, kept))
        ];
        back = λ link (inside, kept). elim (contains_cases o links link inside) [
          | inl is ↦ contains_later o (flipped o ∷ joins) (flipped link)
              (contains_first (flipped o) joins (flipped link) (ap flipped is))
          | inr rest ↦ behind (flipped link) (are.back link (rest, kept))
        ];
      }
    where
      behind : (x : Link) → Contains joins x → Contains (o ∷ flipped o ∷ joins) x
      behind x inside = contains_later o (flipped o ∷ joins) x (contains_later (flipped o) joins x inside)

pub are_joins : (links : List Link) (removed : List Bool) → AreJoinsOf links removed (joins_of links removed)
are_joins [] removed =
    record {
      sound = λ join inside. let below = inside.1 in absurd (omega arith);
      there = λ link kept. let below = kept.0.1 in absurd (omega arith);
      back = λ link kept. let below = kept.0.1 in absurd (omega arith);
    }
are_joins (o ∷ links) removed =
    elim (cases_Bool (get_or removed o.to false)) [
      | inl gone ↦ subst (AreJoinsOf (o ∷ links) removed)
          (ap (λ b. both_ways b o (joins_of links removed)) (sym gone))
          (joins_same links removed o (joins_of links removed) (are_joins links removed) gone)
      | inr remains ↦ subst (AreJoinsOf (o ∷ links) removed)
          (ap (λ b. both_ways b o (joins_of links removed)) (sym remains))
          (joins_more links removed o (joins_of links removed) (are_joins links removed) remains)
    ]

-- ---- the statements at marked places

-- the places of the class
pub marked_at : (marks : List Bool) (pool : List Posted) (x : Posted) → Contains (marked_in marks pool) x
    → (k : ℕ) × At pool k x × IsMarked marks k
marked_at [] pool x (k, below, is) = absurd (omega arith)
marked_at (b ∷ marks) [] x (k, below, is) = absurd (omega arith)
marked_at (true ∷ marks) (m ∷ pool) x inside =
    elim (contains_cases m (marked_in marks pool) x inside) [
      | inl is ↦ (0, (omega arith, is), refl)
      | inr later ↦ (let r = marked_at marks pool x later in (suc r.0, (let l = r.1.0 in omega arith, r.1.1), r.2))
    ]
marked_at (false ∷ marks) (m ∷ pool) x inside =
    let r = marked_at marks pool x inside in (suc r.0, (let l = r.1.0 in omega arith, r.1.1), r.2)

pub at_marked : (marks : List Bool) (pool : List Posted) (x : Posted) (k : ℕ) → At pool k x → IsMarked marks k
    → Contains (marked_in marks pool) x
at_marked [] pool x k at marked = absurd (true≢false (sym marked))
at_marked (b ∷ marks) [] x k (below, is) marked = absurd (omega arith)
at_marked (true ∷ marks) (m ∷ pool) x zero (below, is) marked = contains_first m (marked_in marks pool) x is
at_marked (false ∷ marks) (m ∷ pool) x zero at marked = absurd (true≢false (sym marked))
at_marked (true ∷ marks) (m ∷ pool) x (suc k) (below, is) marked =
    contains_later m (marked_in marks pool) x (at_marked marks pool x k (omega arith, is) marked)
at_marked (false ∷ marks) (m ∷ pool) x (suc k) (below, is) marked = at_marked marks pool x k (omega arith, is) marked

all_marked : (P : Posted → Type 0) (marks : List Bool) (pool : List Posted) → All P pool → All P (marked_in marks pool)
all_marked P marks pool all k d below =
    let r = marked_at marks pool (get_or (marked_in marks pool) k d)
    (k, below, get_same (marked_in marks pool) k d below) in
    subst P r.1.1 (all r.0 _ r.1.0)
  where
    get_same : (xs : List Posted) (k : ℕ) (d : Posted) → k < length xs → get_or xs k (get_or xs k d) ≡ get_or xs k d
    get_same [] k d below = absurd (omega arith)
    get_same (x ∷ xs) zero d below = refl
    get_same (x ∷ xs) (suc k) d below = get_same xs k d (omega arith)

pub marked_ordered : (marks : List Bool) (pool : List Posted) → IsByNumber pool → IsByNumber (marked_in marks pool)
marked_ordered [] pool ordered = λ i j d less within. absurd (omega arith)
marked_ordered (b ∷ marks) [] ordered = λ i j d less within. absurd (omega arith)
marked_ordered (true ∷ marks) (m ∷ pool) ordered =
    AllPairs-cons (λ (x y : Posted). x.tx < y.tx) m (marked_in marks pool)
    (all_marked (λ y. m.tx < y.tx) marks pool (λ k d below. ordered 0 (suc k) d (omega arith) (omega arith)))
    (marked_ordered marks pool (λ i j d less within. ordered (suc i) (suc j) d (omega arith) (omega arith)))
marked_ordered (false ∷ marks) (m ∷ pool) ordered =
    marked_ordered marks pool (λ i j d less within. ordered (suc i) (suc j) d (omega arith) (omega arith))

-- ---- a class is a component

module _ (pool : List Posted) (joins : List Link) (removed : List Bool) (s : AreLinkedBy pool joins removed) where
  member_at : (k : ℕ) → k < length pool → (d : Posted) → At pool k (get_or pool k d)
  member_at k below d = (below, get_or_default pool k (get_or pool k d) d below)

  -- joins lead from a statement that remains to linked ones
  linked_along : (n : ℕ) (place last : ℕ) (a x : Posted) → PathIn joins n place last → At pool place a
      → get_or removed place false ≡ false → At pool last x → IsInRemainder pool x × AreLinked pool a x
  linked_along zero place last a x same at remains at_x =
      let is : a ≡ x = one_place pool last a x (subst (λ k. At pool k a) same at) at_x in
      (subst (IsInRemainder pool) is (s.remain place a at remains), (0, is))
  linked_along (suc n) place last a x (link, inside, to, path) at remains at_x =
      let within = s.within link inside in
      let from_at = member_at link.from within.0 a in
      let b = get_or pool link.from a in
      let front = linked_along n place link.from a b path at remains from_at in
      let to_at : At pool link.to x = subst (λ k. At pool k x) (sym to) at_x in
      let join = s.joined link b x inside from_at to_at in
      let in_rest = s.remain link.to x to_at join.2 in
      (in_rest, (suc front.1.0, linked_end pool front.1.0 a b x front.1.1 join.0 in_rest))

  place_of : (x : Posted) → IsInRemainder pool x → (k : ℕ) × At pool k x × (get_or removed k false ≡ false)
  place_of x remains =
      let inside = remains.is_in.0 in
      let at : At pool inside.0 x = (inside.1, inside.2) in (
        inside.0,
        at,
        elim (cases_Bool (get_or removed inside.0 false)) [
          | inl gone ↦ absurd (s.gone inside.0 x at gone remains)
          | inr here ↦ here
        ],
      )

  -- linked statements are reached
  reached_from : (marks : List Bool) → Closed joins marks → (n : ℕ) (p : ℕ) (a x : Posted) → At pool p a
      → get_or removed p false ≡ false → IsMarked marks p → AreLinkedIn n pool a x
      → (k : ℕ) × At pool k x × IsMarked marks k
  reached_from marks closed zero p a x at remains marked same = (p, subst (At pool p) same at, marked)
  reached_from marks closed (suc n) p a x at remains marked (next, joined, in_rest, rest) =
      let q = place_of next in_rest in
      let join = s.complete p q.0 a next at q.1 joined remains q.2 in
      reached_from marks closed n q.0 next x q.1 q.2 (closed _ join marked) rest

  pub class_component : (place : ℕ) (a : Posted) (marks : List Bool) → At pool place a
      → get_or removed place false ≡ false
      → IsMarked marks place → ((last : ℕ) → IsMarked marks last → (n : ℕ) × PathIn joins n place last)
      → Closed joins marks
      → IsComponent pool (marked_in marks pool)
  class_component place a marks at remains here reached closed =
      record {
        first = a;
        in_remainder = s.remain place a at remains;
        class = λ x. (
          (λ inside. let r = marked_at marks pool x inside in let path = reached r.0 r.2 in
              linked_along path.0 place r.0 a x path.1 at remains r.1),
          (λ both. let r = reached_from marks closed both.1.0 place a x at remains here both.1.1 in
              at_marked marks pool x r.0 r.1 r.2),
        );
        ascending = marked_ordered marks pool s.by_number;
      }
