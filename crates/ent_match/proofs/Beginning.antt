-- The places at which components begin.
use Rattle.std.proofs.Common.{◌≡◌, ℕ, zero, suc, ◌+◌, ◌<◌, ◌≤◌, Bool, true, false, List, [], ◌∷◌, ◌++◌, length, map}
use Rattle.std.proofs.Common.{get_or}
use Rattle.std.proofs.Common.{refl, sym, ◌∙◌, ap, subst, arith, inl, inr, true≢false, Option, Some, None}
use Rattle.std.specs.Prelude.{Contains}
use Rattle.std.proofs.lemmas.Bool.{cases_lt, cases_Bool, eq-eqb, eqb-true}
use Rattle.std.proofs.lemmas.List.Elements.{Contains-push_cases, Contains-push, Contains-append_left, Contains-get_or}
use Rattle.std.proofs.lemmas.List.Quantifiers.{all_pairs_push}
use Rattle.ent_semantics.specs.Component.{IsComponent}
use Rattle.ent_semantics.specs.Pool.{Posted, first_tx}
use Rattle.ent_match.specs.declared.link.Link.{Link}
use Rattle.ent_match.specs.Components.{AreComponents, AreFirstPlaces, AreLinkedBy, AscendByFirst, FirstIs, begins_at}
use Rattle.ent_match.specs.Components.{component_at, flipped}
use Rattle.ent_match.specs.Fault.{IsByNumber}
use Rattle.ent_match.specs.Labels.{AreOwnLabels, AreShown, IsLevel, Lowers, label, shown}
use Rattle.ent_match.specs.Links.{Closed, IsMarked, PathIn}
use Rattle.ent_match.specs.Remainder.{At}
use Rattle.ent_match.proofs.Firsts.{first_is, leads_back, some_at}
use Rattle.ent_match.proofs.Joins.{at_marked, class_component}
use Rattle.ent_match.proofs.Numbered.{at_place}
use Rattle.ent_match.proofs.Rests.{marks_at}

-- ---- marks of a component

begins_is : (place : ℕ) (own : Option ℕ) → begins_at place own ≡ true → own ≡ Some place
begins_is place (Some first) is = ap (λ (n : ℕ). Some n) (eqb-true first place is)
begins_is place None is = absurd (true≢false (sym is))

module _ (firsts : List (Option ℕ)) (place last : ℕ) where
  pub marked_is : IsMarked (map (begins_at place) firsts) last → FirstIs firsts last place
  marked_is marked = begins_is place (get_or firsts last None) (sym (marks_at firsts place last) ∙ marked)

  pub is_marked : FirstIs firsts last place → IsMarked (map (begins_at place) firsts) last
  is_marked is = marks_at firsts place last ∙ (ap (begins_at place) is ∙ eq-eqb place place refl)

pub some_within : (firsts : List (Option ℕ)) (place first : ℕ) → FirstIs firsts place first → place < length firsts
some_within [] place first is = let e : None ≡ Some first = is in absurd cc
some_within (own ∷ firsts) zero first is = omega arith
some_within (own ∷ firsts) (suc place) first is = let below = some_within firsts place first is in omega arith

of_shown : (b : Bool) (own first : ℕ) → shown b own ≡ Some first → (b ≡ false) × (own ≡ first)
of_shown true own first is = let e : None ≡ Some first = is in absurd cc
of_shown false own first is = (refl, cc)

-- ---- the labels of statements that are joined

module _ (pool : List Posted) (joins : List Link) (removed : List Bool) (s : AreLinkedBy pool joins removed)
    (own labels : List ℕ) (are : AreOwnLabels (length pool) own) (lowers : Lowers joins own labels)
    (level : IsLevel joins labels) where
  reached : (place : ℕ) → place < length pool
      → (n : ℕ) × PathIn joins n (label labels place) place × (label labels place < length pool)
  reached place within =
      let room = are.room in
      let r = lowers.reached place (omega arith) in
      let below : r.first < length pool = (let w = r.within in omega arith) in
      let first : label labels place ≡ r.first = r.label_is ∙ are.own r.first below in (
        r.steps,
        subst (λ k. PathIn joins r.steps k place) (sym first) r.path,
        subst (λ k. k < length pool) (sym first) below,
      )

  no_greater : (place : ℕ) → place < length pool → label labels place ≤ place
  no_greater place within = let most = lowers.below place in let is = are.own place within in omega arith

  same_label : (join : Link) → Contains joins join → label labels join.from ≡ label labels join.to
  same_label join inside =
      let one = level join inside in
      let other = level (flipped join) (leads_back pool joins removed s join inside) in
      omega arith

  same_along : (n first last : ℕ) → PathIn joins n first last → label labels first ≡ label labels last
  same_along zero first last same = ap (label labels) same
  same_along (suc n) first last (join, inside, to, path) =
      same_along n first join.from path ∙ (same_label join inside ∙ ap (label labels) to)

  both_remain : (join : Link) → Contains joins join
      → (get_or removed join.from false ≡ false) × (get_or removed join.to false ≡ false)
  both_remain join inside =
      let w = s.within join inside in
      let a = some_at pool join.from w.0 in
      let b = some_at pool join.to w.1 in
      let j = s.joined join a.0 b.0 inside a.1 b.1 in
      (j.1, j.2)

  remains_before : (n first last : ℕ) → PathIn joins n first last → get_or removed last false ≡ false
      → get_or removed first false ≡ false
  remains_before zero first last same remains = subst (λ k. get_or removed k false ≡ false) (sym same) remains
  remains_before (suc n) first last (join, inside, to, path) remains =
      remains_before n first join.from path (both_remain join inside).0

  module _ (firsts : List (Option ℕ)) (are_shown : AreShown labels removed firsts) where
    room : length firsts ≡ length pool
    room = are_shown.room ∙ (lowers.room ∙ are.room)

    within_pool : (place first : ℕ) → FirstIs firsts place first → place < length pool
    within_pool place first is = let below = some_within firsts place first is in omega (arith, room)

    labelled : (place : ℕ) → place < length pool → place < length labels
    labelled place within = let one = lowers.room in let other = are.room in omega arith

    opened : (place first : ℕ) → FirstIs firsts place first
        → (get_or removed place false ≡ false) × (label labels place ≡ first)
    opened place first is =
        of_shown (get_or removed place false) (label labels place) first
        (sym (are_shown.each place (labelled place (within_pool place first is))) ∙ is)

    is_shown : (place : ℕ) → place < length pool → get_or removed place false ≡ false
        → FirstIs firsts place (label labels place)
    is_shown place within remains =
        are_shown.each place (labelled place within) ∙ ap (λ b. shown b (label labels place)) remains

    first_of : (place first : ℕ) → FirstIs firsts place first → (first ≤ place) × FirstIs firsts first first
    first_of place first is =
        let within = within_pool place first is in
        let o = opened place first is in
        let r = reached place within in
        let remains = remains_before r.0 (label labels place) place r.1 o.0 in
        let itself : label labels (label labels place) ≡ first =
        same_along r.0 (label labels place) place r.1 ∙ o.1 in (
          subst (λ k. k ≤ place) o.1 (no_greater place within),
          subst (λ k. FirstIs firsts k first) o.1
              (subst (FirstIs firsts (label labels place)) itself (is_shown (label labels place) r.2 remains)),
        )

    module _ (place : ℕ) (is : FirstIs firsts place place) where
      leads : (last : ℕ) → IsMarked (map (begins_at place) firsts) last → (n : ℕ) × PathIn joins n place last
      leads last marked =
          let own_is = marked_is firsts place last marked in
          let r = reached last (within_pool last place own_is) in
          (r.0, subst (λ k. PathIn joins r.0 k last) (opened last place own_is).1 r.1)

      closed : Closed joins (map (begins_at place) firsts)
      closed join inside marked =
          let own_is = opened join.from place (marked_is firsts place join.from marked) in
          let w = s.within join inside in
          is_marked firsts place join.to
          (subst (FirstIs firsts join.to) (sym (same_label join inside) ∙ own_is.1)
          (is_shown join.to w.1 (both_remain join inside).1))

      component : IsComponent pool (component_at firsts place pool)
      component =
          let a = some_at pool place (within_pool place place is) in
          class_component pool joins removed s place a.0 (map (begins_at place) firsts) a.1 (opened place place is).0
          (is_marked firsts place place is) leads closed

      begins : (member : Posted) → At pool place member → first_tx (component_at firsts place pool) ≡ member.tx
      begins member at =
          first_is (map (begins_at place) firsts) pool place member at (is_marked firsts place place is)
          (λ last marked. (first_of last place (marked_is firsts place last marked)).0)

    pub are_first_places : AreFirstPlaces pool firsts
    are_first_places =
        record {
          room = room;
          first = first_of;
          exact = component;
          begins = λ place member is at. begins place is member at;
          covers = λ place member at remains.
              let here : get_or removed place false ≡ false = elim (cases_Bool (get_or removed place false)) [
                | inl gone ↦ absurd (s.gone place member at gone remains)
                | inr here ↦ here
              ] in
              let own = label labels place in
              let is = is_shown place at.0 here in
              (own, is, at_marked (map (begins_at own) firsts) pool member place at (is_marked firsts own place is));
        }

-- ---- the list of components

-- what is listed of the components that begin at the places so far
pub record AreListed (pool : List Posted) (firsts : List (Option ℕ)) (n : ℕ) (lists : List (List Posted)) : Type 0 where
  pub exact : (list : List Posted) → Contains lists list
      → (place : ℕ) × (place < n) × FirstIs firsts place place × (list ≡ component_at firsts place pool)
  pub there : (place : ℕ) → place < n → FirstIs firsts place place → Contains lists (component_at firsts place pool)
  pub ascending : AscendByFirst lists

pub none_listed : (pool : List Posted) (firsts : List (Option ℕ)) → AreListed pool firsts 0 []
none_listed pool firsts =
    record {
      exact = λ list (k, below, is). absurd (omega arith);
      there = λ place less. absurd (omega arith);
      ascending = λ i j d less below. absurd (omega arith);
    }

pub listed_same : (pool : List Posted) (firsts : List (Option ℕ)) (n : ℕ) (lists : List (List Posted))
    → begins_at n (get_or firsts n None) ≡ false → AreListed pool firsts n lists → AreListed pool firsts (n + 1) lists
listed_same pool firsts n lists passed are =
    record {
      exact = λ list inside. let r = are.exact list inside in (r.0, (let less = r.1 in omega arith), r.2, r.3);
      there = λ place less is. elim (cases_lt place n) [
        | inl before ↦ are.there place before is
        | inr not_before ↦
            let here : place ≡ n = omega arith in
            let is_n = subst (λ k. FirstIs firsts k k) here is in
            absurd (true≢false (sym (ap (begins_at n) is_n ∙ eq-eqb n n refl) ∙ passed))
      ];
      ascending = are.ascending;
    }

module _ (pool : List Posted) (firsts : List (Option ℕ)) (ordered : IsByNumber pool) (s : AreFirstPlaces pool firsts)
  where
    pub begins_within : (place first : ℕ) → FirstIs firsts place first → place < length pool
    begins_within place first is =
        let below = some_within firsts place first is in let same = s.room in omega arith

    module _ (n : ℕ) (lists fresh : List (List Posted)) (begins : begins_at n (get_or firsts n None) ≡ true)
        (pushed : fresh ≡ lists ++ component_at firsts n pool ∷ []) (are : AreListed pool firsts n lists) where
      here : FirstIs firsts n n
      here = begins_is n (get_or firsts n None) begins

      begins_before : (list : List Posted) → Contains lists list → first_tx list < first_tx (component_at firsts n pool)
      begins_before list inside =
          let r = are.exact list inside in
          let one = some_at pool r.0 (begins_within r.0 r.0 r.2) in
          let other = some_at pool n (begins_within n n here) in
          let at : At pool r.0 one.0 = one.1 in
          let at_n : At pool n other.0 = other.1 in
          let less : (get_or pool r.0 other.0).tx < (get_or pool n other.0).tx = ordered r.0 n other.0 r.1 at_n.0 in
          let first : get_or pool r.0 other.0 ≡ one.0 = at_place pool one.0 r.0 other.0 at.0 at.1 in
          let below : one.0.tx < other.0.tx =
          subst (λ (z : Posted). one.0.tx < z.tx) at_n.1
          (subst (λ (z : Posted). z.tx < (get_or pool n other.0).tx) first less) in
          let e : first_tx list ≡ one.0.tx = ap first_tx r.3 ∙ s.begins r.0 one.0 r.2 at in
          let f : first_tx (component_at firsts n pool) ≡ other.0.tx = s.begins n other.0 here at_n in
          omega arith

      pub listed_more : AreListed pool firsts (n + 1) fresh
      listed_more =
          record {
            exact = λ list inside.
                elim (Contains-push_cases lists (component_at firsts n pool) list
                (subst (λ xs. Contains xs list) pushed inside)) [
                  | inl old ↦ (let r = are.exact list old in (r.0, (let less = r.1 in omega arith), r.2, r.3))
                  | inr last ↦ (n, omega arith, here, sym last)
                ];
            there = λ place less is. elim (cases_lt place n) [
              | inl before ↦ subst (λ xs. Contains {X = List Posted} xs (component_at firsts place pool)) (sym pushed)
                  (Contains-append_left lists (component_at firsts n pool ∷ []) (component_at firsts place pool)
                  (are.there place before is))
              | inr not_before ↦
                  let same : n ≡ place = omega arith in
                  subst (λ k. Contains {X = List Posted} fresh (component_at firsts k pool)) same
                  (subst (λ xs. Contains {X = List Posted} xs (component_at firsts n pool)) (sym pushed)
                  (Contains-push lists (component_at firsts n pool)))
            ];
            ascending = subst AscendByFirst (sym pushed)
                (all_pairs_push (λ (one other : List Posted). first_tx one < first_tx other) lists
                (component_at firsts n pool) are.ascending
                (λ k d below. begins_before (get_or lists k d) (Contains-get_or lists k d below)));
          }

    pub all_listed : (n : ℕ) (lists : List (List Posted)) → length pool ≤ n → AreListed pool firsts n lists
        → AreComponents pool lists
    all_listed n lists all are =
        record {
          exact = λ list inside.
              let r = are.exact list inside in subst (IsComponent pool) (sym r.3) (s.exact r.0 r.2);
          covers = λ member remains.
              let inside = remains.is_in.0 in
              let at : At pool inside.0 member = (inside.1, inside.2) in
              let own = s.covers inside.0 member at remains in
              let first = (s.first inside.0 own.0 own.1).1 in (
                component_at firsts own.0 pool,
                are.there own.0 (let below = begins_within own.0 own.0 first in omega arith) first,
                own.2,
              );
        }
