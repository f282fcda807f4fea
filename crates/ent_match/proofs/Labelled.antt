-- Labels that go along joins.
use Rattle.std.proofs.Common.{◌≡◌, ◌≢◌, ℕ, suc, ◌+◌, ◌<◌, ◌≤◌, Bool, true, false, List, length, get_or, set, take}
use Rattle.std.proofs.Common.{refl, sym, ◌∙◌, subst, arith, inl, inr}
use Rattle.std.specs.Prelude.{Contains, MatchBool}
use Rattle.std.proofs.lemmas.List.{get_or-set_same, get_or-set_other, length-set, take_all}
use Rattle.std.proofs.lemmas.List.Sums.{sum_by-set}
use Rattle.ent_match.specs.declared.link.Link.{Link}
use Rattle.ent_match.specs.Components.{IsKept, flipped, joins_of}
use Rattle.ent_match.specs.Labels.{IsLevel, LevelsOne, Lowers, Stays, label, total}
use Rattle.ent_match.proofs.Joins.{are_joins}
use Rattle.ent_match.proofs.Marks.{front_cases, path-append, same_or_not}

pub lowers_none : (joins : List Link) (labels : List ℕ) → Lowers joins labels labels
lowers_none joins labels =
    record {
      room = refl;
      below = λ place. omega arith;
      reached = λ place within.
          record { first = place; within = within; steps = 0; path = refl; label_is = refl };
    }

-- a label goes along a join
module _ (joins : List Link) (old cur : List ℕ) (join : Link) (inside : Contains joins join)
    (lowers : Lowers joins old cur) (from : join.from < length cur) (to : join.to < length cur)
    (less : label cur join.from < label cur join.to) where
  abbrev new : List ℕ
  new = set cur join.to (label cur join.from)

  here : label new join.to ≡ label cur join.from
  here = get_or-set_same cur join.to (label cur join.from) 0 to

  elsewhere : (place : ℕ) → join.to ≢ place → label new place ≡ label cur place
  elsewhere place other = get_or-set_other cur join.to place (label cur join.from) 0 (λ e. other (sym e))

  pub label_goes : Lowers joins old (set cur join.to (label cur join.from))
  label_goes =
      record {
        room = length-set cur join.to (label cur join.from) ∙ lowers.room;
        below = λ place. elim (same_or_not join.to place) [
          | inl same ↦ subst (λ k. label new k ≤ label old k) same
              (let most = lowers.below join.to in omega (arith, here))
          | inr other ↦ (let most = lowers.below place in omega (arith, elsewhere place other))
        ];
        reached = λ place within. elim (same_or_not join.to place) [
          | inl same ↦
              let room = lowers.room in
              let r = lowers.reached join.from (omega arith) in
              record {
                first = r.first;
                within = r.within;
                steps = suc r.steps;
                path = (join, inside, same, r.path);
                label_is = subst (λ k. label new k ≡ label cur join.from) same here ∙ r.label_is;
              }
          | inr other ↦
              let r = lowers.reached place within in
              record {
                first = r.first;
                within = r.within;
                steps = r.steps;
                path = r.path;
                label_is = elsewhere place other ∙ r.label_is;
              }
        ];
      }

  pub total_less : total (set cur join.to (label cur join.from)) < total cur
  total_less =
      let sums = sum_by-set (λ (own : ℕ). own) cur join.to (label cur join.from) 0 to in omega arith

-- the label of one place of a link goes to the other
pub lowered : (links : List Link) (removed : List Bool) (old cur new : List ℕ) (link : Link) → Contains links link
    → Lowers (joins_of links removed) old cur → link.from < length cur → link.to < length cur
    → LevelsOne link removed cur new
    → Lowers (joins_of links removed) old new × (total new < total cur)
lowered links removed old cur more link inside lowers from to (remains, inl goes) =
    let joins = joins_of links removed in
    let there = (are_joins links removed).there link (inside, remains) in (
      subst (Lowers joins old) (sym goes.new_is) (label_goes joins old cur link there lowers from to goes.less),
      subst (λ xs. total xs < total cur) (sym goes.new_is)
          (total_less joins old cur link there lowers from to goes.less),
    )
lowered links removed old cur more link inside lowers from to (remains, inr goes) =
    let joins = joins_of links removed in
    let there = (are_joins links removed).back link (inside, remains) in (
      subst (Lowers joins old) (sym goes.new_is)
          (label_goes joins old cur (flipped link) there lowers to from goes.less),
      subst (λ xs. total xs < total cur) (sym goes.new_is)
          (total_less joins old cur (flipped link) there lowers to from goes.less),
    )

-- what is found out in a round: nothing yet, or a lesser label
abbrev pub LevelSoFar : List Link → List Bool → List ℕ → List ℕ → Bool → Type 0
LevelSoFar front removed old cur true = total cur < total old
LevelSoFar front removed old cur false =
    (cur ≡ old) × ((link : Link) → IsKept front removed link → label old link.from ≡ label old link.to)

-- a link along which no label goes
pub level_more : (links : List Link) (removed : List Bool) (n : ℕ) (o : Link) (old cur new : List ℕ) (b : Bool)
    → n < length links → o ≡ get_or links n o → LevelSoFar (take n links) removed old cur b
    → Stays o removed cur new → LevelSoFar (take (n + 1) links) removed old new b
level_more links removed n o old cur more true below is so_far stays =
    subst (λ xs. total xs < total old) (sym stays.0) so_far
level_more links removed n o old cur more false below is (same, before) stays = (
  stays.0 ∙ same,
  λ link (inside, remains). elim (front_cases links n o link below is inside) [
    | inl front ↦ before link (front, remains)
    | inr last ↦
        subst (λ (l : Link). get_or removed l.to false ≡ false → label old l.from ≡ label old l.to) last
        (subst (λ xs. get_or removed o.to false ≡ false → label xs o.from ≡ label xs o.to) same stays.1) remains
  ],
)

-- a link along which a label goes
pub less_more : (front more : List Link) (removed : List Bool) (old cur new : List ℕ) (b : Bool)
    → LevelSoFar front removed old cur b → total new < total cur → LevelSoFar more removed old new true
less_more front more removed old cur new true so_far less = omega arith
less_more front more removed old cur new false (same, level) less =
    subst (λ xs. total new < total xs) same less

pub level_ended : (links : List Link) (removed : List Bool) (n : ℕ) (old cur : List ℕ) (b : Bool) → length links ≤ n
    → LevelSoFar (take n links) removed old cur b
    → MatchBool b (total cur < total old) (IsLevel (joins_of links removed) cur)
level_ended links removed n old cur true all less = less
level_ended links removed n old cur false all (same, level) =
    subst (IsLevel (joins_of links removed)) (sym same)
    (λ join inside. elim ((are_joins links removed).sound join inside) [
      | inl kept ↦
          let one : label old join.from ≡ label old join.to = level join (in_front join kept) in omega arith
      | inr kept ↦
          let one : label old join.to ≡ label old join.from = level (flipped join) (in_front (flipped join) kept) in
          omega arith
    ])
  where
    in_front : (link : Link) → IsKept links removed link → IsKept (take n links) removed link
    in_front link (inside, remains) = (subst (λ xs. Contains xs link) (sym (take_all n links all)) inside, remains)

-- round after round
pub lowers_more : (joins : List Link) (old mid new : List ℕ) → Lowers joins old mid → Lowers joins mid new
    → Lowers joins old new
lowers_more joins old mid new one other =
    record {
      room = other.room ∙ one.room;
      below = λ place. let a = one.below place in let b = other.below place in omega arith;
      reached = λ place within.
          let room = one.room in
          let late = other.reached place (omega arith) in
          let early = one.reached late.first (let w = late.within in omega arith) in
          let path = path-append joins early.steps late.steps early.first late.first place early.path late.path in
          record {
            first = early.first;
            within = early.within;
            steps = path.0;
            path = path.1;
            label_is = late.label_is ∙ early.label_is;
          };
    }
