-- What posting and taking out leave, one pattern after the other.
use Rattle.std.proofs.Common.{◌≡◌, ◌≤◌, ◌<◌, ℕ, zero, suc, Bool, true, false, ◌||◌, ◌&&◌, not, cond, ◌==◌, List, length}
use Rattle.std.proofs.Common.{◌+◌}
use Rattle.std.proofs.Common.{take, drop, get_or, refl, sym, ap, ◌∙◌, ⊎_elim, arith, add-one, subst}
use Rattle.std.specs.BTreeSet.{IsUnchanged, Updates}
use Rattle.std.specs.BTreeMap.{is_at}
use Rattle.std.specs.List.{list_any}
use Rattle.std.specs.Ordering.{is_eq, nat_cmp}
use Rattle.std.proofs.lemmas.Bool.{cases_eq, or_left, or_right}
use Rattle.std.proofs.lemmas.List.{take-append-drop}
use Rattle.std.proofs.lemmas.List.Folds.{list_any-append, list_any_at}
use Rattle.ent_lists.proofs.Numbers.{cmp_equal}
use Rattle.ent_lists.proofs.Orders.{is_eq-then}
use Rattle.ent_meetings.specs.declared.pattern.Pattern.{Pattern}
use Rattle.ent_meetings.specs.Keys.{has_key, has_key_below, have_key, key_at}
use Rattle.ent_meetings.specs.Postings.{Posts, PostsSome, Unposts, entry_cmp, has, is_among, Postings}
use Rattle.ent_meetings.proofs.EntryOrder.{at}

same_entry : (key ticket k t : ℕ) → is_at (entry_cmp (at key ticket)) (at k t) ≡ ((key == k) && (ticket == t))
same_entry key ticket k t =
    is_eq-then (nat_cmp key k) (nat_cmp ticket t)
    ∙ ap (λ (b : Bool). b && is_eq (nat_cmp ticket t)) (cmp_equal key k)
    ∙ ap (λ (b : Bool). (key == k) && b) (cmp_equal ticket t)

one_more : (x y old b : Bool) → cond (x && y) true (old || (y && b)) ≡ (old || (y && (x || b)))
one_more true true true b = refl
one_more true true false b = refl
one_more true false true b = refl
one_more true false false b = refl
one_more false y old b = refl

one_less : (x y old b : Bool) → cond (x && y) false (old && not (y && b)) ≡ (old && not (y && (x || b)))
one_less true true true b = refl
one_less true true false b = refl
one_less true false true b = refl
one_less true false false b = refl
one_less false y old b = refl

widened : (t old p q : Bool) → (p ≡ true → q ≡ true) → (old || (t && p)) ≡ true → (old || (t && q)) ≡ true
widened t true p q among is = refl
widened true false p q among is = among is
widened false false p q among is = is

merged : (t old p r q : Bool) → (p ≡ true → q ≡ true) → (r ≡ true → q ≡ true)
    → ((old || (t && p)) || (t && r)) ≡ true → (old || (t && q)) ≡ true
merged t true p r q among also is = refl
merged true false true r q among also is = among refl
merged true false false r q among also is = also is
merged false false p r q among also is = is

module _ (ticket : ℕ) (old mid new : Postings) (p q : ℕ → Bool) where
  -- under some of the keys
  pub posts_some : ((key : ℕ) → p key ≡ true → q key ≡ true) → Posts ticket p old mid → PostsSome ticket q old mid
  posts_some among posts = record {
    kept = λ key t there. posts key t ∙ or_left (has old key t) (is_among ticket p key t) there;
    added = λ key t there.
        widened (ticket == t) (has old key t) (p key) (q key) (among key) (sym (posts key t) ∙ there);
  }

  -- all of the first keys, and some of the others
  pub posts_then_some : ((key : ℕ) → p key ≡ true → q key ≡ true) → (r : ℕ → Bool)
      → ((key : ℕ) → r key ≡ true → q key ≡ true)
      → Posts ticket p old mid → PostsSome ticket r mid new → PostsSome ticket q old new
  posts_then_some among r also posts some = record {
    kept = λ key t there. some.kept key t (posts key t ∙ or_left (has old key t) (is_among ticket p key t) there);
    added = λ key t there.
        merged (ticket == t) (has old key t) (p key) (r key) (q key) (among key) (also key)
        (subst (λ (b : Bool). (b || is_among ticket r key t) ≡ true) (posts key t) (some.added key t there));
  }

-- the places of a pattern, one after the other
module _ (pattern : Pattern) where
  pub below_more : (place more key : ℕ) → place ≤ more → has_key_below pattern place key ≡ true
      → has_key_below pattern more key ≡ true
  below_more place zero key low is =
      let none : place ≡ 0 = omega arith in subst (λ (n : ℕ). has_key_below pattern n key ≡ true) none is
  below_more place (suc more) key low is =
      ⊎_elim (λ same. subst (λ (n : ℕ). has_key_below pattern n key ≡ true) same is)
      (λ apart.
      or_right (key_at pattern more == key) (has_key_below pattern more key)
      (below_more place more key (omega (arith, apart)) is))
      (cases_eq place (suc more))

  module _ (ticket : ℕ) (old mid new : Postings) (place : ℕ) where
    pub posts_place : Posts ticket (has_key_below pattern place) old mid
        → Updates entry_cmp mid new (at (key_at pattern place) ticket) true
        → Posts ticket (has_key_below pattern (place + 1)) old new
    posts_place before update key other =
        rw add-one
        (update.0 (at key other)
        ∙ ap (λ (b : Bool). cond b true (has mid key other)) (same_entry (key_at pattern place) ticket key other)
        ∙ ap (λ (b : Bool). cond ((key_at pattern place == key) && (ticket == other)) true b) (before key other)
        ∙ one_more (key_at pattern place == key) (ticket == other) (has old key other)
        (has_key_below pattern place key))

    pub unposts_place : Unposts ticket (has_key_below pattern place) old mid
        → Updates entry_cmp mid new (at (key_at pattern place) ticket) false
        → Unposts ticket (has_key_below pattern (place + 1)) old new
    unposts_place before update key other =
        rw add-one
        (update.0 (at key other)
        ∙ ap (λ (b : Bool). cond b false (has mid key other)) (same_entry (key_at pattern place) ticket key other)
        ∙ ap (λ (b : Bool). cond ((key_at pattern place == key) && (ticket == other)) false b) (before key other)
        ∙ one_less (key_at pattern place == key) (ticket == other) (has old key other)
        (has_key_below pattern place key))

    last : place ≡ length pattern.terms → (key : ℕ) → has_key_below pattern (place + 1) key ≡ has_key key pattern
    last is key = ap (λ (n : ℕ). has_key_below pattern n key) (add-one place ∙ ap suc is)

    pub posts_last : place ≡ length pattern.terms → Posts ticket (has_key_below pattern place) old mid
        → Updates entry_cmp mid new (at (key_at pattern place) ticket) true
        → Posts ticket (λ key. has_key key pattern) old new
    posts_last is before update key other =
        posts_place before update key other ∙ ap (λ (b : Bool). has old key other || ((ticket == other) && b))
        (last is key)

    pub unposts_last : place ≡ length pattern.terms → Unposts ticket (has_key_below pattern place) old mid
        → Updates entry_cmp mid new (at (key_at pattern place) ticket) false
        → Unposts ticket (λ key. has_key key pattern) old new
    unposts_last is before update key other =
        unposts_place before update key other
        ∙ ap (λ (b : Bool). has old key other && not ((ticket == other) && b)) (last is key)

    pub posts_unchanged : place ≤ length pattern.terms → Posts ticket (has_key_below pattern place) old mid
        → IsUnchanged mid new → PostsSome ticket (λ key. has_key key pattern) old new
    posts_unchanged within before same =
        posts_some ticket old new old (has_key_below pattern place) (λ key. has_key key pattern)
        (λ key. below_more place (suc (length pattern.terms)) key (omega arith))
        (λ key other. ap (list_any (is_at (entry_cmp (at key other)))) same ∙ before key other)

-- a test that one of the first passes is passed by one of all
any_of_front : {X : Type 0} (p : X → Bool) (xs : List X) (i : ℕ) → list_any p (take i xs) ≡ true → list_any p xs ≡ true
any_of_front p xs i is =
    ap (list_any p) (sym (take-append-drop i xs)) ∙ list_any-append p (take i xs) (drop i xs)
    ∙ or_left (list_any p (take i xs)) (list_any p (drop i xs)) is

-- where memory runs out at a pattern
pub posts_up_to : (ticket : ℕ) (patterns : List Pattern) (old mid new : Postings) (index : ℕ) (pattern : Pattern)
    → index < length patterns → pattern ≡ get_or patterns index pattern
    → Posts ticket (have_key (take index patterns)) old mid → PostsSome ticket (λ key. has_key key pattern) mid new
    → PostsSome ticket (have_key patterns) old new
posts_up_to ticket patterns old mid new index pattern low is before some =
    posts_then_some ticket old mid new (have_key (take index patterns)) (have_key patterns)
    (λ key. any_of_front (has_key key) patterns index) (λ key. has_key key pattern)
    (λ key here. list_any_at (has_key key) patterns index pattern low (ap (has_key key) (sym is) ∙ here)) before some
