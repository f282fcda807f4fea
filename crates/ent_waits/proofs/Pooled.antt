-- What events do to the pool.
use Rattle.std.proofs.Common.{◌≡◌, ◌⊎◌, inl, inr, ℕ, suc, ◌≤◌, ◌<◌, Bool, true, false, cond, not, ◌==◌, ◌||◌, List, []}
use Rattle.std.proofs.Common.{◌∷◌}
use Rattle.std.proofs.Common.{◌++◌, map, length, refl, sym, ap, subst, ◌∙◌, arith, rules, Option, flat_map, slice_get}
use Rattle.std.proofs.Common.{zero, AllPairs, Contains}
use Rattle.std.specs.List.{AllByRecursion, filter, list_any}
use Rattle.ent_protocol_laws.proofs.ByNumber.{pool_ascends, posted_tx}
use Rattle.ent_value.specs.declared.value.Value.{Value}
use Rattle.ent_tree.specs.declared.script.Script.{Script}
use Rattle.ent_semantics.specs.Entangled.{Valuation}
use Rattle.ent_semantics.specs.Serial.{numbered}
use Rattle.ent_semantics.specs.declared.entangled.Entangled.{Entangled}
use Rattle.ent_semantics.specs.declared.operand.Known.{Known}
use Rattle.ent_semantics.specs.declared.statement.Statement.{Statement}
use Rattle.ent_semantics.specs.Pool.{Posted}
use Rattle.ent_lists.specs.Elements.{In, Pairs, clash, of_all, of_map, to_map}
use Rattle.ent_lists.specs.Elements.{contains_in, filter_empty, filter_joined, filter_same, filter_whole, in_contains}
use Rattle.ent_lists.specs.Elements.{index_pairs, same_number, number_itself, pairs_mapped}
use Rattle.ent_protocol.specs.Begin.{holding, posting, replaced, with_member}
use Rattle.ent_protocol.specs.Member.{Asks, Commits, Next, Ordinary, RollsBack, is_tx, next_in, next_of, pool}
use Rattle.ent_protocol.specs.Member.{posted_by, posted_as}
use Rattle.ent_protocol.specs.PoolEvents.{answered_among, answered_by, answered_groups, in_joined_group, joining}
use Rattle.ent_protocol.specs.PostedBy.{IsPostedBy, in_pool, is_posted_by, next_same, posted_next, to_pool}
use Rattle.ent_protocol.specs.Run.{submitting}
use Rattle.ent_protocol.specs.State.{State, Submitted, Member, members}
use Rattle.ent_protocol.specs.Uses.{entangled_uses}
use Rattle.ent_match.specs.Posting.{Adds}
use Rattle.ent_protocol_laws.specs.Numbered.{below_apart, one_of, same_lists}
use Rattle.ent_waits.specs.Pooled.{is_of_none}

-- ---- lists of lists

module _ {X Y Z : Type 0} where
  flat_mapped : (f : Y → List Z) (h : X → Y) (g : X → List Z) (q : Z → Bool) (xs : List X)
      → ((x : X) → In x xs → f (h x) ≡ filter q (g x)) → flat_map f (map h xs) ≡ filter q (flat_map g xs)
  flat_mapped f h g q [] same = refl
  flat_mapped f h g q (x ∷ xs) same =
      (λ i. same x (inl refl) i ++ flat_mapped f h g q xs (λ y at. same y (inr at)) i)
      ∙ sym (filter_joined q (g x) (flat_map g xs))

module _ {X Z : Type 0} where
  flat_filtered : (f : X → List Z) (p : X → Bool) (q : Z → Bool) (xs : List X)
      → ((x : X) (z : Z) → In x xs → In z (f x) → q z ≡ p x) → flat_map f (filter p xs) ≡ filter q (flat_map f xs)
  flat_filtered f p q [] same = refl
  flat_filtered f p q (x ∷ xs) same =
      by (p x) refl (flat_filtered f p q xs (λ y z at. same y z (inr at)))
      ∙ sym (filter_joined q (f x) (flat_map f xs))
    where
      by : (b : Bool) → p x ≡ b → flat_map f (filter p xs) ≡ filter q (flat_map f xs)
          → flat_map f (cond b (x ∷ filter p xs) (filter p xs)) ≡ filter q (f x) ++ filter q (flat_map f xs)
      by true is rest =
          λ i. sym (filter_whole q (f x) (λ z at. same x z (inl refl) at ∙ is)) i ++ rest i
      by false is rest =
          rest ∙ (λ i. sym (filter_empty q (f x) (λ z at. same x z (inl refl) at ∙ is)) i ++ filter q (flat_map f xs))

  flat_same : (f g : X → List Z) (xs : List X) → ((x : X) → In x xs → f x ≡ g x) → flat_map f xs ≡ flat_map g xs
  flat_same f g [] same = refl
  flat_same f g (x ∷ xs) same = λ i. same x (inl refl) i ++ flat_same f g xs (λ y at. same y (inr at)) i

-- ---- what a member has posted

-- nothing, where its next statement isn't in the pool
pub none_posted : (s : State) (m : Member) → m.posted ≡ false → posted_by s m ≡ []
none_posted s m off = by (posted_by s m) (λ query at. clash m.posted (is_posted_by s m query at).posted off)
  where
    by : (xs : List Posted) → ((query : Posted) → In query xs → ⊥) → xs ≡ []
    by [] none = refl
    by (x ∷ xs) none = absurd (none x (inl refl))

abbrev asked_as : Bool → ℕ → ℕ → ℕ → Next → List Posted
asked_as true tx attempt place (Asks statement) =
    record { tx = tx; attempt = attempt; place = place; statement = statement } ∷ []
asked_as posted tx attempt place next = []

posted_is : (s : State) (m : Member) → posted_by s m ≡ asked_as m.posted m.tx m.attempt m.place (next_of s m)
posted_is s m = by m.posted refl (next_of s m) refl
  where
    by : (b : Bool) → m.posted ≡ b → (n : Next) → next_of s m ≡ n
        → posted_by s m ≡ asked_as m.posted m.tx m.attempt m.place (next_of s m)
    by true posted (Asks statement) next = rw (posted, posted_next s m posted ∙ next) refl
    by true posted (Ordinary statement) next = rw (posted, posted_next s m posted ∙ next) refl
    by true posted Commits next = rw (posted, posted_next s m posted ∙ next) refl
    by true posted RollsBack next = rw (posted, posted_next s m posted ∙ next) refl
    by false posted n next = rw posted refl

-- the same, where number, attempt, place and what is bound are the same
as_posted : (s : State) (one other : Member) → one.tx ≡ other.tx → one.attempt ≡ other.attempt
    → one.place ≡ other.place → one.bound ≡ other.bound → one.posted ≡ other.posted
    → posted_by s one ≡ posted_by s other
as_posted s one other tx attempt place bound posted =
    posted_is s one
    ∙ (λ i. asked_as (posted i) (tx i) (attempt i) (place i) (next i))
    ∙ sym (posted_is s other)
  where
    next : next_of s one ≡ next_of s other
    next =
        (λ i. next_in (numbered s.submitted (tx i)) one) ∙ next_same (numbered s.submitted other.tx) one other place
        bound

-- states with the same scripts and the same members have one pool
pub pool_same : (s t : State) → s.submitted ≡ t.submitted → s.active ≡ t.active → pool s ≡ pool t
pool_same s t submitted active =
    flat_same (posted_by s) (posted_by t) s.active (λ m at.
    posted_is s m
    ∙ (λ i. asked_as m.posted m.tx m.attempt m.place (next_in (numbered (submitted i) m.tx) m))
    ∙ sym (posted_is t m))
    ∙ ap (λ (ms : List Member). flat_map (posted_by t) ms) active

-- ---- members are replaced, leave, and are answered

-- what becomes of members keeps what they posted
pub pool_mapped : (s : State) (become : Member → Member)
    → ((m : Member) → In m s.active → posted_by s (become m) ≡ posted_by s m)
    → pool (record s { active = map become s.active }) ≡ pool s
pool_mapped s become same =
    flat_mapped (posted_by s) become (posted_by s) (λ query. true) s.active
    (λ m at. same m at ∙ sym (filter_whole (λ query. true) (posted_by s m) (λ query there. refl)))
    ∙ filter_whole (λ query. true) (pool s) (λ query there. refl)

-- a member takes the place of those of its number, and neither it nor they have posted
pub replaced_unposted : (s : State) (new : Member) → new.posted ≡ false
    → ((m : Member) → In m s.active → m.tx ≡ new.tx → m.posted ≡ false) → pool (with_member new s) ≡ pool s
replaced_unposted s new off idle = pool_mapped s (replaced new) (λ m at. by m at (m.tx == new.tx) refl)
  where
    by : (m : Member) → In m s.active → (b : Bool) → (m.tx == new.tx) ≡ b
        → posted_by s (cond b new m) ≡ posted_by s m
    by m at true is = none_posted s new off ∙ sym (none_posted s m (idle m at (same_number m.tx new.tx is)))
    by m at false is = refl

-- those of some numbers leave
pub pool_without : (s : State) (leaves : ℕ → Bool)
    → pool (record s { active = filter (λ m. not (leaves m.tx)) s.active })
    ≡ filter (λ query. not (leaves query.tx)) (pool s)
pool_without s leaves =
    flat_filtered (posted_by s) (λ m. not (leaves m.tx)) (λ query. not (leaves query.tx)) s.active
    (λ m query at there. ap (λ (x : Posted). not (leaves x.tx)) (is_posted_by s m query there).is)

-- one that hasn't posted leaves
pub left_unposted : (s : State) (tx : ℕ) → ((m : Member) → In m s.active → m.tx ≡ tx → m.posted ≡ false)
    → pool (record s { active = filter (λ m. not (is_tx tx m)) s.active }) ≡ pool s
left_unposted s tx idle =
    pool_without s (λ n. n == tx)
    ∙ filter_whole (λ query. not (query.tx == tx)) (pool s) (λ query there. passes query there (query.tx == tx) refl)
  where
    passes : (query : Posted) → In query (pool s) → (b : Bool) → (query.tx == tx) ≡ b → not b ≡ true
    passes query there true is =
        let r = in_pool s query there in
        clash r.member.posted r.by.posted (idle r.member r.at (sym r.own ∙ same_number query.tx tx is))
    passes query there false is = refl

-- ---- members are answered together

module _ (s : State) (asked : List Posted) (groundings : List Valuation) (one_each : length groundings ≡ length asked)
  where
    abbrev groups : List ℕ
    groups = answered_groups s asked

    abbrev become : Member → Member
    become m = in_joined_group groups (answered_among asked groundings m)

    abbrev is_left : ℕ → Bool
    is_left tx = not (list_any (λ (query : Posted). query.tx == tx) asked)

    -- who is answered has posted no more, the others as before
    answered : (m : Member) (those : List Posted) (given : List Valuation) → length given ≡ length those
        → posted_by s (in_joined_group groups (answered_among those given m))
        ≡ cond (list_any (λ (query : Posted). query.tx == m.tx) those) [] (posted_by s m)
    answered m [] given e = as_posted s (in_joined_group groups m) m refl refl refl refl refl
    answered m (query ∷ those) [] e = absurd (omega (arith, e))
    answered m (query ∷ those) (values ∷ more) e =
        by (m.tx == query.tx) (query.tx == m.tx) (turned_number m.tx query.tx)
        (answered m those more (omega (arith, e)))
      where
        turned_number : (a b : ℕ) → (a == b) ≡ (b == a)
        turned_number a b = grind (arith, rules)

        by : (b c : Bool) → b ≡ c
            → posted_by s (in_joined_group groups (answered_among those more m))
            ≡ cond (list_any (λ (query : Posted). query.tx == m.tx) those) [] (posted_by s m)
            → posted_by s (in_joined_group groups (cond b (answered_by query values m) (answered_among those more m)))
            ≡ cond (c || list_any (λ (query : Posted). query.tx == m.tx) those) [] (posted_by s m)
        by true true same rest = none_posted s (in_joined_group groups (answered_by query values m)) refl
        by true false same rest = cc
        by false true same rest = cc
        by false false same rest = rest

    kept : (m : Member) → posted_by s (become m) ≡ filter (λ query. is_left query.tx) (posted_by s m)
    kept m =
        answered m asked groundings one_each
        ∙ by (list_any (λ (query : Posted). query.tx == m.tx) asked) refl
      where
        at : (query : Posted) → In query (posted_by s m) → is_left query.tx ≡ is_left m.tx
        at query there = ap (λ (x : Posted). is_left x.tx) (is_posted_by s m query there).is

        by : (b : Bool) → list_any (λ (query : Posted). query.tx == m.tx) asked ≡ b
            → cond b [] (posted_by s m) ≡ filter (λ query. is_left query.tx) (posted_by s m)
        by true is =
            sym (filter_empty (λ query. is_left query.tx) (posted_by s m)
            (λ query there. at query there ∙ ap (λ x. not x) is))
        by false is =
            sym (filter_whole (λ query. is_left query.tx) (posted_by s m)
            (λ query there. at query there ∙ ap (λ x. not x) is))

    pub joined : pool (joining s asked groundings) ≡ filter (λ query. is_left query.tx) (pool s)
    joined = flat_mapped (posted_by s) become (posted_by s) (λ query. is_left query.tx) s.active (λ m at. kept m)

-- ---- a script more

got_before : {X : Type 0} (xs : List X) (x : X) (n : ℕ) → n < length xs
    → slice_get (xs ++ x ∷ []) n ≡ slice_get xs n
got_before [] x n low = absurd (omega (arith, low))
got_before (y ∷ ys) x zero low = refl
got_before (y ∷ ys) x (suc n) low = got_before ys x n (omega (arith, low))

numbered_before : {X : Type 0} (xs : List X) (x : X) (n : ℕ) → n ≤ length xs
    → numbered (xs ++ x ∷ []) n ≡ numbered xs n
numbered_before xs x zero low = refl
numbered_before xs x (suc n) low = got_before xs x n (omega (arith, low))

pub submitted_more : (s : State) (script : Script) (form : List (Statement Known))
    → AllByRecursion (λ (m : Member). m.tx ≤ length s.submitted) s.active → pool (submitting s script form) ≡ pool s
submitted_more s script form within =
    flat_same (posted_by new) (posted_by s) s.active (λ m at.
    posted_is new m
    ∙ (λ i. asked_as m.posted m.tx m.attempt m.place
    (next m (of_all (λ (m : Member). m.tx ≤ length s.submitted) s.active m within at) i))
    ∙ sym (posted_is s m))
  where
    new : State
    new = submitting s script form

    next : (m : Member) → m.tx ≤ length s.submitted → next_of new m ≡ next_of s m
    next m low =
        ap (λ (own : Option Submitted). next_in own m)
        (numbered_before s.submitted (record { script = script; form = form }) m.tx low)

-- ---- a statement is posted

module _ (s : State) (m : Member) (statement : Entangled Value) (at : In m s.active) (off : m.posted ≡ false)
    (ascends : Pairs (λ (one other : Member). one.tx < other.tx) s.active) (next : next_of s m ≡ Asks statement) where
  abbrev new : State
  new = posting s m statement

  abbrev own : Member
  own = record (holding m (entangled_uses statement)) { posted = true }

  abbrev query : Posted
  query = posted_as m statement

  next_own : next_of s own ≡ Asks statement
  next_own = next_same (numbered s.submitted m.tx) own m refl refl ∙ next

  one_asked : (one other : Entangled Value) → Asks one ≡ Asks other → one ≡ other
  one_asked one other e = cc

  of_new : (x : Posted) → In x (pool new) → In x (pool s) ⊎ (x ≡ query)
  of_new x there =
      let r = in_pool new x there in
      let z = of_map (replaced own) s.active r.member r.at in
      by r.member r.by z.0 z.1 z.2 (z.0.tx == own.tx) refl
    where
      by : (n : Member) → IsPostedBy new n x → (z : Member) → In z s.active → n ≡ replaced own z → (b : Bool)
          → (z.tx == own.tx) ≡ b → In x (pool s) ⊎ (x ≡ query)
      by n posts z zt is true own_is =
          let same : n ≡ own = is ∙ ap (λ b. cond b own z) own_is in
          let asked : x.statement ≡ statement =
          one_asked x.statement statement (sym posts.next ∙ ap (next_of s) same ∙ next_own) in
          inr (posts.is ∙ (λ i. posted_as (same i) (asked i)))
      by n posts z zt is false own_is =
          let same : n ≡ z = is ∙ ap (λ b. cond b own z) own_is in
          inl (to_pool s x z zt (subst (λ (y : Member). IsPostedBy s y x) same (record {
            posted = posts.posted;
            next = posts.next;
            is = posts.is;
          })))

  to_new : (x : Posted) → In x (pool s) ⊎ (x ≡ query) → In x (pool new)
  to_new x (inl there) =
      let r = in_pool s x there in
      by r.member r.at r.by (r.member.tx == own.tx) refl
    where
      by : (n : Member) → In n s.active → IsPostedBy s n x → (b : Bool) → (n.tx == own.tx) ≡ b → In x (pool new)
      by n nt posts true own_is =
          let same = one_of (λ (y : Member). y.tx) s.active n m
          (below_apart (λ (y : Member). y.tx) s.active ascends) nt at (same_number n.tx m.tx own_is) in
          clash n.posted posts.posted (ap (λ (y : Member). y.posted) same ∙ off)
      by n nt posts false own_is =
          let same : n ≡ replaced own n = sym (ap (λ b. cond b own n) own_is) in
          to_pool new x n (subst (λ (y : Member). In y new.active) (sym same) (to_map (replaced own) s.active n nt))
          (record { posted = posts.posted; next = posts.next; is = posts.is })
  to_new x (inr is) =
      let here : own ≡ replaced own m = sym (ap (λ b. cond b own m) (number_itself m.tx)) in
      to_pool new x own (subst (λ (y : Member). In y new.active) (sym here) (to_map (replaced own) s.active m at))
      (record {
        posted = refl;
        next = next_own ∙ ap (λ (y : Posted). Asks y.statement) (sym is);
        is = is ∙ (λ i. posted_as own ((sym is i).statement));
      })

  pub posted_more : (posted : List Posted) → Pairs (λ (one other : Posted). one.tx < other.tx) posted
      → ((x : Posted) → In x posted → In x (pool s) ⊎ (x ≡ query))
      → ((x : Posted) → In x (pool s) ⊎ (x ≡ query) → In x posted) → pool new ≡ posted
  posted_more posted by_number of_posted to_posted =
      same_lists posted_tx (pool new) posted (pool_ascends new new.active new_ascends) by_number
      (λ x there. to_posted x (of_new x there)) (λ x there. to_new x (of_posted x there))
    where
      kept_tx : (x : Member) (b : Bool) → (x.tx == own.tx) ≡ b → (cond b own x).tx ≡ x.tx
      kept_tx x true is = sym (same_number x.tx own.tx is)
      kept_tx x false is = refl

      new_ascends : Pairs (λ (one other : Member). one.tx < other.tx) new.active
      new_ascends =
          pairs_mapped (replaced own) (λ (one other : Member). one.tx < other.tx)
          (λ (one other : Member). one.tx < other.tx) s.active ascends
          (λ x z low. subst (λ n. n < (replaced own z).tx) (sym (kept_tx x (x.tx == own.tx) refl))
          (subst (λ n. x.tx < n) (sym (kept_tx z (z.tx == own.tx) refl)) low))

-- ---- as the laws say it

any_mapped : (tx : ℕ) (asked : List Posted) → list_any (λ n. n == tx) (map (λ (query : Posted). query.tx) asked)
    ≡ list_any (λ (query : Posted). query.tx == tx) asked
any_mapped tx [] = refl
any_mapped tx (query ∷ asked) = ap (λ b. (query.tx == tx) || b) (any_mapped tx asked)

pub joined_without : (s : State) (asked : List Posted) (groundings : List Valuation) → length groundings ≡ length asked
    → pool (joining s asked groundings) ≡ filter (is_of_none (map (λ (query : Posted). query.tx) asked)) (pool s)
joined_without s asked groundings one_each =
    joined s asked groundings one_each
    ∙ filter_same _ (is_of_none (map (λ (query : Posted). query.tx) asked)) (pool s)
    (λ query there. ap (λ b. not b) (sym (any_mapped query.tx asked)))

pub posted_adds : (s : State) (m : Member) (statement : Entangled Value) (posted : List Posted)
    → AllPairs (λ (one other : Member). one.tx < other.tx) s.active → Contains s.active m → m.posted ≡ false
    → next_of s m ≡ Asks statement → Adds (pool s) posted (posted_as m statement)
    → AllPairs (λ (one other : Posted). one.tx < other.tx) posted → pool (posting s m statement) ≡ posted
posted_adds s m statement posted ascends at off next adds by_number =
    posted_more s m statement (contains_in s.active m at) off
    (index_pairs (λ (one other : Member). one.tx < other.tx) s.active ascends) next posted
    (index_pairs (λ (one other : Posted). one.tx < other.tx) posted by_number)
    (λ x there. elim ((adds x).0 (in_contains posted x there)) [
      | inl old ↦ inl (contains_in (pool s) x old)
      | inr own ↦ inr (sym own)
    ])
    (λ x there. contains_in posted x ((adds x).1 (turned_cases x there)))
  where
    turned_cases : (x : Posted) → In x (pool s) ⊎ (x ≡ posted_as m statement)
        → Contains (pool s) x ⊎ (posted_as m statement ≡ x)
    turned_cases x (inl old) = inl (in_contains (pool s) x old)
    turned_cases x (inr own) = inr (sym own)
