-- The pool that the store keeps is the pool of its members, whatever becomes of them.
use Rattle.std.proofs.Common.{◌≡◌, ℕ, ◌≤◌, ◌<◌, Bool, true, false, not, ◌==◌, List, [], ◌∷◌, ◌++◌, map}
use Rattle.std.proofs.Common.{length}
use Rattle.std.proofs.Common.{◌&&◌, ◌||◌, cond, arith, rules, refl, sym, ap, subst, ◌∙◌, Contains, AllPairs, flat_map}
use Rattle.std.specs.List.{AllByRecursion, filter, list_any}
use Rattle.std.specs.Prelude.{IsSome}
use Rattle.ent_value.specs.declared.value.Value.{Value}
use Rattle.ent_semantics.specs.Entangled.{Valuation}
use Rattle.ent_semantics.specs.Serial.{numbered}
use Rattle.ent_semantics.specs.declared.entangled.Entangled.{Entangled}
use Rattle.ent_semantics.specs.Pool.{Posted}
use Rattle.ent_lists.specs.Elements.{In, filter_whole, in_contains, of_map, to_all}
use Rattle.ent_match.specs.Posting.{Adds, is_of_other}
use Rattle.ent_run.specs.Answered.{IsJoining}
use Rattle.ent_run.specs.Moves.{Prepares, is_not_of}
use Rattle.ent_run.specs.Places.{Changes, found}
use Rattle.ent_run.specs.Run.{Run, with_run}
use Rattle.ent_protocol.specs.Begin.{holding, posting, replaced, with_member}
use Rattle.ent_protocol.specs.Member.{Asks, is_tx, next_in, posted_as, posted_by}
use Rattle.ent_protocol.specs.PoolEvents.{joining}
use Rattle.ent_protocol.specs.Run.{fresh, submitting}
use Rattle.ent_protocol.specs.State.{State, Submitted, Dormant, Member, by_number}
use Rattle.ent_protocol.specs.Uses.{entangled_uses}
use Rattle.ent_protocol_laws.specs.Numbered.{from_by_number}
use Rattle.ent_waits.specs.Pooled.{IsPoolOf, is_of_none}
use Rattle.ent_core.proofs.Begun.{is_there, member_found, number_found}
use Rattle.ent_waits.proofs.Pooled.{joined_without, left_unposted, none_posted, pool_same, pool_without}
use Rattle.ent_waits.proofs.Pooled.{posted_adds}
use Rattle.ent_waits.proofs.Pooled.{replaced_unposted, submitted_more}

-- ---- statements that leave one by one

left_by_both : (p q r : Posted → Bool) → ((x : Posted) → r x ≡ (q x && p x)) → (xs : List Posted)
    → filter p (filter q xs) ≡ filter r xs
left_by_both p q r same [] = refl
left_by_both p q r same (x ∷ xs) = by (q x) refl (left_by_both p q r same xs)
  where
    by : (b : Bool) → q x ≡ b → filter p (filter q xs) ≡ filter r xs
        → filter p (cond b (x ∷ filter q xs) (filter q xs)) ≡ cond (r x) (x ∷ filter r xs) (filter r xs)
    by true is rest =
        let both : r x ≡ p x = same x ∙ ap (λ b. b && p x) is in
        (λ i. cond (sym both i) (x ∷ rest i) (rest i))
    by false is rest =
        let neither : r x ≡ false = same x ∙ ap (λ b. b && p x) is in
        rest ∙ (λ i. cond (sym neither i) (x ∷ filter r xs) (filter r xs))

-- the statement of one and then those of others: the statements of all of them
pub withdrawn_one : (tx : ℕ) (numbers : List ℕ) (posted : List Posted)
    → filter (is_of_none numbers) (filter (is_of_other tx) posted) ≡ filter (is_of_none (tx ∷ numbers)) posted
withdrawn_one tx numbers posted =
    left_by_both (is_of_none numbers) (is_of_other tx) (is_of_none (tx ∷ numbers))
    (λ x. by (tx == x.tx) (x.tx == tx) (list_any (λ n. n == x.tx) numbers) (turned_round tx x.tx)) posted
  where
    turned_round : (a b : ℕ) → (a == b) ≡ (b == a)
    turned_round a b = grind (arith, rules)

    by : (first again others : Bool) → first ≡ again → not (first || others) ≡ (not again && not others)
    by true again others same = ap (λ b. not b && not others) same
    by false again others same = ap (λ b. not b && not others) same

pub withdrawn_none : (posted : List Posted) → posted ≡ filter (is_of_none []) posted
withdrawn_none posted = sym (filter_whole (is_of_none []) posted (λ x at. refl))

module _ (submitted : List Submitted) (active : List Member) (posted : List Posted)
    (old : IsPoolOf submitted active posted) where
  abbrev before : State → State
  before t = record t { submitted = submitted; active = active }

  -- a member takes the place of those of its number, and neither it nor they have posted
  pub kept_replaced : (new : Member) (active' : List Member) → active' ≡ map (replaced new) active
      → new.posted ≡ false → ((m : Member) → Contains active m → m.tx ≡ new.tx → m.posted ≡ false)
      → IsPoolOf submitted active' posted
  kept_replaced new active' are off idle t of_submitted of_active =
      pool_same t (with_member new (before t)) of_submitted (of_active ∙ are)
      ∙ replaced_unposted (before t) new off (λ m at. idle m (in_contains active m at))
      ∙ old (before t) refl refl

  -- one that hasn't posted leaves
  pub kept_left : (tx : ℕ) (active' : List Member) → active' ≡ filter (λ m. not (is_tx tx m)) active
      → ((m : Member) → Contains active m → m.tx ≡ tx → m.posted ≡ false) → IsPoolOf submitted active' posted
  kept_left tx active' are idle t of_submitted of_active =
      pool_same t (record (before t) { active = filter (λ m. not (is_tx tx m)) active }) of_submitted (of_active ∙ are)
      ∙ left_unposted (before t) tx (λ m at. idle m (in_contains active m at))
      ∙ old (before t) refl refl

  -- one that hasn't posted is changed, and hasn't posted then
  pub kept_changing : (change : Member → Member) (tx : ℕ) (active' : List Member) → Changes change tx active active'
      → IsSome (found active tx) → ((m : Member) → (change m).tx ≡ m.tx)
      → ((m : Member) → m.posted ≡ false → (change m).posted ≡ false)
      → ((m : Member) → Contains active m → m.tx ≡ tx → m.posted ≡ false) → IsPoolOf submitted active' posted
  kept_changing change tx active' changes some keeps off idle =
      let m = is_there active tx some in
      let own : m.0.tx ≡ tx = number_found tx active m.0 m.1 in
      kept_replaced (change m.0) active' (changes m.0 m.1)
      (off m.0 (idle m.0 (member_found tx active m.0 m.1) own))
      (λ x at same. idle x at (same ∙ keeps m.0 ∙ own))

  -- one that hasn't posted prepares
  pub kept_prepared : (tx : ℕ) (old new : Run) → old.active ≡ active → Prepares tx old new → IsSome (found active tx)
      → ((m : Member) → Contains active m → m.tx ≡ tx → m.posted ≡ false) → IsPoolOf submitted new.active posted
  kept_prepared tx old new same prepares some idle =
      let m = is_there active tx some in
      let own : m.0.tx ≡ tx = number_found tx active m.0 m.1 in
      kept_left m.0.tx new.active
      ((prepares m.0 (ap (λ (ms : List Member). found ms tx) same ∙ m.1)).active
      ∙ ap (filter (λ other. not (is_tx m.0.tx other))) same)
      (λ x at is. idle x at (is ∙ own))

  -- those of some numbers leave
  pub kept_gone : (numbers : List ℕ) (active' : List Member) → active' ≡ filter (is_not_of numbers) active
      → IsPoolOf submitted active' (filter (is_of_none numbers) posted)
  kept_gone numbers active' are t of_submitted of_active =
      pool_same t (record (before t) { active = filter (is_not_of numbers) active }) of_submitted (of_active ∙ are)
      ∙ pool_without (before t) (λ tx. list_any (λ n. n == tx) numbers)
      ∙ ap (filter (is_of_none numbers)) (old (before t) refl refl)

  -- those with some statements are answered
  pub kept_joined : (prepared : List Member) (asked : List Posted) (groundings : List Valuation) (run : Run)
      → length groundings ≡ length asked
      → ((s : State) → IsJoining (with_run (record { prepared = prepared; active = active }) s) asked groundings run)
      → IsPoolOf submitted run.active (filter (is_of_none (map (λ (query : Posted). query.tx) asked)) posted)
  kept_joined prepared asked groundings run one_each joins t of_submitted of_active =
      let s : State = record (before t) { prepared = prepared } in
      pool_same t (joining s asked groundings) of_submitted
      (of_active ∙ (joins (record t { submitted = submitted })).active)
      ∙ joined_without s asked groundings one_each
      ∙ ap (filter (is_of_none (map (λ (query : Posted). query.tx) asked))) (old s refl refl)

  -- a script more
  pub kept_more : (submitted' : List Submitted) (own : Submitted) → submitted' ≡ submitted ++ own ∷ []
      → AllByRecursion (λ (m : Member). m.tx ≤ length submitted) active → IsPoolOf submitted' active posted
  kept_more submitted' own more within t of_submitted of_active =
      pool_same t (submitting (before t) own.script own.form) (of_submitted ∙ more) of_active
      ∙ submitted_more (before t) own.script own.form within
      ∙ old (before t) refl refl

  -- a member posts its statement
  pub kept_posted : (m : Member) (statement : Entangled Value) (active' : List Member) (posted' : List Posted)
      → active' ≡ map (replaced (record (holding m (entangled_uses statement)) { posted = true })) active
      → AllPairs (λ (one other : Member). one.tx < other.tx) active → Contains active m → m.posted ≡ false
      → next_in (numbered submitted m.tx) m ≡ Asks statement → Adds posted posted' (posted_as m statement)
      → AllPairs (λ (one other : Posted). one.tx < other.tx) posted' → IsPoolOf submitted active' posted'
  kept_posted m statement active' posted' are ascends at off next adds by_number t of_submitted of_active =
      pool_same t (posting (before t) m statement) of_submitted (of_active ∙ are)
      ∙ posted_adds (before t) m statement posted' ascends at off next
      (subst (λ (all : List Posted). Adds all posted' (posted_as m statement)) (sym (old (before t) refl refl)) adds)
      by_number

  -- a run starts, of members that have posted nothing
  pub kept_fresh : (entrants : List Dormant) (active' : List Member) → active ≡ []
      → active' ≡ by_number (λ (m : Member). m.tx) (map fresh entrants) → IsPoolOf submitted active' posted
  kept_fresh entrants active' nobody are t of_submitted of_active =
      nothing t t.active (to_all (λ (m : Member). m.posted ≡ false) t.active (λ m at.
      let r = of_map fresh entrants m
      (from_by_number (λ (x : Member). x.tx) (map fresh entrants) m
      (subst (In m) (of_active ∙ are) at)) in
      ap (λ (x : Member). x.posted) r.2))
      ∙ sym (ap (flat_map (posted_by (before t))) nobody)
      ∙ old (before t) refl refl
    where
      nothing : (s : State) (ms : List Member) → AllByRecursion (λ (m : Member). m.posted ≡ false) ms
          → flat_map (posted_by s) ms ≡ []
      nothing s [] all = refl
      nothing s (m ∷ ms) all = λ i. none_posted s m all.0 i ++ nothing s ms all.1 i
