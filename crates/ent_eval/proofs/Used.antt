-- The tables that posted statements use: by number, each once.
use Rattle.std.proofs.Common.{◌≡◌, ◌<◌, ◌≤◌, ◌+◌, ◌*◌, ◌&&◌, ◌||◌, ℕ, Bool, true, false, cond, List, [], ◌∷◌, ◌++◌, map}
use Rattle.std.proofs.Common.{refl, sym, ap, ◌∙◌, subst, arith}
use Rattle.std.specs.Prelude.{◌==◌, nat_lt}
use Rattle.std.specs.Cmp.{nat_cmp_is, unsigned_tied}
use Rattle.std.specs.FinMap.{nat_cmp-IsAntisymmetric}
use Rattle.std.specs.List.{AllByRecursion, flat_map, list_any}
use Rattle.std.specs.List.Sorted.{IsStrictlySortedBy}
use Rattle.std.specs.Ordering.{eq_by_cmp, nat_cmp}
use Rattle.std.specs.declared.cmp.Ordering.TheVariants.{Less}
use Rattle.std.proofs.Math.Bool.{and-true, or-false}
use Rattle.std.proofs.lemmas.Bool.{eqb-true, ltb-true, ltb-false}
use Rattle.std.proofs.lemmas.Bool.Decides.{nat_tests}
use Rattle.std.proofs.lemmas.Cmp.{nat_cmp_total}
use Rattle.std.proofs.lemmas.List.{map-append}
use Rattle.ent_lists.specs.Elements.{neither}
use Rattle.ent_lists.specs.Laws.{same_set, contains-from_list, ascending-from_list, is_sorted_from}
use Rattle.ent_lists.specs.Sets as set
use Rattle.ent_lists.proofs.Truth.{or_swap}
use Rattle.ent_lists.proofs.Lists.{all_above}
use Rattle.ent_value.specs.declared.value.Value.{Value}
use Rattle.ent_semantics.specs.declared.entangled.Entangled.{Entangled}
use Rattle.ent_semantics.specs.declared.entangled.Membership.{Membership}
use Rattle.ent_semantics.specs.Pool.{Posted}
use Rattle.ent_protocol.specs.Begin.{same_use, use_rank, with_uses}
use Rattle.ent_protocol.specs.PoolEvents.{joint_uses}
use Rattle.ent_protocol.specs.State.{Use, inserted}
use Rattle.ent_protocol.specs.Uses.{shared, entangled_uses}

-- ---- shared uses, by the numbers of their tables

abbrev itself : ℕ → ℕ
itself n = n

-- numbers put in by order, each once
numbered : List ℕ → List ℕ → List ℕ
numbered [] held = held
numbered (n ∷ ns) held = numbered ns (cond (list_any (λ u. n == u) held) held (inserted itself n held))

same_shared : (n u : ℕ) → same_use (shared n) (shared u) ≡ (n == u)
same_shared n u = and-true (n == u)

any_shared : (n : ℕ) (held : List ℕ) → list_any (same_use (shared n)) (map shared held) ≡ list_any (λ u. n == u) held
any_shared n [] = refl
any_shared n (u ∷ us) = λ i. same_shared n u i || any_shared n us i

rank_less : (n u : ℕ) → nat_lt (use_rank (shared n)) (use_rank (shared u)) ≡ nat_lt n u
rank_less n u = grind (arith, nat_tests)

insert_shared : (n : ℕ) (held : List ℕ)
    → inserted use_rank (shared n) (map shared held) ≡ map shared (inserted itself n held)
insert_shared n [] = refl
insert_shared n (u ∷ us) =
    (λ i. cond (rank_less n u i) (shared n ∷ shared u ∷ map shared us) (shared u ∷ insert_shared n us i))
    ∙ by (nat_lt n u)
  where
    by : (b : Bool)
        → cond b (shared n ∷ shared u ∷ map shared us) (shared u ∷ map shared (inserted itself n us))
        ≡ map shared (cond b (n ∷ u ∷ us) (u ∷ inserted itself n us))
    by true = refl
    by false = refl

shared_uses : (ns held : List ℕ) → with_uses (map shared ns) (map shared held) ≡ map shared (numbered ns held)
unfolding numbered
shared_uses [] held = refl
shared_uses (n ∷ ns) held =
    ap (with_uses (map shared ns))
    ((λ i. cond (any_shared n held i) (map shared held) (insert_shared n held i))
    ∙ by (list_any (λ u. n == u) held))
    ∙ shared_uses ns (cond (list_any (λ u. n == u) held) held (inserted itself n held))
  where
    by : (b : Bool) → cond b (map shared held) (map shared (inserted itself n held))
        ≡ map shared (cond b held (inserted itself n held))
    by true = refl
    by false = refl

-- ---- which numbers there are

or_moved : (a b c : Bool) → (a || (b || c)) ≡ ((b || a) || c)
or_moved true true c = refl
or_moved true false c = refl
or_moved false true c = refl
or_moved false false c = refl

or_known : (a b c : Bool) → (b ≡ true → c ≡ true) → (a || c) ≡ ((b || a) || c)
or_known true true c there = refl
or_known true false c there = refl
or_known false true c there = there refl
or_known false false c there = refl

module _ (q : ℕ) where
  abbrev has : List ℕ → Bool
  has = list_any (eq_by_cmp nat_cmp q)

  has_inserted : (n : ℕ) (held : List ℕ) → has (inserted itself n held) ≡ (eq_by_cmp nat_cmp q n || has held)
  has_inserted n [] = refl
  has_inserted n (u ∷ us) = by (nat_lt n u) (has_inserted n us)
    where
      by : (b : Bool) → has (inserted itself n us) ≡ (eq_by_cmp nat_cmp q n || has us)
          → has (cond b (n ∷ u ∷ us) (u ∷ inserted itself n us))
          ≡ (eq_by_cmp nat_cmp q n || (eq_by_cmp nat_cmp q u || has us))
      by true rest = refl
      by false rest =
          ap (λ b. eq_by_cmp nat_cmp q u || b) rest
          ∙ or_swap (eq_by_cmp nat_cmp q u) (eq_by_cmp nat_cmp q n) (has us)

  same_any : (held : List ℕ) → list_any (λ u. q == u) held ≡ has held
  same_any [] = refl
  same_any (u ∷ us) = λ i. sym (unsigned_tied q u) i || same_any us i

  has_there : (n : ℕ) (held : List ℕ) → list_any (λ u. n == u) held ≡ true → eq_by_cmp nat_cmp q n ≡ true
      → has held ≡ true
  has_there n held there same =
      let is : q ≡ n = eqb-true q n (sym (unsigned_tied q n) ∙ same) in
      sym (same_any held) ∙ subst (λ m. list_any (λ u. m == u) held ≡ true) (sym is) there

  has_numbered : (ns held : List ℕ) → has (numbered ns held) ≡ (has ns || has held)
  unfolding numbered
  has_numbered [] held = refl
  has_numbered (n ∷ ns) held = by (list_any (λ u. n == u) held) refl (has_numbered ns)
    where
      by : (b : Bool) → list_any (λ u. n == u) held ≡ b
          → ((held : List ℕ) → has (numbered ns held) ≡ (has ns || has held))
          → has (numbered ns (cond b held (inserted itself n held))) ≡ ((eq_by_cmp nat_cmp q n || has ns) || has held)
      by true there rest =
          rest held ∙ or_known (has ns) (eq_by_cmp nat_cmp q n) (has held) (has_there n held there)
      by false there rest =
          rest (inserted itself n held)
          ∙ ap (λ b. has ns || b) (has_inserted n held)
          ∙ or_moved (has ns) (eq_by_cmp nat_cmp q n) (has held)

-- ---- their order

abbrev Rises : List ℕ → Type 0
Rises [] = Unit {0}
Rises (n ∷ ns) = AllByRecursion (λ m. n < m) ns × Rises ns

all_inserted : (P : ℕ → Type 0) (n : ℕ) (held : List ℕ) → P n → AllByRecursion P held
    → AllByRecursion P (inserted itself n held)
all_inserted P n [] p all = (p, tt)
all_inserted P n (u ∷ us) p all = by (nat_lt n u) (all_inserted P n us p all.1)
  where
    by : (b : Bool) → AllByRecursion P (inserted itself n us)
        → AllByRecursion P (cond b (n ∷ u ∷ us) (u ∷ inserted itself n us))
    by true rest = (p, (all.0, all.1))
    by false rest = (all.0, rest)

insert_rises : (n : ℕ) (held : List ℕ) → list_any (λ u. n == u) held ≡ false → Rises held
    → Rises (inserted itself n held)
insert_rises n [] new rises = (tt, tt)
insert_rises n (u ∷ us) new rises =
    let apart = neither (n == u) (list_any (λ u. n == u) us) new in
    by (nat_lt n u) refl apart.0 (insert_rises n us apart.1 rises.1)
  where
    by : (b : Bool) → nat_lt n u ≡ b → (n == u) ≡ false → Rises (inserted itself n us)
        → Rises (cond b (n ∷ u ∷ us) (u ∷ inserted itself n us))
    by true is apart rest =
        let below : n < u = ltb-true n u is in
        ((below, all_above n u us below rises.0), (rises.0, rises.1))
    by false is apart rest =
        let above : u < n = grind (arith, nat_tests) in
        (all_inserted (λ m. u < m) n us above rises.0, rest)

numbered_rises : (ns held : List ℕ) → Rises held → Rises (numbered ns held)
unfolding numbered
numbered_rises [] held rises = rises
numbered_rises (n ∷ ns) held rises = by (list_any (λ u. n == u) held) refl (numbered_rises ns)
  where
    by : (b : Bool) → list_any (λ u. n == u) held ≡ b → ((held : List ℕ) → Rises held → Rises (numbered ns held))
        → Rises (numbered ns (cond b held (inserted itself n held)))
    by true there rest = rest held rises
    by false there rest = rest (inserted itself n held) (insert_rises n held there rises)

all_less : (n : ℕ) (ns : List ℕ) → AllByRecursion (λ m. n < m) ns → AllByRecursion (λ m. nat_cmp n m ≡ Less) ns
all_less n [] all = tt
all_less n (m ∷ ms) all = (sym (nat_cmp_is n m Less all.0), all_less n ms all.1)

in_order : (ns : List ℕ) → Rises ns → IsStrictlySortedBy nat_cmp ns
unfolding IsStrictlySortedBy
in_order [] rises = tt
in_order (n ∷ ns) rises = (all_less n ns rises.0, in_order ns rises.1)

numbered_is : (ns : List ℕ) → numbered ns [] ≡ set.ascending (set.from_list {R = nat_cmp} ns)
numbered_is ns =
    sym (ascending-from_list nat_cmp_total nat_cmp-IsAntisymmetric (numbered ns [])
    (is_sorted_from nat_cmp (numbered ns []) (in_order (numbered ns []) (numbered_rises ns [] tt))))
    ∙ ap set.ascending (same_set nat_cmp_total nat_cmp-IsAntisymmetric _ _ (λ q.
    contains-from_list nat_cmp_total nat_cmp-IsAntisymmetric (numbered ns []) q ∙ has_numbered q ns []
    ∙ or-false (list_any (eq_by_cmp nat_cmp q) ns)
    ∙ sym (contains-from_list nat_cmp_total nat_cmp-IsAntisymmetric ns q)))

-- ---- the uses of statements

abbrev pub sources : Entangled Value → List ℕ
sources statement = flat_map (λ atom. atom.select.sources) statement.atoms

flat_shared : {X : Type 0} (f : X → List ℕ) (xs : List X)
    → flat_map (λ x. map shared (f x)) xs ≡ map shared (flat_map f xs)
flat_shared f [] = refl
flat_shared f (x ∷ xs) =
    ap (λ uses. map shared (f x) ++ uses) (flat_shared f xs) ∙ sym (map-append shared (f x) (flat_map f xs))

all_shared : (asked : List Posted) → flat_map (λ query. entangled_uses query.statement) asked
    ≡ map shared (flat_map (λ (query : Posted). sources query.statement) asked)
all_shared [] = refl
all_shared (query ∷ asked) =
    (λ i. flat_shared (λ (atom : Membership Value). atom.select.sources) query.statement.atoms i
    ++ all_shared asked i)
    ∙ sym (map-append shared (sources query.statement) (flat_map (λ (query : Posted). sources query.statement) asked))

pub tables_shared : (numbers : List ℕ) → map (λ (own : Use). own.table) (map shared numbers) ≡ numbers
tables_shared [] = refl
tables_shared (number ∷ more) = ap (λ numbers. number ∷ numbers) (tables_shared more)

-- the tables of a joint job are those that the sub-selects name
pub joint_tables : (asked : List Posted) → map (λ (own : Use). own.table) (joint_uses asked)
    ≡ set.ascending (set.from_list {R = nat_cmp} (flat_map (λ (query : Posted). sources query.statement) asked))
joint_tables asked =
    let all = flat_map (λ (query : Posted). sources query.statement) asked in
    ap (map (λ (own : Use). own.table))
    (ap (λ uses. with_uses uses []) (all_shared asked) ∙ shared_uses all [])
    ∙ tables_shared (numbered all [])
    ∙ numbered_is all
