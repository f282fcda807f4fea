-- Which uses a lock table's layout holds.
use Rattle.std.proofs.Common.{◌≡◌, ◌≢◌, ℕ, zero, suc, ◌+◌, ◌<◌, ◌≤◌, ◌==◌, Bool, true, false, not, ◌&&◌, ◌||◌}
use Rattle.std.proofs.Common.{if◌then◌else◌, List, [], ◌∷◌, ◌++◌, length, take, drop, get_or, set, refl, sym, ap}
use Rattle.std.proofs.Common.{subst, ◌∙◌, arith, true≢false, inl, inr}
use Rattle.std.specs.Prelude.{All, AllPairs, Contains, filter}
use Rattle.std.specs.Result.{is_err}
use Rattle.std.specs.List.{flat_map, list_any, insert}
use Rattle.std.specs.Prelude.{Result, Ok, Err, IfOk, IfErr, OnOk, OnErr}
use Rattle.std.specs.List.Sorted.{IsSearchInRange, IsBinarySearchResult, IsNonDecreasingBy}
use Rattle.std.proofs.lemmas.List.Sorted.{searchable_from_sorted}
use Rattle.std.specs.Ordering.{ordering_index, is_lt, nat_cmp, eq_by_cmp, ordering_reverse}
use Rattle.std.specs.Cmp.{IsTotalOrder, Equal-is, both_ways}
use Rattle.std.specs.Cmp.Lexicographic.{slice_cmp}
use Rattle.std.specs.declared.cmp.Ordering.{Ordering}
use Rattle.std.specs.declared.cmp.Ordering.TheVariants.{Less, Equal, Greater}
use Rattle.std.specs.FinSet as finite
use Rattle.std.proofs.lemmas.Cmp.{on_total, then_total, nat_cmp_total, nat_list_cmp_total, tied_itself}
use Rattle.std.proofs.lemmas.Map.Lookups.{exact_unsigned, exact_bytes}
use Rattle.std.proofs.lemmas.Bool.{eqb-true, eq-eqb, cases_lt}
use Rattle.std.proofs.lemmas.List.{length-map, get_or-map, get_or_default, map-set, set-get_or, map-append, take-map}
use Rattle.std.proofs.lemmas.List.{drop-map, take_more_set, take_more, drop_more, drop-set-lt}
use Rattle.std.proofs.lemmas.List.Elements.{All-append, All-cons, All-take, All-drop, All-nil, Contains-append_right}
use Rattle.std.proofs.lemmas.List.Kept.{AllPairs-cons}
use Rattle.std.proofs.lemmas.List.Folds.{list_any-append, list_any_none}
use Rattle.std.proofs.Math.Bool.{or_assoc, or-false}
use Rattle.ent_lists.specs.Elements.{and_both, not_so}
use Rattle.ent_lists.specs.Laws.{any_map}
use Rattle.ent_lists.proofs.Truth.{or_swap}
use Rattle.ent_lists.proofs.Orders.{equal_then}
use Rattle.ent_lock.specs.declared.mode.Mode.{Mode}
use Rattle.ent_lock.specs.declared.mode.Mode.TheVariants.{Shared, Exclusive}
use Rattle.ent_lock.specs.declared.holders.Holder.{Holder}
use Rattle.ent_lock.specs.declared.table_uses.TableUses.{TableUses}
use Rattle.ent_lock.specs.Mode.{mode_rank}
use Rattle.ent_lock.specs.Holders.{is_holder, is_not_of}
use Rattle.ent_lock.specs.Use.{Use, Uses, use_cmp}
use Rattle.ent_lock.specs.Layout.{uses_in, held_in, keys_of, key_at, IsByKey, IsAt, IsGapFor, is_use_of_none}

-- ---- the order of uses

pub use_total : IsTotalOrder use_cmp
use_total = then_total (on_total (λ u. u.holder) nat_cmp_total)
    (then_total (on_total (λ u. u.table) nat_list_cmp_total) (on_total (λ u. mode_rank u.mode) nat_cmp_total))

pub same_mode : (a b : Mode) → mode_rank a ≡ mode_rank b → a ≡ b
same_mode Shared Shared e = refl
same_mode Shared Exclusive e = absurd (omega arith)
same_mode Exclusive Shared e = absurd (omega arith)
same_mode Exclusive Exclusive e = refl

pub use_exact : (x y : Use) → use_cmp x y ≡ Equal → x ≡ y
use_exact x y e =
    let first = equal_then _ _ e in
    let second = equal_then _ _ first.1 in
    let holder : x.holder ≡ y.holder = exact_unsigned x.holder y.holder first.0 in
    let table : x.table ≡ y.table = exact_bytes x.table y.table second.0 in
    let mode : x.mode ≡ y.mode =
    same_mode x.mode y.mode (exact_unsigned (mode_rank x.mode) (mode_rank y.mode) second.1) in
    λ i. record { holder = holder i; table = table i; mode = mode i }

-- whether two uses are one
abbrev pub is_use : Use → Use → Bool
is_use q u = eq_by_cmp use_cmp q u

pub is_use-true : (q u : Use) → is_use q u ≡ true → q ≡ u
is_use-true q u e = use_exact q u ((Equal-is (use_cmp q u)).0 e)

pub is_use-itself : (q u : Use) → q ≡ u → is_use q u ≡ true
is_use-itself q u e = subst (λ (v : Use). is_use q v ≡ true) e ((Equal-is (use_cmp q q)).1 (tied_itself use_total q))

pub same_uses : (s t : Uses) → ((q : Use) → finite.contains s q ≡ finite.contains t q) → s ≡ t
same_uses s t is = finite.same_set use_total use_exact s t is

-- ---- tests of lists

any-flat_map : {X Y : Type 0} (p : Y → Bool) (f : X → List Y) (xs : List X)
    → list_any p (flat_map f xs) ≡ list_any (λ x. list_any p (f x)) xs
any-flat_map p f [] = refl
any-flat_map p f (x ∷ xs) = list_any-append p (f x) (flat_map f xs)
    ∙ ap (λ b. list_any p (f x) || b) (any-flat_map p f xs)

-- one element passes where a does, or where it did
any-set_more : {X : Type 0} (p : X → Bool) (a : Bool) (xs : List X) (i : ℕ) (y : X) → i < length xs
    → ((d : X) → p y ≡ (a || p (get_or xs i d))) → list_any p (set xs i y) ≡ (a || list_any p xs)
any-set_more p a [] i y within e = absurd (omega arith)
any-set_more p a (x ∷ xs) zero y within e = ap (λ b. b || list_any p xs) (e x) ∙ or_assoc a (p x) (list_any p xs)
any-set_more p a (x ∷ xs) (suc i) y within e = ap (λ b. p x || b) (any-set_more p a xs i y (omega arith) e)
    ∙ or_swap (p x) a (list_any p xs)

any-insert : {X : Type 0} (p : X → Bool) (xs : List X) (i : ℕ) (y : X)
    → list_any p (insert xs i y) ≡ (p y || list_any p xs)
any-insert p [] zero y = refl
any-insert p [] (suc i) y = refl
any-insert p (x ∷ xs) zero y = refl
any-insert p (x ∷ xs) (suc i) y = ap (λ b. p x || b) (any-insert p xs i y) ∙ or_swap (p x) (p y) (list_any p xs)

and_or : (b x y : Bool) → ((b && x) || (b && y)) ≡ (b && (x || y))
and_or true x y = refl
and_or false x y = refl

-- one element alone may pass
any-alone : {X : Type 0} (p : X → Bool) (xs : List X) (i : ℕ) → i < length xs
    → ((j : ℕ) (d : X) → j < length xs → j ≢ i → p (get_or xs j d) ≡ false) → (d : X)
    → list_any p xs ≡ p (get_or xs i d)
any-alone p [] i within e d = absurd (omega arith)
any-alone p (x ∷ xs) zero within e d =
    ap (λ b. p x || b) (list_any_none p xs (λ j d' later. e (suc j) d' (omega arith) (omega arith))) ∙ or-false (p x)
any-alone p (x ∷ xs) (suc i) within e d =
    (λ k. e 0 x (omega arith) (omega arith) k || any-alone p xs i (omega arith)
    (λ j d' later other. e (suc j) d' (omega arith) (omega arith)) d k)

kept : (c m n b : Bool) → n ≡ (b && m) → (c ≡ true → b ≡ true) → (c || n) ≡ (b && (c || m))
kept true m n b e h = sym (ap (λ x. x && true) (h refl))
kept false m n b e h = e

left_out : (c m n b : Bool) → n ≡ (b && m) → (c ≡ true → b ≡ false) → n ≡ (b && (c || m))
left_out true m n b e h = e ∙ ap (λ x. x && m) (h refl) ∙ sym (ap (λ x. x && true) (h refl))
left_out false m n b e h = e

-- what a filter keeps
any-filter : {K : Type 0} (t p : K → Bool) (b : Bool) → ((x : K) → t x ≡ true → b ≡ p x) → (xs : List K)
    → list_any t (filter p xs) ≡ (b && list_any t xs)
any-filter t p true alike [] = refl
any-filter t p false alike [] = refl
any-filter t p b alike (x ∷ xs) =
    elim (p x) as (λ c. p x ≡ c
    → list_any t (if c then x ∷ filter p xs else filter p xs) ≡ (b && (t x || list_any t xs))) [
      | true ↦ λ px. kept (t x) (list_any t xs) (list_any t (filter p xs)) b (any-filter t p b alike xs)
          (λ tx. alike x tx ∙ px)
      | false ↦ λ px. left_out (t x) (list_any t xs) (list_any t (filter p xs)) b (any-filter t p b alike xs)
          (λ tx. alike x tx ∙ px)
    ] refl

any-less : {X : Type 0} (p : X → Bool) (b : Bool) (xs : List X)
    → ((j : ℕ) (d : X) → j < length xs → p (get_or xs j d) ≡ (b && p (get_or xs j d)))
    → list_any p xs ≡ (b && list_any p xs)
any-less p true xs e = refl
any-less p false xs e = list_any_none p xs e

-- each element passes where it did and b, one of them after a change
any-set_less : {X : Type 0} (p : X → Bool) (b : Bool) (xs : List X) (i : ℕ) (y : X) → i < length xs
    → ((d : X) → p y ≡ (b && p (get_or xs i d))) →
    ((j : ℕ) (d : X) → j < length xs → j ≢ i → p (get_or xs j d) ≡ (b && p (get_or xs j d)))
    → list_any p (set xs i y) ≡ (b && list_any p xs)
any-set_less p b [] i y within e others = absurd (omega arith)
any-set_less p b (x ∷ xs) zero y within e others =
    (λ k. e x k || any-less p b xs (λ j d later. others (suc j) d (omega arith) (omega arith)) k)
    ∙ and_or b (p x) (list_any p xs)
any-set_less p b (x ∷ xs) (suc i) y within e others =
    (λ k. others 0 x (omega arith) (omega arith) k || any-set_less p b xs i y (omega arith) e
    (λ j d later other. others (suc j) d (omega arith) (omega arith)) k)
    ∙ and_or b (p x) (list_any p xs)

-- ---- the uses of one table

abbrev pub has_in : {T : Type 0} (key : T → List ℕ) → Use → (TableUses T) → Bool
has_in key q t = list_any (is_use q) (uses_in (key t.table) t.holders.items)

pub contains-held_in : {T : Type 0} (key : T → List ℕ) (ts : List (TableUses T)) (q : Use)
    → finite.contains (held_in key ts) q ≡ list_any (has_in key q) ts
contains-held_in key ts q =
    finite.contains-from_list use_total (flat_map (λ (t : TableUses _). uses_in (key t.table) t.holders.items) ts) q
    ∙ any-flat_map (is_use q) (λ (t : TableUses _). uses_in (key t.table) t.holders.items) ts

other_table : (q : Use) (table : List ℕ) (hs : List Holder) → (q.table ≢ table)
    → list_any (is_use q) (uses_in table hs) ≡ false
other_table q table [] apart = refl
other_table q table (h ∷ hs) apart =
    let u : Use = record { holder = h.holder; table = table; mode = h.mode } in
    let first : is_use q u ≡ false =
    not_so (is_use q u) (λ same. apart (ap (λ (v : Use). v.table) (is_use-true q u same))) in
    (λ i. first i || list_any (is_use q) (uses_in table hs)) ∙ other_table q table hs apart

has_in_other : {T : Type 0} (key : T → List ℕ) (q : Use) (t : TableUses T) → (q.table ≢ (key t.table))
    → has_in key q t ≡ false
has_in_other key q t apart = other_table q (key t.table) t.holders.items apart

-- ---- names

key_at-get_or : {T : Type 0} (key : T → List ℕ) (ts : List (TableUses T)) (i : ℕ) (d : TableUses T) → i < length ts
    → key_at key ts i ≡ (key (get_or ts i d).table)
key_at-get_or key ts i d within = get_or-map (λ (t : TableUses _). (key t.table)) ts i d [] within

less_apart : (a b : List ℕ) → slice_cmp nat_cmp a b ≡ Less → a ≢ b
less_apart a b less same =
    let tie : slice_cmp nat_cmp a b ≡ Equal =
    subst (λ (x : List ℕ). slice_cmp nat_cmp a x ≡ Equal) same (tied_itself nat_list_cmp_total a) in
    cc

length-keys_of : {T : Type 0} (key : T → List ℕ) (ts : List (TableUses T)) → length (keys_of key ts) ≡ length ts
length-keys_of key ts = length-map ts (λ t. (key t.table))

keys_apart : {T : Type 0} (key : T → List ℕ) (ts : List (TableUses T)) → IsByKey key ts → (i j : ℕ) → i < length ts
    → j < length ts → j ≢ i → key_at key ts i ≢ key_at key ts j
keys_apart key ts h i j in_i in_j apart same =
    elim (cases_lt i j) [
      | inl below ↦ less_apart (key_at key ts i) (key_at key ts j)
          (h i j [] (omega arith) (omega (arith, length-keys_of key ts))) same
      | inr above ↦ less_apart (key_at key ts j) (key_at key ts i)
          (h j i [] (omega arith) (omega (arith, length-keys_of key ts))) (sym same)
    ]

-- the holders of the table at its place are all that hold it
pub held_at : {T : Type 0} (key : T → List ℕ) (ts : List (TableUses T)) (q : Use) (i : ℕ) → IsByKey key ts
    → IsAt key ts q.table i → (d : TableUses T) → list_any (has_in key q) ts ≡ has_in key q (get_or ts i d)
held_at key ts q i h at d =
    any-alone (has_in key q) ts i at.in_range
    (λ j d' within other. has_in_other key q (get_or ts j d')
    (λ same. keys_apart key ts h i j at.in_range within other
    (at.has_key ∙ same ∙ sym (key_at-get_or key ts j d' within))))
    d

-- a table without a place is held by nobody
pub held_nowhere : {T : Type 0} (key : T → List ℕ) (ts : List (TableUses T)) (q : Use) (i : ℕ)
    → IsGapFor key ts q.table i → list_any (has_in key q) ts ≡ false
held_nowhere key ts q i gap =
    list_any_none (has_in key q) ts (λ k d within. has_in_other key q (get_or ts k d) (λ same.
    elim (cases_lt k i) [
      | inl below ↦ less_apart (key_at key ts k) q.table (gap.lower_before k below)
          (sym (same ∙ sym (key_at-get_or key ts k d within)))
      | inr above ↦ less_apart q.table (key_at key ts k) (gap.higher_after k above within)
          (same ∙ sym (key_at-get_or key ts k d within))
    ]))

-- ---- changes of one table

abbrev pub the_use : ℕ → List ℕ → Mode → Use
the_use tx table mode = record { holder = tx; table = table; mode = mode }

or_comm : (a b : Bool) → (a || b) ≡ (b || a)
or_comm true true = refl
or_comm true false = refl
or_comm false true = refl
or_comm false false = refl

read_here : {T : Type 0} (ts : List (TableUses T)) (i : ℕ) (t : TableUses T) → i < length ts → t ≡ get_or ts i t
    → (d : TableUses T) → get_or ts i d ≡ t
read_here ts i t within here d = get_or_default ts i d t within ∙ sym here

pub keys-set : {T : Type 0} (key : T → List ℕ) (ts : List (TableUses T)) (i : ℕ) (t t' : TableUses T) → i < length ts
    → t ≡ get_or ts i t → (key t'.table) ≡ (key t.table) → keys_of key (set ts i t') ≡ keys_of key ts
keys-set key ts i t t' within here same =
    map-set (λ (u : TableUses _). (key u.table)) ts i t'
    ∙ ap (set (keys_of key ts) i)
    (same ∙ ap (λ (u : TableUses _). (key u.table)) here ∙ sym (key_at-get_or key ts i t within))
    ∙ set-get_or (keys_of key ts) i []

pub by_key-set : {T : Type 0} (key : T → List ℕ) (ts : List (TableUses T)) (i : ℕ) (t t' : TableUses T) → IsByKey key ts
    → i < length ts → t ≡ get_or ts i t → (key t'.table) ≡ (key t.table) → IsByKey key (set ts i t')
by_key-set key ts i t t' h within here same =
    subst (λ (ns : List (List ℕ)). AllPairs (λ a b. slice_cmp nat_cmp a b ≡ Less) ns)
    (sym (keys-set key ts i t t' within here same)) h

any_uses : (q : Use) (table table' : List ℕ) (hs hs' : List Holder) → table' ≡ table → hs' ≡ hs
    → list_any (is_use q) (uses_in table' hs') ≡ list_any (is_use q) (uses_in table hs)
any_uses q table table' hs hs' e f = λ i. list_any (is_use q) (uses_in (e i) (f i))

any_uses-push : (q : Use) (table : List ℕ) (hs : List Holder) (h : Holder) →
    list_any (is_use q) (uses_in table (hs ++ h ∷ [])) ≡ (is_use q (the_use h.holder table h.mode)
    || list_any (is_use q) (uses_in table hs))
any_uses-push q table hs h =
    let uses = λ (k : Holder). the_use k.holder table k.mode in
    ap (list_any (is_use q)) (map-append uses hs (h ∷ []))
    ∙ list_any-append (is_use q) (uses_in table hs) (the_use h.holder table h.mode ∷ [])
    ∙ ap (λ b. list_any (is_use q) (uses_in table hs) || b) (or-false (is_use q (the_use h.holder table h.mode)))
    ∙ or_comm (list_any (is_use q) (uses_in table hs)) (is_use q (the_use h.holder table h.mode))

-- a table with the same holders
pub kept_table : {T : Type 0} (key : T → List ℕ) (ts : List (TableUses T)) (i : ℕ) (t t' : TableUses T) → i < length ts
    → t ≡ get_or ts i t → (key t'.table) ≡ (key t.table) → t'.holders.items ≡ t.holders.items
    → held_in key (set ts i t') ≡ held_in key ts
kept_table key ts i t t' within here same_name same =
    same_uses (held_in key (set ts i t')) (held_in key ts) (λ q.
    contains-held_in key (set ts i t') q
    ∙ any-set_more (has_in key q) false ts i t' within
    (λ d. any_uses q (key t.table) (key t'.table) t.holders.items t'.holders.items same_name same
    ∙ ap (has_in key q) (sym (read_here ts i t within here d)))
    ∙ sym (contains-held_in key ts q))

-- a table with one holder more
pub pushed_use : {T : Type 0} (key : T → List ℕ) (ts : List (TableUses T)) (i : ℕ) (t t' : TableUses T) (table : List ℕ)
    (h : Holder) → IsAt key ts table i → t ≡ get_or ts i t → (key t'.table) ≡ (key t.table)
    → t'.holders.items ≡ t.holders.items ++ h ∷ [] →
    held_in key (set ts i t') ≡ finite.insert (held_in key ts) (the_use h.holder table h.mode)
pushed_use key ts i t t' table h at here same_name more =
    let u = the_use h.holder table h.mode in
    let name : (key t.table) ≡ table = ap (λ (v : TableUses _). (key v.table)) here
    ∙ sym (key_at-get_or key ts i t at.in_range) ∙ at.has_key in
    same_uses (held_in key (set ts i t')) (finite.insert (held_in key ts) u) (λ q.
    contains-held_in key (set ts i t') q
    ∙ any-set_more (has_in key q) (is_use q u) ts i t' at.in_range (λ d.
    any_uses q table (key t'.table) (t.holders.items ++ h ∷ []) t'.holders.items (same_name ∙ name) more
    ∙ any_uses-push q table t.holders.items h
    ∙ ap (λ b. is_use q u || b) (any_uses q (key t.table) table t.holders.items t.holders.items (sym name) refl
    ∙ ap (has_in key q) (sym (read_here ts i t at.in_range here d))))
    ∙ ap (λ b. is_use q u || b) (sym (contains-held_in key ts q))
    ∙ sym (finite.contains-insert use_total (held_in key ts) u q))

-- ---- a table more

AllPairs-insert : {X : Type 0} (R : X → X → Type 0) (xs : List X) (i : ℕ) (y : X) → AllPairs R xs →
    ((j : ℕ) (d : X) → j < i → j < length xs → R (get_or xs j d) y)
    → ((j : ℕ) (d : X) → i ≤ j → j < length xs → R y (get_or xs j d)) → AllPairs R (insert xs i y)
AllPairs-insert R [] zero y h before after = AllPairs-cons R y [] (All-nil (R y)) h
AllPairs-insert R [] (suc i) y h before after = AllPairs-cons R y [] (All-nil (R y)) h
AllPairs-insert R (x ∷ xs) zero y h before after =
    AllPairs-cons R y (x ∷ xs) (λ k d within. after k d (omega arith) within) h
AllPairs-insert R (x ∷ xs) (suc i) y h before after =
    AllPairs-cons R x (insert xs i y)
    (All-append (R x) (take i xs) (y ∷ drop i xs) (All-take (R x) i xs (head_of h))
    (All-cons (R x) y (drop i xs) (before 0 x (omega arith) (omega arith)) (All-drop (R x) i xs (head_of h))))
    (AllPairs-insert R xs i y (λ m n d below within. h (suc m) (suc n) d (omega arith) (omega arith))
    (λ j d below within. before (suc j) d (omega arith) (omega arith))
    (λ j d above within. after (suc j) d (omega arith) (omega arith)))
  where
    head_of : AllPairs R (x ∷ xs) → All (R x) xs
    head_of h k d within = h 0 (suc k) d (omega arith) (omega arith)

keys-insert : {T : Type 0} (key : T → List ℕ) (ts : List (TableUses T)) (i : ℕ) (t : TableUses T)
    → keys_of key (insert ts i t) ≡ insert (keys_of key ts) i (key t.table)
keys-insert key ts i t =
    map-append (λ (u : TableUses _). (key u.table)) (take i ts) (t ∷ drop i ts)
    ∙ (λ k. sym (take-map (λ (u : TableUses _). (key u.table)) i ts) k ++ (key t.table) ∷ sym
    (drop-map (λ (u : TableUses _). (key u.table)) i ts) k)

pub by_key-insert : {T : Type 0} (key : T → List ℕ) (ts : List (TableUses T)) (i : ℕ) (t : TableUses T) (table : List ℕ)
    → IsByKey key ts → IsGapFor key ts table i → (key t.table) ≡ table → IsByKey key (insert ts i t)
by_key-insert key ts i t table h gap same =
    subst (λ (ns : List (List ℕ)). AllPairs (λ a b. slice_cmp nat_cmp a b ≡ Less) ns) (sym (keys-insert key ts i t))
    (AllPairs-insert (λ a b. slice_cmp nat_cmp a b ≡ Less) (keys_of key ts) i (key t.table) h
    (λ j d below within. (λ k. slice_cmp nat_cmp (get_or_default (keys_of key ts) j d [] within k) (same k))
    ∙ gap.lower_before j below)
    (λ j d above within. (λ k. slice_cmp nat_cmp (same k) (get_or_default (keys_of key ts) j d [] within k))
    ∙ gap.higher_after j above (omega (arith, length-keys_of key ts))))

pub inserted_use : {T : Type 0} (key : T → List ℕ) (ts : List (TableUses T)) (i : ℕ) (t : TableUses T) (table : List ℕ)
    (h : Holder) → (key t.table) ≡ table → t.holders.items ≡ h ∷ [] →
    held_in key (insert ts i t) ≡ finite.insert (held_in key ts) (the_use h.holder table h.mode)
inserted_use key ts i t table h name one =
    let u = the_use h.holder table h.mode in
    same_uses (held_in key (insert ts i t)) (finite.insert (held_in key ts) u) (λ q.
    contains-held_in key (insert ts i t) q
    ∙ any-insert (has_in key q) ts i t
    ∙ ap (λ b. b || list_any (has_in key q) ts) (any_uses q table (key t.table) (h ∷ []) t.holders.items name one
    ∙ or-false (is_use q u))
    ∙ ap (λ b. is_use q u || b) (sym (contains-held_in key ts q))
    ∙ sym (finite.contains-insert use_total (held_in key ts) u q))

-- ---- a use less

is_use_of_other : {T : Type 0} (key : T → List ℕ) (q u : Use) (t : TableUses T) → ((key t.table) ≢ u.table)
    → has_in key q t ≡ (not (is_use q u) && has_in key q t)
is_use_of_other key q u t apart =
    elim (is_use q u) as (λ b. is_use q u ≡ b → has_in key q t ≡ (not b && has_in key q t)) [
      | true ↦ λ e. has_in_other key q t (λ same. apart (sym same ∙ ap (λ (v : Use). v.table) (is_use-true q u e)))
      | false ↦ λ _. refl
    ] refl

-- a table without one use
pub removed_use : {T : Type 0} (key : T → List ℕ) (ts : List (TableUses T)) (i : ℕ) (t t' : TableUses T)
    (table : List ℕ) (tx : ℕ) (mode : Mode) (keep : Holder → Bool) → IsByKey key ts → IsAt key ts table i
    → t ≡ get_or ts i t → (key t'.table) ≡ (key t.table) →
    ((h : Holder) → keep h ≡ not (is_use (the_use h.holder table h.mode) (the_use tx table mode)))
    → t'.holders.items ≡ filter keep t.holders.items →
    held_in key (set ts i t') ≡ finite.remove (held_in key ts) (the_use tx table mode)
removed_use key ts i t t' table tx mode keep by_name at here same_name keeps less =
    let u = the_use tx table mode in
    let name : (key t.table) ≡ table = ap (λ (v : TableUses _). (key v.table)) here
    ∙ sym (key_at-get_or key ts i t at.in_range) ∙ at.has_key in
    same_uses (held_in key (set ts i t')) (finite.remove (held_in key ts) u) (λ q.
    contains-held_in key (set ts i t') q
    ∙ any-set_less (has_in key q) (not (is_use q u)) ts i t' at.in_range
    (λ d.
    any_uses q table (key t'.table) (filter keep t.holders.items) t'.holders.items (same_name ∙ name) less
    ∙ any_map (is_use q) (λ (h : Holder). the_use h.holder table h.mode) (filter keep t.holders.items)
    ∙ any-filter (λ (h : Holder). is_use q (the_use h.holder table h.mode)) keep (not (is_use q u))
    (λ h same. ap (λ (v : Use). not (is_use v u)) (is_use-true q (the_use h.holder table h.mode) same) ∙ sym (keeps h))
    t.holders.items
    ∙ ap (λ b. not (is_use q u) && b)
    (sym (any_map (is_use q) (λ (h : Holder). the_use h.holder table h.mode) t.holders.items)
    ∙ any_uses q (key t.table) table t.holders.items t.holders.items (sym name) refl
    ∙ ap (has_in key q) (sym (read_here ts i t at.in_range here d))))
    (λ j d within other. is_use_of_other key q u (get_or ts j d)
    (λ same. keys_apart key ts by_name i j at.in_range within other
    (at.has_key ∙ sym same ∙ sym (key_at-get_or key ts j d within))))
    ∙ ap (λ b. not (is_use q u) && b) (sym (contains-held_in key ts q))
    ∙ sym (finite.contains-remove use_total (held_in key ts) u q))

-- a use that nobody holds
pub removed_nowhere : {T : Type 0} (key : T → List ℕ) (ts : List (TableUses T)) (i : ℕ) (table : List ℕ) (tx : ℕ)
    (mode : Mode) → IsGapFor key ts table i → held_in key ts ≡ finite.remove (held_in key ts) (the_use tx table mode)
removed_nowhere key ts i table tx mode gap =
    let u = the_use tx table mode in
    same_uses (held_in key ts) (finite.remove (held_in key ts) u) (λ q.
    elim (is_use q u) as (λ b. is_use q u ≡ b
    → finite.contains (held_in key ts) q ≡ (not b && finite.contains (held_in key ts) q)) [
      | true ↦ λ e. contains-held_in key ts q ∙ ap (λ (v : Use). list_any (has_in key v) ts) (is_use-true q u e)
          ∙ held_nowhere key ts u i gap
      | false ↦ λ _. refl
    ] refl
    ∙ sym (finite.contains-remove use_total (held_in key ts) u q))

-- ---- the holders of a table

any_from_Contains : (tx : ℕ) (table : List ℕ) (mode : Mode) (hs : List Holder)
    → Contains hs (record { holder = tx; mode = mode })
    → list_any (is_use (the_use tx table mode)) (uses_in table hs) ≡ true
any_from_Contains tx table mode [] (k, within, e) = absurd (omega arith)
any_from_Contains tx table mode (h ∷ hs) (zero, within, e) =
    let u = the_use tx table mode in
    let first : is_use u (the_use h.holder table h.mode) ≡ true =
    is_use-itself u (the_use h.holder table h.mode) (ap (λ (k : Holder). the_use k.holder table k.mode) (sym e)) in
    λ i. first i || list_any (is_use u) (uses_in table hs)
any_from_Contains tx table mode (h ∷ hs) (suc k, within, e) =
    let u = the_use tx table mode in
    ap (λ b. is_use u (the_use h.holder table h.mode) || b) (any_from_Contains tx table mode hs (k, omega arith, e))
    ∙ or_true (is_use u (the_use h.holder table h.mode))
  where
    or_true : (a : Bool) → (a || true) ≡ true
    or_true true = refl
    or_true false = refl

Contains_from_any : (tx : ℕ) (table : List ℕ) (mode : Mode) (hs : List Holder)
    → list_any (is_use (the_use tx table mode)) (uses_in table hs) ≡ true
    → Contains hs (record { holder = tx; mode = mode })
Contains_from_any tx table mode [] = λ e. absurd (true≢false (sym e))
Contains_from_any tx table mode (h ∷ hs) =
    let u = the_use tx table mode in
    let v = the_use h.holder table h.mode in
    let x : Holder = record { holder = tx; mode = mode } in
    elim (is_use u v) as (λ b. is_use u v ≡ b → (b || list_any (is_use u) (uses_in table hs)) ≡ true
    → Contains (h ∷ hs) x) [
      | true ↦ λ same _. (0, omega arith, ap (λ (w : Use). holder_of w) (sym (is_use-true u v same)))
      | false ↦ λ _ later. Contains-append_right (h ∷ []) hs x (Contains_from_any tx table mode hs later)
    ] refl
  where
    holder_of : Use → Holder
    holder_of w = record { holder = w.holder; mode = w.mode }

pub holders_here : {T : Type 0} (key : T → List ℕ) (ts : List (TableUses T)) (i : ℕ) (t : TableUses T) (table : List ℕ)
    (tx : ℕ) (mode : Mode) → IsByKey key ts → IsAt key ts table i → t ≡ get_or ts i t →
    finite.contains (held_in key ts) (the_use tx table mode) ≡ list_any (is_use (the_use tx table mode))
    (uses_in table t.holders.items)
holders_here key ts i t table tx mode by_name at here =
    let u = the_use tx table mode in
    let name : (key t.table) ≡ table = ap (λ (v : TableUses _). (key v.table)) here
    ∙ sym (key_at-get_or key ts i t at.in_range) ∙ at.has_key in
    contains-held_in key ts u ∙ held_at key ts u i by_name at t ∙ ap (has_in key u) (sym here)
    ∙ any_uses u table (key t.table) t.holders.items t.holders.items name refl

pub Holds_here : {T : Type 0} (key : T → List ℕ) (ts : List (TableUses T)) (i : ℕ) (t : TableUses T) (table : List ℕ)
    (tx : ℕ) (mode : Mode) → IsByKey key ts → IsAt key ts table i → t ≡ get_or ts i t →
    (Contains t.holders.items (record { holder = tx; mode = mode })
    → finite.contains (held_in key ts) (the_use tx table mode) ≡ true)
    × (finite.contains (held_in key ts) (the_use tx table mode) ≡ true
    → Contains t.holders.items (record { holder = tx; mode = mode }))
Holds_here key ts i t table tx mode by_name at here = (
  λ inside. holders_here key ts i t table tx mode by_name at here
      ∙ any_from_Contains tx table mode t.holders.items inside,
  λ held. Contains_from_any tx table mode t.holders.items (sym (holders_here key ts i t table tx mode by_name at here)
      ∙ held),
)

pub Holds_nowhere : {T : Type 0} (key : T → List ℕ) (ts : List (TableUses T)) (i : ℕ) (table : List ℕ) (tx : ℕ)
    (mode : Mode) → IsGapFor key ts table i → finite.contains (held_in key ts) (the_use tx table mode) ≡ false
Holds_nowhere key ts i table tx mode gap = contains-held_in key ts (the_use tx table mode)
    ∙ held_nowhere key ts (the_use tx table mode) i gap

-- ---- where a search ends

keyed_by : {T : Type 0} (key : T → List ℕ) (P : List ℕ → Type 0) (ts : List (TableUses T)) (i : ℕ) → i < length ts
    → ((d : TableUses T) → P (key (get_or ts i d).table)) → P (key_at key ts i)
keyed_by key P [] i within h = absurd (omega arith)
keyed_by key P (t ∷ ts) zero within h = h t
keyed_by key P (t ∷ ts) (suc i) within h = keyed_by key P ts i (omega arith) h

reversed : (a b : List ℕ) (o : Ordering) → slice_cmp nat_cmp a b ≡ o → slice_cmp nat_cmp b a ≡ ordering_reverse o
reversed a b o e = nat_list_cmp_total.antisymm b a ∙ ap ordering_reverse e

rises : {T : Type 0} (key : T → List ℕ) (ts : List (TableUses T)) (table : List ℕ) → IsByKey key ts
    → IsNonDecreasingBy (λ (t : TableUses _). ordering_index (slice_cmp nat_cmp (key t.table) table)) ts
rises key ts table h =
    searchable_from_sorted nat_list_cmp_total (λ (t : TableUses _). (key t.table)) ts table (λ k d low next.
    let less : slice_cmp nat_cmp (key (get_or ts k d).table) (key (get_or ts (k + 1) d).table) ≡ Less =
    (λ i. slice_cmp nat_cmp (sym (key_at-get_or key ts k d (omega arith)) i)
    (sym (key_at-get_or key ts (k + 1) d next) i))
    ∙ h k (k + 1) [] (omega arith) (omega (arith, length-keys_of key ts)) in
    ap is_lt (reversed (key (get_or ts k d).table) (key (get_or ts (k + 1) d).table) Less less))

pub record Placed {T : Type 0} (key : T → List ℕ) (ts : List (TableUses T)) (table : List ℕ) (r : Result ℕ ℕ) : Type
    0 where
  pub found : IfOk r (IsAt key ts table)
  pub missing : IfErr r (IsGapFor key ts table)

pub placed : {T : Type 0} (key : T → List ℕ) (ts : List (TableUses T)) (table : List ℕ) → IsByKey key ts
    → (r : Result ℕ ℕ) → IsSearchInRange r (length ts)
    → IsBinarySearchResult (λ (t : TableUses _). slice_cmp nat_cmp (key t.table) table) ts r → Placed key ts table r
placed key ts table h (Ok at) in_range equal = record {
  found = record {
    in_range = in_range;
    has_key = keyed_by key (λ n. n ≡ table) ts at in_range
        (λ d. exact_bytes (key (get_or ts at d).table) table (equal d));
  };
  missing = tt;
}
placed key ts table h (Err at) in_range parted = record {
  found = tt;
  missing = record {
    in_range = in_range;
    lower_before = λ j below. keyed_by key (λ n. slice_cmp nat_cmp n table ≡ Less) ts j (omega arith)
        (λ d. (parted (rises key ts table h)).0 j d (omega arith) below);
    higher_after = λ j above within. keyed_by key (λ n. slice_cmp nat_cmp table n ≡ Less) ts j within
        (λ d. reversed (key (get_or ts j d).table) table Greater ((parted (rises key ts table h)).1 j d above within));
  };
}

-- ---- one holder

pub is_use_symm : (q u : Use) → is_use q u ≡ is_use u q
is_use_symm q u = both_ways (is_use q u) (is_use u q) (λ e. is_use-itself u q (sym (is_use-true q u e)))
    (λ e. is_use-itself q u (sym (is_use-true u q e)))

pub same_holder : (tx : ℕ) (mode : Mode) (table : List ℕ) (h : Holder)
    → is_holder tx mode h ≡ is_use (the_use h.holder table h.mode) (the_use tx table mode)
same_holder tx mode table h =
    both_ways (is_holder tx mode h) (is_use (the_use h.holder table h.mode) (the_use tx table mode))
    (λ e.
    let parts = and_both (h.holder == tx) (mode_rank h.mode == mode_rank mode) e in
    let holder : h.holder ≡ tx = eqb-true h.holder tx parts.0 in
    let same : h.mode ≡ mode = same_mode h.mode mode (eqb-true (mode_rank h.mode) (mode_rank mode) parts.1) in
    is_use-itself (the_use h.holder table h.mode) (the_use tx table mode) (λ i. the_use (holder i) table (same i)))
    (λ e.
    let same : the_use h.holder table h.mode ≡ the_use tx table mode =
    is_use-true (the_use h.holder table h.mode) (the_use tx table mode) e in
    λ i. both (eq-eqb h.holder tx (ap (λ (u : Use). u.holder) same) i)
    (eq-eqb (mode_rank h.mode) (mode_rank mode) (ap (λ (u : Use). mode_rank u.mode) same) i))
  where
    both : Bool → Bool → Bool
    both a b = a && b

any_agree : {X : Type 0} (p q : X → Bool) → ((x : X) → p x ≡ q x) → (xs : List X) → list_any p xs ≡ list_any q xs
any_agree p q e [] = refl
any_agree p q e (x ∷ xs) = λ i. e x i || any_agree p q e xs i

is_held_of : (tx : ℕ) (table : List ℕ) (mode : Mode) (hs : List Holder)
    → list_any (is_holder tx mode) hs ≡ list_any (is_use (the_use tx table mode)) (uses_in table hs)
is_held_of tx table mode hs =
    any_agree (is_holder tx mode) (λ (h : Holder). is_use (the_use tx table mode) (the_use h.holder table h.mode))
    (λ h. same_holder tx mode table h ∙ is_use_symm (the_use h.holder table h.mode) (the_use tx table mode)) hs
    ∙ sym (any_map (is_use (the_use tx table mode)) (λ (h : Holder). the_use h.holder table h.mode) hs)

-- whether a transaction holds a table is seen among the table's holders
pub is_held_here : {T : Type 0} (key : T → List ℕ) (ts : List (TableUses T)) (i : ℕ) (t : TableUses T) (table : List ℕ)
    (tx : ℕ) (mode : Mode) → IsByKey key ts → IsAt key ts table i → t ≡ get_or ts i t →
    finite.contains (held_in key ts) (the_use tx table mode) ≡ list_any (is_holder tx mode) t.holders.items
is_held_here key ts i t table tx mode by_name at here = holders_here key ts i t table tx mode by_name at here
    ∙ sym (is_held_of tx table mode t.holders.items)

-- a use that is held already
pub insert_again : (held : Uses) (u : Use) → finite.contains held u ≡ true → held ≡ finite.insert held u
insert_again held u there =
    same_uses held (finite.insert held u) (λ q.
    elim (is_use q u) as (λ b. is_use q u ≡ b → finite.contains held q ≡ (b || finite.contains held q)) [
      | true ↦ λ e. ap (finite.contains held) (is_use-true q u e) ∙ there
      | false ↦ λ _. refl
    ] refl
    ∙ sym (finite.contains-insert use_total held u q))

-- a use that was not held is taken out again
pub remove_insert : (held : Uses) (u : Use) → finite.contains held u ≡ false
    → finite.remove (finite.insert held u) u ≡ held
remove_insert held u absent =
    same_uses (finite.remove (finite.insert held u) u) held (λ q.
    finite.contains-remove use_total (finite.insert held u) u q
    ∙ ap (λ b. not (is_use q u) && b) (finite.contains-insert use_total held u q)
    ∙ elim (is_use q u) as (λ b. is_use q u ≡ b → (not b && (b || finite.contains held q)) ≡ finite.contains held q) [
      | true ↦ λ e. sym (ap (finite.contains held) (is_use-true q u e) ∙ absent)
      | false ↦ λ _. refl
    ] refl)

-- ---- tables without some transactions

pub of_none_alike : (members : List ℕ) (q u : Use) → use_cmp q u ≡ Equal
    → is_use_of_none members u ≡ is_use_of_none members q
of_none_alike members q u tie = ap (is_use_of_none members) (sym (use_exact q u tie))

pub dropped_table : {T : Type 0} (key : T → List ℕ) (members : List ℕ) (q : Use) (t t' : TableUses T)
    → (key t'.table) ≡ (key t.table) → t'.holders.items ≡ filter (is_not_of members) t.holders.items →
    has_in key q t' ≡ (is_use_of_none members q && has_in key q t)
dropped_table key members q t t' same_name less =
    let uses = λ (h : Holder). the_use h.holder (key t.table) h.mode in
    any_uses q (key t.table) (key t'.table) (filter (is_not_of members) t.holders.items) t'.holders.items same_name less
    ∙ any_map (is_use q) uses (filter (is_not_of members) t.holders.items)
    ∙ any-filter (λ (h : Holder). is_use q (uses h)) (is_not_of members) (is_use_of_none members q)
    (λ h same. ap (is_use_of_none members) (is_use-true q (uses h) same)) t.holders.items
    ∙ ap (λ b. is_use_of_none members q && b) (sym (any_map (is_use q) uses t.holders.items))

next_same : {T : Type 0} (xs ys : List (TableUses T)) (i : ℕ) (d : TableUses T) → i < length xs → i < length ys
    → drop i xs ≡ drop i ys → (get_or xs i d ≡ get_or ys i d) × (drop (i + 1) xs ≡ drop (i + 1) ys)
next_same xs ys i d in_xs in_ys same =
    let left = drop_more xs i d in_xs in
    let right = drop_more ys i d in_ys in
    let parts : (get_or xs i d ∷ drop (i + 1) xs) ≡ (get_or ys i d ∷ drop (i + 1) ys) = sym left ∙ same ∙ right in
    (cc, cc)

pub dropped_rest : {T : Type 0} (ts old : List (TableUses T)) (i : ℕ) (t t' : TableUses T) → i < length ts
    → i < length old → drop i ts ≡ drop i old → drop (i + 1) (set ts i t') ≡ drop (i + 1) old
dropped_rest ts old i t t' in_ts in_old same = drop-set-lt (i + 1) ts i t' (omega arith)
    ∙ (next_same ts old i t in_ts in_old same).1

pub dropped_more : {T : Type 0} (key : T → List ℕ) (ts old : List (TableUses T)) (i : ℕ) (t t' : TableUses T) (q : Use)
    (b : Bool) → i < length ts → i < length old → drop i ts ≡ drop i old → t ≡ get_or ts i t →
    has_in key q t' ≡ (b && has_in key q t)
    → list_any (has_in key q) (take i ts) ≡ (b && list_any (has_in key q) (take i old)) →
    list_any (has_in key q) (take (i + 1) (set ts i t')) ≡ (b && list_any (has_in key q) (take (i + 1) old))
dropped_more key ts old i t t' q b in_ts in_old same here step so_far =
    ap (list_any (has_in key q)) (take_more_set ts i t' in_ts)
    ∙ list_any-append (has_in key q) (take i ts) (t' ∷ [])
    ∙ (λ k. so_far k || (step k || false))
    ∙ ap (λ x. (b && list_any (has_in key q) (take i old)) || x) (or-false (b && has_in key q t))
    ∙ and_or b (list_any (has_in key q) (take i old)) (has_in key q t)
    ∙ ap (λ x. b && x)
    (ap (λ x. list_any (has_in key q) (take i old) || x)
    (sym (or-false (has_in key q t)) ∙ ap (λ (u : TableUses _). has_in key q u || false)
    (here ∙ (next_same ts old i t in_ts in_old same).0))
    ∙ sym (list_any-append (has_in key q) (take i old) (get_or old i t ∷ []))
    ∙ sym (ap (list_any (has_in key q)) (take_more old i t in_old)))

and_comm : (a b : Bool) → (a && b) ≡ (b && a)
and_comm true true = refl
and_comm true false = refl
and_comm false true = refl
and_comm false false = refl

pub dropped_all : {T : Type 0} (key : T → List ℕ) (ts old : List (TableUses T)) (members : List ℕ)
    → ((q : Use) → list_any (has_in key q) ts ≡ (is_use_of_none members q && list_any (has_in key q) old))
    → held_in key ts ≡ finite.retain (held_in key old) (is_use_of_none members)
dropped_all key ts old members each =
    same_uses (held_in key ts) (finite.retain (held_in key old) (is_use_of_none members)) (λ q.
    contains-held_in key ts q ∙ each q ∙ ap (λ b. is_use_of_none members q && b) (sym (contains-held_in key old q))
    ∙ and_comm (is_use_of_none members q) (finite.contains (held_in key old) q)
    ∙ sym (finite.contains-retain (held_in key old) (is_use_of_none members) q
    (λ u tie. of_none_alike members q u tie)))

-- ---- outcomes

pub on_ok_then : {T E : Type 0} (r : Result T E) (P Q : Type 0) → (P → Q) → OnOk r P → OnOk r Q
on_ok_then (Ok x) P Q f h = f h
on_ok_then (Err e) P Q f h = tt

pub on_err : {T E : Type 0} (r : Result T E) (P : Type 0) → P → OnErr r P
on_err (Ok x) P p = tt
on_err (Err e) P p = p

pub on_err_then : {T E : Type 0} (r : Result T E) (P Q : Type 0) → (P → Q) → OnErr r P → OnErr r Q
on_err_then (Ok x) P Q f h = tt
on_err_then (Err e) P Q f h = f h

pub no_err : {T E : Type 0} (r : Result T E) (P : Type 0) → is_err r ≡ false → OnErr r P
no_err (Ok x) P e = tt
no_err (Err x) P e = absurd (true≢false e)
