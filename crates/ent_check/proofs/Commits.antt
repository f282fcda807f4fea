-- The transactions that have committed, in order.
use Rattle.std.proofs.Common.{◌≡◌, ℕ, zero, suc, ◌+◌, ◌<◌, ◌≤◌, Bool, true, false, cond, List, [], ◌∷◌, ◌++◌}
use Rattle.std.proofs.Common.{length, drop, take, refl, sym, ap, subst, ◌∙◌, arith, Option, Some, None, flat_map, min}
use Rattle.std.proofs.Common.{slice_get, slice_index_or, append-nil, IfSome, inl}
use Rattle.std.specs.BTreeMap.{BTreeMap, IsEmpty, get, is_at}
use Rattle.std.specs.Cmp.{unsigned_tied}
use Rattle.std.specs.List.{AllByRecursion, cons_option, filter}
use Rattle.std.specs.Map.{lookup}
use Rattle.std.specs.Ordering.{is_eq, nat_cmp}
use Rattle.std.proofs.lemmas.Grind.{flat_map-append}
use Rattle.std.proofs.lemmas.List.{take-append-drop}
use Rattle.std.proofs.lemmas.List.Elements.{filter-append}
use Rattle.ent_tree.specs.declared.script.Script.{Script}
use Rattle.ent_history.specs.declared.history.Told.{Told}
use Rattle.ent_history.specs.Account.{Account, accounts_from, commit_count, commit_number, committed_as}
use Rattle.ent_history.specs.Account.{in_commit_order, is_number, numbers_from}
use Rattle.ent_history.specs.Journal.{journal_findings}
use Rattle.ent_history.specs.Verdict.{first_of}
use Rattle.ent_history.specs.declared.finding.Finding.{Finding}
use Rattle.ent_history.proofs.Commits.{NotSame, numbered_if_none, committed_is}
use Rattle.ent_lists.specs.Elements.{Pairs, filter_empty, not_so, pairs_across, all_joined}
use Rattle.ent_check.specs.Order.{AreBelow, AreNumbered, accounts_at}
use Rattle.ent_check.proofs.Accounts.{account_of, accounts_behind, behind_some, nothing_behind}

abbrev pub IndexMap : Type 0
IndexMap = BTreeMap ℕ ℕ

-- ---- lists at an index

module _ {X : Type 0} where
  pub got_there : (xs : List X) (i : ℕ) (x : X) (ys : List X) → drop i xs ≡ x ∷ ys → slice_get xs i ≡ Some x
  got_there [] zero x ys is = cc (is)
  got_there [] (suc i) x ys is = cc (is)
  got_there (z ∷ zs) zero x ys is = one z x zs ys is
    where
      one : (z x : X) (zs ys : List X) → z ∷ zs ≡ x ∷ ys → Some z ≡ Some x
      one z x zs ys is = cc
  got_there (z ∷ zs) (suc i) x ys is = got_there zs i x ys is

  pub took_there : (xs : List X) (i : ℕ) (x : X) (ys : List X) → drop i xs ≡ x ∷ ys
      → take (suc i) xs ≡ take i xs ++ x ∷ []
  took_there [] zero x ys is = cc (is)
  took_there [] (suc i) x ys is = cc (is)
  took_there (z ∷ zs) zero x ys is = one z x zs ys is
    where
      one : (z x : X) (zs ys : List X) → z ∷ zs ≡ x ∷ ys → z ∷ [] ≡ x ∷ []
      one z x zs ys is = cc
  took_there (z ∷ zs) (suc i) x ys is = ap (λ more. z ∷ more) (took_there zs i x ys is)

-- the transactions from an index on
pub behind_dropped : (tx : ℕ) (scripts : List Script) (told : List Told) (i : ℕ)
    → drop i (accounts_from tx scripts told) ≡ accounts_from (tx + i) (drop i scripts) (drop i told)
behind_dropped tx scripts told zero =
    let n : tx ≡ tx + 0 = omega arith in ap (λ k. accounts_from k scripts told) n
behind_dropped tx [] told (suc i) = refl
behind_dropped tx (s ∷ ss) [] (suc i) = sym (none (tx + suc i) (drop i ss))
  where
    none : (tx : ℕ) (scripts : List Script) → accounts_from tx scripts [] ≡ []
    none tx [] = refl
    none tx (x ∷ xs) = refl
behind_dropped tx (s ∷ ss) (t ∷ ts) (suc i) =
    let n : suc tx + i ≡ tx + suc i = omega arith in
    behind_dropped (suc tx) ss ts i ∙ ap (λ k. accounts_from k (drop i ss) (drop i ts)) n

pub dropped_is : (scripts : List Script) (told : List Told) (i : ℕ)
    → drop i (accounts_from 1 scripts told) ≡ accounts_behind scripts told i
dropped_is scripts told i =
    let n : 1 + i ≡ suc i = omega arith in
    behind_dropped 1 scripts told i ∙ ap (λ k. accounts_from k (drop i scripts) (drop i told)) n

-- ---- one more is entered

pub apart_if_none : (all : List Account) → first_of (journal_findings all) ≡ None → Pairs NotSame all
apart_if_none all is = (numbered_if_none all (nothing (journal_findings all) is)).apart
  where
    nothing : (findings : List Finding) → first_of findings ≡ None → findings ≡ []
    nothing [] is = refl
    nothing (x ∷ xs) is = cc (is)

-- those before an index are entered
abbrev pub EnteredBefore : List Account → ℕ → IndexMap → Type 0
EnteredBefore all i indices =
    (number : ℕ) → accounts_at all (cons_option (get nat_cmp indices number) [])
    ≡ filter (committed_as number) (take i all)

-- an index is entered under this number
abbrev pub Enters : ℕ → Option ℕ → IndexMap → IndexMap → Type 0
Enters i own indices more =
    (number : ℕ) → get nat_cmp more number ≡ cond (is_number number own) (Some i) (get nat_cmp indices number)

module _ (all : List Account) (i : ℕ) (a : Account) (rest : List Account) (here : drop i all ≡ a ∷ rest)
    (apart : Pairs NotSame all) where
  parted : Pairs NotSame (take i all ++ a ∷ rest)
  parted = subst (Pairs NotSame) (sym (take-append-drop i all) ∙ ap (λ xs. take i all ++ xs) here) apart

  none_before : (number : ℕ) → committed_as number a ≡ true → filter (committed_as number) (take i all) ≡ []
  none_before number own =
      filter_empty (committed_as number) (take i all) (λ x at.
      not_so (committed_as number x) (λ its.
      pairs_across NotSame (take i all) (a ∷ rest) x a parted at (inl refl) number
      (committed_is number (commit_number x.fate) its) (committed_is number (commit_number a.fate) own)))

  pub entered_more : (indices more : IndexMap) → Enters i (commit_number a.fate) indices more
      → EnteredBefore all i indices → EnteredBefore all (suc i) more
  entered_more indices more enters before number =
      ap (λ o. accounts_at all (cons_option o [])) (enters number)
      ∙ by (committed_as number a) refl
      ∙ sym (ap (filter (committed_as number)) (took_there all i a rest here)
      ∙ filter-append (committed_as number) (take i all) (a ∷ []))
    where
      by : (b : Bool) → committed_as number a ≡ b
          → accounts_at all (cons_option (cond b (Some i) (get nat_cmp indices number)) [])
          ≡ filter (committed_as number) (take i all) ++ cond b (a ∷ []) []
      by true own =
          ap (λ o. cons_option o [] ++ []) (got_there all i a rest here)
          ∙ ap (λ xs. xs ++ a ∷ []) (sym (none_before number own))
      by false own = before number ∙ sym (append-nil (filter (committed_as number) (take i all)))

pub entered_begun : (all : List Account) (indices : IndexMap) → IsEmpty indices → EnteredBefore all 0 indices
entered_begun all indices empty number =
    ap (λ es. accounts_at all (cons_option (lookup (is_at (nat_cmp number)) es) [])) empty

pub entered_all : (all : List Account) (i : ℕ) (indices : IndexMap) → drop i all ≡ [] → EnteredBefore all i indices
    → AreNumbered all indices
entered_all all i indices over before number =
    before number
    ∙ ap (filter (committed_as number))
    (sym (append-nil (take i all)) ∙ ap (λ xs. take i all ++ xs) (sym over) ∙ take-append-drop i all)

-- what an entry sets
pub entered_one : (own i : ℕ) (indices more : IndexMap)
    → ((q : ℕ) → get nat_cmp more q ≡ cond (is_eq (nat_cmp own q)) (Some i) (get nat_cmp indices q))
    → Enters i (Some own) indices more
entered_one own i indices more updates number =
    updates number ∙ ap (λ b. cond b (Some i) (get nat_cmp indices number)) (unsigned_tied own number)

-- ---- entered indices are low

pub below_begun : (most : ℕ) (indices : IndexMap) → IsEmpty indices → AreBelow most indices
below_begun most indices empty number =
    subst (λ es. IfSome (lookup (is_at (nat_cmp number)) es) (λ index. index < most)) (sym empty) tt

pub below_more : (most i : ℕ) (own : Option ℕ) (indices more : IndexMap) → i < most → Enters i own indices more
    → AreBelow most indices → AreBelow most more
below_more most i own indices more low enters below number =
    subst (λ o. IfSome o (λ index. index < most)) (sym (enters number))
    (by (is_number number own) (get nat_cmp indices number) (below number))
  where
    by : (b : Bool) (o : Option ℕ) → IfSome o (λ index. index < most)
        → IfSome (cond b (Some i) o) (λ index. index < most)
    by true o own_low = low
    by false o own_low = own_low

-- ---- transactions one after the other

module _ (scripts : List Script) (told : List Told) (i : ℕ) (t : Told) (low : i < length scripts)
    (low_told : i < length told) (at_t : t ≡ slice_index_or told i t)
    (none : first_of (journal_findings (accounts_from 1 scripts told)) ≡ None) where
  pub one_entered : (indices more : IndexMap) → Enters i (commit_number t.fate) indices more
      → EnteredBefore (accounts_from 1 scripts told) i indices
      → EnteredBefore (accounts_from 1 scripts told) (i + 1) more
  one_entered indices more enters before =
      let n : suc i ≡ i + 1 = omega arith in
      let all = accounts_from 1 scripts told in
      let some = behind_some scripts told i t low low_told in
      let a = account_of (suc i) some.0 (slice_index_or told i t) in
      let own : commit_number t.fate ≡ commit_number a.fate = ap (λ (x : Told). commit_number x.fate) at_t in
      subst (λ k. EnteredBefore all k more) n
      (entered_more all i a (accounts_behind scripts told (suc i)) (dropped_is scripts told i ∙ some.1)
      (apart_if_none all none) indices more (subst (λ o. Enters i o indices more) own enters) before)

pub all_entered : (scripts : List Script) (told : List Told) (i : ℕ) (indices : IndexMap)
    → min (length scripts) (length told) ≤ i → EnteredBefore (accounts_from 1 scripts told) i indices
    → AreNumbered (accounts_from 1 scripts told) indices
all_entered scripts told i indices over before =
    entered_all (accounts_from 1 scripts told) i indices
    (dropped_is scripts told i ∙ nothing_behind scripts told i over) before

-- ---- in order

-- those of so many numbers stand there
abbrev pub OrderedBefore : List Account → ℕ → List ℕ → Type 0
OrderedBefore all count order =
    accounts_at all order ≡ flat_map (λ number. filter (committed_as number) all) (numbers_from 1 count)

one_number_more : (first count : ℕ) → numbers_from first (suc count) ≡ numbers_from first count ++ (first + count) ∷ []
one_number_more first zero = let n : first ≡ first + 0 = omega arith in ap (λ k. k ∷ []) n
one_number_more first (suc count) =
    let n : suc first + count ≡ first + suc count = omega arith in
    ap (λ more. first ∷ more) (one_number_more (suc first) count
    ∙ ap (λ k. numbers_from (suc first) count ++ k ∷ []) n)

pub ordered_more : (all : List Account) (count : ℕ) (indices : IndexMap) (order more : List ℕ) → AreNumbered all indices
    → more ≡ order ++ cons_option (get nat_cmp indices (count + 1)) [] → OrderedBefore all count order
    → OrderedBefore all (count + 1) more
ordered_more all count indices order more are is before =
    let n : suc count ≡ count + 1 = omega arith in
    let m : count + 1 ≡ 1 + count = omega arith in
    let own = λ (number : ℕ). filter (committed_as number) all in
    let new = cons_option (get nat_cmp indices (count + 1)) [] in
    subst (λ k. OrderedBefore all k more) n
    (ap (accounts_at all) is
    ∙ flat_map-append (λ index. cons_option (slice_get all index) []) order new
    ∙ (λ j. before j ++ are (count + 1) j)
    ∙ ap (λ k. flat_map own (numbers_from 1 count) ++ own k) m
    ∙ ap (λ xs. flat_map own (numbers_from 1 count) ++ xs) (sym (append-nil (own (1 + count))))
    ∙ sym (flat_map-append own (numbers_from 1 count) ((1 + count) ∷ []))
    ∙ ap (flat_map own) (sym (one_number_more 1 count)))

pub ordered_all : (all : List Account) (count i : ℕ) (order : List ℕ) → count ≡ commit_count all → i ≡ count
    → OrderedBefore all i order → accounts_at all order ≡ in_commit_order all
ordered_all all count i order counted over before =
    before ∙ ap (λ k. flat_map (λ number. filter (committed_as number) all) (numbers_from 1 k)) (over ∙ counted)

pub below_pushed : (most : ℕ) (order more : List ℕ) (own : Option ℕ) → more ≡ order ++ cons_option own []
    → IfSome own (λ index. index < most) → AllByRecursion (λ index. index < most) order
    → AllByRecursion (λ index. index < most) more
below_pushed most order more own is low below =
    subst (AllByRecursion (λ index. index < most)) (sym is)
    (all_joined (λ index. index < most) order (cons_option own []) below (by own low))
  where
    by : (o : Option ℕ) → IfSome o (λ index. index < most) → AllByRecursion (λ index. index < most) (cons_option o [])
    by None low = tt
    by (Some index) low = (low, tt)
