-- Where the rule of the journal holds, commits are numbered from 1 on, each once.
use Rattle.std.proofs.Common.{◌≡◌, ℕ, zero, suc, ◌+◌, ◌<◌, ◌≤◌, ◌==◌, Bool, true, false, cond, not, ◌||◌, ◌&&◌, List}
use Rattle.std.proofs.Common.{[]}
use Rattle.std.proofs.Common.{◌∷◌, ◌++◌, length, refl, sym, ap, subst, ◌∙◌, inl, inr, arith, rules, Option, Some, None}
use Rattle.std.proofs.Common.{slice_get, nat_lt, nat_le, eqb, is_some, flat_map, filter_map}
use Rattle.std.specs.List.{cons_option, filter, list_any, IsDistinct}
use Rattle.std.proofs.lemmas.Map.Steps.{length-le_from_distinct_below}
use Rattle.std.proofs.lemmas.Bool.{leb-true, not_from_false}
use Rattle.ent_tree.specs.declared.script.End.{End}
use Rattle.ent_history.specs.Account.{Account, commit_number, has_committed, is_number, committed_as, numbers_from}
use Rattle.ent_history.specs.Account.{commit_count, in_commit_order}
use Rattle.ent_history.specs.Journal.{commits, is_next, number_finding, journal_from, journal_findings}
use Rattle.ent_history.specs.declared.finding.Rule.TheVariants as rule
use Rattle.ent_history.specs.declared.finding.Thing.TheVariants as thing
use Rattle.ent_history.proofs.Accounts.{Other, one_account}
use Rattle.ent_history.proofs.Found.{unless_holds, holds_unless}
use Rattle.ent_lists.specs.Elements.{In, Pairs, of_all, to_all, and_both, both_and, turned, clash, neither, any_some}
use Rattle.ent_lists.specs.Elements.{any_none, same_number, number_itself, other_number, in_flat}
use Rattle.ent_lists.specs.Elements.{of_filter, to_filter, pairs_filtered, pairs_joined, got_in, pairs_by}
use Rattle.ent_lists.specs.Elements.{NotBoth, only_one}
use Rattle.ent_lists.proofs.Numbers.{plus_suc}
use Rattle.ent_history.proofs.RuleLists.{none_first, none_second, both_none}

-- two transactions committed with one number
abbrev pub NotSame : Account → Account → Type 0
NotSame first second =
    (n : ℕ) → commit_number first.fate ≡ Some n → commit_number second.fate ≡ Some n → ⊥

pub record Fit (count : ℕ) (above : List ℕ) (n : ℕ) (end : End) : Type 0 where
  pub positive : 0 < n
  pub most : n ≤ count
  pub new : list_any (λ other. other == n) above ≡ false
  pub ends : commits end ≡ true

below_positive : (n : ℕ) → nat_lt 0 n ≡ true → 0 < n
below_positive n e = grind (arith, rules)

positive_below : (n : ℕ) → 0 < n → nat_lt 0 n ≡ true
positive_below n e = grind (arith, rules)

most_below : (n count : ℕ) → n ≤ count → nat_le n count ≡ true
most_below n count e = grind (arith, rules)

fit_of : (count : ℕ) (above : List ℕ) (n : ℕ) (end : End) → (is_next count above n && commits end) ≡ true
    → Fit count above n end
fit_of count above n end e =
    let a = and_both (is_next count above n) (commits end) e in
    let b = and_both (nat_lt 0 n && nat_le n count) (not (list_any (λ other. other == n) above)) a.0 in
    let c = and_both (nat_lt 0 n) (nat_le n count) b.0 in
    record {
      positive = below_positive n c.0;
      most = leb-true n count c.1;
      new = turned (list_any (λ other. other == n) above) b.1;
      ends = a.1;
    }

of_fit : (count : ℕ) (above : List ℕ) (n : ℕ) (end : End) → Fit count above n end
    → (is_next count above n && commits end) ≡ true
of_fit count above n end fit =
    both_and (is_next count above n) (commits end)
    (both_and (nat_lt 0 n && nat_le n count) (not (list_any (λ other. other == n) above))
    (both_and (nat_lt 0 n) (nat_le n count) (positive_below n fit.positive) (most_below n count fit.most))
    (not_from_false (list_any (λ other. other == n) above) fit.new))
    fit.ends

less_above : (number : Option ℕ) (above : List ℕ) (n : ℕ)
    → list_any (λ other. other == n) (cons_option number above) ≡ false
    → list_any (λ other. other == n) above ≡ false
less_above None above n e = e
less_above (Some m) above n e = (neither (m == n) (list_any (λ other. other == n) above) e).1

module _ (count : ℕ) where
  head_fits : (above : List ℕ) (x : Account) (n : ℕ) → commit_number x.fate ≡ Some n
      → number_finding count above x (commit_number x.fate) ≡ [] → Fit count above n x.script.end
  head_fits above x n is e =
      fit_of count above n x.script.end
      (unless_holds (is_next count above n && commits x.script.end) rule.Journal (thing.Transaction x.tx)
      (subst (λ (o : Option ℕ). number_finding count above x o ≡ []) is e))

  -- each that has committed fits behind what stands above
  each_fits : (above : List ℕ) (all : List Account) → journal_from count above all ≡ [] → (a : Account) → In a all
      → (n : ℕ) → commit_number a.fate ≡ Some n → Fit count above n a.script.end
  each_fits above [] e a at n is = absurd at
  each_fits above (x ∷ xs) e a (inl same) n is =
      subst (λ (y : Account). Fit count above n y.script.end) (sym same)
      (head_fits above x n (ap (λ (y : Account). commit_number y.fate) (sym same) ∙ is)
      (none_first (number_finding count above x (commit_number x.fate))
      (journal_from count (cons_option (commit_number x.fate) above) xs) e))
  each_fits above (x ∷ xs) e a (inr at) n is =
      let rest = each_fits (cons_option (commit_number x.fate) above) xs
      (none_second (number_finding count above x (commit_number x.fate))
      (journal_from count (cons_option (commit_number x.fate) above) xs) e) a at n is in
      record {
        positive = rest.positive;
        most = rest.most;
        new = less_above (commit_number x.fate) above n rest.new;
        ends = rest.ends;
      }

  -- no two have committed with one number
  numbers_apart : (above : List ℕ) (all : List Account) → journal_from count above all ≡ [] → Pairs NotSame all
  numbers_apart above [] e = tt
  numbers_apart above (x ∷ xs) e =
      let rest = none_second (number_finding count above x (commit_number x.fate))
      (journal_from count (cons_option (commit_number x.fate) above) xs) e in (
        to_all (NotSame x) xs (λ b bt n first second.
            let fit = each_fits (cons_option (commit_number x.fate) above) xs rest b bt n second in
            let new = subst (λ (o : Option ℕ). list_any (λ other. other == n) (cons_option o above) ≡ false) first
            fit.new in
            clash (n == n) (number_itself n) (neither (n == n) (list_any (λ other. other == n) above) new).0),
        numbers_apart (cons_option (commit_number x.fate) above) xs rest,
      )

  new_above : (number : Option ℕ) (above : List ℕ) (n : ℕ) → (number ≡ Some n → ⊥)
      → list_any (λ other. other == n) above ≡ false
      → list_any (λ other. other == n) (cons_option number above) ≡ false
  new_above None above n differs e = e
  new_above (Some m) above n differs e =
      (λ i. other_number m n (λ same. differs (ap (λ k. Some k) same)) i || e i)

  head_none : (above : List ℕ) (x : Account) (number : Option ℕ)
      → ((n : ℕ) → number ≡ Some n → Fit count above n x.script.end) → number_finding count above x number ≡ []
  head_none above x None fits = refl
  head_none above x (Some n) fits =
      holds_unless (is_next count above n && commits x.script.end) rule.Journal (thing.Transaction x.tx)
      (of_fit count above n x.script.end (fits n refl))

  -- and then nothing is found
  none_found : (above : List ℕ) (all : List Account)
      → ((a : Account) → In a all → (n : ℕ) → commit_number a.fate ≡ Some n → Fit count above n a.script.end)
      → Pairs NotSame all → journal_from count above all ≡ []
  none_found above [] fits apart = refl
  none_found above (x ∷ xs) fits apart =
      both_none (number_finding count above x (commit_number x.fate))
      (journal_from count (cons_option (commit_number x.fate) above) xs)
      (head_none above x (commit_number x.fate) (fits x (inl refl)))
      (none_found (cons_option (commit_number x.fate) above) xs (λ a at n is.
      let own = fits a (inr at) n is in
      record {
        positive = own.positive;
        most = own.most;
        new = new_above (commit_number x.fate) above n (λ first. of_all (NotSame x) xs a apart.0 at n first is) own.new;
        ends = own.ends;
      }) apart.1)

-- what the rule of the journal says
pub record IsNumbered (all : List Account) : Type 0 where
  pub fits : (a : Account) → In a all → (n : ℕ) → commit_number a.fate ≡ Some n
      → (0 < n) × (n ≤ commit_count all) × (commits a.script.end ≡ true)
  pub apart : Pairs NotSame all

pub numbered_if_none : (all : List Account) → journal_findings all ≡ [] → IsNumbered all
numbered_if_none all e =
    record {
      fits = λ a at n is.
          let fit = each_fits (commit_count all) [] all e a at n is in (fit.positive, fit.most, fit.ends);
      apart = numbers_apart (commit_count all) [] all e;
    }

pub none_if_numbered : (all : List Account) → IsNumbered all → journal_findings all ≡ []
none_if_numbered all is =
    none_found (commit_count all) [] all (λ a at n own.
    let fit = is.fits a at n own in
    record { positive = fit.0; most = fit.1; new = refl; ends = fit.2 }) is.apart

-- ---- each number is some commit's

abbrev account_commit : Account → Option ℕ
account_commit a = commit_number a.fate

numbers_length : (all : List Account) → length (filter_map account_commit all) ≡ length (filter has_committed all)
numbers_length [] = refl
numbers_length (a ∷ all) = by (commit_number a.fate) (numbers_length all)
  where
    by : (o : Option ℕ) → length (filter_map account_commit all) ≡ length (filter has_committed all)
        → length (cons_option o (filter_map account_commit all))
        ≡ length (cond (is_some o) (a ∷ filter has_committed all) (filter has_committed all))
    by None e = e
    by (Some n) e = ap (λ (k : ℕ). suc k) e

of_numbers : (all : List Account) (n : ℕ) → In n (filter_map account_commit all)
    → (a : Account) × In a all × (commit_number a.fate ≡ Some n)
of_numbers [] n at = absurd at
of_numbers (x ∷ xs) n at = by (commit_number x.fate) refl at (of_numbers xs n)
  where
    by : (o : Option ℕ) → commit_number x.fate ≡ o → In n (cons_option o (filter_map account_commit xs))
        → (In n (filter_map account_commit xs) → (a : Account) × In a xs × (commit_number a.fate ≡ Some n))
        → (a : Account) × In a (x ∷ xs) × (commit_number a.fate ≡ Some n)
    by None is at more = let r = more at in (r.0, inr r.1, r.2)
    by (Some m) is (inl same) more = (x, inl refl, is ∙ ap (λ k. Some k) (sym same))
    by (Some m) is (inr at) more = let r = more at in (r.0, inr r.1, r.2)

distinct_from : (all : List Account) → Pairs NotSame all → IsDistinct eqb (filter_map account_commit all)
unfolding IsDistinct
distinct_from [] apart = tt
distinct_from (x ∷ xs) apart = by (commit_number x.fate) refl (distinct_from xs apart.1)
  where
    by : (o : Option ℕ) → commit_number x.fate ≡ o → IsDistinct eqb (filter_map account_commit xs)
        → IsDistinct eqb (cons_option o (filter_map account_commit xs))
    by None is rest = rest
    by (Some m) is rest = (
      to_all (λ k. eqb m k ≡ false) (filter_map account_commit xs) (λ k at.
          other_number m k (λ same.
          let r = of_numbers xs k at in
          of_all (NotSame x) xs r.0 apart.0 r.1 k (is ∙ ap (λ j. Some j) same) r.2)),
      rest,
    )

module _ (all : List Account) (is : IsNumbered all) where
  abbrev ns : List ℕ
  ns = filter_map account_commit all

  ns_low : (q : ℕ) → In q ns → (0 < q) × (q ≤ commit_count all)
  ns_low q at =
      let r = of_numbers all q at in
      let fit = is.fits r.0 r.1 q r.2 in
      (fit.0, fit.1)

  -- were a number missing, there would be too many numbers below the next
  none_missing : (n : ℕ) → 0 < n → n ≤ commit_count all → list_any (eqb n) ns ≡ false → ⊥
  unfolding IsDistinct
  none_missing n positive most missing =
      let distinct : IsDistinct eqb (0 ∷ n ∷ ns) = (
        (
          other_number 0 n (λ e. omega (arith, e, positive)),
          to_all (λ k. eqb 0 k ≡ false) ns (λ k at.
              other_number 0 k (λ e. let low = (ns_low k at).0 in omega (arith, e, low))),
        ),
        (to_all (λ k. eqb n k ≡ false) ns (λ k at. any_none (eqb n) ns missing k at), distinct_from all is.apart),
      ) in
      let many = length-le_from_distinct_below (0 ∷ n ∷ ns) (suc (commit_count all)) distinct (λ q among.
      let r = any_some (eqb q) (0 ∷ n ∷ ns) among in
      low q r.0 (same_number q r.0 r.2) r.1) in
      let counted = numbers_length all in
      omega (arith, many, counted)
    where
      low : (q k : ℕ) → q ≡ k → In k (0 ∷ n ∷ ns) → q < suc (commit_count all)
      low q k e (inl zero_is) = omega (arith, e, zero_is)
      low q k e (inr (inl n_is)) = omega (arith, e, n_is, most)
      low q k e (inr (inr at)) = let h = (ns_low k at).1 in omega (arith, e, h)

  pub each_number : (n : ℕ) → 0 < n → n ≤ commit_count all
      → (a : Account) × In a all × (commit_number a.fate ≡ Some n)
  each_number n positive most =
      let among : list_any (eqb n) ns ≡ true = by (list_any (eqb n) ns) refl in
      let r = any_some (eqb n) ns among in
      of_numbers all n (subst (λ (k : ℕ). In k ns) (sym (same_number n r.0 r.2)) r.1)
    where
      by : (b : Bool) → list_any (eqb n) ns ≡ b → list_any (eqb n) ns ≡ true
      by true e = e
      by false e = absurd (none_missing n positive most e)

-- ---- those that have committed, in order

pub committed_is : (n : ℕ) (o : Option ℕ) → is_number n o ≡ true → o ≡ Some n
committed_is n None e = cc
committed_is n (Some m) e = ap (λ k. Some k) (same_number m n e)

is_committed : (n : ℕ) (o : Option ℕ) → o ≡ Some n → is_number n o ≡ true
is_committed n o e = ap (is_number n) e ∙ number_itself n

committed_some : (n : ℕ) (o : Option ℕ) → o ≡ Some n → is_some o ≡ true
committed_some n o e = ap is_some e

in_numbers : (first m n : ℕ) → In n (numbers_from first m) → (k : ℕ) × (k < m) × (n ≡ first + k)
in_numbers first zero n at = absurd at
in_numbers first (suc m) n (inl same) = (0, omega arith, omega (arith, same))
in_numbers first (suc m) n (inr at) =
    let r = in_numbers (suc first) m n at in
    let less = r.1 in
    let is = r.2 in
    (suc r.0, omega (arith, less), omega (arith, is))

module _ (all : List Account) where
  abbrev as_number : ℕ → List Account
  as_number n = filter (committed_as n) all

  abbrev ordered : ℕ → ℕ → List Account
  ordered first m = flat_map as_number (numbers_from first m)

  of_ordered : (first m : ℕ) (a : Account) → In a (ordered first m)
      → (k : ℕ) × (k < m) × In a all × (commit_number a.fate ≡ Some (first + k))
  of_ordered first m a at =
      let r = in_flat as_number (numbers_from first m) a at in
      let f = of_filter (committed_as r.0) all a r.2 in
      let n = in_numbers first m r.0 r.1 in
      (n.0, n.1, f.0, committed_is r.0 (commit_number a.fate) f.1 ∙ ap (λ k. Some k) n.2)

  some_number : (n m : ℕ) → Some n ≡ Some m → n ≡ m
  some_number n m e = cc

  ordered_apart : (first m : ℕ) → Pairs Other all → Pairs Other (ordered first m)
  ordered_apart first zero apart = tt
  ordered_apart first (suc m) apart =
      pairs_joined Other (as_number first) (ordered (suc first) m)
      (pairs_filtered Other (committed_as first) all apart) (ordered_apart (suc first) m apart)
      (λ x y xt yt same.
      let f = of_filter (committed_as first) all x xt in
      let r = of_ordered (suc first) m y yt in
      let one = one_account all apart x y f.0 r.2 same in
      let e = some_number first (suc first + r.0)
      (sym (committed_is first (commit_number x.fate) f.1) ∙ ap (λ (a : Account). commit_number a.fate) one ∙ r.3) in
      omega (arith, e))

  -- of each number one has committed with it
  module _ (one : (n : ℕ) → 0 < n → n ≤ commit_count all → (a : Account) × (as_number n ≡ a ∷ [])) where
    one_in : (n : ℕ) (a b : Account) → as_number n ≡ b ∷ [] → In a all → commit_number a.fate ≡ Some n → a ≡ b
    one_in n a b is at own =
        by (subst (In a) is (to_filter (committed_as n) all a at (is_committed n (commit_number a.fate) own)))
      where
        by : In a (b ∷ []) → a ≡ b
        by (inl e) = e
        by (inr bad) = absurd bad

    at_number : (first m k : ℕ) (a : Account) → 0 < first → first + m ≤ suc (commit_count all) → k < m → In a all
        → commit_number a.fate ≡ Some (first + k) → slice_get (ordered first m) k ≡ Some a
    at_number first zero k a low high less at is = absurd (omega (arith, less))
    at_number first (suc m) zero a low high less at is =
        let r = one first low (omega (arith, high)) in
        let n : first + 0 ≡ first = omega arith in
        let same = one_in first a r.0 r.1 at (is ∙ ap (λ k. Some k) n) in
        (λ i. slice_get (r.1 i ++ ordered (suc first) m) 0) ∙ ap (λ x. Some x) (sym same)
    at_number first (suc m) (suc k) a low high less at is =
        let r = one first low (omega (arith, high)) in
        (λ i. slice_get (r.1 i ++ ordered (suc first) m) (suc k))
        ∙ at_number (suc first) m k a (omega arith) (omega (arith, high)) (omega (arith, less)) at
        (is ∙ ap (λ n. Some n) (sym (plus_suc first k)))

    of_number : (first m k : ℕ) (a : Account) → 0 < first → first + m ≤ suc (commit_count all)
        → slice_get (ordered first m) k ≡ Some a → In a all × (commit_number a.fate ≡ Some (first + k))
    of_number first zero k a low high is = cc (is)
    of_number first (suc m) zero a low high is =
        let r = one first low (omega (arith, high)) in
        let e : Some r.0 ≡ Some a = (λ i. slice_get (sym r.1 i ++ ordered (suc first) m) 0) ∙ is in
        let same = some_account r.0 a e in
        let f = of_filter (committed_as first) all a (subst (In a) (sym r.1) (inl (sym same))) in
        let n : first ≡ first + 0 = omega arith in
        (f.0, committed_is first (commit_number a.fate) f.1 ∙ ap (λ k. Some k) n)
      where
        some_account : (x y : Account) → Some x ≡ Some y → x ≡ y
        some_account x y e = cc
    of_number first (suc m) (suc k) a low high is =
        let r = one first low (omega (arith, high)) in
        let rest = of_number (suc first) m k a (omega arith) (omega (arith, high))
        ((λ i. slice_get (sym r.1 i ++ ordered (suc first) m) (suc k)) ∙ is) in
        (rest.0, rest.1 ∙ ap (λ n. Some n) (plus_suc first k))

-- ---- one transaction a number

module _ (all : List Account) (is : IsNumbered all) where
  one_of : (n : ℕ) → 0 < n → n ≤ commit_count all → (a : Account) × (filter (committed_as n) all ≡ a ∷ [])
  one_of n positive most =
      let r = each_number all is n positive most in (
        r.0,
        only_one (committed_as n) all r.0
            (pairs_by NotSame (NotBoth (committed_as n)) all (λ x y not_same first second.
            not_same n (committed_is n (commit_number x.fate) first) (committed_is n (commit_number y.fate) second))
            is.apart)
            r.1 (is_committed n (commit_number r.0.fate) r.2),
      )

  -- the transaction that committed with a number stands at it
  pub at_its_number : (k : ℕ) (a : Account) → In a all → commit_number a.fate ≡ Some (suc k)
      → slice_get (in_commit_order all) k ≡ Some a
  at_its_number k a at own =
      let fit = is.fits a at (suc k) own in
      let most = fit.1 in
      let n : suc k ≡ 1 + k = omega arith in
      at_number all one_of 1 (commit_count all) k a (omega arith) (omega arith) (omega (arith, most)) at
      (own ∙ ap (λ m. Some m) n)

  pub of_its_number : (k : ℕ) (a : Account) → slice_get (in_commit_order all) k ≡ Some a
      → In a all × (commit_number a.fate ≡ Some (suc k))
  of_its_number k a at =
      let r = of_number all one_of 1 (commit_count all) k a (omega arith) (omega arith) at in
      let n : 1 + k ≡ suc k = omega arith in
      (r.0, r.1 ∙ ap (λ m. Some m) n)

  pub in_order : (a : Account) → In a all → has_committed a ≡ true → In a (in_commit_order all)
  in_order a at committed = by (commit_number a.fate) refl committed
    where
      positive_suc : (n : ℕ) → 0 < n → (k : ℕ) × (n ≡ suc k)
      positive_suc zero low = absurd (omega (arith, low))
      positive_suc (suc k) low = (k, refl)

      by : (o : Option ℕ) → commit_number a.fate ≡ o → is_some o ≡ true → In a (in_commit_order all)
      by None own committed = cc
      by (Some n) own committed =
          let k = positive_suc n (is.fits a at n own).0 in
          got_in (in_commit_order all) k.0 a (at_its_number k.0 a at (own ∙ ap (λ m. Some m) k.1))

pub in_order_committed : (all : List Account) (a : Account) → In a (in_commit_order all)
    → In a all × (has_committed a ≡ true)
in_order_committed all a at =
    let r = of_ordered all 1 (commit_count all) a at in
    (r.2, committed_some (1 + r.0) (commit_number a.fate) r.3)

-- the number of one in the order is one of those
pub in_order_number : (all : List Account) (a : Account) → In a (in_commit_order all) → (n : ℕ)
    → commit_number a.fate ≡ Some n → (0 < n) × (n ≤ commit_count all)
in_order_number all a at n own =
    let r = of_ordered all 1 (commit_count all) a at in
    let less = r.1 in
    let e = some_number all n (1 + r.0) (sym own ∙ r.3) in
    (omega (arith, e), omega (arith, e, less))

pub order_apart : (all : List Account) → Pairs Other all → Pairs Other (in_commit_order all)
order_apart all apart = ordered_apart all 1 (commit_count all) apart
