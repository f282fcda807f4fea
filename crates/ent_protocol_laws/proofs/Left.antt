-- Members that leave a run stand elsewhere afterwards: among those with a fate, or in the dormant list.
use Rattle.std.proofs.Common.{◌≡◌, ◌≤◌, ◌+◌, ℕ, suc, Bool, true, false, ◌==◌, List, [], ◌∷◌}
use Rattle.std.proofs.Common.{refl, sym, ap, subst, ◌∙◌, inl, inr, arith, Option, Some, None}
use Rattle.std.specs.List.{filter, filter_map, cons_option}
use Rattle.ent_semantics.specs.declared.book.Fate.{Fate}
use Rattle.ent_semantics.specs.declared.book.Fated.{Fated}
use Rattle.ent_protocol.specs.Commit.{commit_fates}
use Rattle.ent_protocol.specs.Rollback.{Cause, fate_of, fated_as, fated_by, dormant_by, is_among}
use Rattle.ent_protocol.specs.State.{Submitted, Member, Dormant, by_number}
use Rattle.ent_lists.specs.Elements.{In, clash, or_cases, or_first, or_second, same_number, number_itself, not_so}
use Rattle.ent_lists.specs.Elements.{of_filter, to_filter}
use Rattle.ent_protocol_laws.proofs.Times.{one_if, count, count_in, in_count, one_of, count_by_number}

abbrev pub tx_of : Member → ℕ
tx_of member = member.tx

abbrev pub dormant_tx : Dormant → ℕ
dormant_tx dormant = dormant.tx

abbrev pub fated_tx : Fated → ℕ
fated_tx fated = fated.tx

-- ---- commits

pub commits_counted : (n number : ℕ) (ms : List Member)
    → count fated_tx n (commit_fates number ms) ≡ count tx_of n ms
commits_counted n number [] = refl
commits_counted n number (m ∷ ms) = ap (one_if (m.tx == n)) (commits_counted n (suc number) ms)

-- ---- rollbacks

fated_is : (submitted : List Submitted) (cause : Cause) (m : Member) (f : Option Fate)
    → fate_of submitted cause m ≡ f → fated_by submitted cause m ≡ fated_as m.tx f
fated_is submitted cause m f e = ap (fated_as m.tx) e

dormant_none : (submitted : List Submitted) (cause : Cause) (m : Member) (fate : Fate)
    → fate_of submitted cause m ≡ Some fate → dormant_by submitted cause m ≡ None
dormant_none submitted cause m fate e = rw e refl

dormant_some : (submitted : List Submitted) (cause : Cause) (m : Member) → fate_of submitted cause m ≡ None
    → dormant_by submitted cause m ≡ Some (record { tx = m.tx; runs = m.attempt })
dormant_some submitted cause m e = rw e refl

one_fated : (b : Bool) (d f k : ℕ) → d + f ≡ k → d + one_if b f ≡ one_if b k
one_fated true d f k e = omega (arith, e)
one_fated false d f k e = e

one_dormant : (b : Bool) (d f k : ℕ) → d + f ≡ k → one_if b d + f ≡ one_if b k
one_dormant true d f k e = omega (arith, e)
one_dormant false d f k e = e

module _ (submitted : List Submitted) (cause : Cause) (n : ℕ) where
  pub left_counted : (ms : List Member)
      → count dormant_tx n (filter_map (dormant_by submitted cause) ms)
      + count fated_tx n (filter_map (fated_by submitted cause) ms)
      ≡ count tx_of n ms
  left_counted [] = refl
  left_counted (m ∷ ms) = by (fate_of submitted cause m) refl (left_counted ms)
    where
      by : (f : Option Fate) → fate_of submitted cause m ≡ f
          → count dormant_tx n (filter_map (dormant_by submitted cause) ms)
          + count fated_tx n (filter_map (fated_by submitted cause) ms)
          ≡ count tx_of n ms
          → count dormant_tx n
          (cons_option (dormant_by submitted cause m) (filter_map (dormant_by submitted cause) ms))
          + count fated_tx n (cons_option (fated_by submitted cause m) (filter_map (fated_by submitted cause) ms))
          ≡ one_if (m.tx == n) (count tx_of n ms)
      by (Some fate) e rest =
          (λ i. count dormant_tx n
          (cons_option (dormant_none submitted cause m fate e i) (filter_map (dormant_by submitted cause) ms))
          + count fated_tx n
          (cons_option (fated_is submitted cause m (Some fate) e i) (filter_map (fated_by submitted cause) ms)))
          ∙ one_fated (m.tx == n) (count dormant_tx n (filter_map (dormant_by submitted cause) ms))
          (count fated_tx n (filter_map (fated_by submitted cause) ms)) (count tx_of n ms) rest
      by None e rest =
          (λ i. count dormant_tx n
          (cons_option (dormant_some submitted cause m e i) (filter_map (dormant_by submitted cause) ms))
          + count fated_tx n
          (cons_option (fated_is submitted cause m None e i) (filter_map (fated_by submitted cause) ms)))
          ∙ one_dormant (m.tx == n) (count dormant_tx n (filter_map (dormant_by submitted cause) ms))
          (count fated_tx n (filter_map (fated_by submitted cause) ms)) (count tx_of n ms) rest

-- ---- who is among those that leave

pub among_counted : (gone : List Member) (n : ℕ) → is_among gone n ≡ true → 1 ≤ count tx_of n gone
among_counted [] n is = cc
among_counted (m ∷ ms) n is =
    elim (or_cases (m.tx == n) (is_among ms n) is) [
      | inl here ↦ count_in tx_of n (m ∷ ms) m (inl refl) (same_number m.tx n here)
      | inr there ↦
          let r = in_count tx_of n ms (among_counted ms n there) in
          count_in tx_of n (m ∷ ms) r.0 (inr r.1) r.2
    ]

pub in_among : (gone : List Member) (m : Member) → In m gone → is_among gone m.tx ≡ true
in_among [] m at = absurd at
in_among (x ∷ xs) m (inl same) =
    or_first (x.tx == m.tx) (is_among xs m.tx) (ap (λ (y : Member). x.tx == y.tx) same ∙ number_itself x.tx)
in_among (x ∷ xs) m (inr at) = or_second (x.tx == m.tx) (is_among xs m.tx) (in_among xs m at)

pub counted_among : (gone : List Member) (n : ℕ) → 1 ≤ count tx_of n gone → is_among gone n ≡ true
counted_among gone n h =
    let r = in_count tx_of n gone h in
    ap (is_among gone) (sym r.2) ∙ in_among gone r.0 r.1

-- those of some members that pass a test are told from the others by their numbers
pub among_passing : (p : Member → Bool) (ms : List Member) → ((n : ℕ) → count tx_of n ms ≤ 1) → (m : Member)
    → In m ms → is_among (by_number tx_of (filter p ms)) m.tx ≡ p m
among_passing p ms once m at = by (p m) refl
  where
    gone : List Member
    gone = by_number tx_of (filter p ms)

    by : (b : Bool) → p m ≡ b → is_among (by_number tx_of (filter p ms)) m.tx ≡ p m
    by true is =
        counted_among (by_number tx_of (filter p ms)) m.tx
        (subst (λ k. 1 ≤ k) (sym (count_by_number tx_of m.tx tx_of (filter p ms)))
        (count_in tx_of m.tx (filter p ms) m (to_filter p ms m at is) refl)) ∙ sym is
    by false is =
        not_so (is_among (by_number tx_of (filter p ms)) m.tx) (λ among.
        let there : 1 ≤ count tx_of m.tx (filter p ms) =
        subst (λ k. 1 ≤ k) (count_by_number tx_of m.tx tx_of (filter p ms))
        (among_counted (by_number tx_of (filter p ms)) m.tx among) in
        let r = in_count tx_of m.tx (filter p ms) there in
        let q = of_filter p ms r.0 r.1 in
        clash (p m) (ap p (sym (one_of tx_of m.tx ms r.0 m q.0 at r.2 refl (once m.tx))) ∙ q.1) is) ∙ sym is
