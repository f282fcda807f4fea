-- Entries in order, and the first from one on.
use Rattle.std.proofs.Common.{◌≡◌, ◌≢◌, ◌≤◌, ◌<◌, ℕ, true, false, List, [], ◌∷◌, refl, sym, subst, ap, ◌∙◌}
use Rattle.std.proofs.Common.{arith, ⊎_elim, IfSome}
use Rattle.std.specs.BTreeSet.{BTreeSet, IsKeyInRange, IsKeyRangeOf}
use Rattle.std.specs.BTreeMap.Range.{IsInRange, IsLeBy}
use Rattle.std.specs.Cmp.{IsTotalOrder}
use Rattle.std.specs.Ordering.{is_gt, nat_cmp, ordering_then}
use Rattle.std.specs.declared.cmp.Ordering.{Ordering}
use Rattle.std.specs.declared.cmp.Ordering.TheVariants.{Less, Equal, Greater}
use Rattle.std.specs.declared.ops.Bound.TheVariants.{Included, Unbounded}
use Rattle.std.specs.List.{slice_get}
use Rattle.std.proofs.lemmas.Bool.{cases_lt, cond-true, false_from_ne_true, lt-ltb}
use Rattle.std.proofs.lemmas.Cmp.{nat_cmp_total, on_total, then_total, tied_itself}
use Rattle.std.proofs.lemmas.Map.Keys.{le_from_not_gt}
use Rattle.ent_meetings.specs.Postings.{entry_cmp, has}
use Rattle.ent_meetings.specs.declared.entry.Entry.{Entry}

pub entries_total : IsTotalOrder entry_cmp
entries_total =
    then_total (on_total (λ (e : Entry). e.key) nat_cmp_total) (on_total (λ (e : Entry). e.ticket) nat_cmp_total)

-- the entry of a key and a ticket
abbrev pub at : ℕ → ℕ → Entry
at key ticket = record { key = key; ticket = ticket }

pub less : (a b : ℕ) → a < b → nat_cmp a b ≡ Less
less a b low = cond-true _ _ _ (lt-ltb a b low)

pub not_greater : (a b : ℕ) → a ≤ b → is_gt (nat_cmp a b) ≡ false
not_greater a b low =
    ⊎_elim (λ lower. ap is_gt (less a b lower))
    (λ upper. ap is_gt (subst (λ (n : ℕ). nat_cmp a n ≡ Equal) (omega arith) (tied_itself nat_cmp_total a)))
    (cases_lt a b)

pub under_key : (key : ℕ) (a b : ℕ) → entry_cmp (at key a) (at key b) ≡ nat_cmp a b
under_key key a b = ap (λ (o : Ordering). ordering_then o (nat_cmp a b)) (tied_itself nat_cmp_total key)

then_parts : (o p : Ordering) → is_gt (ordering_then o p) ≡ false → is_gt o ≡ false
then_parts Less p is = refl
then_parts Equal p is = refl
then_parts Greater p is = is

-- of two entries of one key in order, the tickets are
in_order : (one other : Entry) → one.key ≡ other.key → is_gt (entry_cmp one other) ≡ false → one.ticket ≤ other.ticket
in_order one other same is =
    le_from_not_gt one.ticket other.ticket
    (sym (ap is_gt (subst (λ (k : ℕ). entry_cmp one (at k other.ticket) ≡ nat_cmp one.ticket other.ticket) same
    (under_key one.key one.ticket other.ticket))) ∙ is)

module _ (entries : BTreeSet Entry) (key from : ℕ) (found : List Entry)
    (range : IsKeyRangeOf entry_cmp (Included (at key from)) Unbounded entries found) where
  in_range : (ticket : ℕ) → from ≤ ticket → IsInRange entry_cmp (Included (at key from)) Unbounded (at key ticket)
  in_range ticket low = (ap is_gt (under_key key from ticket) ∙ not_greater from ticket low, tt)

  pub none_found : found ≡ [] → (ticket : ℕ) → from ≤ ticket → has entries key ticket ≡ false
  none_found none ticket low = range.5 none (at key ticket) (in_range ticket low)

  module _ (first : Entry) (rest : List Entry) (begins : found ≡ first ∷ rest) where
    least : (ticket : ℕ) → from ≤ ticket → has entries key ticket ≡ true
        → is_gt (entry_cmp first (at key ticket)) ≡ false
    least ticket low there =
        subst (λ (es : List Entry). IfSome (slice_get es 0) (λ k. IsLeBy entry_cmp k (at key ticket))) begins
        (range.2 (at key ticket) (in_range ticket low) there)

    stands : IsKeyInRange entry_cmp (Included (at key from)) Unbounded entries first
    stands =
        subst (λ (es : List Entry). IfSome (slice_get es 0)
        (IsKeyInRange entry_cmp (Included (at key from)) Unbounded entries)) begins range.1

    pub other_key : first.key ≢ key → (ticket : ℕ) → from ≤ ticket → has entries key ticket ≡ false
    other_key apart ticket low =
        false_from_ne_true (has entries key ticket) (λ there.
        let up : first.key ≤ key =
        le_from_not_gt first.key key (then_parts (nat_cmp first.key key) (nat_cmp first.ticket ticket)
        (least ticket low there)) in
        let down : key ≤ first.key =
        le_from_not_gt key first.key (then_parts (nat_cmp key first.key) (nat_cmp from first.ticket) stands.0.0) in
        apart (omega arith))

    pub from_first : first.key ≡ key → from ≤ first.ticket
    from_first same = in_order (at key from) first (sym same) stands.0.0

    pub has_first : first.key ≡ key → has entries key first.ticket ≡ true
    has_first same = subst (λ (k : ℕ). has entries k first.ticket ≡ true) same stands.1

    pub none_before : first.key ≡ key → (ticket : ℕ) → from ≤ ticket → ticket < first.ticket
        → has entries key ticket ≡ false
    none_before same ticket low before =
        false_from_ne_true (has entries key ticket) (λ there.
        let later : first.ticket ≤ ticket = in_order first (at key ticket) same (least ticket low there) in
        absurd (omega arith))
