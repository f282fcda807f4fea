-- Each transaction that was submitted is a member, is dormant or has a fate, and once.
use Rattle.std.proofs.Common.{◌≡◌, ◌<◌, ◌≤◌, ◌+◌, ℕ, zero, suc, Bool, true, false, ◌==◌, []}
use Rattle.std.proofs.Common.{◌++◌, map, length, refl, sym, ap, ◌∙◌, arith}
use Rattle.std.proofs.lemmas.List.{length-append, length-map, map-id}
use Rattle.ent_group.specs.declared.members.TheConstants.{MOST_MEMBERS}
use Rattle.ent_protocol.specs.Begin.{replaced}
use Rattle.ent_protocol.specs.State.{State, Member, members}
use Rattle.ent_protocol_laws.proofs.Left.{tx_of, dormant_tx, fated_tx}
use Rattle.ent_lists.specs.Elements.{shorter, number_itself, same_number, clash}
use Rattle.ent_protocol.proofs.Numbers.{replaced_tx}
use Rattle.ent_protocol_laws.proofs.Times.{one_if, count, count_joined}
use Rattle.ent_protocol_laws.proofs.Times.{count_mapped}

-- ---- numbers from 1 on

-- how often a number stands among those from 1 up to another
abbrev pub within : ℕ → ℕ → ℕ
within n zero = 0
within n (suc k) = one_if (suc k == n) (within n k)

pub within_beyond : (n k : ℕ) → k < n → within n k ≡ 0
within_beyond n zero low = refl
within_beyond n (suc k) low = by (suc k == n) refl (within_beyond n k (omega (arith, low)))
  where
    by : (b : Bool) → (suc k == n) ≡ b → within n k ≡ 0 → one_if b (within n k) ≡ 0
    by true e rest = let same = same_number (suc k) n e in absurd (omega (arith, low, same))
    by false e rest = rest

pub within_once : (n k : ℕ) → within n k ≤ 1
within_once n zero = omega arith
within_once n (suc k) = by (suc k == n) refl (within_once n k)
  where
    by : (b : Bool) → (suc k == n) ≡ b → within n k ≤ 1 → one_if b (within n k) ≤ 1
    by true e rest =
        let same = same_number (suc k) n e in
        let none = within_beyond n k (omega (arith, same)) in
        omega (arith, none)
    by false e rest = rest

pub within_there : (n k : ℕ) → 1 ≤ n → n ≤ k → 1 ≤ within n k
within_there n zero low high = absurd (omega (arith, low, high))
within_there n (suc k) low high = by (suc k == n) refl (within_there n k low)
  where
    by : (b : Bool) → (suc k == n) ≡ b → (n ≤ k → 1 ≤ within n k) → 1 ≤ one_if b (within n k)
    by true e rest = omega arith
    by false e rest = rest (less (λ same. clash (suc k == n) (ap (λ m. m == n) same ∙ number_itself n) e))
      where
        less : (suc k ≡ n → ⊥) → n ≤ k
        less differs = omega (arith, high, differs)

pub there_within : (n k : ℕ) → 1 ≤ within n k → (1 ≤ n) × (n ≤ k)
there_within n zero h = absurd (omega (arith, h))
there_within n (suc k) h = by (suc k == n) refl h (there_within n k)
  where
    by : (b : Bool) → (suc k == n) ≡ b → 1 ≤ one_if b (within n k) → (1 ≤ within n k → (1 ≤ n) × (n ≤ k))
        → (1 ≤ n) × (n ≤ suc k)
    by true e h rest = let same = same_number (suc k) n e in (omega (arith, same), omega (arith, same))
    by false e h rest =
        let r = rest h in
        let high = r.1 in
        (r.0, omega (arith, high))

-- ---- what is kept

-- how often a transaction is a member, is dormant and has a fate
abbrev pub places : State → ℕ → ℕ
places s n = count tx_of n (members s) + (count dormant_tx n s.dormant + count fated_tx n s.fates)

pub record Stands (s : State) : Type 0 where
  pub once : (n : ℕ) → places s n ≡ within n (length s.submitted)
  pub idle : s.running ≡ false → (s.prepared ≡ []) × (s.active ≡ [])
  pub few : length (members s) ≤ MOST_MEMBERS

pub members_once : (s : State) → Stands s → (n : ℕ) → count tx_of n (members s) ≤ 1
members_once s h n =
    let all = h.once n in
    let low = within_once n (length s.submitted) in
    less (count tx_of n (members s)) (count dormant_tx n s.dormant + count fated_tx n s.fates) _ all low
  where
    less : (m d w : ℕ) → m + d ≡ w → w ≤ 1 → m ≤ 1
    less m d w e low = omega (arith, e, low)

-- a state with members of the same numbers
pub same_places : (s new : State) → ((n : ℕ) → count tx_of n (members new) ≡ count tx_of n (members s))
    → new.dormant ≡ s.dormant → new.fates ≡ s.fates → new.submitted ≡ s.submitted
    → length (members new) ≤ length (members s)
    → (new.running ≡ false → (new.prepared ≡ []) × (new.active ≡ [])) → Stands s → Stands new
same_places s new counts dormant fates submitted shorter idle h =
    record {
      once = λ n.
          (λ i. counts n i + (count dormant_tx n (dormant i) + count fated_tx n (fates i))) ∙ h.once n
          ∙ ap (λ all. within n (length all)) (sym submitted);
      idle = idle;
      few = let low = h.few in omega (arith, shorter, low);
    }

-- members that become others of their numbers
pub mapped_places : (s new : State) (g f : Member → Member) → ((m : Member) → (g m).tx ≡ m.tx)
    → ((m : Member) → (f m).tx ≡ m.tx) → new.prepared ≡ map g s.prepared → new.active ≡ map f s.active
    → new.dormant ≡ s.dormant → new.fates ≡ s.fates → new.submitted ≡ s.submitted → new.running ≡ s.running
    → Stands s → Stands new
mapped_places s new g f g_tx f_tx prepared active dormant fates submitted running h =
    same_places s new counts dormant fates submitted
    (let e = lengths in omega (arith, e))
    (λ off. let none = h.idle (sym running ∙ off) in (prepared ∙ ap (map g) none.0, active ∙ ap (map f) none.1)) h
  where
    counts : (n : ℕ) → count tx_of n (members new) ≡ count tx_of n (members s)
    counts n =
        (λ i. count tx_of n (prepared i ++ active i))
        ∙ count_joined tx_of n (map g s.prepared) (map f s.active)
        ∙ (λ i. count_mapped tx_of n tx_of g s.prepared (λ m at. g_tx m) i
        + count_mapped tx_of n tx_of f s.active (λ m at. f_tx m) i)
        ∙ sym (count_joined tx_of n s.prepared s.active)

    lengths : length (members new) ≡ length (members s)
    lengths =
        (λ i. length (prepared i ++ active i))
        ∙ length-append (map g s.prepared) (map f s.active)
        ∙ (λ i. length-map s.prepared g i + length-map s.active f i)
        ∙ sym (length-append s.prepared s.active)

-- a state of the same members
pub other_parts : (s new : State) → new.prepared ≡ s.prepared → new.active ≡ s.active → new.dormant ≡ s.dormant
    → new.fates ≡ s.fates → new.submitted ≡ s.submitted → new.running ≡ s.running → Stands s → Stands new
other_parts s new prepared active dormant fates submitted running h =
    mapped_places s new (λ m. m) (λ m. m) (λ m. refl) (λ m. refl) (prepared ∙ sym (map-id s.prepared))
    (active ∙ sym (map-id s.active)) dormant fates submitted running h

-- another in the place of a member
pub one_replaced : (s new : State) (member : Member) → new.prepared ≡ s.prepared
    → new.active ≡ map (replaced member) s.active → new.dormant ≡ s.dormant → new.fates ≡ s.fates
    → new.submitted ≡ s.submitted → new.running ≡ s.running → Stands s → Stands new
one_replaced s new member prepared active dormant fates submitted running h =
    mapped_places s new (λ m. m) (replaced member) (λ m. refl) (replaced_tx member)
    (prepared ∙ sym (map-id s.prepared)) active dormant fates submitted running h
