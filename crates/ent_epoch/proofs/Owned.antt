-- Entries of a journal are of transactions that were submitted.
use Rattle.std.proofs.Common.{◌≡◌, ◌⊎◌, inl, inr, ◌≤◌, ◌<◌, ℕ, zero, suc, List, [], ◌∷◌, Some, length, map, slice_get}
use Rattle.std.proofs.Common.{refl, sym, ap, subst, arith}
use Rattle.ent_lists.specs.Elements.{In, in_contains, in_second, to_all}
use Rattle.ent_semantics.specs.Serial.{numbered}
use Rattle.ent_semantics.specs.declared.book.Entry.{Entry}
use Rattle.ent_semantics.specs.declared.book.Fate.{Fate}
use Rattle.ent_semantics.specs.declared.book.Fate.TheVariants.{Committed}
use Rattle.ent_semantics.specs.declared.book.Fated.{Fated}
use Rattle.ent_protocol.specs.Numbers.{AreNumbered, commits_in, entry_numbers, with_commit}
use Rattle.ent_protocol.specs.State.{Dormant, Member, State, members}
use Rattle.ent_protocol_laws.specs.Standing.{StandOnce}
use Rattle.ent_epoch.specs.Telling.{HaveTickets}

-- a commit is somebody's fate
fated_one : (tx : ℕ) (fate : Fate) (more : List (ℕ × ℕ)) (one : ℕ × ℕ) → In one (with_commit tx fate more)
    → (one.1 ≡ tx) ⊎ In one more
fated_one tx (Committed number runs) more one (inl same) = inl (ap (λ (p : ℕ × ℕ). p.1) same)
fated_one tx (Committed number runs) more one (inr at) = inr at
fated_one tx other more one at = inr at

fated_at : (fates : List Fated) (one : ℕ × ℕ) → In one (commits_in fates)
    → In one.1 (map (λ (fated : Fated). fated.tx) fates)
fated_at [] one at = absurd at
fated_at (fated ∷ more) one at =
    elim (fated_one fated.tx fated.fate (commits_in more) one at) [
      | inl same ↦ inl same
      | inr there ↦ inr (fated_at more one there)
    ]

entry_at : (number : ℕ) (journal : List Entry) (entry : Entry) → In entry journal
    → (one : ℕ × ℕ) × In one (entry_numbers number journal) × (one.1 ≡ entry.tx)
entry_at number [] entry at = absurd at
entry_at number (first ∷ more) entry (inl same) =
    ((number, first.tx), inl refl, ap (λ (e : Entry). e.tx) (sym same))
entry_at number (first ∷ more) entry (inr at) =
    let found = entry_at (suc number) more entry at in
    (found.0, inr found.1, found.2)

ticket_at : (tickets : List ℕ) (number : ℕ) → number < length tickets
    → (ticket : ℕ) × (slice_get tickets number ≡ Some ticket)
ticket_at [] number low = absurd (omega (arith, low))
ticket_at (ticket ∷ more) zero low = (ticket, refl)
ticket_at (ticket ∷ more) (suc number) low = ticket_at more number (omega (arith, low))

ticket_of : (tickets : List ℕ) (tx : ℕ) → 1 ≤ tx → tx ≤ length tickets
    → (ticket : ℕ) × (numbered tickets tx ≡ Some ticket)
ticket_of tickets zero low high = absurd (omega (arith, low))
ticket_of tickets (suc n) low high = ticket_at tickets n (omega (arith, high))

pub entries_owned : (s : State) (tickets : List ℕ) → AreNumbered s → StandOnce s
    → length tickets ≡ length s.submitted → HaveTickets tickets s.journal
entries_owned s tickets are once many =
    to_all (λ (entry : Entry). (ticket : ℕ) × (numbered tickets entry.tx ≡ Some ticket)) s.journal
    (λ entry at.
    let found = entry_at 1 s.journal entry at in
    let fated = fated_at s.fates found.0 (subst (λ (ns : List (ℕ × ℕ)). In found.0 ns) (sym are) found.1) in
    let tx = found.0.1 in
    let stands =
    in_second (map (λ (member : Member). member.tx) (members s)) _ tx
    (in_second (map (λ (dormant : Dormant). dormant.tx) s.dormant) _ tx fated) in
    let within = (once.submitted tx).0 (in_contains _ tx stands) in
    subst (λ n. (ticket : ℕ) × (numbered tickets n ≡ Some ticket)) found.2
    (ticket_of tickets tx within.0 (omega (arith, within.1, many))))
