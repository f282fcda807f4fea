-- What an admission keeps, where the script of one ticket changes.
use Rattle.std.proofs.Common.{◌≡◌, ◌∙◌, ◌⊎◌, ℕ, Bool, true, false, cond, Option, Some, length, refl, sym, ap, subst}
use Rattle.std.proofs.Common.{⊎_elim, option_map}
use Rattle.std.proofs.lemmas.Bool.{cases_Bool}
use Rattle.std.specs.BTreeMap.{is_at}
use Rattle.std.specs.BTreeSet.{contains}
use Rattle.std.specs.Ordering.{nat_cmp}
use Rattle.ent_meetings.specs.Waiting.{ChangesAt, Waiting, party_at}
use Rattle.ent_meetings.specs.Party.{party_of}
use Rattle.ent_meetings.specs.declared.party.Party.{Party}
use Rattle.ent_semantics.specs.Serial.{numbered}
use Rattle.ent_tree.specs.declared.declaration.Opening.{Opening}
use Rattle.ent_tree.specs.declared.script.Script.{Script}
use Rattle.ent_waiting.specs.WaitingList.{UpdatesAt, waiter_of}
use Rattle.ent_waiting.specs.declared.waiter.WaitingPlace.TheVariants.{Submitted}
use Rattle.ent_waiting.specs.declared.waiter.Submission.{Submission}
use Rattle.ent_waiting.specs.declared.waiter.Waiter.{Waiter}
use Rattle.ent_waiting.proofs.Keeping.{at, either}
use Rattle.ent_admission.specs.Admission.{Admission, HasRoomFor, IsFormed, IsIndexed, IsKept, waits_before}
use Rattle.ent_admission.specs.Admission.{waits_chosen}

abbrev pub party_in : Option Waiter → Option Party
party_in found = option_map (λ waiter. party_of waiter.script) found

-- the script of one ticket changes, or comes, or goes; the epoch goes on, and nobody comes to the batch
pub record Changed (a new : Admission) (ticket : ℕ) (value : Option Waiter) : Type 0 where
  pub opening : new.epoch.core.opening ≡ a.epoch.core.opening
  pub updates : UpdatesAt ticket value a.list.waiters new.list.waiters
  pub formed : (waiter : Waiter) → value ≡ Some waiter → IsFormed a.epoch.core.opening waiter.script
  pub number : new.epoch.number ≡ a.epoch.number
  pub tickets : (tx t : ℕ) → numbered a.epoch.tickets tx ≡ Some t → numbered new.epoch.tickets tx ≡ Some t
  pub linked : (waiter : Waiter) (submission : Submission) → value ≡ Some waiter → waiter.place ≡ Submitted submission
      → (submission.epoch ≡ new.epoch.number) × (numbered new.epoch.tickets submission.tx ≡ Some ticket)
  pub fewer : (t : ℕ) → contains nat_cmp new.coming t ≡ true → contains nat_cmp a.coming t ≡ true
  pub same : (t : ℕ) → is_at (nat_cmp ticket) t ≡ false → contains nat_cmp a.coming t ≡ true
      → contains nat_cmp new.coming t ≡ true
  pub before : contains nat_cmp new.coming ticket ≡ true → waits_before value ≡ true
  pub chosen : waits_chosen value ≡ true → contains nat_cmp new.coming ticket ≡ true
  pub room : (t : ℕ) → contains nat_cmp new.coming t ≡ true → HasRoomFor new.epoch (length new.coming.keys)

module _ (a new : Admission) (ticket : ℕ) (value : Option Waiter) (c : Changed a new ticket value) where
  found : (t : ℕ) (waiter : Waiter) → waiter_of new.list t ≡ Some waiter
      → ((is_at (nat_cmp ticket) t ≡ true) × (value ≡ Some waiter))
      ⊎ ((is_at (nat_cmp ticket) t ≡ false) × (waiter_of a.list t ≡ Some waiter))
  found t waiter h =
      either (is_at (nat_cmp ticket) t) value (waiter_of a.list t) waiter (sym (c.updates t) ∙ h)

  there : (t : ℕ) → is_at (nat_cmp ticket) t ≡ true → waiter_of new.list t ≡ value
  there t same = c.updates t ∙ ap (λ (b : Bool). cond b value (waiter_of a.list t)) same

  elsewhere : (t : ℕ) → is_at (nat_cmp ticket) t ≡ false → waiter_of new.list t ≡ waiter_of a.list t
  elsewhere t other = c.updates t ∙ ap (λ (b : Bool). cond b value (waiter_of a.list t)) other

  module _ (index : Waiting) (kept : IsKept a index) where
    linked_new : (t : ℕ) (waiter : Waiter) (submission : Submission) → waiter_of new.list t ≡ Some waiter
        → waiter.place ≡ Submitted submission
        → (submission.epoch ≡ new.epoch.number) × (numbered new.epoch.tickets submission.tx ≡ Some t)
    linked_new t waiter submission h place =
        ⊎_elim
        (λ yes. subst
        (λ (k : ℕ). (submission.epoch ≡ new.epoch.number) × (numbered new.epoch.tickets submission.tx ≡ Some k))
        (at ticket t yes.0) (c.linked waiter submission yes.1 place))
        (λ no. let old = kept.linked t waiter submission no.1 place in
        (old.0 ∙ sym c.number, c.tickets submission.tx t old.1))
        (found t waiter h)

    before_new : (t : ℕ) → contains nat_cmp new.coming t ≡ true → waits_before (waiter_of new.list t) ≡ true
    before_new t h =
        ⊎_elim
        (λ yes. ap waits_before (there t yes)
        ∙ c.before (subst (λ (k : ℕ). contains nat_cmp new.coming k ≡ true) (sym (at ticket t yes)) h))
        (λ no. ap waits_before (elsewhere t no) ∙ kept.before t (c.fewer t h))
        (cases_Bool (is_at (nat_cmp ticket) t))

    chosen_new : (t : ℕ) → waits_chosen (waiter_of new.list t) ≡ true → contains nat_cmp new.coming t ≡ true
    chosen_new t h =
        ⊎_elim
        (λ yes. subst (λ (k : ℕ). contains nat_cmp new.coming k ≡ true) (at ticket t yes)
        (c.chosen (sym (ap waits_chosen (there t yes)) ∙ h)))
        (λ no. c.same t no (kept.chosen t (sym (ap waits_chosen (elsewhere t no)) ∙ h)))
        (cases_Bool (is_at (nat_cmp ticket) t))

    pub kept_changed : (changed : Waiting) → IsIndexed changed new.list → IsKept new changed
    kept_changed changed indexed =
        record {
          formed = λ t waiter h.
              subst (λ (o : Opening). IsFormed o waiter.script) (sym c.opening)
              (⊎_elim (λ yes. c.formed waiter yes.1) (λ no. kept.formed t waiter no.1) (found t waiter h));
          indexed = indexed;
          linked = linked_new;
          before = before_new;
          chosen = chosen_new;
          room = c.room;
        }

    both : (b : Bool) (t : ℕ) → is_at (nat_cmp ticket) t ≡ b
        → cond b (party_in value) (party_at index t) ≡ party_in (cond b value (waiter_of a.list t))
    both true t e = refl
    both false t e = kept.indexed t

    pub indexed_at : (changed : Waiting) → ChangesAt ticket (party_in value) index changed → IsIndexed changed new.list
    indexed_at changed changes = λ t.
        changes t ∙ both (is_at (nat_cmp ticket) t) t refl ∙ sym (ap party_in (c.updates t))

    kept_script : (b : Bool) (t : ℕ) (before after : Waiter) → is_at (nat_cmp ticket) t ≡ b → value ≡ Some after
        → waiter_of a.list ticket ≡ Some before → after.script ≡ before.script
        → party_in (waiter_of a.list t) ≡ party_in (cond b value (waiter_of a.list t))
    kept_script false t before after e is waits same = refl
    kept_script true t before after e is waits same =
        ap (λ (k : ℕ). party_in (waiter_of a.list k)) (sym (at ticket t e)) ∙ ap party_in waits
        ∙ ap (λ (s : Script). Some (party_of s)) (sym same) ∙ sym (ap party_in is)

    pub indexed_same : (before after : Waiter) → value ≡ Some after → waiter_of a.list ticket ≡ Some before
        → after.script ≡ before.script → IsIndexed index new.list
    indexed_same before after is waits same = λ t.
        kept.indexed t ∙ kept_script (is_at (nat_cmp ticket) t) t before after refl is waits same
        ∙ sym (ap party_in (c.updates t))
