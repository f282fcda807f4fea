-- What is told of an event, and what it makes of notes.
use Rattle.std.proofs.Common.{◌≡◌, ℕ, suc, List, [], ◌∷◌, refl, sym, ap, subst}
use Rattle.std.specs.Prelude.{Option}
use Rattle.ent_sched.specs.Passed.{numbered_from}
use Rattle.ent_reasons.specs.News.{IsHeard, entered, news, parties}
use Rattle.ent_reasons.specs.Noted.{IsNoted, Noted}
use Rattle.ent_reasons.specs.declared.note.Change.{Change}
use Rattle.ent_protocol.specs.Event.{Event, Reply}
use Rattle.ent_trace.specs.Marking.{AreHeld}

pub held_on : (mark : Option (List ℕ)) (event other : Event) → AreHeld mark (parties other) → event ≡ other
    → AreHeld mark (parties event)
held_on mark event other held is = subst (λ (e : Event). AreHeld mark (parties e)) (sym is) held

pub heard : {F : Type 0} (own of : List ℕ) (change : Change) (event : Event) (reply : Reply F) (old new : Noted)
    → own ≡ parties event → of ≡ (news own reply).of → change ≡ (news own reply).change → IsNoted of change old new
    → IsHeard old (event, reply) new
heard own of change event reply old new is of_is change_is noted =
    subst (λ (xs : List ℕ). IsNoted (news xs reply).of (news xs reply).change old new) is
    (subst (λ (ms : List ℕ). IsNoted ms (news own reply).change old new) of_is
    (subst (λ (c : Change). IsNoted of c old new) change_is noted))

pub entered_numbered : (first : ℕ) (members : List ℕ) → entered (numbered_from first members) ≡ members
entered_numbered first [] = refl
entered_numbered first (tx ∷ more) = ap (λ (own : List ℕ). tx ∷ own) (entered_numbered (suc first) more)
