-- A run ends, or can't yet.
use Rattle.std.proofs.Common.{◌≡◌, ℕ, Bool, true, false, List, inl, inr, refl, sym, ap, subst}
use Rattle.ent_form.specs.declared.fault.FormFault.{FormFault}
use Rattle.ent_protocol.specs.Event as replies
use Rattle.ent_protocol.specs.Quiet.{IsQuiet, IsReason}
use Rattle.ent_protocol.specs.Run.{Ends, EndsWhileRunning, ending, numbers_of}
use Rattle.ent_protocol.specs.State.{State, members}
use Rattle.ent_waits.specs.Quiet.{reason_seen}
use Rattle.ent_waits.specs.declared.reason.Reason.{Reason}

pub none_on : (s : State) → s.running ≡ false → Ends {F = FormFault} s replies.NotNow s
none_on s off = subst (λ (on : Bool). EndsWhileRunning {F = FormFault} s on replies.NotNow s) (sym off) (refl, refl)

pub kept_busy : (s : State) (why : Reason) → s.running ≡ true → IsReason s (reason_seen why)
    → Ends {F = FormFault} s (replies.Busy (reason_seen why)) s
kept_busy s why on is =
    subst (λ (running : Bool). EndsWhileRunning {F = FormFault} s running (replies.Busy (reason_seen why)) s) (sym on)
    (inr (reason_seen why, is, (refl, refl)))

pub has_ended : (s new : State) (numbers : List ℕ) → s.running ≡ true → IsQuiet s → numbers ≡ numbers_of (members s)
    → new ≡ ending s → Ends {F = FormFault} s (replies.Ended numbers) new
has_ended s new numbers on quiet are is =
    subst (λ (running : Bool). EndsWhileRunning {F = FormFault} s running (replies.Ended numbers) new) (sym on)
    (inl (quiet, ap (λ (of_run : List ℕ). replies.Ended of_run) are, is))
