-- A text that is handed out, or the fault for which there is none.
use Rattle.std.proofs.Common.{◌≡◌, ◌<◌, ◌^◌, Err, IfErr, IfOk, List, Ok, Result, inl, inr, of_z, pos, subst, sym, to_z}
use Rattle.std.proofs.Common.{w32, ℕ, ℤ}
use lib.Signed.{mag}
use Rattle.ent_driver.specs.declared.fault.DriverFault.{DriverFault}
use Rattle.ent_c.specs.Calls.{Declines, HandsOut}
use Rattle.ent_c.specs.Drivers.{HandsOutOr}
use Rattle.ent_c.specs.declared.told.CallTold.{CallTold}
use Rattle.ent_c.proofs.Statuses.{of_signed}

-- what a driver answers is a text that is handed out, or a fault
either : {A : Type 0} (answer : Result A DriverFault) (bytes_of : A → List ℕ) (IsText : List ℕ → Type 0)
    (IsFault : DriverFault → Type 0) (given old new : List ℕ) (told : CallTold) (status : ℤ) →
    IfOk answer (λ text. IsText (bytes_of text)) → IfErr answer IsFault →
    IfOk answer (λ text. HandsOut (bytes_of text) old new told × (status ≡ pos 0)) →
    IfErr answer (λ fault. Declines fault given old new told status) →
    HandsOutOr IsText IsFault given old new told status
either (Ok text) bytes_of IsText IsFault given old new told status is _ handed _ =
    inl (bytes_of text, is, handed.0, handed.1)
either (Err fault) bytes_of IsText IsFault given old new told status _ is _ declined = inr (fault, is, declined)

-- the same, of the status that a call gives back
pub handed_out : {A : Type 0} (answer : Result A DriverFault) (bytes_of : A → List ℕ) (IsText : List ℕ → Type 0)
    (IsFault : DriverFault → Type 0) (given old new : List ℕ) (told : CallTold) (status : ℤ) → mag status < 2 ^ 31 →
    IfOk answer (λ text. IsText (bytes_of text)) → IfErr answer IsFault →
    IfOk answer (λ text. HandsOut (bytes_of text) old new told × (status ≡ pos 0)) →
    IfErr answer (λ fault. Declines fault given old new told status) →
    HandsOutOr IsText IsFault given old new told (to_z w32 (of_z w32 status))
handed_out answer bytes_of IsText IsFault given old new told status small is refused handed declined =
    subst (HandsOutOr IsText IsFault given old new told) (sym (of_signed status small))
    (either answer bytes_of IsText IsFault given old new told status is refused handed declined)

-- a fault is told, and no text is handed out
pub declined : (IsText : List ℕ → Type 0) (IsFault : DriverFault → Type 0) (fault : DriverFault)
    (given old new : List ℕ) (told : CallTold) (status : ℤ) → mag status < 2 ^ 31 → IsFault fault →
    Declines fault given old new told status → HandsOutOr IsText IsFault given old new told (to_z w32 (of_z w32 status))
declined IsText IsFault fault given old new told status small is declines =
    subst (HandsOutOr IsText IsFault given old new told) (sym (of_signed status small)) (inr (fault, is, declines))
