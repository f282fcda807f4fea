-- What a call does with a room it does with the handle that holds the room.
use Rattle.std.proofs.Common.{◌≡◌, ◌<◌, ◌^◌, Err, IfErr, IfOk, List, Ok, OnErr, OnOk, Result, Some, inl, inr}
use Rattle.std.proofs.Common.{of_z, pos, subst, sym, to_z, w32, ℕ, ℤ}
use lib.Signed.{mag}
use Rattle.ent_room.specs.Room.{Room}
use Rattle.ent_room.specs.declared.putting.Stay.{Stay}
use Rattle.ent_room_calls.specs.Fault.{status as fault_status}
use Rattle.ent_room_calls.specs.Stay.{IsStay}
use Rattle.ent_room_calls.specs.Turning.{IsNotTurned, Turns}
use Rattle.ent_room_calls.specs.declared.fault.RoomFault.{RoomFault}
use Rattle.ent_c.specs.Calls.{HandsOut}
use Rattle.ent_c.specs.Looks.{HandsRoom}
use Rattle.ent_c.specs.Rooms.{Held, InRoom, OfRoom, OfStay, TellsDone, TellsNumber, TellsRoom, TurnsIn}
use Rattle.ent_c.specs.Told.{told_of_text}
use Rattle.ent_c.specs.declared.told.CallTold.{CallTold}
use Rattle.ent_c.proofs.Statuses.{of_signed}

-- a room is there, and the call does this with it
pub of_room : (Same : Type 0) (Does : ℤ → Room → Room → Type 0) {old new : Held} {before after : Room} (status : ℤ) →
    mag status < 2 ^ 31 → old ≡ Some before → new ≡ Some after → Does status before after →
    OfRoom old new (to_z w32 (of_z w32 status)) Same (Does (to_z w32 (of_z w32 status)))
of_room Same Does {old} {new} {before} {after} status small was is does =
    subst (λ (s : ℤ). OfRoom old new s Same (Does s)) (sym (of_signed status small))
    (subst (λ (held : Held). OfRoom held new status Same (Does status)) (sym was) (after, is, does))

-- a room is there, stays as it is, and this holds of it
pub in_room : (Same : Type 0) (Holds : Room → Type 0) (status : ℤ) {old new : Held} {room : Room} →
    old ≡ Some room → new ≡ Some room → Holds room → InRoom old new status Same Holds
in_room Same Holds status {old} {new} {room} was is holds =
    subst (λ (held : Held). InRoom held new status Same Holds) (sym was) (is, holds)

-- there is such a stay, and the call does this with it
pub of_stay : (number : ℤ) (Misused : ℤ → Type 0) (Does : ℤ → Stay → Type 0) (stay : Stay) (status : ℤ) →
    mag status < 2 ^ 31 → IsStay number stay → Does status stay →
    OfStay number (Misused (to_z w32 (of_z w32 status))) (Does (to_z w32 (of_z w32 status)))
of_stay number Misused Does stay status small is does =
    subst (λ (s : ℤ). OfStay number (Misused s) (Does s)) (sym (of_signed status small)) (inr (stay, is, does))

-- what a turn answers is told
pub turned : {A : Type 0} (answer : Result A RoomFault) (bytes : List ℕ) (old new : Room) (refusal : ℕ)
    (told : CallTold) (status : ℤ) → OnOk answer (Turns bytes old new) → OnErr answer (new ≡ old) →
    IfErr answer (λ fault. IsNotTurned bytes old fault) → OnOk answer (TellsDone refusal status) →
    OnOk answer (told ≡ told_of_text 0) → IfErr answer (λ fault. TellsNumber fault refusal status) →
    IfErr answer (λ fault. TellsRoom fault bytes told) → TurnsIn bytes old new refusal told status
turned (Ok nothing) bytes old new refusal told status turns _ _ done none _ _ = inl (turns, none, done)
turned (Err fault) bytes old new refusal told status _ same why _ _ number where' =
    inr (fault, why, same, where', number)

-- a text of a room is handed out, or the fault is told for which there is none
pub hands : {A : Type 0} (answer : Result A RoomFault) (bytes_of : A → List ℕ) (IsText : List ℕ → Type 0)
    (IsFault : RoomFault → Type 0) (given old new : List ℕ) (told : CallTold) (status : ℤ) → mag status < 2 ^ 31 →
    IfOk answer (λ text. IsText (bytes_of text)) → IfErr answer IsFault →
    IfOk answer (λ text. HandsOut (bytes_of text) old new told × (status ≡ pos 0)) →
    IfErr answer (λ fault. (new ≡ old) × TellsRoom fault given told × (status ≡ pos (fault_status fault))) →
    HandsRoom IsText IsFault given old new told (to_z w32 (of_z w32 status))
hands (Ok text) bytes_of IsText IsFault given old new told status small is _ handed _ =
    subst (HandsRoom IsText IsFault given old new told) (sym (of_signed status small))
    (inl (bytes_of text, is, handed.0, handed.1))
hands (Err fault) bytes_of IsText IsFault given old new told status small _ is _ refused =
    subst (HandsRoom IsText IsFault given old new told) (sym (of_signed status small))
    (inr (fault, is, refused.0, refused.1, refused.2))
