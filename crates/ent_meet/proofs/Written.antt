-- What is out is the text of a meeting of the input, and after a failing write a beginning of it.
use Rattle.std.proofs.Common.{◌≡◌, ◌∙◌, ℕ, List, Option, Some, None, subst, sym}
use Rattle.std.specs.Prelude.{IfSome}
use Rattle.std.specs.Io.KnownBytes.{Appends}
use Rattle.ent_engine.specs.declared.fault.RunFault.TheVariants.{WriteFault}
use Rattle.ent_print.specs.Write.{AppendsBeginning}
use Rattle.ent_room.specs.Room.{Room}
use Rattle.ent_meet.specs.Meeting.{IsMeeting, WritesBeginning, WritesMeeting}
use Rattle.ent_meet.specs.declared.fault.MeetFault.TheVariants.{Run}

-- the bytes that were read are all that the reader had
pub wrote_meeting : (remaining old new : Option (List ℕ)) (bytes slice text : List ℕ) (room met : Room)
    → IfSome remaining (λ all. bytes ≡ all) → slice ≡ bytes → IsMeeting slice met text → room ≡ met
    → Appends old new text → IfSome remaining (λ bytes. WritesMeeting bytes room old new)
wrote_meeting None old new bytes slice text room met whole is of same out = tt
wrote_meeting (Some all) old new bytes slice text room met whole is of same out = (
  text,
  subst (λ (r : Room). IsMeeting all r text) (sym same)
      (subst (λ (bs : List ℕ). IsMeeting bs met text) (is ∙ whole) of),
  out,
)

pub wrote_beginning : (remaining old new : Option (List ℕ)) (bytes slice text : List ℕ) (met : Room)
    → IfSome remaining (λ all. bytes ≡ all) → slice ≡ bytes → IsMeeting slice met text
    → AppendsBeginning old new text → IfSome remaining (λ bytes. WritesBeginning bytes old new (Run WriteFault))
wrote_beginning None old new bytes slice text met whole is of out = tt
wrote_beginning (Some all) old new bytes slice text met whole is of out =
    (met, text, subst (λ (bs : List ℕ). IsMeeting bs met text) (is ∙ whole) of, out)
