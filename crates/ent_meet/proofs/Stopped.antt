-- Why a room comes to no end is why there is no meeting.
use Rattle.std.proofs.Common.{ℕ, List}
use Rattle.ent_engine.specs.declared.fault.RunFault.TheVariants.{Input as OfInput, Check, Differs, Memory, ReadFault}
use Rattle.ent_engine.specs.declared.fault.RunFault.TheVariants.{WriteFault}
use Rattle.ent_meet.specs.Meeting.{IsNotMet, IsStopped}
use Rattle.ent_meet.specs.declared.fault.MeetFault.{MeetFault}
use Rattle.ent_meet.specs.declared.fault.MeetFault.TheVariants.{Run, TooManyRows}

pub stopped_is_not_met : (bytes : List ℕ) (fault : MeetFault) → IsStopped fault → IsNotMet bytes fault
stopped_is_not_met bytes TooManyRows stopped = tt
stopped_is_not_met bytes (Run Differs) stopped = tt
stopped_is_not_met bytes (Run Memory) stopped = tt
stopped_is_not_met bytes (Run (OfInput fault)) stopped = absurd stopped
stopped_is_not_met bytes (Run (Check fault)) stopped = absurd stopped
stopped_is_not_met bytes (Run ReadFault) stopped = absurd stopped
stopped_is_not_met bytes (Run WriteFault) stopped = absurd stopped
