-- Why members are rolled back, in the words of the protocol.
use Rattle.ent_protocol.specs.Rollback as causes
use Rattle.ent_members.specs.declared.cause.Cause.{Cause}
use Rattle.ent_members.specs.declared.cause.Cause.TheVariants as given

abbrev pub cause_seen : Cause → causes.Cause
cause_seen given.NoOne = causes.NoOne
cause_seen (given.Asked tx) = causes.Asked tx
cause_seen (given.Failing tx failure) = causes.Failing tx failure
